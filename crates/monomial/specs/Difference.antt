-- Comparing words with a rule.
--
-- first_difference xs ys   the index, from 0, of the first member of xs from which ys differs, or the
--                          length of xs where ys begins with xs (01, refusal 6: 'first such word, from 0')
use Rattle.std.specs.Prelude.{List, [], ◌∷◌, Bool, true, false, ℕ, suc, eqb}

abbrev pub suc_if : Bool → ℕ → ℕ
suc_if true i = suc i
suc_if false i = 0

unfoldable pub first_difference : List ℕ → List ℕ → ℕ
first_difference [] ys = 0
first_difference (x ∷ xs) [] = 0
first_difference (x ∷ xs) (y ∷ ys) = suc_if (eqb x y) (first_difference xs ys)
