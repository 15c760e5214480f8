-- When words are no image, and when a series has a constant (01, refusals 7 and 8); over the components of an argument:
-- Arguments.
--
-- entry_is_good p N prev w    w is an entry: its position is above prev and at most N, its coefficient 1 to p - 1
-- word_is_good p N m k prev w  word k of a series of m entries is good: an entry where k is at most m, else zero
-- fault_from p N m k prev ws  the first faulty word of the words ws that begin at word k, prev being the position
--                             of the last entry before them; one past the last word where none is faulty
-- first_fault p N ws          the first faulty word of a series, m first, then each entry against its
--                             predecessor, then the zeros; N + 1 where no word is faulty
-- series_check p N a c ws     7 for component c of argument a: place argument, component, word
-- has_constant ws             one of the entries stands at position 1, the constant's
use Rattle.std.specs.Prelude.{Bool, false, cond, ◌&&◌, ◌||◌, List, [], ◌∷◌, ℕ, suc, leb, ltb, eqb, get_or, take, drop}
use Rattle.answer.specs.Refusals.{Verdict}
use Rattle.answer.specs.Checks.{unless}
use Rattle.series.specs.Image.{position, coefficient, entries}

unfoldable pub entry_is_good : ℕ → ℕ → ℕ → ℕ → Bool
entry_is_good p N prev w = ltb prev (position w) && (leb (position w) N && (ltb 0 (coefficient w) && ltb (coefficient w) p))

unfoldable pub word_is_good : ℕ → ℕ → ℕ → ℕ → ℕ → ℕ → Bool
word_is_good p N m k prev w = cond (leb k m) (entry_is_good p N prev w) (eqb w 0)

unfoldable pub fault_from : ℕ → ℕ → ℕ → ℕ → ℕ → List ℕ → ℕ
fault_from p N m k prev [] = k
fault_from p N m k prev (w ∷ ws) = cond (word_is_good p N m k prev w) (fault_from p N m (suc k) (position w) ws) k

unfoldable pub first_fault : ℕ → ℕ → List ℕ → ℕ
first_fault p N ws =
    let m = get_or ws 0 0 in
    cond (leb m N) (fault_from p N m 1 0 (take N (drop 1 ws))) 0

unfoldable pub series_check : ℕ → ℕ → ℕ → ℕ → List ℕ → Verdict
series_check p N a c ws =
    let k = first_fault p N ws in
    unless (ltb N k) 7 (a ∷ c ∷ k ∷ [])

unfoldable pub any_is_one : List ℕ → Bool
any_is_one [] = false
any_is_one (w ∷ ws) = eqb (position w) 1 || any_is_one ws

unfoldable pub has_constant : List ℕ → Bool
has_constant ws = any_is_one (entries ws)
