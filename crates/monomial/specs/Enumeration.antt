-- Lists made by counting up.
--
-- upto f m            f 0, f 1, .. up to f (m - 1), one after another
-- only t xs           xs where the test t passes, and nothing otherwise
-- tabulate g m        the numbers g 0, g 1, .. up to g (m - 1)
-- first_position t xs  the position, from 1, of the first member of xs that passes the test t; 0 where none does
use Rattle.std.specs.Prelude.{List, [], ◌∷◌, ◌++◌, Bool, true, false, ℕ, zero, suc}

unfoldable pub upto {ℓ} : {A : Type ℓ} → (ℕ → List A) → ℕ → List A
upto f zero = []
upto f (suc m) = upto f m ++ f m

unfoldable pub only {ℓ} : {A : Type ℓ} → Bool → List A → List A
only true xs = xs
only false xs = []

unfoldable pub tabulate : (ℕ → ℕ) → ℕ → List ℕ
tabulate g m = upto (λ c. g c ∷ []) m

-- one place further, where there is a place
abbrev pub further : ℕ → ℕ
further zero = zero
further (suc p) = suc (suc p)

abbrev pub first_or : Bool → ℕ → ℕ
first_or true p = 1
first_or false p = further p

unfoldable pub first_position {ℓ} : {A : Type ℓ} → (A → Bool) → List A → ℕ
first_position t [] = 0
first_position t (x ∷ xs) = first_or (t x) (first_position t xs)
