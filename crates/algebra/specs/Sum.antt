-- Finite sums of natural numbers.
--
-- Glossary
--   sum_over xs f   the sum of f x over the entries x of the list xs
--   sum_to f m      f 0 + f 1 + .. + f (m - 1)
use Rattle.std.specs.Prelude.{ℕ, zero, suc, ◌+◌, List, [], ◌∷◌}

unfoldable pub sum_over : {A : Type 0} → List A → (A → ℕ) → ℕ
sum_over [] f = 0
sum_over (x ∷ xs) f = f x + sum_over xs f

unfoldable pub sum_to : (ℕ → ℕ) → ℕ → ℕ
sum_to f zero = 0
sum_to f (suc m) = sum_to f m + f m
