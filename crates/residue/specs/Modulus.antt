-- Glossary
--   Prime p   p is a prime: above 1, and no number between 1 and p divides it
--   modulus   the p of 01, 'Series and their counting': the largest prime below 65,536
--
-- A residue modulo p is a number below p, and the residue of x is `x % p`. What is written minus b
-- modulo p is `(p - 1) * b`.
use Rattle.std.specs.Prelude.{◌≡◌, ℕ, ◌%◌, ◌<◌}

pub record Prime (p : ℕ) : Type 0 where
  pub above_one : 1 < p
  pub no_divisor : (a : ℕ) → 1 < a → a < p → p % a ≡ 0 → ⊥

unfoldable pub modulus : ℕ
modulus = 65521
