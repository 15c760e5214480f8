-- Glossary
--   plus_or_minus p negative x
--             a number, or minus it, modulo p
--   Ratio p c top bottom negative
--             c is the residue modulo p of a fraction top / bottom, or of minus that: c times bottom is top
use Rattle.std.specs.Prelude.{◌≡◌, Bool, true, false, ℕ, ◌-◌, ◌*◌, ◌%◌}

unfoldable pub plus_or_minus : ℕ → Bool → ℕ → ℕ
plus_or_minus p true x = (p - 1) * x
plus_or_minus p false x = x

unfoldable pub Ratio : ℕ → ℕ → ℕ → ℕ → Bool → Type 0
Ratio p c top bottom negative = (c * bottom) % p ≡ plus_or_minus p negative top % p
