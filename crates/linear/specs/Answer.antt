-- Glossary
--   SmallPrime p       p is a prime below 65,536, so that a product of two residues fits 32 bits
--   Regular p v m n    the v by v matrix m is regular modulo p, and n is its inverse on both sides,
--                      held as 01 says. There is only one such n (inverse-held of
--                      proofs/Determinants.antt)
--   Inverted p v m o   o is what `invert` answers for m: None where m is singular modulo p (01,
--                      refusal 9), and elsewhere its inverse
use Rattle.std.specs.Prelude.{◌≡◌, Option, Some, None, ℕ, ◌<◌}
use Rattle.residue.specs.Modulus.{Prime}
use Rattle.linear.specs.Matrix.{Matrix, Inverse, Held}
use Rattle.linear.specs.Determinant.{determinant}

pub record SmallPrime (p : ℕ) : Type 0 where
  pub prime : Prime p
  pub small : p < 65536

pub record Regular (p v : ℕ) (m n : Matrix) : Type 0 where
  pub regular : determinant p v m ≡ 0 → ⊥
  pub inverse : Inverse p v m n
  pub held : Held p v n

abbrev pub Inverted : ℕ → ℕ → Matrix → Option Matrix → Type 0
Inverted p v m None = determinant p v m ≡ 0
Inverted p v m (Some n) = Regular p v m n
