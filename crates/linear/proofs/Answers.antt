-- What `invert` answers, from the last table.
use Rattle.std.proofs.Common.{ℕ, arith}
use Rattle.residue.specs.Modulus.{Prime, modulus}
use Rattle.residue.proofs.Inverses.{prime_positive}
use Rattle.residue.proofs.Primality.{modulus-prime, modulus-small}
use Rattle.linear.specs.Matrix.{Matrix}
use Rattle.linear.specs.Answer.{SmallPrime, Regular}
use Rattle.linear.specs.Elimination.{Table}
use Rattle.linear.proofs.Determinants.{inverse-of_left, no_left_inverse}
use Rattle.linear.proofs.Elimination.{full_table, table-held}

-- the p of 01 is one for which `invert` serves
pub modulus-small-prime : SmallPrime modulus
modulus-small-prime = record { prime = modulus-prime; small = modulus-small }

pub regular-answer : {p v : ℕ} {m t k : Matrix} → Prime p → Table p v v m t k → Regular p v m k
regular-answer {p} {v} {m} {t} {k} h T = record {
  regular = λ z. no_left_inverse h v m k z (full_table T);
  inverse = inverse-of_left h v m k (full_table T);
  held = table-held (prime_positive h) (omega arith) T;
}
