-- The derivative of a series, entry by entry (01, 'The operations'). Variables count from 0.
--
-- reciprocal d              2^32 / d rounded up: c times it, divided by 2^32, is c / d for a c below 65,536
-- exponent_of n v k w       the exponent of variable k in the monomial of the entry w
-- lowered_place n v k w     the position of that monomial with this exponent made one less
-- derived_value n v k f w   the coefficient that w gives there to f times the derivative, not reduced
-- derived_entry n v k p f w  the entry of it modulo p; none where it is 0
-- Weighed n v k at first second
--                           the exponent of variable k stands in the codes from word `at` of the table on, and the
--                           codes of variable k are `first` and `second`
-- Located n v k at first second base r next
--                           the same, with the base of the digits, and the reciprocals of the variable's weight and of
--                           the next weight
-- DerivativeIn ..           what the derivative asks: a right table, an image, a variable and room
use Rattle.std.specs.Prelude.{cond, ◌≡◌, List, ℕ, ◌+◌, ◌*◌, ◌/◌, ◌%◌, ◌≤◌, ◌<◌, ltb, length}
use Rattle.algebra.specs.Polynomial.{exponent, lower}
use Rattle.algebra.specs.Substitution.{unit_of}
use Rattle.monomial.specs.Count.{count, codes, half}
use Rattle.monomial.specs.Table.{C1, C2, position_of}
use Rattle.series.specs.Image.{position, coefficient, monomial_at, entry_of}
use Rattle.series.specs.Faults.{first_fault}
use Rattle.counts.specs.Tables.{Right}

unfoldable pub reciprocal : ℕ → ℕ
reciprocal d = 4294967296 / d + 1

unfoldable pub exponent_of : ℕ → ℕ → ℕ → ℕ → ℕ
exponent_of n v k w = exponent k (monomial_at n v (position w))

unfoldable pub lowered_place : ℕ → ℕ → ℕ → ℕ → ℕ
lowered_place n v k w = position_of n v (lower k (monomial_at n v (position w)))

unfoldable pub derived_value : ℕ → ℕ → ℕ → ℕ → ℕ → ℕ
derived_value n v k f w = coefficient w * exponent_of n v k w * f

unfoldable pub derived_entry : ℕ → ℕ → ℕ → ℕ → ℕ → ℕ → List ℕ
derived_entry n v k p f w = entry_of (lowered_place n v k w) (derived_value n v k f w % p)

-- the codes of the first half of the variables begin at word 0 of the table, the others at word N
pub record Weighed (n v k at first second : ℕ) : Type 0 where
  pub variable : k < v
  pub at_is : at ≡ cond (ltb k (half v)) 0 (count n v)
  pub first_is : first ≡ C1 n v (unit_of k)
  pub second_is : second ≡ C2 n v (unit_of k)

pub record Located (n v k at first second base r next : ℕ) : Type 0 where
  pub weighed : Weighed n v k at first second
  pub base_is : base ≡ n + 1
  pub reciprocal_is : r ≡ reciprocal (first + second)
  pub next_is : next ≡ reciprocal ((first + second) * (n + 1))

pub record DerivativeIn (n v N E k f p : ℕ) (a t out : List ℕ) : Type 0 where
  pub right : Right n v t
  pub N_is : N ≡ count n v
  pub E_is : E ≡ codes n v
  pub variable : k < v
  pub series : first_fault p N a ≡ N + 1
  pub long : N + 1 ≤ length a
  pub room : N + 1 ≤ length out
  pub factor : f < p
  pub modulus_high : p ≤ 65536
