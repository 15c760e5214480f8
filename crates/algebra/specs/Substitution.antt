-- Maps, and substitution of a map into a polynomial and into a map, without the cut at order n.
--
-- Glossary
--   Map                   component i is what is put in place of variable i; 01, "Layout"
--   monomial_product f m  the product of the components of f, component i as often as variable i
--                         stands in the monomial m; 01, "The operations"
--   extend M P            the sum over the terms of P of coefficient times M(monomial)
--   substitute P f        the map f substituted into P; 01, "The operations"
--   compose f g           g substituted into each component of f: f is the outer map, g the inner
--   unit_of i             the monomial of variable i alone
--   variable i            the polynomial that is variable i
--   identity              the identity map: component i is xi; 01, "The operations"
use Rattle.std.specs.Prelude.{ℕ, zero, suc, [], ◌∷◌}
use Rattle.algebra.specs.Polynomial.{Monomial, Polynomial, one, add, scale, mul, power}

abbrev pub Map : Type 0
Map = ℕ → Polynomial

unfoldable pub monomial_product : Map → Monomial → Polynomial
monomial_product f [] = one
monomial_product f (k ∷ e) = mul (power (f 0) k) (monomial_product (λ i. f (suc i)) e)

unfoldable pub extend : (Monomial → Polynomial) → Polynomial → Polynomial
extend M [] = []
extend M (t ∷ P) = add (scale t.coefficient (M t.exponents)) (extend M P)

unfoldable pub substitute : Polynomial → Map → Polynomial
substitute P f = extend (monomial_product f) P

unfoldable pub compose : Map → Map → Map
compose f g = λ i. substitute (f i) g

unfoldable pub unit_of : ℕ → Monomial
unit_of zero = 1 ∷ []
unit_of (suc i) = 0 ∷ unit_of i

unfoldable pub variable : ℕ → Polynomial
variable i = record { coefficient = 1; exponents = unit_of i } ∷ []

abbrev pub identity : Map
identity = variable
