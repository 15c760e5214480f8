-- Glossary
--   high_terms P  the terms of P of order 2 or more: what is left of a polynomial without its
--                 constant and its linear part
use Rattle.std.specs.Prelude.{[], ◌∷◌, leb}
use Rattle.algebra.specs.Polynomial.{Polynomial, order, add}
use Rattle.monomial.specs.Enumeration.{only}

unfoldable pub high_terms : Polynomial → Polynomial
high_terms [] = []
high_terms (t ∷ P) = add (only (leb 2 (order t.exponents)) (t ∷ [])) (high_terms P)
