-- What the private functions of the inversion promise. Nothing public cites it.
--
-- Glossary
--   combination v a h   the sum of a j times component j of h, for the first v components
--   linear_map v m      the map with the linear part m, and nothing else
--   turn p v m g h      one turn of the inversion: from g, of which h is the composition with f
--                       outer and g inner, g + m · (identity − h); m is the inverse of the linear
--                       part of f
use Rattle.std.specs.Prelude.{ℕ}
use Rattle.algebra.specs.Polynomial.{Polynomial, add, scale, difference, add_below}
use Rattle.algebra.specs.Substitution.{Map, variable}
use Rattle.linear.specs.Matrix.{Matrix, element}

unfoldable pub combination : ℕ → (ℕ → ℕ) → Map → Polynomial
combination v a h = add_below v (λ j. scale (a j) (h j))

unfoldable pub linear_map : ℕ → Matrix → Map
linear_map v m i = combination v (element m i) variable

unfoldable pub turn : ℕ → ℕ → Matrix → Map → Map → Map
turn p v m g h i = add (g i) (combination v (element m i) (λ j. difference p (variable j) (h j)))
