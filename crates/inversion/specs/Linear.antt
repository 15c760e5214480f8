-- The linear part of a map, and its determinant (01, 'The operations').
--
-- Glossary
--   linear_part p v f     'a square of v by v numbers, row i having the coefficients of x1 to xv in
--                         component i, held as eight rows of eight, unused places zero'; modulo p,
--                         rows and columns from 0
--   determinant_of p v f  'the determinant of a linear part', 'judged modulo p'
--   singular_check p n v w 9: the linear part of the map w is singular modulo p, place 0
use Rattle.std.specs.Prelude.{cond, ◌&&◌, not, List, [], ◌∷◌, ℕ, ◌%◌, eqb, ltb}
use Rattle.algebra.specs.Polynomial.{coefficient_of}
use Rattle.algebra.specs.Substitution.{Map, unit_of}
use Rattle.linear.specs.Matrix.{Matrix, square}
use Rattle.linear.specs.Determinant.{determinant}
use Rattle.answer.specs.Refusals.{Verdict}
use Rattle.answer.specs.Checks.{unless}
use Rattle.series.specs.Image.{map_of}

unfoldable pub linear_part : ℕ → ℕ → Map → Matrix
linear_part p v f =
    square 8 (λ i j. cond (ltb i v && ltb j v) (coefficient_of (unit_of j) (f i) % p) 0)

unfoldable pub determinant_of : ℕ → ℕ → Map → ℕ
determinant_of p v f = determinant p v (linear_part p v f)

unfoldable pub singular_check : ℕ → ℕ → ℕ → List ℕ → Verdict
singular_check p n v w = unless (not (eqb (determinant_of p v (map_of n v w)) 0)) 9 (0 ∷ [])
