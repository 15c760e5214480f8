-- The variables at their positions: minus the identity map by position, with which a turn begins,
-- and the linear part of a map.
--
-- Glossary
--   PositionOf n v N j q       variable j, from 0, stands at position q
--   Started p n v N ws ws'     the parts of ws' hold minus the identity map, up to any order from 1
--                              on; words behind the parts are those of ws
--   LinearRow p n v ws r       r has the coefficients of the variables in the series ws, modulo p:
--                              a row of a linear part, unused places zero
use Rattle.std.specs.Prelude.{◌≡◌, List, ℕ, ◌+◌, ◌*◌, ◌-◌, ◌%◌, ◌≤◌, ◌<◌, T, length, drop}
use Rattle.algebra.specs.Polynomial.{same, scale, coefficient_of}
use Rattle.algebra.specs.Substitution.{unit_of, variable}
use Rattle.linear.specs.Matrix.{at}
use Rattle.series.specs.Image.{monomial_at, polynomial}
use Rattle.turn.specs.Vectors.{Vectors}

pub record PositionOf (n v N j q : ℕ) : Type 0 where
  pub low : 1 ≤ q
  pub high : q ≤ N
  pub is : T (same (monomial_at n v q) (unit_of j))

pub record Started (p n v N : ℕ) (ws ws' : List ℕ) : Type 0 where
  pub size : length ws' ≡ length ws
  pub rest : drop (v * (N + 1)) ws' ≡ drop (v * (N + 1)) ws
  pub vectors : (wanted cut : ℕ) → 1 ≤ cut
      → Vectors p n v N wanted cut ws' (λ j. scale (p - 1) (variable j))

pub record LinearRow (p n v : ℕ) (ws r : List ℕ) : Type 0 where
  pub size : length r ≡ 8
  pub coefficient : (j : ℕ) → j < v → at r j ≡ coefficient_of (unit_of j) (polynomial n v ws) % p
  pub unused : (j : ℕ) → v ≤ j → j < 8 → at r j ≡ 0
