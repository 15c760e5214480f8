-- What inversion on checked inputs asks.
--
-- InvertIn n v N E W p m t map result work
--                            a right table, a small prime, v series that fix the origin, the
--                            inverse m of their linear part, room for the result and W words of
--                            work space, enough for the regions of composition's `Setup`
use Rattle.std.specs.Prelude.{◌≡◌, List, ℕ, ◌+◌, ◌*◌, ◌≤◌, ◌<◌, length}
use Rattle.algebra.specs.Agreement.{OriginFixing}
use Rattle.linear.specs.Matrix.{Matrix, Inverse, Held}
use Rattle.linear.specs.Answer.{SmallPrime}
use Rattle.monomial.specs.Count.{count, codes}
use Rattle.series.specs.Image.{component, map_of}
use Rattle.counts.specs.Tables.{Right}
use Rattle.product.specs.Core.{SeriesIn}
use Rattle.inversion.specs.Linear.{linear_part}

pub record InvertIn (n v N E W p : ℕ) (m : Matrix) (t map result work : List ℕ) : Type 0 where
  pub right : Right n v t
  pub N_is : N ≡ count n v
  pub E_is : E ≡ codes n v
  pub modulus : SmallPrime p
  pub map_within : v * (N + 1) ≤ length map
  pub components : (k : ℕ) → k < v → SeriesIn p N (component n v k map)
  pub fixing : OriginFixing p (map_of n v map)
  pub inverse : Inverse p v (linear_part p v (map_of n v map)) m
  pub held : Held p v m
  pub result_in : v * (N + 1) ≤ length result
  pub sums_in : E ≤ 4 * (N + 1)
  pub regions : (n + 2 * v + 4) * (N + 1) + 2 ≤ W
  pub work_in : W ≤ length work
