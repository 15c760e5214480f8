-- What substitution on checked inputs asks.
--
-- ComposeIn n v N E c W p t outer inner result work
--                            a right table, c outer series, v inner ones that fix the origin, room
--                            for the result and W words of work space, enough for the regions of
--                            `Setup`
use Rattle.std.specs.Prelude.{◌≡◌, List, ℕ, ◌+◌, ◌*◌, ◌≤◌, ◌<◌, length}
use Rattle.algebra.specs.Agreement.{OriginFixing}
use Rattle.monomial.specs.Count.{count, codes}
use Rattle.series.specs.Image.{component, map_of}
use Rattle.counts.specs.Tables.{Right}
use Rattle.product.specs.Core.{SeriesIn}

pub record ComposeIn (n v N E c W p : ℕ) (t outer inner result work : List ℕ) : Type 0 where
  pub right : Right n v t
  pub N_is : N ≡ count n v
  pub E_is : E ≡ codes n v
  pub modulus_low : 0 < p
  pub modulus_high : p ≤ 65536
  pub few : c ≤ 8
  pub outer_in : c * (N + 1) ≤ length outer
  pub outers : (i : ℕ) → i < c → SeriesIn p N (component n v i outer)
  pub inners : (k : ℕ) → k < v → SeriesIn p N (component n v k inner)
  pub fixing : OriginFixing p (map_of n v inner)
  pub result_in : c * (N + 1) ≤ length result
  pub sums_in : E ≤ 4 * (N + 1)
  pub regions : (n + 2 * v + 4) * (N + 1) + 2 ≤ W
  pub work_in : W ≤ length work
