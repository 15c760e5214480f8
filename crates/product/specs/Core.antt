-- What the cores of product and bracket ask.
--
-- SeriesIn p N a             a begins with an image: no word of it is faulty
-- ProductIn n v N E W p t a b result work
--                            a right table, two series, room for the result and W words of work space,
--                            W enough for seven regions of N + 1 words
use Rattle.std.specs.Prelude.{◌≡◌, List, ℕ, ◌+◌, ◌*◌, ◌≤◌, ◌<◌, length}
use Rattle.monomial.specs.Count.{count, codes}
use Rattle.series.specs.Faults.{first_fault}
use Rattle.counts.specs.Tables.{Right}

pub record SeriesIn (p N : ℕ) (a : List ℕ) : Type 0 where
  pub long : N + 1 ≤ length a
  pub good : first_fault p N a ≡ N + 1

pub record ProductIn (n v N E W p : ℕ) (t a b result work : List ℕ) : Type 0 where
  pub right : Right n v t
  pub N_is : N ≡ count n v
  pub E_is : E ≡ codes n v
  pub modulus_low : 0 < p
  pub modulus_high : p ≤ 65536
  pub first : SeriesIn p N a
  pub second : SeriesIn p N b
  pub result_in : N + 1 ≤ length result
  pub regions : 7 * (N + 1) ≤ W
  pub sums_in : E ≤ 4 * (N + 1)
  pub work_in : W ≤ length work
