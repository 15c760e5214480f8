-- What a walk finds in the work slice w. Regions of N + 1 words, N = count n v: the sums of a
-- multiplication at word 0, two of them; the inner components, two each; the orders; the marks, with
-- the positions by order in their upper halves; the products of n letters down to 1, one region each;
-- and from the next word on the series 1, in two words.
--
-- Glossary
--   orders_at v N, marks_at v N, top_at n v N
--                       the words at which orders, marks and the series 1 stand
--   ListIn n v N os t inner w
--                       what listing the inner components asks: the orders, from word os on,
--                       behind the lists, and v checked series
--   InnerListed n v N os t inner w w' ends
--                       each is listed in w' and has a row of `ends`; the orders stand
--                       ready as before, and so do all other words
--   RegionsAt n v N orders marks top
--                       orders, marks and the series 1 stand at these words
--   PrepareIn n v N E c t outer w
--                       what the preparation asks: a right table, c checked series and room
--   Prepared n v N E c t outer starts w w'
--                       w' has sums that are 0, the orders, the marks of the beginnings of the c
--                       outer series, which serve for a walk cut at any order b (substitution,
--                       `Marks`), the positions by order, whose beginnings `starts` has, and the
--                       series 1; the words behind it are those of w
use Rattle.std.specs.Prelude.{◌≡◌, List, ℕ, ◌+◌, ◌*◌, ◌≤◌, ◌<◌, leb, length, get_or}
use Rattle.algebra.specs.Polynomial.{one}
use Rattle.monomial.specs.Count.{codes}
use Rattle.series.specs.Image.{entries, component, monomial_at}
use Rattle.product.specs.Regions.{Ready, Listed, Outside}
use Rattle.substitution.specs.Walk.{beginning, low_terms}
use Rattle.counts.specs.Tables.{Tabled}
use Rattle.substitution.specs.Marks.{Outer, outer_terms}
use Rattle.powers.specs.Powers.{Clean, Ordered}
use Rattle.walk.specs.Walking.{lower_half, list_at, row, Source}

abbrev pub orders_at : ℕ → ℕ → ℕ
orders_at v N = (2 * v + 2) * (N + 1)

abbrev pub marks_at : ℕ → ℕ → ℕ
marks_at v N = (2 * v + 3) * (N + 1)

abbrev pub top_at : ℕ → ℕ → ℕ → ℕ
top_at n v N = (2 * v + 4 + n) * (N + 1)

pub record ListIn (n v N os : ℕ) (t inner w : List ℕ) : Type 0 where
  pub ready : (E : ℕ) × Ready n v N E os t w
  pub each : Outer n v N v inner
  pub behind : orders_at v N ≤ os

pub record InnerListed (n v N os : ℕ) (t inner w w' : List ℕ) (ends : List (List ℕ)) : Type 0 where
  pub listed : (k : ℕ) → k < v
      → Listed n v N (entries (component n v k inner)) (list_at N k) w' (row ends k)
  pub ready : (E : ℕ) → E ≡ codes n v → Ready n v N E os t w'
  pub outside : Outside w w' (2 * (N + 1)) (orders_at v N)
  pub room : length ends ≡ 8

pub record RegionsAt (n v N orders marks top : ℕ) : Type 0 where
  pub orders_is : orders ≡ orders_at v N
  pub marks_is : marks ≡ marks_at v N
  pub top_is : top ≡ top_at n v N

pub record PrepareIn (n v N E c : ℕ) (t outer w : List ℕ) : Type 0 where
  pub table : Tabled n v N E t
  pub each : Outer n v N c outer
  pub sums_in : E ≤ 4 * (N + 1)
  pub work_in : top_at n v N + 2 ≤ length w

pub record Prepared (n v N E c : ℕ) (t outer starts w w' : List ℕ) : Type 0 where
  pub size : length w' ≡ length w
  pub ready : Ready n v N E (orders_at v N) t w'
  pub marked : (b q : ℕ) → b ≤ 10 → 1 ≤ q → q ≤ N
      → leb 11 (lower_half (get_or w' (marks_at v N + q) 0) + b)
      ≡ beginning (low_terms b (outer_terms n v c outer)) (monomial_at n v q)
  pub clean : Clean N w'
  pub ordered : Ordered n v N (marks_at v N) w' starts
  pub start : (p cut : ℕ) → Source p n v N 0 cut w' (top_at n v N) one
  pub above : (i : ℕ) → top_at n v N + 2 ≤ i → get_or w' i 0 ≡ get_or w i 0
