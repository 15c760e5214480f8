-- The pairs of a product gone over once more: where there are few of them, that is quicker than to look at
-- all positions of the orders that the product can have.
--
-- Glossary
--   TakeRowIn ..            what making entries of the sums of one row of pairs asks: entries drawn so far up
--                           to word i, room for one entry for each pair, and pairs that lead to possible
--                           positions
--   RowTaken ..             what it leaves: further entries, up to word r; and a sum within a bound b, which
--                           the row's values at its place are within too, is less by these values
--   CollectIn ..            what making entries of all rows asks: sums that are those of the pairs of the
--                           source with the listed entries ys, which are few
--   Collected ..            what it leaves: entries, and no sum at any position
use Rattle.std.specs.Prelude.{◌≡◌, List, ℕ, suc, ◌+◌, ◌*◌, ◌/◌, ◌%◌, ◌≤◌, ◌<◌, eqb, length, get_or}
use Rattle.algebra.specs.Sum.{sum_to}
use Rattle.algebra.specs.Polynomial.{indicator}
use Rattle.series.specs.Image.{position}
use Rattle.product.specs.Pairs.{order_of, by_order, cut_sum, pairs_within, sum_at}
use Rattle.product.specs.Regions.{Ready, Listed, source_entries}
use Rattle.product.specs.Rows.{place_with}
use Rattle.powers.specs.Gathering.{Possible, Room, Drawn, Made}

pub record TakeRowIn (n v N lo cut dst p : ℕ) (w₀ t w : List ℕ) (d1 d2 cs lim i : ℕ) : Type 0 where
  pub room : Room N dst p w₀
  pub drawn : Drawn n v N lo cut dst p w₀ w i
  pub codes_apart : 2 * (N + 1) ≤ cs
  pub codes_below : cs + lim ≤ dst
  pub few : i + lim ≤ dst + 1 + N
  pub first_in : (k : ℕ) → k < lim → d1 + get_or w (cs + k) 0 % 65536 < length t
  pub second_in : (k : ℕ) → k < lim → d2 + get_or w (cs + k) 0 / 65536 < length t
  pub place : (k : ℕ) → k < lim → Possible n v N lo cut (place_with t w d1 d2 cs k)

pub record RowTaken (n v N lo cut dst p : ℕ) (w₀ t : List ℕ) (d1 d2 cs lim i : ℕ) (w w' : List ℕ)
    (r : ℕ) : Type 0 where
  pub few : r ≤ i + lim
  pub drawn : Drawn n v N lo cut dst p w₀ w' r
  pub off : (value : ℕ → ℕ) (j b : ℕ) → j ≤ N → sum_at w j ≤ b
      → sum_to (λ k. value k * indicator (eqb (place_with t w d1 d2 cs k) j)) lim ≤ b
      → sum_at w' j + sum_to (λ k. value k * indicator (eqb (place_with t w d1 d2 cs k) j)) lim ≤ b

pub record CollectIn (n v N E lo cut os cs : ℕ) (t w ends : List ℕ) (src m dst p : ℕ) (ys : List ℕ)
    : Type 0 where
  pub room : Room N dst p w
  pub cut_low : cut ≤ n
  pub ready : Ready n v N E os t w
  pub listed : Listed n v N ys cs w ends
  pub origin : length (by_order n v ys 1) ≡ 0
  pub orders_below : os + (N + 1) ≤ dst
  pub codes_below : cs + (N + 1) ≤ dst
  pub source_above : dst + (N + 1) ≤ src
  pub source_in : src + 1 + m ≤ length w
  pub low : (i : ℕ) → i < m → 1 ≤ position (get_or w (src + 1 + i) 0)
  pub high : (i : ℕ) → i < m → position (get_or w (src + 1 + i) 0) ≤ N
  pub order : (i : ℕ) → i < m → order_of n v (get_or w (src + 1 + i) 0) ≤ cut
  pub least : (i : ℕ) → i < m → lo ≤ suc (order_of n v (get_or w (src + 1 + i) 0))
  pub sums : (j : ℕ) → 1 ≤ j → j ≤ N → sum_at w j ≡ cut_sum n v cut (source_entries w src m) ys j
  pub few : pairs_within n v cut (source_entries w src m) ys ≤ N

pub record Collected (n v N lo cut dst p : ℕ) (w w' : List ℕ) : Type 0 where
  pub made : Made n v N lo cut dst p w w'
  pub none : (j : ℕ) → 1 ≤ j → j ≤ N → sum_at w' j ≡ 0
