-- The regions of the one work slice w, of N + 1 words each unless said otherwise. Two parts of one slice
-- cannot be lent at once, so the core reads and writes by index, and these records say what stands where.
--
-- Ready n v N E os t w   the table is right, and the orders of the positions 1 to N stand at words os + 1 to os + N
-- Placed N es            the positions of the entries es are 1 to N
-- Listed n v N es cs w ends
--                        the entries es are listed by ascending order: the codes of entry k at word cs + k, its
--                        coefficient at word cs + (N + 1) + k; word o of `ends` says how many have an order
--                        of at most o
-- ImageAt w at s         the words s stand in w from word `at` on
-- Added n v N cut xs ys w w' a b
--                        the pairs of xs and ys whose orders add to at most `cut` are added to the sums of w,
--                        and words from 2 (N + 1) on are as before; a pairs were counted before, b are now
-- EntryIn ..             what the row of one entry x asks: a listed second factor, and sums that leave room
-- RowsIn ..              what the rows of the m entries from word src + 1 on ask
-- source_entries w src m  these entries
-- Outside w w' a b       w' is w but for the words from a to b
use Rattle.std.specs.Prelude.{◌≡◌, List, [], ◌∷◌, ℕ, suc, ◌+◌, ◌*◌, ◌≤◌, ◌<◌, length, get_or, take, drop}
use Rattle.algebra.specs.Polynomial.{order}
use Rattle.monomial.specs.Count.{count, codes}
use Rattle.counts.specs.Tables.{Right}
use Rattle.series.specs.Image.{position, coefficient, monomial_at}
use Rattle.product.specs.Pairs.{order_of, by_order, codes_of, cut_sum, pairs_within, sum_at}

pub record Ready (n v N E os : ℕ) (t w : List ℕ) : Type 0 where
  pub right : Right n v t
  pub N_is : N ≡ count n v
  pub E_is : E ≡ codes n v
  pub apart : 2 * (N + 1) ≤ os
  pub inside : os + (N + 1) ≤ length w
  pub orders : (q : ℕ) → 1 ≤ q → q ≤ N → get_or w (os + q) 0 ≡ order (monomial_at n v q)

abbrev pub Placed : ℕ → List ℕ → Type 0
Placed N [] = Unit {0}
Placed N (w ∷ es) = ((1 ≤ position w) × (position w ≤ N)) × Placed N es

pub record Listed (n v N : ℕ) (es : List ℕ) (cs : ℕ) (w ends : List ℕ) : Type 0 where
  pub few : length es ≤ N
  pub placed : Placed N es
  pub apart : 2 * (N + 1) ≤ cs
  pub inside : cs + (N + 1) + (N + 1) ≤ length w
  pub code : (k : ℕ) → k < length (by_order n v es (suc n)) → get_or w (cs + k) 0 ≡ codes_of n v (get_or (by_order n v es (suc n)) k 0)
  pub factor : (k : ℕ) → k < length (by_order n v es (suc n))
      → get_or w (cs + (N + 1) + k) 0 ≡ coefficient (get_or (by_order n v es (suc n)) k 0)
  pub ends_in : n < length ends
  pub end : (o : ℕ) → o ≤ n → get_or ends o 0 ≡ length (by_order n v es (suc o))

pub record ImageAt (w : List ℕ) (at : ℕ) (s : List ℕ) : Type 0 where
  pub inside : at + length s ≤ length w
  pub word : (i : ℕ) → i < length s → get_or w (at + i) 0 ≡ get_or s i 0

pub record Outside (w w' : List ℕ) (a b : ℕ) : Type 0 where
  pub size : length w' ≡ length w
  pub below : (i : ℕ) → i < a → get_or w' i 0 ≡ get_or w i 0
  pub above : (i : ℕ) → b ≤ i → get_or w' i 0 ≡ get_or w i 0

pub record Added (n v N cut : ℕ) (xs ys w w' : List ℕ) (a b : ℕ) : Type 0 where
  pub size : length w' ≡ length w
  pub rest : drop (2 * (N + 1)) w' ≡ drop (2 * (N + 1)) w
  pub sums : (j : ℕ) → 1 ≤ j → j ≤ N → sum_at w' j ≡ sum_at w j + cut_sum n v cut xs ys j
  pub bound : (j : ℕ) → j < N + 1 → sum_at w' j ≤ b * 4294967296
  pub pairs : b ≡ a + pairs_within n v cut xs ys

pub record EntryIn (n v N E cut os cs : ℕ) (t w ends : List ℕ) (x a : ℕ) : Type 0 where
  pub cut_low : cut ≤ n
  pub ready : Ready n v N E os t w
  pub second : (ys : List ℕ) × Listed n v N ys cs w ends
  pub low : 1 ≤ position x
  pub high : position x ≤ N
  pub order : order_of n v x ≤ cut
  pub bound : (j : ℕ) → j < N + 1 → sum_at w j ≤ a * 4294967296
  pub room : a + N ≤ 2147483648

unfoldable pub source_entries : List ℕ → ℕ → ℕ → List ℕ
source_entries w src m = take m (drop (src + 1) w)

pub record RowsIn (n v N E cut os cs : ℕ) (t w ends : List ℕ) (src m a : ℕ) : Type 0 where
  pub cut_low : cut ≤ n
  pub ready : Ready n v N E os t w
  pub second : (ys : List ℕ) × Listed n v N ys cs w ends
  pub apart : 2 * (N + 1) ≤ src
  pub inside : src + 1 + m ≤ length w
  pub few : m ≤ N
  pub low : (i : ℕ) → i < m → 1 ≤ position (get_or w (src + 1 + i) 0)
  pub high : (i : ℕ) → i < m → position (get_or w (src + 1 + i) 0) ≤ N
  pub order : (i : ℕ) → i < m → order_of n v (get_or w (src + 1 + i) 0) ≤ cut
  pub bound : (j : ℕ) → j < N + 1 → sum_at w j ≤ a * 4294967296
  pub room : a + N * N ≤ 2147483648
