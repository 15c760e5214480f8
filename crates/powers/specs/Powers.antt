-- One product of a walk. The sums of a multiplication are 0 between products; the positions are listed by
-- order, in the upper halves of the words that hold the marks, so that only the places of the orders that a
-- product can have are read, turned into entries and made 0 again.
--
-- Glossary
--   Clean N w               the sums at the places 0 to N are 0
--   places N                the positions 1 to N, each as an entry with the coefficient 0
--   Ordered n v N ps w starts
--                           the positions 1 to N are listed by ascending order in the upper halves of words
--                           ps + 1 to ps + N; word o of `starts` says how many have an order below o
--   PositionsIn ..          what listing them asks
--   PositionsListed ..      what it leaves: the lower halves, and all other words, are as before
--   PowerIn ..              what a product asks: that of a multiplication, clean sums, a source with no entry of
--                           an order below lo - 1, a listed factor with no constant, and a region for the
--                           result that stands behind the lists and before the source
--   Powered ..              what it leaves: the entries of the product at word dst, from order lo to order cut,
--                           the first r below order `wanted`, and clean sums; words from 2 (N + 1) on are as
--                           before but for the result's
use Rattle.std.specs.Prelude.{◌≡◌, List, [], ◌∷◌, ◌++◌, map, length, get_or, drop}
use Rattle.std.specs.Prelude.{ℕ, zero, suc, ◌+◌, ◌*◌, ◌%◌, ◌≤◌, ◌<◌, leb}
use Rattle.algebra.specs.Polynomial.{order, indicator, coefficient_of, mul}
use Rattle.series.specs.Image.{position, coefficient, entries, coefficient_at, monomial_at, term_of}
use Rattle.product.specs.Pairs.{order_of, by_order}
use Rattle.product.specs.Regions.{Ready, Outside, source_entries}
use Rattle.product.specs.Multiply.{MultiplyIn}

pub record Clean (N : ℕ) (w : List ℕ) : Type 0 where
  pub zero : (i : ℕ) → i < 2 * (N + 1) → get_or w i 0 ≡ 0

unfoldable pub places : ℕ → List ℕ
places zero = []
places (suc N) = places N ++ (suc N * 65536 ∷ [])

pub record Ordered (n v N ps : ℕ) (w starts : List ℕ) : Type 0 where
  pub apart : 2 * (N + 1) ≤ ps
  pub inside : ps + N < length w
  pub place : (k : ℕ) → k < N
      → position (get_or w (ps + 1 + k) 0) ≡ position (get_or (by_order n v (places N) (suc n)) k 0)
  pub starts_in : n + 1 < length starts
  pub start : (o : ℕ) → o ≤ suc n → get_or starts o 0 ≡ length (by_order n v (places N) o)

pub record PositionsIn (n v N E os ps : ℕ) (t w : List ℕ) : Type 0 where
  pub ready : Ready n v N E os t w
  pub apart : os + (N + 1) ≤ ps
  pub inside : ps + N < length w

pub record PositionsListed (n v N ps : ℕ) (w w' starts : List ℕ) : Type 0 where
  pub ordered : Ordered n v N ps w' starts
  pub lower : (q : ℕ) → 1 ≤ q → q ≤ N
      → coefficient (get_or w' (ps + q) 0) ≡ coefficient (get_or w (ps + q) 0)
  pub outside : Outside w w' (ps + 1) (ps + N + 1)

pub record PowerIn (n v N E lo wanted cut os cs ps : ℕ) (t w ends starts : List ℕ)
    (src m dst p : ℕ) : Type 0 where
  pub multiply : MultiplyIn n v N E cut os cs t w ends src m dst p
  pub ordered : Ordered n v N ps w starts
  pub clean : Clean N w
  pub below : ps + (N + 1) ≤ dst
  pub orders_below : os + (N + 1) ≤ dst
  pub codes_below : cs + (N + 1) ≤ dst
  pub source_above : dst + (N + 1) ≤ src
  pub least : lo ≤ suc cut
  pub wanted_low : wanted ≤ suc cut
  pub source : (i : ℕ) → i < m → lo ≤ suc (order_of n v (get_or w (src + 1 + i) 0))
  pub origin : get_or ends 0 0 ≡ 0

pub record Powered (n v N lo wanted cut src m dst p : ℕ) (ys w w' : List ℕ) (r : ℕ) : Type 0 where
  pub size : length w' ≡ length w
  pub few : get_or w' dst 0 ≤ N
  pub low : (i : ℕ) → i < get_or w' dst 0 → 1 ≤ position (get_or w' (dst + 1 + i) 0)
  pub high : (i : ℕ) → i < get_or w' dst 0 → position (get_or w' (dst + 1 + i) 0) ≤ N
  pub least : (i : ℕ) → i < get_or w' dst 0 → lo ≤ order_of n v (get_or w' (dst + 1 + i) 0)
  pub coefficient : (q : ℕ) → 1 ≤ q → q ≤ N
      → coefficient_at (entries (drop dst w')) q
      ≡ coefficient_of (monomial_at n v q)
      (mul (map (term_of n v) (source_entries w src m)) (map (term_of n v) ys))
      * indicator (leb (order (monomial_at n v q)) cut)
      % p
  pub order : (i : ℕ) → i < get_or w' dst 0 → order_of n v (get_or w' (dst + 1 + i) 0) ≤ cut
  pub before : (i : ℕ) → 2 * (N + 1) ≤ i → i < dst → get_or w' i 0 ≡ get_or w i 0
  pub after : (i : ℕ) → dst + (N + 1) ≤ i → get_or w' i 0 ≡ get_or w i 0
  pub clean : Clean N w'
  pub first : r ≤ get_or w' dst 0
  pub early : (i : ℕ) → i < r → order_of n v (get_or w' (dst + 1 + i) 0) < wanted
