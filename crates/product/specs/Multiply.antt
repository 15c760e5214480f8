-- One multiplication inside the work space.
--
-- image_to p n v cut P   the image of P with its terms above order `cut` dropped; `image_to p n v n` is `image p n v`
-- MultiplyIn ..          what a multiplication asks: an image of m entries at word src, none of an order above
--                        `cut`, a listed second factor, and room for the result at word dst
-- Multiplied ..          what it leaves: the image of the product cut at order `cut` at word dst; words from
--                        2 (N + 1) on are as before but for the result's; the number of pairs
use Rattle.std.specs.Prelude.{◌≡◌, List, map, ℕ, ◌+◌, ◌*◌, ◌%◌, ◌≤◌, ◌<◌, leb, length, get_or}
use Rattle.algebra.specs.Polynomial.{Polynomial, order, indicator, coefficient_of, mul}
use Rattle.monomial.specs.Count.{count}
use Rattle.series.specs.Image.{position, monomial_at, term_of, packed, image_of}
use Rattle.product.specs.Pairs.{order_of, pairs_within}
use Rattle.product.specs.Regions.{Ready, Listed, ImageAt, source_entries}

unfoldable pub image_to : ℕ → ℕ → ℕ → ℕ → Polynomial → List ℕ
image_to p n v cut P =
    image_of (count n v)
    (packed (λ q. coefficient_of (monomial_at n v q) P * indicator (leb (order (monomial_at n v q)) cut) % p) (count n v))

pub record MultiplyIn (n v N E cut os cs : ℕ) (t w ends : List ℕ) (src m dst p : ℕ) : Type 0 where
  pub cut_low : cut ≤ n
  pub ready : Ready n v N E os t w
  pub second : (ys : List ℕ) × Listed n v N ys cs w ends
  pub apart : 2 * (N + 1) ≤ src
  pub inside : src + 1 + m ≤ length w
  pub few : m ≤ N
  pub low : (i : ℕ) → i < m → 1 ≤ position (get_or w (src + 1 + i) 0)
  pub high : (i : ℕ) → i < m → position (get_or w (src + 1 + i) 0) ≤ N
  pub order : (i : ℕ) → i < m → order_of n v (get_or w (src + 1 + i) 0) ≤ cut
  pub result_apart : 2 * (N + 1) ≤ dst
  pub result_in : dst + (N + 1) ≤ length w
  pub modulus_low : 0 < p
  pub modulus_high : p ≤ 65536

pub record Multiplied (n v N cut src m dst p : ℕ) (ys w w' : List ℕ) (pairs : ℕ) : Type 0 where
  pub size : length w' ≡ length w
  pub result : ImageAt w' dst (image_to p n v cut (mul (map (term_of n v) (source_entries w src m)) (map (term_of n v) ys)))
  pub before : (i : ℕ) → 2 * (N + 1) ≤ i → i < dst → get_or w' i 0 ≡ get_or w i 0
  pub after : (i : ℕ) → dst + (N + 1) ≤ i → get_or w' i 0 ≡ get_or w i 0
  pub pairs_are : pairs ≡ pairs_within n v cut (source_entries w src m) ys
