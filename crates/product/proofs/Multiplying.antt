-- Cleared sums, rows, an image: the sum at place j is the coefficient of the product at the monomial there.
use Rattle.std.proofs.Common.{◌≡◌, sym, ap, ◌∙◌, subst, List, map, ℕ, ◌+◌, ◌-◌, ◌*◌, ◌%◌, ◌≤◌, ◌<◌, mul-le-mul, arith, leb, length, get_or, take, drop, replicate, drop-drop}
use Rattle.std.proofs.Math.ListN.{length-replicate, get_or-replicate}
use Rattle.algebra.specs.Polynomial.{Polynomial, order, indicator, coefficient_of, mul}
use Rattle.monomial.specs.Count.{count}
use Rattle.series.specs.Image.{monomial_at, term_of, packed, image_of}
use Rattle.series.specs.Over.{over}
use Rattle.series.proofs.Packed.{packed-cong}
use Rattle.product.specs.Pairs.{pair_sum, cut_sum, pairs_within, sum_at}
use Rattle.product.specs.Regions.{Placed, Listed, Added, RowsIn, source_entries}
use Rattle.product.specs.Multiply.{image_to, MultiplyIn, Multiplied}
use Rattle.product.proofs.Accumulate.{kept}
use Rattle.series.proofs.Series.{length-image_of}
use Rattle.series.proofs.Over.{length_over, drop-over, over-in, over_below, over-above}
use Rattle.product.proofs.Packing.{packed-few}
use Rattle.product.proofs.PairSums.{pair_sum-is}
use Rattle.product.proofs.AddRows.{ready_kept, listed_kept}
use Rattle.product.proofs.Ordered.{placed_from}
use Rattle.product.proofs.Sources.{length-source, source_at}

module _ (n v N E cut os cs : ℕ) (t w ends : List ℕ) (src m dst p : ℕ) (q : MultiplyIn n v N E cut os cs t w ends src m dst p) where
  -- the sums cleared
  abbrev zeros : List ℕ
  zeros = replicate (2 * (N + 1) - 0) 0

  abbrev w1 : List ℕ
  w1 = over w 0 (replicate (2 * (N + 1) - 0) 0)

  long : length (replicate {A = ℕ} (2 * (N + 1) - 0) 0) ≡ 2 * (N + 1)
  long = length-replicate {A = ℕ} (2 * (N + 1) - 0) 0 ∙ omega arith

  room : 2 * (N + 1) ≤ length w
  room = omega (arith, q.result_apart, q.result_in)

  size1 : length w1 ≡ length w
  size1 = length_over w 0 zeros (omega (arith, long, room))

  rest1 : drop (2 * (N + 1)) w1 ≡ drop (2 * (N + 1)) w
  rest1 =
      let e : 0 + length zeros ≡ 2 * (N + 1) = omega (arith, long) in
      rw e at (drop-over w 0 zeros (omega arith))

  zero-at : (i : ℕ) → i < 2 * (N + 1) → get_or w1 i 0 ≡ 0
  zero-at i l =
      let e : 0 + i ≡ i = omega arith in
      rw e at (over-in w 0 zeros i (omega arith) (omega (arith, long)) ∙ get_or-replicate (2 * (N + 1) - 0) i 0 0 (omega arith))

  sums1 : (j : ℕ) → j < N + 1 → sum_at w1 j ≡ 0
  unfolding sum_at
  sums1 j l = omega (arith, zero-at (2 * j) (omega arith), zero-at (2 * j + 1) (omega arith))

  above1 : (i : ℕ) → 2 * (N + 1) ≤ i → get_or w1 i 0 ≡ get_or w i 0
  above1 i l = kept w w1 (2 * (N + 1)) i rest1 l

  same_source : source_entries w1 src m ≡ source_entries w src m
  unfolding source_entries
  same_source = ap (take m) (later (src + 1) (omega (arith, q.apart)))
    where
      later : (i : ℕ) → 2 * (N + 1) ≤ i → drop i w1 ≡ drop i w
      later i l =
          let k = i - 2 * (N + 1) in
          let e : 2 * (N + 1) + k ≡ i = omega arith in
          rw e at (sym (drop-drop k (2 * (N + 1)) w1) ∙ ap (drop k) rest1 ∙ drop-drop k (2 * (N + 1)) w)

  pub listed1 : (ys : List ℕ) → Listed n v N ys cs w ends → Listed n v N ys cs w1 ends
  listed1 ys l = listed_kept n v N E os cs t w w1 size1 rest1 ys ends l

  pub rows-ask : RowsIn n v N E cut os cs t w1 ends src m 0
  rows-ask =
      record {
        cut_low = q.cut_low;
        ready = ready_kept n v N E os cs t w w1 size1 rest1 q.ready;
        second = (q.second.0, listed1 q.second.0 q.second.1);
        apart = q.apart;
        inside = omega (arith, q.inside, size1);
        few = q.few;
        low = λ i l. rw (above1 (src + 1 + i) (omega (arith, q.apart))) (q.low i l);
        high = λ i l. rw (above1 (src + 1 + i) (omega (arith, q.apart))) (q.high i l);
        order = λ i l. rw (above1 (src + 1 + i) (omega (arith, q.apart))) (q.order i l);
        bound = λ j l. omega (arith, sums1 j l);
        room = omega (arith, small, mul-le-mul small small);
      }
    where
      small : N ≤ 8008
      small = omega (arith, q.ready.N_is, q.ready.right.allowed.few)

  -- ---- what is left

  module _ (w2 : List ℕ) (pairs : ℕ) (w3 : List ℕ) (ys : List ℕ) (l : Listed n v N ys cs w ends)
      (added : Added n v N cut (source_entries w1 src m) ys w1 w2 0 pairs)
      (written : w3 ≡ over w2 dst (image_of N (packed (λ j. sum_at w2 j % p) N))) where
    abbrev P : Polynomial
    P = mul (map (term_of n v) (source_entries w src m)) (map (term_of n v) ys)

    size2 : length w2 ≡ length w
    size2 = added.size ∙ size1

    same-N : N ≡ count n v
    same-N = q.ready.N_is

    long_source : length (source_entries w src m) ≡ m
    long_source = length-source w src m q.inside

    placed_source : Placed (count n v) (source_entries w src m)
    placed_source =
        placed_from (count n v) (source_entries w src m)
        (λ i h.
        let k : i < m = omega (arith, long_source) in
        rw (source_at w src m q.inside i k) (q.low i k, omega (arith, q.high i k, same-N)))

    coefficient-at : (j : ℕ) → 0 < j → j ≤ N
        → sum_at w2 j % p ≡ coefficient_of (monomial_at n v j) P * indicator (leb (order (monomial_at n v j)) cut) % p
    unfolding cut_sum
    coefficient-at j lo h =
        ap (λ (z : ℕ). z % p)
        (added.sums j lo h
        ∙ omega (arith, sums1 j (omega arith))
        ∙ ap (λ (z : List ℕ). pair_sum n v z ys j * indicator (leb (order (monomial_at n v j)) cut)) same_source
        ∙ ap (λ (z : ℕ). z * indicator (leb (order (monomial_at n v j)) cut))
        (pair_sum-is n v (source_entries w src m) ys j placed_source (subst (λ (z : ℕ). Placed z ys) same-N l.placed) lo (omega (arith, same-N))))

    image-is : image_of N (packed (λ j. sum_at w2 j % p) N) ≡ image_to p n v cut P
    unfolding image_to
    image-is =
        ap (image_of N) (packed-cong (λ j. sum_at w2 j % p) (λ j. coefficient_of (monomial_at n v j) P * indicator (leb (order (monomial_at n v j)) cut) % p) N coefficient-at)
        ∙ ap (λ (z : ℕ). image_of z (packed (λ j. coefficient_of (monomial_at n v j) P * indicator (leb (order (monomial_at n v j)) cut) % p) z)) same-N

    long_image : length (image_to p n v cut P) ≡ N + 1
    long_image = ap length (sym image-is) ∙ length-image_of N _ (packed-few (λ j. sum_at w2 j % p) N)

    is3 : w3 ≡ over w2 dst (image_to p n v cut P)
    is3 = written ∙ ap (over w2 dst) image-is

    above2 : (i : ℕ) → 2 * (N + 1) ≤ i → get_or w2 i 0 ≡ get_or w i 0
    above2 i u = kept w1 w2 (2 * (N + 1)) i added.rest u ∙ above1 i u

    size3 : length w3 ≡ length w
    size3 = ap length is3 ∙ length_over w2 dst (image_to p n v cut P) (omega (arith, long_image, size2, q.result_in)) ∙ size2

    pub multiplied : Multiplied n v N cut src m dst p ys w w3 pairs
    multiplied =
        record {
          size = size3;
          result = record {
            inside = omega (arith, long_image, size3, q.result_in);
            word = λ i u. ap (λ (z : List ℕ). get_or z (dst + i) 0) is3 ∙ over-in w2 dst (image_to p n v cut P) i (omega (arith, size2, q.result_in)) u;
          };
          before = λ i u h. ap (λ (z : List ℕ). get_or z i 0) is3 ∙ over_below w2 dst (image_to p n v cut P) i (omega (arith, size2, q.result_in)) h ∙ above2 i u;
          after = λ i u. ap (λ (z : List ℕ). get_or z i 0) is3 ∙ over-above w2 dst (image_to p n v cut P) i (omega (arith, size2, q.result_in)) (omega (arith, long_image)) ∙ above2 i (omega (arith, q.result_apart));
          pairs_are = added.pairs ∙ omega arith ∙ ap (λ (z : List ℕ). pairs_within n v cut z ys) same_source;
        }
