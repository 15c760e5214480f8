-- The product of two series: orders, the second factor listed, the first copied, multiplied, and the result
-- handed out. Each step is told what it asks, and what is left is the image of the product.
use Rattle.std.proofs.Common.{◌≡◌, sym, ap, ◌∙◌, List, ◌++◌, map, ℕ, ◌+◌, ◌-◌, ◌*◌, ◌≤◌, ◌<◌, zero-add, arith, length, get_or, take, drop, length-drop, replicate, get_or-take, get_or-drop, length-take-le, ext_get_or, take_all}
use Rattle.std.proofs.Math.ListN.{length-replicate}
use Rattle.algebra.specs.Polynomial.{Polynomial, mul}
use Rattle.series.specs.Image.{entries, polynomial, term_of, image, pair_count}
use Rattle.series.specs.Over.{over}
use Rattle.series.proofs.Writing.{length-image}
use Rattle.series.proofs.Over.{over-in, over-above, length_over}
use Rattle.product.specs.Pairs.{pairs_within}
use Rattle.product.specs.Regions.{Listed, source_entries}
use Rattle.product.specs.List.{OrdersIn, OrdersFilled, SortIn, Sorted}
use Rattle.product.specs.Multiply.{image_to, MultiplyIn, Multiplied}
use Rattle.product.specs.Core.{ProductIn}
use Rattle.product.proofs.PairSums.{pairs_within-is}
use Rattle.product.proofs.Cut.{image_to-whole}
use Rattle.product.proofs.Prepared.{checked, count-few, source_entries_are, source_low, source_high, source_order, ready_same, listed_same}

-- words from k on that are read as before
pub drop-same : (k : ℕ) (w w' : List ℕ) → length w' ≡ length w → ((i : ℕ) → k ≤ i → get_or w' i 0 ≡ get_or w i 0) → drop k w' ≡ drop k w
drop-same k w w' e h =
    ext_get_or 0 (drop k w') (drop k w) (length-drop k w' ∙ omega (arith, e, length-drop k w))
    (λ i l. get_or-drop k w' i 0 ∙ h (k + i) (omega arith) ∙ sym (get_or-drop k w i 0))

-- words written over the beginning
pub over-front_is : (d s : List ℕ) (k : ℕ) → length s ≡ k → over d 0 s ≡ s ++ drop k d
unfolding over
over-front_is d s k e = ap (λ (z : ℕ). s ++ drop z d) (zero-add (length s) ∙ e)

-- what the multiplication leaves to be handed out, from the words w before the product to the words w4
pub record Handed (n v N W p : ℕ) (a b result w w4 : List ℕ) (pairs : ℕ) : Type 0 where
  pub size : length w4 ≡ length w
  pub pairs_are : pairs ≡ pair_count n (polynomial n v a) (polynomial n v b)
  pub result_is : (res : List ℕ) → res ≡ over result 0 (take (N + 1) (take (6 * (N + 1) - 5 * (N + 1)) (drop (5 * (N + 1)) w4)))
      → res ≡ image p n v (mul (polynomial n v a) (polynomial n v b)) ++ drop (N + 1) result
  pub work_is : (fin : List ℕ) → fin ≡ over w4 0 (replicate (W - 0) 0) → fin ≡ replicate W 0 ++ drop W w

module _ (n v N E W p : ℕ) (t a b result w : List ℕ) (q : ProductIn n v N E W p t a b result w) where
  abbrev r : ℕ
  r = N + 1

  small : N ≤ 8008
  small = omega (arith, q.N_is, q.right.allowed.few)

  pub orders_ask : OrdersIn n v N E (2 * (N + 1)) (6 * (N + 1)) t w
  orders_ask =
      record {
        right = q.right;
        N_is = q.N_is;
        E_is = q.E_is;
        apart = omega arith;
        inside = omega (arith, q.regions, q.work_in);
        sums_inside = omega (arith, q.regions, q.sums_in, q.work_in);
        sums_apart = λ i l u k. omega (arith, q.sums_in);
      }

  module _ (w1 : List ℕ) (f : OrdersFilled n v N E (2 * (N + 1)) (6 * (N + 1)) t w w1) where
    pub sort_asks : SortIn n v N (6 * (N + 1)) (3 * (N + 1)) t b w1
    sort_asks =
        record {
          ready = (E, f.ready);
          image = checked p N b q.second;
          apart = omega arith;
          inside = omega (arith, f.size, q.regions, q.work_in);
          orders_apart = λ i l u k. omega arith;
        }

    module _ (w2 ends : List ℕ) (s : Sorted n v N (6 * (N + 1)) (3 * (N + 1)) t b w1 w2 ends) where
      abbrev w3 : List ℕ
      w3 = over w2 (2 * (N + 1)) (take (N + 1) a)

      size2 : length w2 ≡ length w
      size2 = s.outside.size ∙ f.size

      long_a : length (take (N + 1) a) ≡ N + 1
      long_a = length-take-le (N + 1) a q.first.long

      pub copy_asks : (2 * (N + 1) + (N + 1) ≤ length w2) × (N + 1 ≤ length a)
      copy_asks = (omega (arith, size2, q.regions, q.work_in), q.first.long)

      size3 : length w3 ≡ length w
      size3 = length_over w2 (2 * (N + 1)) (take (N + 1) a) (omega (arith, long_a, copy_asks.0)) ∙ size2

      above3 : (i : ℕ) → 3 * (N + 1) ≤ i → get_or w3 i 0 ≡ get_or w2 i 0
      above3 i l = over-above w2 (2 * (N + 1)) (take (N + 1) a) i (omega (arith, copy_asks.0)) (omega (arith, long_a))

      here : (i : ℕ) → i < N + 1 → get_or w3 (2 * (N + 1) + i) 0 ≡ get_or a i 0
      here i l = over-in w2 (2 * (N + 1)) (take (N + 1) a) i (omega (arith, copy_asks.0)) (omega (arith, long_a)) ∙ get_or-take (N + 1) a i 0 l

      room3 : 2 * (N + 1) + (N + 1) ≤ length w3
      room3 = omega (arith, size3, q.regions, q.work_in)

      listed3 : Listed n v N (entries b) (3 * (N + 1)) w3 ends
      listed3 = listed_same n v N E (6 * (N + 1)) (3 * (N + 1)) t w2 w3 (size3 ∙ sym size2) (entries b) ends (λ i l u. above3 i l) s.listed

      pub multiply_asks : MultiplyIn n v N E n (6 * (N + 1)) (3 * (N + 1)) t w3 ends (2 * (N + 1)) (get_or a 0 0) (5 * (N + 1)) p
      multiply_asks =
          record {
            cut_low = omega arith;
            ready = ready_same n v N E (6 * (N + 1)) (3 * (N + 1)) t w2 w3 (size3 ∙ sym size2) (λ i l u. above3 i (omega arith)) (s.ready E q.E_is);
            second = (entries b, listed3);
            apart = omega arith;
            inside = omega (arith, room3, count-few p N a q.first);
            few = count-few p N a q.first;
            low = source_low p N a q.first w3 (2 * (N + 1)) here room3;
            high = source_high p N a q.first w3 (2 * (N + 1)) here room3;
            order = source_order p N a q.first w3 (2 * (N + 1)) here room3 n v q.N_is;
            result_apart = omega arith;
            result_in = omega (arith, size3, q.regions, q.work_in);
            modulus_low = q.modulus_low;
            modulus_high = q.modulus_high;
          }

      module _ (w4 : List ℕ) (pairs : ℕ)
          (done : (ys : List ℕ) → Listed n v N ys (3 * (N + 1)) w3 ends → Multiplied n v N n (2 * (N + 1)) (get_or a 0 0) (5 * (N + 1)) p ys w3 w4 pairs) where
        abbrev AB : Polynomial
        AB = mul (polynomial n v a) (polynomial n v b)

        m : Multiplied n v N n (2 * (N + 1)) (get_or a 0 0) (5 * (N + 1)) p (entries b) w3 w4 pairs
        m = done (entries b) listed3

        source : source_entries w3 (2 * (N + 1)) (get_or a 0 0) ≡ entries a
        source = source_entries_are p N a q.first w3 (2 * (N + 1)) here room3

        whole : image_to p n v n (mul (map (term_of n v) (source_entries w3 (2 * (N + 1)) (get_or a 0 0))) (map (term_of n v) (entries b)))
            ≡ image p n v (mul (polynomial n v a) (polynomial n v b))
        unfolding polynomial
        whole = image_to-whole p n v _ ∙ ap (λ (z : List ℕ). image p n v (mul (map (term_of n v) z) (map (term_of n v) (entries b)))) source

        long_image : length (image p n v (mul (polynomial n v a) (polynomial n v b))) ≡ N + 1
        long_image = length-image p n v q.modulus_low q.modulus_high (mul (polynomial n v a) (polynomial n v b)) ∙ ap (λ (z : ℕ). z + 1) (sym q.N_is)

        pairs_are : pairs ≡ pair_count n (polynomial n v a) (polynomial n v b)
        unfolding polynomial
        pairs_are =
            m.pairs_are
            ∙ ap (λ (z : List ℕ). pairs_within n v n z (entries b)) source
            ∙ pairs_within-is n v (entries a) (entries b)

        size4 : length w4 ≡ length w
        size4 = m.size ∙ size3

        long_part : length (take (6 * (N + 1) - 5 * (N + 1)) (drop (5 * (N + 1)) w4)) ≡ N + 1
        long_part =
            length-take-le (6 * (N + 1) - 5 * (N + 1)) (drop (5 * (N + 1)) w4) (omega (arith, length-drop (5 * (N + 1)) w4, size4, q.regions, q.work_in))
            ∙ omega arith

        -- the image stands at word 5 (N + 1)
        part-is : take (N + 1) (take (6 * (N + 1) - 5 * (N + 1)) (drop (5 * (N + 1)) w4)) ≡ image p n v (mul (polynomial n v a) (polynomial n v b))
        part-is =
            let part = take (6 * (N + 1) - 5 * (N + 1)) (drop (5 * (N + 1)) w4) in
            take_all (N + 1) part (omega (arith, long_part))
            ∙ ext_get_or 0 part (image p n v AB) (long_part ∙ sym long_image)
            (λ i l.
            get_or-take (6 * (N + 1) - 5 * (N + 1)) (drop (5 * (N + 1)) w4) i 0 (omega (arith, long_part))
            ∙ get_or-drop (5 * (N + 1)) w4 i 0
            ∙ m.result.word i (omega (arith, ap length whole, long_image, long_part))
            ∙ ap (λ (z : List ℕ). get_or z i 0) whole)

        result_is : (res : List ℕ) → res ≡ over result 0 (take (N + 1) (take (6 * (N + 1) - 5 * (N + 1)) (drop (5 * (N + 1)) w4)))
            → res ≡ image p n v (mul (polynomial n v a) (polynomial n v b)) ++ drop (N + 1) result
        result_is res e = e ∙ ap (over result 0) part-is ∙ over-front_is result (image p n v AB) (N + 1) long_image

        kept4 : (i : ℕ) → W ≤ i → get_or w4 i 0 ≡ get_or w i 0
        kept4 i l =
            m.after i (omega (arith, q.regions))
            ∙ above3 i (omega (arith, q.regions))
            ∙ s.outside.above i (omega (arith, q.regions))
            ∙ f.rest i (λ u k. omega (arith, q.regions, q.sums_in)) (λ u k. omega (arith, q.regions))

        work_is : (fin : List ℕ) → fin ≡ over w4 0 (replicate (W - 0) 0) → fin ≡ replicate W 0 ++ drop W w
        work_is fin e =
            let z : W - 0 ≡ W = omega arith in
            e
            ∙ ap (λ (k : ℕ). over w4 0 (replicate k 0)) z
            ∙ over-front_is w4 (replicate W 0) W (length-replicate {A = ℕ} W 0)
            ∙ ap (λ (d : List ℕ). replicate W 0 ++ d) (drop-same W w w4 size4 kept4)

      -- the same, where the copy left the words u and the first factor has k entries
      pub handed : (u : List ℕ) (k : ℕ) → u ≡ w3 → k ≡ get_or a 0 0 → (w4 : List ℕ) (pairs : ℕ) →
          ((ys : List ℕ) → Listed n v N ys (3 * (N + 1)) u ends → Multiplied n v N n (2 * (N + 1)) k (5 * (N + 1)) p ys u w4 pairs) →
          Handed n v N W p a b result w w4 pairs
      handed u k eu ek w4 pairs done =
          let d = rw (eu, ek) at done in
          record { size = size4 w4 pairs d; pairs_are = pairs_are w4 pairs d; result_is = result_is w4 pairs d; work_is = work_is w4 pairs d }
