-- The bracket from beginning to end: orders, cleared sums, all pairs, and the sums packed into an
-- image, which is copied to the result.
use Rattle.std.proofs.Common.{◌≡◌, sym, ap, ◌∙◌, List, ◌++◌, ℕ, ◌+◌, ◌-◌, ◌*◌, ◌/◌, ◌%◌, ◌≤◌, ◌<◌, arith, length, get_or, take, drop, length-drop, replicate, get_or-take, get_or-drop, length-take-le, ext_get_or, take_all}
use Rattle.std.proofs.Math.ListN.{length-replicate, get_or-replicate}
use Rattle.algebra.specs.Polynomial.{Polynomial, bracket}
use Rattle.series.specs.Image.{polynomial, packed, image_of, image}
use Rattle.series.specs.Over.{over}
use Rattle.series.proofs.Writing.{image_of-packed, length-image}
use Rattle.series.proofs.Over.{over-in, over-above, length_over}
use Rattle.product.specs.Pairs.{sum_at}
use Rattle.product.specs.List.{OrdersFilled}
use Rattle.product.specs.Core.{ProductIn}
use Rattle.product.proofs.Prepared.{ready_same}
use Rattle.product.proofs.Whole.{drop-same, over-front_is}
use Rattle.bracket.specs.Sums.{PairsIn, Summed}

pub few : {n v N E W p : ℕ} {t a b result w : List ℕ} → ProductIn n v N E W p t a b result w
    → N ≤ 8008
few q = omega (arith, q.N_is, q.right.allowed.few)

module _ {n v N E W p : ℕ} {t a b result w : List ℕ}
    (q : ProductIn n v N E W p t a b result w) (above : 1 < p) where
  abbrev B : Polynomial
  B = bracket p (v / 2) (polynomial n v a) (polynomial n v b)

  module _ {w1 : List ℕ} (f : OrdersFilled n v N E (2 * (N + 1)) (6 * (N + 1)) t w w1) where
    pub clear_asks : (0 ≤ 2 * (N + 1)) × (2 * (N + 1) ≤ length w1)
    clear_asks = (omega arith, omega (arith, f.size, q.regions, q.work_in))

    module _ {w2 : List ℕ} (e2 : w2 ≡ over w1 0 (replicate (2 * (N + 1) - 0) 0)) where
      abbrev zeros : List ℕ
      zeros = replicate (2 * (N + 1) - 0) 0

      long_zeros : length (replicate {A = ℕ} (2 * (N + 1) - 0) 0) ≡ 2 * (N + 1)
      long_zeros = length-replicate {A = ℕ} (2 * (N + 1) - 0) 0 ∙ omega arith

      size2 : length w2 ≡ length w1
      size2 = ap length e2 ∙ length_over w1 0 zeros (omega (arith, long_zeros, clear_asks.1))

      above2 : (i : ℕ) → 2 * (N + 1) ≤ i → get_or w2 i 0 ≡ get_or w1 i 0
      above2 i l =
          ap (λ (x : List ℕ). get_or x i 0) e2
          ∙ over-above w1 0 zeros i (omega arith) (omega (arith, long_zeros))

      zero-at : (i : ℕ) → i < 2 * (N + 1) → get_or w2 i 0 ≡ 0
      zero-at i l =
          let z : 0 + i ≡ i = omega arith in
          ap (λ (x : List ℕ). get_or x i 0) e2
          ∙ (rw z at (over-in w1 0 zeros i (omega arith) (omega (arith, long_zeros))))
          ∙ get_or-replicate (2 * (N + 1) - 0) i 0 0 (omega arith)

      sum-zero : (j : ℕ) → j < N + 1 → sum_at w2 j ≤ 0 * 4294967296
      unfolding sum_at
      sum-zero j l = omega (arith, zero-at (2 * j) (omega arith), zero-at (2 * j + 1) (omega arith))

      pub pairs_ask : PairsIn n v N E p t a b result w2
      pairs_ask =
          record {
            factors = record {
              right = q.right;
              N_is = q.N_is;
              E_is = q.E_is;
              modulus_low = above;
              modulus_high = q.modulus_high;
              first = q.first;
              second = q.second;
            };
            summing = record {
              ready = ready_same n v N E (6 * (N + 1)) 0 t w1 w2 size2
                  (λ i l u. above2 i (omega arith)) f.ready;
              bound = sum-zero;
              result_in = q.result_in;
            };
          }

      module _ {w3 : List ℕ}
          (s : Summed n v N p (bracket p (v / 2) (polynomial n v a) (polynomial n v b)) w2 w3) where
        size3 : length w3 ≡ length w
        size3 = s.size ∙ size2 ∙ f.size

        pub compress_asks : (2 * (N + 1) ≤ 5 * (N + 1)) × (5 * (N + 1) + (N + 1) ≤ length w3)
            × (N < 65536) × (0 < p) × (p ≤ 65536)
        compress_asks = (
          omega arith,
          omega (arith, size3, q.regions, q.work_in),
          omega (arith, few q),
          omega arith,
          q.modulus_high,
        )

        -- the sums are packed into the image of the bracket
        packed-is : image_of N (packed (λ j. sum_at w3 j % p) N)
            ≡ image p n v (bracket p (v / 2) (polynomial n v a) (polynomial n v b))
        packed-is =
            ap (λ (k : ℕ). image_of k (packed (λ j. sum_at w3 j % p) k)) q.N_is
            ∙ image_of-packed p n v (λ j. sum_at w3 j % p) B
            (λ j l h. s.sums j l (omega (arith, q.N_is)))

        long_image : length (image p n v B) ≡ N + 1
        long_image =
            length-image p n v q.modulus_low q.modulus_high B
            ∙ ap (λ (k : ℕ). k + 1) (sym q.N_is)

        module _ {w4 : List ℕ}
            (e4 : w4 ≡ over w3 (5 * (N + 1)) (image_of N (packed (λ j. sum_at w3 j % p) N))) where
          written : w4 ≡ over w3 (5 * (N + 1)) (image p n v B)
          written = e4 ∙ ap (over w3 (5 * (N + 1))) packed-is

          pub size4 : length w4 ≡ length w
          size4 =
              ap length written
              ∙ length_over w3 (5 * (N + 1)) (image p n v B)
              (omega (arith, long_image, compress_asks.1))
              ∙ size3

          pub part-inside : 6 * (N + 1) ≤ length w4
          part-inside = omega (arith, size4, q.regions, q.work_in)

          abbrev part : List ℕ
          part = take (6 * (N + 1) - 5 * (N + 1)) (drop (5 * (N + 1)) w4)

          long_part : length (take (6 * (N + 1) - 5 * (N + 1)) (drop (5 * (N + 1)) w4)) ≡ N + 1
          long_part =
              length-take-le (6 * (N + 1) - 5 * (N + 1)) (drop (5 * (N + 1)) w4)
              (omega (arith, length-drop (5 * (N + 1)) w4, part-inside))
              ∙ omega arith

          -- the image stands at word 5 (N + 1)
          part-is : take (N + 1) part ≡ image p n v B
          part-is =
              take_all (N + 1) part (omega (arith, long_part))
              ∙ ext_get_or 0 part (image p n v B) (long_part ∙ sym long_image)
              (λ i l.
              get_or-take (6 * (N + 1) - 5 * (N + 1)) (drop (5 * (N + 1)) w4) i 0
              (omega (arith, long_part))
              ∙ get_or-drop (5 * (N + 1)) w4 i 0
              ∙ ap (λ (x : List ℕ). get_or x (5 * (N + 1) + i) 0) written
              ∙ over-in w3 (5 * (N + 1)) (image p n v B) i (omega (arith, compress_asks.1))
              (omega (arith, long_image, long_part)))

          pub result_is : (result1 : List ℕ) {fin : List ℕ}
              → drop (N + 1) result1 ≡ drop (N + 1) result
              → fin ≡ over result1 0 (take (N + 1)
              (take (6 * (N + 1) - 5 * (N + 1)) (drop (5 * (N + 1)) w4)))
              → fin ≡ image p n v (bracket p (v / 2) (polynomial n v a) (polynomial n v b))
              ++ drop (N + 1) result
          result_is result1 same e =
              e
              ∙ ap (over result1 0) part-is
              ∙ over-front_is result1 (image p n v B) (N + 1) long_image
              ∙ ap (λ (x : List ℕ). image p n v B ++ x) same

          kept4 : (i : ℕ) → W ≤ i → get_or w4 i 0 ≡ get_or w i 0
          kept4 i l =
              ap (λ (x : List ℕ). get_or x i 0) written
              ∙ over-above w3 (5 * (N + 1)) (image p n v B) i (omega (arith, compress_asks.1))
              (omega (arith, long_image, q.regions))
              ∙ s.kept i (omega (arith, q.regions))
              ∙ above2 i (omega (arith, q.regions))
              ∙ f.rest i (λ u k. omega (arith, q.regions, q.sums_in))
              (λ u k. omega (arith, q.regions))

          pub work_is : {fin : List ℕ} → fin ≡ over w4 0 (replicate (W - 0) 0)
              → fin ≡ replicate W 0 ++ drop W w
          work_is e =
              let z : W - 0 ≡ W = omega arith in
              e
              ∙ ap (λ (k : ℕ). over w4 0 (replicate k 0)) z
              ∙ over-front_is w4 (replicate W 0) W (length-replicate {A = ℕ} W 0)
              ∙ ap (λ (d : List ℕ). replicate W 0 ++ d) (drop-same W w w4 size4 kept4)
