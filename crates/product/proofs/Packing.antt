-- An image written entry by entry: after position j the entries of positions 1 to j stand from word at + 1 on;
-- then zeros follow up to word at + N, and word `at` gets their number.
use Rattle.std.proofs.Common.{◌≡◌, refl, sym, ap, ap₂, ◌∙◌, Bool, true, false, List, [], ◌∷◌, ◌++◌, append-nil, ℕ, zero, suc, ◌+◌, ◌-◌, ◌≤◌, ◌<◌, add-one, arith, ltb, length, set, replicate, take, drop, length-append, length-drop, drop_of_length-le, length-take-le, take-take, drop-drop}
use borrow.Rule.Slice.PartMut.{put_mid}
use Rattle.std.proofs.Math.ListN.{length-replicate}
use Rattle.std.proofs.lemmas.List.{drop-take}
use Rattle.monomial.specs.Enumeration.{only}
use Rattle.series.specs.Image.{entry, entry_of, packed, image_of}
use Rattle.series.specs.Over.{over}
use Rattle.series.proofs.Packed.{packed_zero, packed-suc}
use Rattle.series.proofs.Series.{length-image_of}
use Rattle.series.proofs.Over.{length_over, over_none, over-append, over-front, over-all, part-over, behind_over}
use Rattle.product.proofs.Parts.{over_part}

pub entry_of-few : (q c : ℕ) → length (entry_of q c) ≤ 1
unfolding entry_of only
entry_of-few q c = go (ltb 0 c)
  where
    go : (b : Bool) → length (only b (entry q c ∷ [])) ≤ 1
    go true = omega arith
    go false = omega arith

pub packed-few : (f : ℕ → ℕ) (m : ℕ) → length (packed f m) ≤ m
packed-few f zero = omega (arith, ap length (packed_zero f))
packed-few f (suc m) =
    omega (arith, ap length (packed-suc f m), length-append (packed f m) (entry_of (suc m) (f (suc m))), packed-few f m, entry_of-few (suc m) (f (suc m)))

-- the entries of positions 1 to j are written
pub record Packing (w₀ : List ℕ) (f : ℕ → ℕ) (N at : ℕ) (w : List ℕ) (i j : ℕ) : Type 0 where
  pub high : j ≤ N
  pub size : length w ≡ length w₀
  pub next : i ≡ at + 1 + length (packed f j)
  pub is : w ≡ over w₀ (at + 1) (packed f j)

module _ (w₀ : List ℕ) (f : ℕ → ℕ) (N at : ℕ) (fits : at + (N + 1) ≤ length w₀) where
  pub packing_none : Packing w₀ f N at w₀ (at + 1) 0
  packing_none =
      record {
        high = omega arith;
        size = refl;
        next = omega (arith, ap length (packed_zero f));
        is = sym (ap (over w₀ (at + 1)) (packed_zero f) ∙ over_none w₀ (at + 1));
      }

  pub packing_more : (w w' : List ℕ) (i i' j c : ℕ) → Packing w₀ f N at w i j → j < N → c ≡ f (j + 1) →
      i' ≡ i + length (entry_of (j + 1) c) → w' ≡ over w i (entry_of (j + 1) c) → Packing w₀ f N at w' i' (j + 1)
  packing_more w w' i i' j c k l ce ei ew =
      record { high = omega arith; size = size'; next = next'; is = is' }
    where
      es : List ℕ
      es = packed f j

      more : packed f (j + 1) ≡ es ++ entry_of (j + 1) c
      more = ap (packed f) (add-one j) ∙ packed-suc f j ∙ ap₂ (λ (q x : ℕ). es ++ entry_of q x) (sym (add-one j)) (ap f (sym (add-one j)) ∙ sym ce)

      next' : i' ≡ at + 1 + length (packed f (j + 1))
      next' = omega (arith, ei, k.next, ap length more, length-append es (entry_of (j + 1) c))

      is' : w' ≡ over w₀ (at + 1) (packed f (j + 1))
      is' = ew ∙ ap₂ (λ (x : List ℕ) (y : ℕ). over x y (entry_of (j + 1) c)) k.is k.next
          ∙ over-append w₀ (at + 1) es (entry_of (j + 1) c) (omega arith) ∙ ap (over w₀ (at + 1)) (sym more)

      size' : length w' ≡ length w₀
      size' = ap length is' ∙ length_over w₀ (at + 1) (packed f (j + 1)) (omega (arith, packed-few f (j + 1)))

  pub packing_done : (w w' : List ℕ) (i : ℕ) → Packing w₀ f N at w i N → w' ≡ over w i (replicate (at + N + 1 - i) 0) →
      set w' at (i - at - 1) ≡ over w₀ at (image_of N (packed f N))
  unfolding image_of
  packing_done w w' i k ew =
      ap₂ (λ (x : List ℕ) (y : ℕ). set x at y) all m
      ∙ over-front w₀ at (length es) (es ++ zs) (omega (arith, length-append es zs, length-replicate {A = ℕ} (N - length es) 0, packed-few f N))
    where
      es : List ℕ
      es = packed f N

      zs : List ℕ
      zs = replicate (N - length es) 0

      m : i - at - 1 ≡ length es
      m = omega (arith, k.next)

      left : at + N + 1 - i ≡ N - length es
      left = omega (arith, k.next)

      all : w' ≡ over w₀ (at + 1) (es ++ zs)
      all = ew ∙ ap (λ (y : ℕ). over w i (replicate y 0)) left ∙ ap₂ (λ (x : List ℕ) (y : ℕ). over x y zs) k.is k.next
          ∙ over-append w₀ (at + 1) es zs (omega arith)

  pub packing_few : (w : List ℕ) (i j : ℕ) → Packing w₀ f N at w i j → (at + 1 ≤ i) × (i ≤ at + 1 + j)
  packing_few w i j k = (omega (arith, k.next), omega (arith, k.next, packed-few f j))

  pub packing_size : (w w' : List ℕ) (i : ℕ) → Packing w₀ f N at w i N → w' ≡ over w i (replicate (at + N + 1 - i) 0) →
      length (set w' at (i - at - 1)) ≡ length w₀
  packing_size w w' i k ew =
      ap length (packing_done w w' i k ew) ∙ length_over w₀ at (image_of N (packed f N)) (omega (arith, length-image_of N (packed f N) (packed-few f N)))

-- ---- what `series::write::finish` leaves

module _ (w₀ : List ℕ) (f : ℕ → ℕ) (N : ℕ) where
  few : length (packed f N) ≤ N
  few = packed-few f N

  -- of a slice that begins with the packed series
  pub packing_finished : N + 1 ≤ length w₀ → (w : List ℕ) (i : ℕ) → Packing w₀ f N 0 w i N
      → image_of N (take (i - 1) (drop 1 w)) ++ drop (N + 1) w ≡ image_of N (packed f N) ++ drop (N + 1) w₀
  packing_finished fits w i k =
      rw k.is (ap₂ (λ (x y : List ℕ). image_of N x ++ y)
      (part-over w₀ 1 (packed f N) (i - 1) (omega (arith, few)) (omega (arith, k.next)))
      (behind_over w₀ 1 (packed f N) (N + 1) (omega arith) (omega (arith, few))))

  -- of the part from word at on
  pub packing_finished_part : (at : ℕ) → at + (N + 1) ≤ length w₀ → (w : List ℕ) (i : ℕ) → Packing w₀ f N at w i N
      → (s : List ℕ) → s ≡ image_of N (take (i - at - 1) (drop 1 (take (at + N + 1 - at) (drop at w))))
      ++ drop (N + 1) (take (at + N + 1 - at) (drop at w))
      → put_mid at (at + N + 1 - at) w s ≡ over w₀ at (image_of N (packed f N))
  packing_finished_part at fits w i k s e =
      over_part w at (at + N + 1 - at) s (omega (arith, ap length is, long))
      ∙ ap₂ (λ (x y : List ℕ). over x at y) k.is is
      ∙ over-all w₀ at (at + 1) es (image_of N es) (omega arith) (omega (arith, few, long)) (omega (arith, long))
    where
      es : List ℕ
      es = packed f N

      long : length (image_of N es) ≡ N + 1
      long = length-image_of N es few

      n : at + N + 1 - at ≡ 1 + N
      n = omega arith

      part : List ℕ
      part = take (1 + N) (drop at w)

      there : take (i - at - 1) (drop 1 part) ≡ es
      there =
          ap (take (i - at - 1)) (drop-take 1 N (drop at w) ∙ ap (take N) (drop-drop 1 at w))
          ∙ take-take (i - at - 1) N (drop (at + 1) w) (omega (arith, k.next, few))
          ∙ ap (λ (x : List ℕ). take (i - at - 1) (drop (at + 1) x)) k.is
          ∙ part-over w₀ (at + 1) es (i - at - 1) (omega (arith, few)) (omega (arith, k.next))

      nothing : drop (N + 1) part ≡ []
      nothing =
          drop_of_length-le part {i = N + 1}
          (omega (arith, length-take-le (1 + N) (drop at w) (omega (arith, length-drop at w, k.size))))

      is : s ≡ image_of N es
      is = (rw n at e) ∙ ap₂ (λ (x y : List ℕ). image_of N x ++ y) there nothing ∙ append-nil (image_of N es)
