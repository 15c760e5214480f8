-- The products that a walk keeps, cut at an order: the image of P cut at order `cut` is that of
-- the terms of P up to there. It reads back to a polynomial that agrees with P below order cut +
-- 1, and polynomials that agree so far have the same cut image. So a region that holds the cut
-- image of a product, multiplied by a component and cut, holds that of the longer product.
use Rattle.std.proofs.Common.{ℕ, suc, ◌+◌, ◌*◌, ◌%◌, ◌≤◌, ◌<◌, ◌≡◌, refl, sym, ap, ◌∙◌, Bool, true, false, List, [], ◌∷◌, ◌++◌, mul-one, mul-zero, arith, leb, le→leb, leb→le, length, get_or}
use Rattle.std.proofs.Math.Nat.{zero-mod}
use Rattle.std.proofs.Math.Decide.{dec_le}
use Rattle.algebra.specs.Polynomial.{Monomial, Polynomial, order, same, indicator, coefficient_of}
use Rattle.algebra.specs.Agreement.{Agree, Within}
use Rattle.algebra.proofs.Booleans.{indicator-yes, indicator-no}
use Rattle.algebra.proofs.Modulo.{mod-cong}
use Rattle.algebra.proofs.Trim.{same-order}
use Rattle.algebra.proofs.Weigh.{coefficient-nil, coefficient-cons}
use Rattle.algebra.proofs.Agreement.{agree_trans, agree_down}
use Rattle.algebra.proofs.Coefficients.{agree_to_same, same_to_agree}
use Rattle.monomial.specs.Count.{count}
use Rattle.monomial.specs.Enumeration.{only}
use Rattle.series.specs.Image.{position, coefficient, entries, coefficient_at, monomial_at}
use Rattle.series.specs.Image.{polynomial, image_of, image}
use Rattle.series.specs.Series.{IsSeries}
use Rattle.series.proofs.Entries.{ascending_at, ascending_order}
use Rattle.series.proofs.Packed.{packed-cong}
use Rattle.series.proofs.Writing.{image-agree, image-series, length-image, coefficient_at-image}
use Rattle.series.proofs.Writing.{read_image}
use Rattle.product.specs.Pairs.{order_of}
use Rattle.product.specs.Multiply.{image_to}
use Rattle.substitution.specs.Walk.{low_terms}
use Rattle.substitution.proofs.Truncated.{low_terms-within, low_terms-coefficient}
use Rattle.substitution.proofs.Truncated.{low_terms-agree}
use Rattle.substitution.proofs.Searching.{coefficient_at-only}

-- ---- the terms up to an order, coefficient by coefficient

low_terms-none : (cut : ℕ) (P : Polynomial) (d : Monomial) → cut < order d
    → coefficient_of d (low_terms cut P) ≡ 0
unfolding low_terms only
low_terms-none cut [] d l = coefficient-nil d
low_terms-none cut (t ∷ P) d l = go (leb (order t.exponents) cut) refl (low_terms-none cut P d l)
  where
    e : Monomial
    e = t.exponents

    go : (b : Bool) → leb (order e) cut ≡ b → coefficient_of d (low_terms cut P) ≡ 0
        → coefficient_of d (only b (t ∷ []) ++ low_terms cut P) ≡ 0
    go false q ih = ih
    go true q ih =
        let low : order e ≤ cut = leb→le (order e) cut (rw q tt) in
        let z : indicator (same d e) ≡ 0 =
        indicator-no (same d e) (λ s. omega (arith, same-order d e s)) in
        coefficient-cons d t (low_terms cut P)
        ∙ omega (arith, ih, ap (λ (x : ℕ). t.coefficient * x) z)

pub cut_coefficient : (cut : ℕ) (P : Polynomial) (d : Monomial)
    → coefficient_of d P * indicator (leb (order d) cut) ≡ coefficient_of d (low_terms cut P)
cut_coefficient cut P d = go (dec_le (order d) cut)
  where
    c : ℕ
    c = coefficient_of d P

    go : Dec (order d ≤ cut) → c * indicator (leb (order d) cut) ≡ coefficient_of d (low_terms cut P)
    go (yes l) =
        ap (λ (x : ℕ). c * x) (indicator-yes (leb (order d) cut) (le→leb (order d) cut l))
        ∙ mul-one c
        ∙ sym (low_terms-coefficient cut P d l)
    go (no l) =
        ap (λ (x : ℕ). c * x) (indicator-no (leb (order d) cut) (λ t. l (leb→le (order d) cut t)))
        ∙ mul-zero c
        ∙ sym (low_terms-none cut P d (omega arith))

-- the terms up to an order of polynomials that agree so far agree altogether
low_terms-cong : (p cut n : ℕ) {P Q : Polynomial} → Agree p (suc cut) P Q
    → Agree p (suc n) (low_terms cut P) (low_terms cut Q)
low_terms-cong p cut n {P} {Q} a =
    same_to_agree p n (record { at_low = λ m l. go m (dec_le (order m) cut) })
  where
    go : (m : Monomial) → Dec (order m ≤ cut)
        → coefficient_of m (low_terms cut P) % p ≡ coefficient_of m (low_terms cut Q) % p
    go m (yes l) =
        mod-cong p (low_terms-coefficient cut P m l)
        ∙ (agree_to_same p cut a).at_low m l
        ∙ mod-cong p (sym (low_terms-coefficient cut Q m l))
    go m (no l) =
        mod-cong p
        (low_terms-none cut P m (omega arith) ∙ sym (low_terms-none cut Q m (omega arith)))

-- ---- the cut image

module _ (p n v cut : ℕ) where
  abbrev N : ℕ
  N = count n v

  image_to-low : (P : Polynomial) → image_to p n v cut P ≡ image p n v (low_terms cut P)
  unfolding image_to image
  image_to-low P =
      ap (image_of N)
      (packed-cong _ _ N (λ q l h. mod-cong p (cut_coefficient cut P (monomial_at n v q))))

  pub image_to-agree : {P Q : Polynomial} → Agree p (suc cut) P Q
      → image_to p n v cut P ≡ image_to p n v cut Q
  image_to-agree {P} {Q} a =
      image_to-low P ∙ image-agree p n v (low_terms-cong p cut n a) ∙ sym (image_to-low Q)

  module _ (pos : 0 < p) (small : p ≤ 65536) (P : Polynomial) where
    pub length-image_to : length (image_to p n v cut P) ≡ count n v + 1
    length-image_to = ap length (image_to-low P) ∙ length-image p n v pos small (low_terms cut P)

    module _ (rest : List ℕ) where
      whole : image_to p n v cut P ++ rest ≡ image p n v (low_terms cut P) ++ rest
      whole = ap (λ (x : List ℕ). x ++ rest) (image_to-low P)

      pub image_to-series : IsSeries p (count n v) (image_to p n v cut P ++ rest)
      image_to-series = rw whole (image-series p n v pos small (low_terms cut P) rest)

      pub coefficient_at-image_to : (q : ℕ) → 0 < q → q ≤ count n v
          → coefficient_at (entries (image_to p n v cut P ++ rest)) q
          ≡ coefficient_of (monomial_at n v q) P * indicator (leb (order (monomial_at n v q)) cut) % p
      coefficient_at-image_to q l h =
          ap (λ (x : List ℕ). coefficient_at (entries x) q) whole
          ∙ coefficient_at-image p n v pos small (low_terms cut P) rest q l h
          ∙ mod-cong p (sym (cut_coefficient cut P (monomial_at n v q)))

      pub read_image_to : Within v P → cut ≤ n
          → Agree p (suc cut) (polynomial n v (image_to p n v cut P ++ rest)) P
      read_image_to w c =
          rw whole
          (agree_trans p
          (agree_down p (omega arith)
          (read_image p n v pos small (low_terms cut P) rest (low_terms-within cut v P w)))
          (low_terms-agree cut p P))

      -- no entry is of a higher order
      pub image_to-orders : (i : ℕ) → i < length (entries (image_to p n v cut P ++ rest))
          → order_of n v (get_or (entries (image_to p n v cut P ++ rest)) i 0) ≤ cut
      unfolding order_of
      image_to-orders i l = go (dec_le (order m) cut)
        where
          es : List ℕ
          es = entries (image_to p n v cut P ++ rest)

          s : IsSeries p N (image_to p n v cut P ++ rest)
          s = image_to-series

          w : ℕ
          w = get_or es i 0

          m : Monomial
          m = monomial_at n v (position w)

          only-i : (j : ℕ) → j < length es → position (get_or es j 0) ≡ position w → j ≡ i
          only-i j h e = decide (dec_le j i) (dec_le i j)
            where
              decide : Dec (j ≤ i) → Dec (i ≤ j) → j ≡ i
              decide (yes a) (yes b) = omega arith
              decide (no a) b =
                  absurd (omega (arith, ascending_order s.ascending i j (omega arith) h))
              decide (yes a) (no b) =
                  absurd (omega (arith, ascending_order s.ascending j i (omega arith) l))

          go : Dec (order m ≤ cut) → order m ≤ cut
          go (yes k) = k
          go (no k) =
              let x = ascending_at s.ascending i l in
              let z : coefficient_of m P * indicator (leb (order m) cut) ≡ 0 =
              cut_coefficient cut P m ∙ low_terms-none cut P m (omega arith) in
              let c : coefficient w ≡ 0 =
              sym (coefficient_at-only es (position w) i l refl only-i)
              ∙ coefficient_at-image_to (position w) (omega (arith, x.above)) x.inside
              ∙ mod-cong p z
              ∙ zero-mod p in
              absurd (omega (arith, x.nonzero))
