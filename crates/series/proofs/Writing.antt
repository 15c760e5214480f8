-- The image of a polynomial is a series, it reads back to a polynomial that agrees, and agreeing
-- polynomials have the same image. So words that pass the check are the image of the polynomial
-- that they read to.
use Rattle.std.proofs.Common.{◌≡◌, sym, ap, ◌∙◌, subst, List, [], ◌++◌, append-nil, ℕ, suc, ◌+◌, ◌%◌, ◌≤◌, ◌<◌, mod-lt, mod-eq_of_lt, arith, length, take}
use Rattle.std.proofs.Math.Nat.{mod-mod}
use Rattle.algebra.specs.Polynomial.{Polynomial, coefficient_of}
use Rattle.algebra.specs.Agreement.{Agree, Within}
use Rattle.algebra.proofs.Modulo.{mod-cong}
use Rattle.algebra.proofs.Coefficients.{agree_to_same}
use Rattle.monomial.specs.Count.{count}
use Rattle.answer.specs.Refusals.{passed}
use Rattle.series.specs.Image.{entries, coefficient_at, monomial_at, polynomial, packed, image_of, image}
use Rattle.series.specs.Series.{Ascending, IsSeries}
use Rattle.series.specs.Faults.{first_fault, series_check}
use Rattle.series.proofs.Entries.{ascending_few, coefficient_at-reduced}
use Rattle.series.proofs.Packed.{packed-cong, packed-ascending, coefficient_at-packed, packed-canonical}
use Rattle.series.proofs.Series.{length-image_of, entries-image_of, image_of-series, series_to_fault_none, series_to_passed}
use Rattle.series.proofs.Positions.{order-monomial_at, agree_by_positions}
use Rattle.series.proofs.Reading.{coefficient_of-polynomial, polynomial-within}

module _ (p n v : ℕ) where
  abbrev N : ℕ
  N = count n v

  -- the coefficient that the image of P has at position q
  abbrev residue_at : Polynomial → ℕ → ℕ
  residue_at P q = coefficient_of (monomial_at n v q) P % p

  -- numbers that are the coefficients of P modulo p are packed into the image of P
  pub image_of-packed : (f : ℕ → ℕ) (P : Polynomial)
      → ((q : ℕ) → 0 < q → q ≤ count n v → f q ≡ coefficient_of (monomial_at n v q) P % p)
      → image_of (count n v) (packed f (count n v)) ≡ image p n v P
  unfolding image
  image_of-packed f P e = ap (image_of N) (packed-cong f (residue_at P) N e)

  -- agreeing polynomials have the same image
  pub image-agree : {P Q : Polynomial} → Agree p (suc n) P Q → image p n v P ≡ image p n v Q
  unfolding image
  image-agree {P} {Q} a =
      let s = agree_to_same p n a in
      image_of-packed (residue_at P) Q
      (λ q l h. s.at_low (monomial_at n v q) (order-monomial_at n v q l h))

  module _ (pos : 0 < p) (small : p ≤ 65536) where
    -- ---- the image is a series

    module _ (P : Polynomial) where
      reduced : (q : ℕ) → 0 < q → q ≤ count n v → residue_at P q < p
      reduced q l h = mod-lt (coefficient_of (monomial_at n v q) P) pos

      ascending : Ascending p N 0 (packed (residue_at P) N)
      ascending = packed-ascending p small (residue_at P) N reduced

      pub length-image : length (image p n v P) ≡ count n v + 1
      unfolding image
      length-image =
          length-image_of N (packed (residue_at P) N)
          (omega (arith, ascending_few ascending (omega arith)))

      module _ (rest : List ℕ) where
        pub image-series : IsSeries p (count n v) (image p n v P ++ rest)
        unfolding image
        image-series = image_of-series p N ascending rest

        pub image-fault_none : first_fault p (count n v) (image p n v P ++ rest) ≡ count n v + 1
        image-fault_none = series_to_fault_none p N image-series

        pub image-passed : (a c : ℕ)
            → series_check p (count n v) a c (image p n v P ++ rest) ≡ passed
        image-passed a c = series_to_passed p N a c (image p n v P ++ rest) image-series

        -- ---- what is written is read back

        pub coefficient_at-image : (q : ℕ) → 0 < q → q ≤ count n v
            → coefficient_at (entries (image p n v P ++ rest)) q
            ≡ coefficient_of (monomial_at n v q) P % p
        unfolding image
        coefficient_at-image q l h =
            let es = packed (residue_at P) N in
            ap (λ (x : List ℕ). coefficient_at x q) (entries-image_of N es rest)
            ∙ coefficient_at-packed p small (residue_at P) N reduced q l h

        pub read_image : Within v P → Agree p (suc n) (polynomial n v (image p n v P ++ rest)) P
        read_image w =
            let s = image-series in
            agree_by_positions n v p (polynomial n v (image p n v P ++ rest)) P
            (polynomial-within n v s) w
            (λ q l h.
            mod-cong p (coefficient_of-polynomial n v s q l h ∙ coefficient_at-image q l h)
            ∙ mod-mod (coefficient_of (monomial_at n v q) P) p)

      -- the same with no words behind the image

      pub image-series_alone : IsSeries p (count n v) (image p n v P)
      image-series_alone = subst (IsSeries p N) (append-nil (image p n v P)) (image-series [])

      pub read_image_alone : Within v P → Agree p (suc n) (polynomial n v (image p n v P)) P
      read_image_alone w =
          subst (λ (x : List ℕ). Agree p (suc n) (polynomial n v x) P) (append-nil (image p n v P))
          (read_image [] w)

    -- ---- a series is the image of what it reads to

    pub series-image : {ws : List ℕ} → IsSeries p (count n v) ws
        → take (count n v + 1) ws ≡ image p n v (polynomial n v ws)
    series-image {ws} s =
        s.words
        ∙ ap (image_of N) (sym (packed-canonical p N pos small s.ascending))
        ∙ image_of-packed (coefficient_at (entries ws)) (polynomial n v ws)
        (λ q l h.
        sym (mod-eq_of_lt (coefficient_at-reduced pos s.ascending q))
        ∙ mod-cong p (sym (coefficient_of-polynomial n v s q l h)))

    -- two series that read to agreeing polynomials are the same words
    pub series-unique : {ws us : List ℕ} → IsSeries p (count n v) ws → IsSeries p (count n v) us
        → Agree p (suc n) (polynomial n v ws) (polynomial n v us)
        → take (count n v + 1) ws ≡ take (count n v + 1) us
    series-unique s t a = series-image s ∙ image-agree a ∙ sym (series-image t)
