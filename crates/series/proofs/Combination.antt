-- Sum, difference and multiple, position by position: the coefficient of a sum is the sum of the
-- coefficients.
use Rattle.std.proofs.Common.{◌≡◌, sym, ap, ap₂, ◌∙◌, List, ℕ, ◌+◌, ◌-◌, ◌*◌, ◌%◌}
use Rattle.algebra.specs.Polynomial.{Polynomial, coefficient_of, add, scale, difference}
use Rattle.algebra.proofs.Weigh.{coefficient-add, coefficient-scale}
use Rattle.algebra.proofs.Modulo.{mod-cong}
use Rattle.monomial.specs.Count.{count}
use Rattle.series.specs.Image.{entries, coefficient_at, monomial_at, polynomial, packed, image_of, image}
use Rattle.series.specs.Series.{IsSeries}
use Rattle.series.proofs.Reading.{coefficient_of-polynomial}
use Rattle.series.proofs.Writing.{image_of-packed}

-- the image whose coefficient at position q is f q
abbrev pub image_from : ℕ → ℕ → (ℕ → ℕ) → List ℕ
image_from n v f = image_of (count n v) (packed f (count n v))

module _ (p n v : ℕ) {ws : List ℕ} (s : IsSeries p (count n v) ws) where
  abbrev P : Polynomial
  P = polynomial n v ws

  abbrev first_at : ℕ → ℕ
  first_at q = coefficient_at (entries ws) q

  pub multiple_image : (c : ℕ)
      → image_from n v (λ q. (c * coefficient_at (entries ws) q) % p)
      ≡ image p n v (scale c (polynomial n v ws))
  multiple_image c =
      image_of-packed p n v (λ q. (c * first_at q) % p) (scale c P)
      (λ q l h.
      mod-cong p
      (ap (λ (x : ℕ). c * x) (sym (coefficient_of-polynomial n v s q l h))
      ∙ sym (coefficient-scale (monomial_at n v q) c P)))

  module _ {us : List ℕ} (t : IsSeries p (count n v) us) where
    abbrev Q : Polynomial
    Q = polynomial n v us

    abbrev second_at : ℕ → ℕ
    second_at q = coefficient_at (entries us) q

    -- the first series, and d times the second
    pub sum-image : (d : ℕ)
        → image_from n v (λ q. (coefficient_at (entries ws) q + d * coefficient_at (entries us) q) % p)
        ≡ image p n v (add (polynomial n v ws) (scale d (polynomial n v us)))
    sum-image d =
        image_of-packed p n v (λ q. (first_at q + d * second_at q) % p) (add P (scale d Q))
        (λ q l h.
        let m = monomial_at n v q in
        let ea : first_at q ≡ coefficient_of m P = sym (coefficient_of-polynomial n v s q l h) in
        let eb : second_at q ≡ coefficient_of m Q = sym (coefficient_of-polynomial n v t q l h) in
        mod-cong p
        (ap₂ (λ (x y : ℕ). x + d * y) ea eb
        ∙ ap (λ (y : ℕ). coefficient_of m P + y) (sym (coefficient-scale m d Q))
        ∙ sym (coefficient-add m P (scale d Q))))

    pub difference-image :
        image_from n v
        (λ q. (coefficient_at (entries ws) q + (p - 1) * coefficient_at (entries us) q) % p)
        ≡ image p n v (difference p (polynomial n v ws) (polynomial n v us))
    unfolding difference
    difference-image = sum-image (p - 1)
