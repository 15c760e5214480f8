-- What the sums write is the image of the sum of the polynomials that they read.
use Rattle.std.proofs.Common.{◌≡◌, refl, sym, ap, ap₂, ◌∙◌, List, ◌++◌, ℕ, ◌+◌, ◌*◌, ◌%◌, ◌≤◌, ◌<◌, one-mul, length, drop}
use Rattle.std.proofs.Math.Path.{fun_ext}
use Rattle.algebra.specs.Polynomial.{Polynomial, add, scale}
use Rattle.algebra.proofs.Weigh.{weigh-add, weigh-scale}
use Rattle.algebra.proofs.Agreement.{agree_exact}
use Rattle.monomial.specs.Count.{count}
use Rattle.series.specs.Image.{entries, coefficient_at, packed, image_of, image, polynomial}
use Rattle.series.specs.Faults.{first_fault}
use Rattle.series.proofs.Series.{fault_none_to_series}
use Rattle.series.proofs.Combination.{sum-image, multiple_image}
use Rattle.series.proofs.Writing.{image-agree, length-image}

-- one times b is b
pub once : (p n v : ℕ) (A B : Polynomial) → image p n v (add A (scale 1 B)) ≡ image p n v (add A B)
once p n v A B =
    image-agree p n v (agree_exact p (add A (scale 1 B)) (add A B)
    (fun_ext (λ φ. weigh-add A (scale 1 B) φ ∙ ap₂ ◌+◌ refl (weigh-scale 1 B φ ∙ one-mul _) ∙ sym (weigh-add A B φ))))

module _ (p n v : ℕ) (pos : 0 < p) (small : p ≤ 65536) (a old : List ℕ) (long : count n v + 1 ≤ length a)
    (good : first_fault p (count n v) a ≡ count n v + 1) where
  pub multiple_written : (c k : ℕ) (new : List ℕ) → k ≡ count n v
      → new ≡ image_of k (packed (λ i. (c * coefficient_at (entries a) i) % p) k) ++ drop (k + 1) old
      → new ≡ image p n v (scale c (polynomial n v a)) ++ drop (length (image p n v (scale c (polynomial n v a)))) old
  multiple_written c k new e h =
      h
      ∙ ap (λ (x : ℕ). image_of x (packed (λ i. (c * coefficient_at (entries a) i) % p) x) ++ drop (x + 1) old) e
      ∙ ap₂ (λ (x : List ℕ) (y : ℕ). x ++ drop y old)
      (multiple_image p n v (fault_none_to_series p (count n v) a good long) c)
      (sym (length-image p n v pos small (scale c (polynomial n v a))))

  pub sum-written : (b : List ℕ) → count n v + 1 ≤ length b → first_fault p (count n v) b ≡ count n v + 1
      → (d k : ℕ) (new : List ℕ) → k ≡ count n v
      → new
      ≡ image_of k (packed (λ i. (coefficient_at (entries a) i + d * coefficient_at (entries b) i) % p) k)
      ++ drop (k + 1) old
      → new ≡ image p n v (add (polynomial n v a) (scale d (polynomial n v b)))
      ++ drop (length (image p n v (add (polynomial n v a) (scale d (polynomial n v b))))) old
  sum-written b lb gb d k new e h =
      h
      ∙ ap
      (λ (x : ℕ). image_of x (packed (λ i. (coefficient_at (entries a) i + d * coefficient_at (entries b) i) % p) x)
      ++ drop (x + 1) old)
      e
      ∙ ap₂ (λ (x : List ℕ) (y : ℕ). x ++ drop y old)
      (sum-image p n v (fault_none_to_series p (count n v) a good long) (fault_none_to_series p (count n v) b gb lb) d)
      (sym (length-image p n v pos small (add (polynomial n v a) (scale d (polynomial n v b)))))
