-- Sums of polynomials over an index below h: by induction on h, in the ring of polynomials.
use Rattle.std.proofs.Common.{ℕ, zero, suc, refl, sym, ◌∙◌, []}
use Rattle.std.proofs.Math.Path.{fun_ext}
use Rattle.algebra.specs.Polynomial.{Monomial, Polynomial, add, scale, mul, add_below}
use Rattle.algebra.specs.Substitution.{extend}
use Rattle.algebra.specs.Agreement.{◌≐◌}
use Rattle.algebra.proofs.Weigh.{weigh-nil, weigh-add, weigh-extend, weight_zero, weight_add}
use Rattle.algebra.proofs.Ring.{ring-laws, add_cong}

pub below-cong : (h : ℕ) (F G : ℕ → Polynomial) → ((i : ℕ) → F i ≐ G i)
    → add_below h F ≐ add_below h G
unfolding add_below
below-cong zero F G e = refl
below-cong (suc h) F G e = add_cong _ _ _ _ (below-cong h F G e) (e h)

pub below-nil : (h : ℕ) → add_below h (λ i. []) ≐ []
unfolding add_below
below-nil zero = refl
below-nil (suc h) = simp (ring-laws, below-nil h)

pub below-add : (h : ℕ) (F G : ℕ → Polynomial)
    → add_below h (λ i. add (F i) (G i)) ≐ add (add_below h F) (add_below h G)
unfolding add_below
below-add zero F G = refl
below-add (suc h) F G = simp (ring-laws, below-add h F G)

pub below-scale : (h c : ℕ) (F : ℕ → Polynomial)
    → add_below h (λ i. scale c (F i)) ≐ scale c (add_below h F)
unfolding add_below scale
below-scale zero c F = refl
below-scale (suc h) c F = simp (ring-laws, below-scale h c F)

pub below-mul : (h : ℕ) (P : Polynomial) (F : ℕ → Polynomial)
    → add_below h (λ i. mul P (F i)) ≐ mul P (add_below h F)
unfolding add_below
below-mul zero P F = simp ring-laws
below-mul (suc h) P F = simp (ring-laws, below-mul h P F)

pub below-extend : (h : ℕ) (F : ℕ → Monomial → Polynomial) (P : Polynomial)
    → add_below h (λ i. extend (F i) P) ≐ extend (λ e. add_below h (λ i. F i e)) P
unfolding add_below
below-extend zero F P = fun_ext (λ φ. simp (weigh-extend, weigh-nil, weight_zero))
below-extend (suc h) F P =
    add_cong _ _ _ _ (below-extend h F P) refl
    ∙ fun_ext (λ φ. simp (weigh-add, weigh-extend) (sym (weight_add P _ _)))

-- the first summand apart, where the definition takes the last
pub below-first : (h : ℕ) (F : ℕ → Polynomial)
    → add_below (suc h) F ≐ add (F 0) (add_below h (λ i. F (suc i)))
unfolding add_below
below-first zero F = simp ring-laws
below-first (suc h) F =
    add_cong _ _ _ _ (below-first h F) refl ∙ simp ring-laws
