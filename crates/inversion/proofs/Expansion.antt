-- Two maps that agree below order k + 1, substituted into one polynomial, differ below order k + 2
-- by the polynomial's linear part of their difference: at a monomial of order 2 or more their
-- products agree below order k + 2, and at the constant they are equal.
use Rattle.std.proofs.Common.{◌≡◌, refl, sym, ap, ap₂, ◌∙◌, [], ℕ, suc, ◌+◌, ◌-◌, ◌*◌, ◌%◌, ◌<◌, arith}
use Rattle.algebra.specs.Polynomial.{Monomial, Polynomial, weigh, coefficient_of, constant, one}
use Rattle.algebra.specs.Polynomial.{difference}
use Rattle.algebra.specs.Substitution.{Map, monomial_product, substitute, unit_of, variable}
use Rattle.algebra.specs.Agreement.{Test, Agree, AgreeMap, OriginFixing, Within}
use Rattle.algebra.proofs.Sums.{sum-cong}
use Rattle.algebra.proofs.Weigh.{weight_add, weight_scale, weigh-add, weigh-difference}
use Rattle.algebra.proofs.Weigh.{weigh-constant, weigh-variable, weigh-extend}
use Rattle.algebra.proofs.Ring.{at}
use Rattle.algebra.proofs.Substitute.{monomial_product-trim, monomial_product-unit}
use Rattle.algebra.proofs.Modulo.{mod-cong, mod-+, mod-zero_right, negate_mod}
use Rattle.algebra.proofs.Agreement.{agree_down}
use Rattle.linear.specs.Matrix.{range}
use Rattle.inversion.specs.Turn.{combination}
use Rattle.inversion.proofs.Combination.{weigh-combination}
use Rattle.inversion.proofs.Affine.{linear, affine_part, affine_agrees}
use Rattle.inversion.proofs.Graded.{monomial_product-graded}

module _ (p k v : ℕ) (pos : 0 < p) (f g : Map) (o : OriginFixing p f) (u : OriginFixing p g)
    (close : AgreeMap p (suc k) f g) where
  -- what the products over a monomial differ by
  apart : (Monomial → ℕ) → Monomial → ℕ
  apart φ m = weigh (monomial_product f m) φ + (p - 1) * weigh (monomial_product g m) φ

  apart_test : (φ : Monomial → ℕ) → Test p (suc (suc k)) φ → Test p 2 (apart φ)
  unfolding apart
  apart_test φ t = record {
    trimmed = λ m.
        ap₂ (λ (x y : ℕ). x + (p - 1) * y) (at φ (monomial_product-trim f m))
        (at φ (monomial_product-trim g m));
    high = λ m l.
        mod-+ p _ _ _ _
        ((agree_down p (omega arith) (monomial_product-graded p k f g o u close m)).tested φ t) refl
        ∙ negate_mod p (weigh (monomial_product g m) φ) pos;
  }

  apart_constant : (φ : Monomial → ℕ) → apart φ [] % p ≡ 0 % p
  unfolding apart monomial_product
  apart_constant φ = negate_mod p (weigh one φ) pos

  apart_unit : (φ : Monomial → ℕ) (j : ℕ)
      → apart φ (unit_of j) ≡ weigh (difference p (f j) (g j)) φ
  unfolding apart
  apart_unit φ j =
      ap₂ (λ (x y : ℕ). x + (p - 1) * y) (at φ (monomial_product-unit f j))
      (at φ (monomial_product-unit g j))
      ∙ sym (weigh-difference p (f j) (g j) φ)

  weigh-apart : (P : Polynomial) (φ : Monomial → ℕ)
      → weigh (difference p (substitute P f) (substitute P g)) φ ≡ weigh P (apart φ)
  unfolding apart substitute
  weigh-apart P φ =
      weigh-difference p (substitute P f) (substitute P g) φ
      ∙ ap₂ (λ (x y : ℕ). x + (p - 1) * y) (weigh-extend (monomial_product f) P φ)
      (weigh-extend (monomial_product g) P φ
      )
      ∙ ap (λ (y : ℕ). weigh P (λ m. weigh (monomial_product f m) φ) + y)
      (sym (weight_scale (p - 1) P _))
      ∙ sym (weight_add P _ _)

  -- what the constant and the linear part of P make of it
  weigh-affine : (P : Polynomial) (φ : Monomial → ℕ)
      → weigh (affine_part v P) (apart φ) % p
      ≡ weigh (combination v (linear P) (λ j. difference p (f j) (g j))) φ % p
  unfolding affine_part
  weigh-affine P φ =
      let c : ℕ = coefficient_of [] P in
      mod-cong p
      (weigh-add (constant c) (combination v (linear P) variable) (apart φ)
      ∙ ap₂ ◌+◌ (weigh-constant c (apart φ))
      (weigh-combination v (linear P) variable (apart φ)
      ∙ sum-cong (range 0 v)
      (λ j. ap (λ (x : ℕ). linear P j * x) (weigh-variable j (apart φ) ∙ apart_unit φ j))
      ∙ sym (weigh-combination v (linear P) (λ j. difference p (f j) (g j)) φ)))
      ∙ mod-+ p (c * apart φ []) 0 _ _ (mod-zero_right p c (apart φ []) (apart_constant φ)) refl
      ∙ mod-cong p (omega arith)

  pub substitute-difference : (P : Polynomial) → Within v P
      → Agree p (suc (suc k)) (difference p (substitute P f) (substitute P g))
      (combination v (linear P) (λ j. difference p (f j) (g j)))
  substitute-difference P w =
      record {
        tested = λ φ t.
            mod-cong p (weigh-apart P φ)
            ∙ (affine_agrees v P p w).tested (apart φ) (apart_test φ t)
            ∙ weigh-affine P φ;
      }
