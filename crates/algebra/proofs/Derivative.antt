-- The derivative is linear, derivatives commute, and the product and power rules hold: at one pair
-- of monomials the exponent of the product is the sum of the exponents. It lowers the order.
use Rattle.std.proofs.Common.{ℕ, zero, suc, pred, ◌+◌, ◌*◌, ◌≤◌, ◌<◌, zero-le, suc-le-suc, ◌≡◌, refl, sym, ap, ap₂, ◌∙◌, [], ◌∷◌, arith}
use Rattle.std.proofs.Math.Path.{fun_ext}
use native.Mathlib.Nat as Nat
use Rattle.algebra.specs.Polynomial.{Monomial, Polynomial, ◌⊕◌, exponent, constant, one, add}
use Rattle.algebra.specs.Polynomial.{scale, difference, mul, power, lower, derivative}
use Rattle.algebra.specs.Polynomial.{order, same, indicator, weigh, coefficient_of}
use Rattle.algebra.specs.Agreement.{UpTo, ◌≐◌}
use Rattle.algebra.proofs.Booleans.{indicator-no}
use Rattle.algebra.proofs.Trim.{same-order}
use Rattle.algebra.proofs.Monomials.{⊕-comm, exponent-⊕, lower-⊕, lower-lower}
use Rattle.algebra.proofs.Monomials.{exponent-lower, order-lower}
use Rattle.algebra.proofs.Weigh.{weigh-cong, weigh-nil, weigh-cons, weigh-add, weigh-scale}
use Rattle.algebra.proofs.Weigh.{weigh-difference, weigh-constant, weigh-mul}
use Rattle.algebra.proofs.Weigh.{weigh-derivative, weight_add, weight_scale}
use Rattle.algebra.proofs.Ring.{ring-laws, suc-⊡, zero-scale}

-- ---- sums, multiples, constants

pub derivative-add : (i : ℕ) (P Q : Polynomial)
    → derivative i (add P Q) ≐ add (derivative i P) (derivative i Q)
derivative-add i P Q = fun_ext (λ φ. simp (weigh-add, weigh-derivative))

pub derivative-scale : (i c : ℕ) (P : Polynomial)
    → derivative i (scale c P) ≐ scale c (derivative i P)
derivative-scale i c P = fun_ext (λ φ. simp (weigh-scale, weigh-derivative))

pub derivative-difference : (i p : ℕ) (P Q : Polynomial)
    → derivative i (difference p P Q) ≐ difference p (derivative i P) (derivative i Q)
derivative-difference i p P Q = fun_ext (λ φ. simp (weigh-difference, weigh-derivative))

pub derivative-constant : (i c : ℕ) → derivative i (constant c) ≐ []
unfolding exponent
derivative-constant i c =
    fun_ext
    (λ φ. simp (weigh-derivative, weigh-constant, weigh-nil, Nat.zero-mul, Nat.mul-zero))

-- ---- derivatives commute

pub derivative-comm : (i j : ℕ) (P : Polynomial)
    → derivative i (derivative j P) ≐ derivative j (derivative i P)
derivative-comm i j P = fun_ext (λ φ. simp weigh-derivative (weigh-cong P (λ e. swap φ e)))
  where
    swap : (φ : Monomial → ℕ) (e : Monomial)
        → exponent j e * (exponent i (lower j e) * φ (lower i (lower j e)))
        ≡ exponent i e * (exponent j (lower i e) * φ (lower j (lower i e)))
    swap φ e =
        sym (Nat.mul_assoc _ _ _)
        ∙ ap₂ ◌*◌ (exponent-lower j i e) (ap φ (lower-lower i j e))
        ∙ Nat.mul_assoc _ _ _

-- ---- the product rule

-- a factor that is 0 leaves nothing to prove
pub times-if : (n x y : ℕ) → (0 < n → x ≡ y) → n * x ≡ n * y
times-if zero x y h = simp Nat.zero-mul
times-if (suc n) x y h = rw (h (suc-le-suc zero-le))

product_at : (i : ℕ) (a b : Monomial) (φ : Monomial → ℕ)
    → exponent i (a ⊕ b) * φ (lower i (a ⊕ b))
    ≡ exponent i a * φ (lower i a ⊕ b) + exponent i b * φ (a ⊕ lower i b)
product_at i a b φ =
    rw (exponent-⊕ i a b, Nat.add-mul)
    (ap₂ ◌+◌ (times-if (exponent i a) _ _ (λ h. ap φ (lower-⊕ i a b h)))
    (times-if (exponent i b) _ _
    (λ h.
    ap φ (ap (lower i) (⊕-comm a b) ∙ lower-⊕ i b a h ∙ ⊕-comm (lower i b) a))))

pub derivative-mul : (i : ℕ) (P Q : Polynomial)
    → derivative i (mul P Q) ≐ add (mul (derivative i P) Q) (mul P (derivative i Q))
derivative-mul i P Q =
    fun_ext
    (λ φ.
    simp (weigh-add, weigh-mul, weigh-derivative)
    (weigh-cong P
    (λ a.
    weigh-cong Q (λ b. product_at i a b φ)
    ∙ weight_add Q _ _
    ∙ ap₂ ◌+◌ (weight_scale _ Q _) refl)
    ∙ weight_add P _ _))

-- ---- the power rule

pub derivative-power_suc : (i : ℕ) (P : Polynomial) (k : ℕ)
    → derivative i (power P (suc k)) ≐ scale (suc k) (mul (power P k) (derivative i P))
unfolding power
derivative-power_suc i P zero =
    derivative-mul i P one ∙ simp (ring-laws, derivative-constant)
derivative-power_suc i P (suc k) =
    derivative-mul i P (power P (suc k))
    ∙ simp (ring-laws, derivative-power_suc i P k) (sym (suc-⊡ (suc k) _))

pub derivative-power : (i : ℕ) (P : Polynomial) (k : ℕ)
    → derivative i (power P k) ≐ scale k (mul (power P (pred k)) (derivative i P))
unfolding power
derivative-power i P zero = derivative-constant i 1 ∙ sym (zero-scale _)
derivative-power i P (suc k) = derivative-power_suc i P k

-- ---- the order

-- one term gives nothing to a monomial of order n or above: its own order has fallen below n
term-below_order : (n k : ℕ) (m e : Monomial) → order e ≤ n → n ≤ order m
    → exponent k e * indicator (same m (lower k e)) ≡ 0
term-below_order n k m e l h = times-if (exponent k e) _ 0 falls ∙ Nat.mul-zero (exponent k e)
  where
    falls : 0 < exponent k e → indicator (same m (lower k e)) ≡ 0
    falls pos =
        indicator-no (same m (lower k e))
        (λ s. omega (arith, same-order m (lower k e) s, order-lower k e pos))

-- 'Derivative in variable k: of the stored polynomial, so nothing of order n remains in it' (01,
-- "The operations"): where no term of P is of order above n, the derivative has the coefficient 0
-- at every monomial of order n
pub derivative-below_order : (n k : ℕ) (P : Polynomial) → UpTo n P → (m : Monomial) → n ≤ order m
    → coefficient_of m (derivative k P) ≡ 0
unfolding coefficient_of
derivative-below_order n k P u m h =
    weigh-derivative k P (λ e. indicator (same m e)) ∙ terms P u
  where
    terms : (Q : Polynomial) → UpTo n Q
        → weigh Q (λ e. exponent k e * indicator (same m (lower k e))) ≡ 0
    terms [] u = weigh-nil _
    terms (t ∷ Q) u =
        weigh-cons t Q _
        ∙ ap₂ ◌+◌
        (ap (t.coefficient *◌) (term-below_order n k m t.exponents u.0 h)
        ∙ Nat.mul-zero t.coefficient) (terms Q u.1)
