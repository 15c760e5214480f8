-- What each operation weighs. A polynomial is known by its weights, and these equations turn every
-- law below into one about sums; the product becomes a sum in a sum.
use Rattle.std.proofs.Common.{ℕ, ◌+◌, ◌*◌, ◌-◌, ◌≤◌, ◌≡◌, refl, sym, ap, ap₂, ◌∙◌, [], ◌∷◌, map, mul-zero, mul-add, mul_assoc, mul_left_comm, arith, T, length}
use Rattle.std.proofs.Math.Path.{fun_ext}
use Rattle.algebra.specs.Sum.{sum_over}
use Rattle.algebra.specs.Polynomial.{Monomial, Term, Polynomial, ◌⊕◌, exponent, trim}
use Rattle.algebra.specs.Polynomial.{same, indicator, weigh, coefficient_of, constant, add}
use Rattle.algebra.specs.Polynomial.{scale, difference, times_term, mul, lower, derivative}
use Rattle.algebra.specs.Substitution.{extend, unit_of, variable}
use Rattle.algebra.specs.Agreement.{Within}
use Rattle.algebra.proofs.Trim.{equal_to_eq}
use Rattle.algebra.proofs.Sums.{sum-append, sum-cong, sum-zero, sum-add, sum-scale, sum-map}
use Rattle.algebra.proofs.Sums.{sum-swap}

-- ---- the weight

pub weigh-cong : (P : Polynomial) {φ ψ : Monomial → ℕ} → ((m : Monomial) → φ m ≡ ψ m)
    → weigh P φ ≡ weigh P ψ
weigh-cong P h = ap (weigh P) (fun_ext h)

-- only monomials of at most v exponents matter to a polynomial of v variables
pub weigh-cong_within : (v : ℕ) (P : Polynomial) → Within v P → (φ ψ : Monomial → ℕ)
    → ((e : Monomial) → length e ≤ v → φ e ≡ ψ e) → weigh P φ ≡ weigh P ψ
unfolding weigh sum_over
weigh-cong_within v [] w φ ψ h = refl
weigh-cong_within v (t ∷ P) w φ ψ h =
    ap₂ ◌+◌ (ap (t.coefficient *◌) (h t.exponents w.0))
    (weigh-cong_within v P w.1 φ ψ h)

pub weight_zero : (P : Polynomial) → weigh P (λ m. 0) ≡ 0
unfolding weigh
weight_zero P = sum-zero P (λ t. mul-zero _)

pub weight_add : (P : Polynomial) (φ ψ : Monomial → ℕ)
    → weigh P (λ m. φ m + ψ m) ≡ weigh P φ + weigh P ψ
unfolding weigh
weight_add P φ ψ = sum-cong P (λ t. mul-add _ _ _) ∙ sum-add P _ _

pub weight_scale : (c : ℕ) (P : Polynomial) (φ : Monomial → ℕ)
    → weigh P (λ m. c * φ m) ≡ c * weigh P φ
unfolding weigh
weight_scale c P φ = sum-cong P (λ t. mul_left_comm _ _ _) ∙ sum-scale c P _

pub weigh-swap : (P Q : Polynomial) (f : Monomial → Monomial → ℕ)
    → weigh P (λ a. weigh Q (f a)) ≡ weigh Q (λ b. weigh P (λ a. f a b))
unfolding weigh
weigh-swap P Q f =
    sum-cong P (λ t. sym (sum-scale t.coefficient Q _))
    ∙ sum-swap P Q _
    ∙ sum-cong Q (λ s. sum-cong P (λ t. mul_left_comm _ _ _) ∙ sum-scale s.coefficient P _)

-- ---- the operations

pub weigh-nil : (φ : Monomial → ℕ) → weigh [] φ ≡ 0
unfolding weigh sum_over
weigh-nil φ = refl

pub weigh-cons : (t : Term) (P : Polynomial) (φ : Monomial → ℕ)
    → weigh (t ∷ P) φ ≡ t.coefficient * φ t.exponents + weigh P φ
unfolding weigh sum_over
weigh-cons t P φ = refl

pub weigh-constant : (c : ℕ) (φ : Monomial → ℕ) → weigh (constant c) φ ≡ c * φ []
unfolding weigh sum_over constant
weigh-constant c φ = omega arith

pub weigh-add : (P Q : Polynomial) (φ : Monomial → ℕ) → weigh (add P Q) φ ≡ weigh P φ + weigh Q φ
unfolding weigh
weigh-add P Q φ = sum-append P Q _

pub weigh-scale : (c : ℕ) (P : Polynomial) (φ : Monomial → ℕ)
    → weigh (scale c P) φ ≡ c * weigh P φ
unfolding weigh scale
weigh-scale c P φ = simp (sum-map, mul_assoc, sum-scale)

pub weigh-difference : (p : ℕ) (P Q : Polynomial) (φ : Monomial → ℕ)
    → weigh (difference p P Q) φ ≡ weigh P φ + (p - 1) * weigh Q φ
unfolding difference
weigh-difference p P Q φ = rw (weigh-add, weigh-scale)

pub weigh-mul : (P Q : Polynomial) (φ : Monomial → ℕ)
    → weigh (mul P Q) φ ≡ weigh P (λ a. weigh Q (λ b. φ (a ⊕ b)))
unfolding weigh sum_over mul times_term
weigh-mul [] Q φ = refl
weigh-mul (t ∷ P) Q φ =
    sum-append (map (times_term t) Q) (mul P Q) _
    ∙ ap₂ ◌+◌
    (sum-map (times_term t) Q _ ∙ sum-cong Q (λ s. mul_assoc _ _ _) ∙ sum-scale _ Q _)
    (weigh-mul P Q φ)

pub weigh-derivative : (i : ℕ) (P : Polynomial) (φ : Monomial → ℕ)
    → weigh (derivative i P) φ ≡ weigh P (λ e. exponent i e * φ (lower i e))
unfolding weigh derivative
weigh-derivative i P φ = sum-map _ P _ ∙ sum-cong P (λ t. mul_assoc _ _ _)

pub weigh-variable : (i : ℕ) (φ : Monomial → ℕ) → weigh (variable i) φ ≡ φ (unit_of i)
unfolding weigh sum_over variable
weigh-variable i φ = omega arith

pub weigh-extend : (M : Monomial → Polynomial) (P : Polynomial) (φ : Monomial → ℕ)
    → weigh (extend M P) φ ≡ weigh P (λ e. weigh (M e) φ)
unfolding extend
weigh-extend M [] φ = simp weigh-nil
weigh-extend M (t ∷ P) φ = simp (weigh-add, weigh-scale, weigh-cons, weigh-extend M P φ)

-- ---- coefficients are weights

pub coefficient-nil : (m : Monomial) → coefficient_of m [] ≡ 0
unfolding coefficient_of
coefficient-nil m = weigh-nil _

pub coefficient-cons : (m : Monomial) (t : Term) (P : Polynomial)
    → coefficient_of m (t ∷ P)
    ≡ t.coefficient * indicator (same m t.exponents) + coefficient_of m P
unfolding coefficient_of
coefficient-cons m t P = weigh-cons t P _

pub coefficient-add : (m : Monomial) (P Q : Polynomial)
    → coefficient_of m (add P Q) ≡ coefficient_of m P + coefficient_of m Q
unfolding coefficient_of
coefficient-add m P Q = weigh-add P Q _

pub coefficient-scale : (m : Monomial) (c : ℕ) (P : Polynomial)
    → coefficient_of m (scale c P) ≡ c * coefficient_of m P
unfolding coefficient_of
coefficient-scale m c P = weigh-scale c P _

pub coefficient-difference : (m : Monomial) (p : ℕ) (P Q : Polynomial)
    → coefficient_of m (difference p P Q) ≡ coefficient_of m P + (p - 1) * coefficient_of m Q
unfolding coefficient_of
coefficient-difference m p P Q = weigh-difference p P Q _

-- the coefficient does not see exponents left out
pub coefficient-same : (a b : Monomial) (P : Polynomial) → T (same a b)
    → coefficient_of a P ≡ coefficient_of b P
unfolding coefficient_of same
coefficient-same a b P t = rw (equal_to_eq (trim a) (trim b) t)
