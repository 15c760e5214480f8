-- Numbers with equal remainders modulo p, and weights of them.
use Rattle.std.proofs.Common.{ℕ, zero, suc, ◌+◌, ◌*◌, ◌%◌, ◌-◌, ◌≤◌, ◌<◌, zero-le, suc-le-suc, ◌≡◌, refl, sym, ap, ◌∙◌, [], ◌∷◌, mul_comm, add-mul, mul_assoc, one-mul, zero-mul, mul-zero, arith, length}
use Rattle.std.proofs.Math.Nat.{add-mod, mul-mod_right, mul-add-mod_self_left, div-add-mod}
use Rattle.std.proofs.Math.Nat.{zero-mod}
use Rattle.algebra.specs.Sum.{sum_over}
use Rattle.algebra.specs.Polynomial.{Monomial, Polynomial, weigh}
use Rattle.algebra.specs.Agreement.{Within}
use Rattle.algebra.proofs.Weigh.{weight_zero}

module _ (p : ℕ) where
  pub mod-cong : {a b : ℕ} → a ≡ b → a % p ≡ b % p
  mod-cong e = ap (λ (x : ℕ). x % p) e

  pub mod-+ : (a b c d : ℕ) → a % p ≡ b % p → c % p ≡ d % p → (a + c) % p ≡ (b + d) % p
  mod-+ a b c d h k = cc (add-mod a c p, add-mod b d p)

  mod-*-left : (a c : ℕ) → (a * c) % p ≡ (a % p * c) % p
  mod-*-left a c =
      ap (λ (x : ℕ). x * c % p) (sym (div-add-mod a p))
      ∙ rw (add-mul, mul_assoc p) (mul-add-mod_self_left p _ _)

  pub mod-* : (a b c d : ℕ) → a % p ≡ b % p → c % p ≡ d % p → (a * c) % p ≡ (b * d) % p
  mod-* a b c d h k =
      cc (
        mod-*-left a c,
        mod-*-left b c,
        mul_comm b c,
        mul_comm b d,
        mod-*-left c b,
        mod-*-left d b,
      )

  -- a product with a factor that is 0 modulo p
  pub mod-zero_left : (a b : ℕ) → a % p ≡ 0 % p → (a * b) % p ≡ 0 % p
  mod-zero_left a b h = mod-* a 0 b b h refl ∙ mod-cong (zero-mul b)

  pub mod-zero_right : (a b : ℕ) → b % p ≡ 0 % p → (a * b) % p ≡ 0 % p
  mod-zero_right a b h = mod-* a a b 0 refl h ∙ mod-cong (mul-zero a)

  -- a factor that is 0 leaves nothing to prove
  pub mod-times_if : (n x : ℕ) → (0 < n → x % p ≡ 0 % p) → (n * x) % p ≡ 0 % p
  mod-times_if zero x h = mod-cong (zero-mul x)
  mod-times_if (suc n) x h = mod-zero_right (suc n) x (h (suc-le-suc zero-le))

  -- p − 1 stands for −1
  pub negate_mod : (w : ℕ) → 0 < p → (w + (p - 1) * w) % p ≡ 0 % p
  negate_mod w h =
      mod-cong (ap (λ (x : ℕ). x + (p - 1) * w) (sym (one-mul w)) ∙ sym (add-mul 1 (p - 1) w))
      ∙ mod-cong (ap (λ (x : ℕ). x * w) whole)
      ∙ mul-mod_right p w
      ∙ sym (zero-mod p)
    where
      whole : 1 + (p - 1) ≡ p
      whole = omega arith

  pub weigh-mod : (P : Polynomial) (φ ψ : Monomial → ℕ) → ((m : Monomial) → φ m % p ≡ ψ m % p)
      → weigh P φ % p ≡ weigh P ψ % p
  unfolding weigh sum_over
  weigh-mod [] φ ψ h = refl
  weigh-mod (t ∷ P) φ ψ h =
      mod-+ _ _ _ _ (mod-* t.coefficient t.coefficient _ _ refl (h t.exponents))
      (weigh-mod P φ ψ h)

  -- only monomials of at most v exponents matter to a polynomial of v variables
  pub weigh-mod_within : (v : ℕ) (P : Polynomial) → Within v P → (φ ψ : Monomial → ℕ)
      → ((e : Monomial) → length e ≤ v → φ e % p ≡ ψ e % p) → weigh P φ % p ≡ weigh P ψ % p
  unfolding weigh sum_over
  weigh-mod_within v [] w φ ψ h = refl
  weigh-mod_within v (t ∷ P) w φ ψ h =
      mod-+ _ _ _ _ (mod-* t.coefficient t.coefficient _ _ refl (h t.exponents w.0))
      (weigh-mod_within v P w.1 φ ψ h)

  pub weigh-vanish : (P : Polynomial) (φ : Monomial → ℕ) → ((m : Monomial) → φ m % p ≡ 0 % p)
      → weigh P φ % p ≡ 0 % p
  weigh-vanish P φ h = weigh-mod P φ (λ m. 0) h ∙ mod-cong (weight_zero P)
