-- The identity map is neutral on the right of a composition (on the left: `Substitute`). A product
-- of variables is the monomial itself, up to exponents left out, by induction on the exponents;
-- `Shifted` renames each variable to the next, which is the step from a monomial to its rest.
use Rattle.std.proofs.Common.{ℕ, zero, suc, ◌*◌, ◌≡◌, sym, ap, ◌∙◌, [], ◌∷◌, one-mul, one-add}
use Rattle.algebra.specs.Polynomial.{Monomial, Polynomial, ◌⊕◌, trim_cons, trim, weigh, one}
use Rattle.algebra.specs.Polynomial.{mul, power}
use Rattle.algebra.specs.Substitution.{Map, monomial_product, substitute, compose, unit_of}
use Rattle.algebra.specs.Substitution.{variable, identity}
use Rattle.algebra.specs.Agreement.{Agree, AgreeMap}
use Rattle.algebra.proofs.Monomials.{⊕-comm, ⊕-assoc, zero-⊕}
use Rattle.algebra.proofs.Trim.{trim-trim, trim-⊕}
use Rattle.algebra.proofs.Weigh.{weigh-cong, weigh-constant, weigh-mul, weigh-variable}
use Rattle.algebra.proofs.Weigh.{weigh-extend}
use Rattle.algebra.proofs.Modulo.{mod-cong}

-- ---- weights that do not see exponents left out

abbrev Trimmed : (Monomial → ℕ) → Type 0
Trimmed φ = (m : Monomial) → φ (trim m) ≡ φ m

trimmed-⊕ : (φ : Monomial → ℕ) → Trimmed φ → (a b : Monomial) → φ (a ⊕ trim b) ≡ φ (a ⊕ b)
trimmed-⊕ φ t a b = cc (t (a ⊕ trim b), t (a ⊕ b), trim-⊕ a b)

trim-zero : (m : Monomial) → trim (0 ∷ trim m) ≡ trim (0 ∷ m)
unfolding trim
trim-zero m = rw trim-trim

trimmed_zero : (φ : Monomial → ℕ) → Trimmed φ → Trimmed (λ m. φ (0 ∷ m))
trimmed_zero φ t m = cc (t (0 ∷ trim m), t (0 ∷ m), trim-zero m)

trimmed_inner : (φ : Monomial → ℕ) → Trimmed φ → (Q : Polynomial)
    → Trimmed (λ a. weigh Q (λ b. φ (a ⊕ b)))
trimmed_inner φ t Q a =
    weigh-cong Q (λ b. ap φ (⊕-comm (trim a) b) ∙ trimmed-⊕ φ t b a ∙ ap φ (⊕-comm b a))

-- ---- Q is P with each variable renamed to the next

record Shifted (P Q : Polynomial) : Type 0 where
  shift : (φ : Monomial → ℕ) → Trimmed φ → weigh Q φ ≡ weigh P (λ m. φ (0 ∷ m))

shifted_one : Shifted one one
unfolding trim trim_cons
shifted_one =
    record {
      shift = λ φ t.
          weigh-constant 1 φ ∙ ap (λ (x : ℕ). 1 * x) (t (0 ∷ [])) ∙ sym (weigh-constant 1 _);
    }

shifted_mul : {P P' Q Q' : Polynomial} → Shifted P P' → Shifted Q Q'
    → Shifted (mul P Q) (mul P' Q')
unfolding ◌⊕◌
shifted_mul {P} {P'} {Q} {Q'} g h =
    record {
      shift = λ φ t.
          weigh-mul P' Q' φ
          ∙ g.shift _ (trimmed_inner φ t Q')
          ∙ weigh-cong P (λ a. h.shift (λ b. φ ((0 ∷ a) ⊕ b)) (trimmed-⊕ φ t (0 ∷ a)))
          ∙ sym (weigh-mul P Q (λ m. φ (0 ∷ m)));
    }

shifted_power : {P Q : Polynomial} → Shifted P Q → (k : ℕ) → Shifted (power P k) (power Q k)
unfolding power
shifted_power h zero = shifted_one
shifted_power h (suc k) = shifted_mul h (shifted_power h k)

shifted_monomial_product : (f g : Map) → ((i : ℕ) → Shifted (f i) (g i)) → (e : Monomial)
    → Shifted (monomial_product f e) (monomial_product g e)
unfolding monomial_product
shifted_monomial_product f g h [] = shifted_one
shifted_monomial_product f g h (k ∷ e) =
    shifted_mul (shifted_power (h 0) k)
    (shifted_monomial_product (λ i. f (suc i)) (λ i. g (suc i)) (λ i. h (suc i)) e)

shifted_variable : (i : ℕ) → Shifted (variable i) (variable (suc i))
unfolding unit_of
shifted_variable i = record { shift = λ φ t. weigh-variable (suc i) φ ∙ sym (weigh-variable i _) }

-- ---- a product of variables is the monomial

unit-cons : (k : ℕ) (a : Monomial) → unit_of 0 ⊕ (k ∷ a) ≡ suc k ∷ a
unfolding unit_of ◌⊕◌
unit-cons k a = ap (λ (x : ℕ). x ∷ a) (one-add k)

power-variable : (k : ℕ) (a : Monomial) (φ : Monomial → ℕ)
    → weigh (power (variable 0) k) (λ m. φ (m ⊕ (0 ∷ a))) ≡ φ (k ∷ a)
unfolding power
power-variable zero a φ = weigh-constant 1 _ ∙ simp (one-mul, zero-⊕)
power-variable (suc k) a φ =
    weigh-mul (variable 0) (power (variable 0) k) _
    ∙ weigh-variable 0 _
    ∙ weigh-cong (power (variable 0) k) (λ b. ap φ (⊕-assoc (unit_of 0) b (0 ∷ a)))
    ∙ power-variable k a (λ m. φ (unit_of 0 ⊕ m))
    ∙ ap φ (unit-cons k a)

pub monomial_product-identity : (e : Monomial) (φ : Monomial → ℕ)
    → ((m : Monomial) → φ (trim m) ≡ φ m) → weigh (monomial_product identity e) φ ≡ φ e
unfolding monomial_product
monomial_product-identity [] φ t = weigh-constant 1 φ ∙ one-mul _
monomial_product-identity (k ∷ e) φ t =
    weigh-mul (power (variable 0) k) _ φ
    ∙ weigh-cong (power (variable 0) k)
    (λ a.
    (shifted_monomial_product variable (λ i. variable (suc i)) shifted_variable e).shift
    (λ b. φ (a ⊕ b)) (trimmed-⊕ φ t a)
    ∙ monomial_product-identity e (λ m. φ (a ⊕ (0 ∷ m)))
    (trimmed_zero (λ b. φ (a ⊕ b)) (trimmed-⊕ φ t a)))
    ∙ power-variable k e φ

module _ (p : ℕ) where
  pub substitute-identity : {k : ℕ} (P : Polynomial) → Agree p k (substitute P identity) P
  unfolding substitute
  substitute-identity P =
      record {
        tested = λ φ t.
            mod-cong p
            (weigh-extend (monomial_product identity) P φ
            ∙ weigh-cong P (λ e. monomial_product-identity e φ t.trimmed));
      }

  pub compose-identity_right : {k : ℕ} (f : Map) → AgreeMap p k (compose f identity) f
  unfolding compose
  compose-identity_right f i = substitute-identity (f i)
