-- Substitution is a homomorphism of the ring, and substitution after substitution is substitution
-- of the composition: each monomial turns into a product, and products of monomials into products
-- of those.
use Rattle.std.proofs.Common.{ℕ, zero, suc, ◌*◌, ◌≤◌, ◌<◌, ◌≡◌, refl, sym, ap, ap₂, ◌∙◌, [], ◌∷◌, arith, length}
use Rattle.std.proofs.Math.Path.{fun_ext}
use native.Mathlib.Nat as Nat
use Rattle.algebra.specs.Polynomial.{Monomial, Polynomial, ◌⊕◌, trim_cons, trim, weigh}
use Rattle.algebra.specs.Polynomial.{constant, one, add, scale, difference, mul, power}
use Rattle.algebra.specs.Substitution.{Map, monomial_product, extend, substitute, compose}
use Rattle.algebra.specs.Substitution.{unit_of, variable, identity}
use Rattle.algebra.specs.Agreement.{Within, ◌≐◌}
use Rattle.algebra.proofs.Weigh.{weigh-cong, weigh-cong_within, weigh-swap, weigh-add}
use Rattle.algebra.proofs.Weigh.{weigh-scale, weigh-difference, weigh-constant, weigh-mul}
use Rattle.algebra.proofs.Weigh.{weigh-variable, weigh-extend}
use Rattle.algebra.proofs.Ring.{at, weigh-⊛, one-⊛, ⊛-one, mul-laws, mul-middle}
use Rattle.algebra.proofs.Ring.{power-add}

-- ---- the product of components that a monomial stands for

pub monomial_product-⊕ : (f : Map) (a b : Monomial)
    → monomial_product f (a ⊕ b) ≐ mul (monomial_product f a) (monomial_product f b)
unfolding monomial_product ◌⊕◌
monomial_product-⊕ f [] b = simp mul-laws
monomial_product-⊕ f (k ∷ a) [] = simp mul-laws
monomial_product-⊕ f (k ∷ a) (l ∷ b) =
    let g : Map = λ i. f (suc i) in
    simp (weigh-⊛, power-add (f 0) k l, monomial_product-⊕ g a b)
    (simp weigh-⊛ at (mul-middle (power (f 0) k) (power (f 0) l) (monomial_product g a)
    (monomial_product g b)))

monomial_product-trim_cons : (f : Map) (k : ℕ) (c : Monomial)
    → monomial_product f (trim_cons k c) ≐ mul (power (f 0) k) (monomial_product (λ i. f (suc i)) c)
unfolding monomial_product trim_cons power
monomial_product-trim_cons f zero [] = simp (weigh-⊛, one-⊛)
monomial_product-trim_cons f (suc k) [] = refl
monomial_product-trim_cons f k (x ∷ c) = refl

pub monomial_product-trim : (f : Map) (e : Monomial)
    → monomial_product f (trim e) ≐ monomial_product f e
unfolding monomial_product trim
monomial_product-trim f [] = refl
monomial_product-trim f (k ∷ e) =
    simp (monomial_product-trim_cons, weigh-⊛, monomial_product-trim (λ i. f (suc i)) e)

pub monomial_product-unit : (f : Map) (i : ℕ) → monomial_product f (unit_of i) ≐ f i
unfolding monomial_product unit_of power
monomial_product-unit f zero = simp (weigh-⊛, ⊛-one)
monomial_product-unit f (suc i) =
    simp (weigh-⊛, one-⊛) (monomial_product-unit (λ j. f (suc j)) i)

-- only the components of variables that stand in the monomial matter
pub monomial_product-below : (v : ℕ) (f g : Map) → ((i : ℕ) → i < v → f i ≡ g i)
    → (e : Monomial) → length e ≤ v → monomial_product f e ≡ monomial_product g e
unfolding monomial_product
monomial_product-below v f g h [] l = refl
monomial_product-below zero f g h (k ∷ e) l = absurd (omega arith)
monomial_product-below (suc v) f g h (k ∷ e) l =
    ap₂ mul (ap (λ (P : Polynomial). power P k) (h 0 (omega arith)))
    (monomial_product-below v (λ i. f (suc i)) (λ i. g (suc i)) (λ i m. h (suc i) (omega arith)) e
    (omega arith))

-- ---- a function of monomials, extended to polynomials

module _ (M : Monomial → Polynomial) where
  pub extend-add : (P Q : Polynomial) → extend M (add P Q) ≐ add (extend M P) (extend M Q)
  extend-add P Q = fun_ext (λ φ. simp (weigh-extend, weigh-add))

  pub extend-scale : (c : ℕ) (P : Polynomial) → extend M (scale c P) ≐ scale c (extend M P)
  extend-scale c P = fun_ext (λ φ. simp (weigh-extend, weigh-scale))

  pub extend-constant : M [] ≐ one → (c : ℕ) → extend M (constant c) ≐ constant c
  extend-constant h c =
      fun_ext
      (λ φ.
      simp (weigh-extend, weigh-constant)
      (ap (c *◌) (at φ h ∙ weigh-constant 1 φ ∙ Nat.one-mul (φ []))))

  pub extend-mul : ((a b : Monomial) → M (a ⊕ b) ≐ mul (M a) (M b))
      → (P Q : Polynomial) → extend M (mul P Q) ≐ mul (extend M P) (extend M Q)
  extend-mul hom P Q =
      fun_ext
      (λ φ.
      simp (weigh-extend, weigh-mul)
      (weigh-cong P
      (λ a.
      weigh-cong Q (λ b. at φ (hom a b) ∙ weigh-mul (M a) (M b) φ) ∙ weigh-swap Q (M a) _)))

  pub extend-extend : (N : Monomial → Polynomial) (P : Polynomial)
      → extend N (extend M P) ≐ extend (λ e. extend N (M e)) P
  extend-extend N P = fun_ext (λ φ. simp weigh-extend)

  pub extend-cong : (N : Monomial → Polynomial) → ((e : Monomial) → M e ≐ N e)
      → (P : Polynomial) → extend M P ≐ extend N P
  extend-cong N h P = fun_ext (λ φ. simp weigh-extend (weigh-cong P (λ e. at φ (h e))))

-- ---- substitution

pub substitute-add : (P Q : Polynomial) (f : Map)
    → substitute (add P Q) f ≐ add (substitute P f) (substitute Q f)
unfolding substitute
substitute-add P Q f = extend-add (monomial_product f) P Q

pub substitute-scale : (c : ℕ) (P : Polynomial) (f : Map)
    → substitute (scale c P) f ≐ scale c (substitute P f)
unfolding substitute
substitute-scale c P f = extend-scale (monomial_product f) c P

pub substitute-difference : (p : ℕ) (P Q : Polynomial) (f : Map)
    → substitute (difference p P Q) f ≐ difference p (substitute P f) (substitute Q f)
unfolding substitute
substitute-difference p P Q f = fun_ext (λ φ. simp (weigh-extend, weigh-difference))

pub substitute-mul : (P Q : Polynomial) (f : Map)
    → substitute (mul P Q) f ≐ mul (substitute P f) (substitute Q f)
unfolding substitute
substitute-mul P Q f = extend-mul (monomial_product f) (monomial_product-⊕ f) P Q

-- a constant gives itself
pub substitute-constant : (c : ℕ) (f : Map) → substitute (constant c) f ≐ constant c
unfolding substitute monomial_product
substitute-constant c f = extend-constant (monomial_product f) refl c

pub substitute-one : (f : Map) → substitute one f ≐ one
substitute-one f = substitute-constant 1 f

pub substitute-power : (P : Polynomial) (k : ℕ) (f : Map)
    → substitute (power P k) f ≐ power (substitute P f) k
unfolding power
substitute-power P zero f = substitute-one f
substitute-power P (suc k) f = simp (substitute-mul, weigh-⊛, substitute-power P k f)

pub substitute-variable : (i : ℕ) (f : Map) → substitute (variable i) f ≐ f i
unfolding substitute
substitute-variable i f =
    fun_ext
    (λ φ.
    weigh-extend (monomial_product f) (variable i) φ
    ∙ weigh-variable i _
    ∙ at φ (monomial_product-unit f i))

pub substitute-monomial_product : (f g : Map) (e : Monomial)
    → substitute (monomial_product f e) g ≐ monomial_product (compose f g) e
unfolding monomial_product compose
substitute-monomial_product f g [] = substitute-one g
substitute-monomial_product f g (k ∷ e) =
    simp (
      substitute-mul,
      weigh-⊛,
      substitute-power,
      substitute-monomial_product (λ i. f (suc i)) g e,
    )

pub substitute-substitute : (P : Polynomial) (f g : Map)
    → substitute (substitute P f) g ≐ substitute P (compose f g)
unfolding substitute
substitute-substitute P f g =
    extend-extend (monomial_product f) (monomial_product g) P
    ∙ extend-cong _ _ (substitute-monomial_product f g) P

-- a polynomial of v variables sees the first v components only
pub substitute-below : (v : ℕ) (P : Polynomial) → Within v P → (f g : Map)
    → ((i : ℕ) → i < v → f i ≡ g i) → substitute P f ≐ substitute P g
unfolding substitute
substitute-below v P w f g h =
    fun_ext
    (λ φ.
    weigh-extend (monomial_product f) P φ
    ∙ weigh-cong_within v P w _ _
    (λ e l. ap (λ (Q : Polynomial). weigh Q φ) (monomial_product-below v f g h e l))
    ∙ sym (weigh-extend (monomial_product g) P φ))

-- ---- composition

pub compose-at : (f g : Map) (i : ℕ) → compose f g i ≡ substitute (f i) g
unfolding compose
compose-at f g i = refl

pub compose-assoc : (f g h : Map) (i : ℕ)
    → compose (compose f g) h i ≐ compose f (compose g h) i
unfolding compose
compose-assoc f g h i = substitute-substitute (f i) g h

pub compose-identity_left : (f : Map) (i : ℕ) → compose identity f i ≐ f i
unfolding compose
compose-identity_left f i = substitute-variable i f
