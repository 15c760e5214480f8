-- A polynomial without a constant is its linear part and its terms of order 2 or more. So with a
-- map substituted it is the linear part's combination of the map's components, and the map
-- substituted into the terms of order 2 or more.
use Rattle.std.proofs.Common.{◌≡◌, refl, sym, ap, ap₂, ◌∙◌, Bool, true, false, [], ◌∷◌, ℕ, ◌+◌, ◌*◌, ◌%◌, ◌≤◌, mul-one, mul-zero, zero-mul, mul_comm, arith, leb, leb→le, le→leb}
use Rattle.std.proofs.Math.Decide.{dec_le}
use Rattle.algebra.specs.Polynomial.{Monomial, Polynomial, order, same, indicator}
use Rattle.algebra.specs.Polynomial.{weigh, coefficient_of, constant, add}
use Rattle.algebra.specs.Substitution.{Map, monomial_product, substitute, unit_of, variable}
use Rattle.algebra.specs.Agreement.{Test, Agree, FromOrder, Within}
use Rattle.algebra.proofs.Booleans.{indicator-yes, indicator-no}
use Rattle.algebra.proofs.Monomials.{order-unit}
use Rattle.algebra.proofs.Sums.{sum-cong}
use Rattle.algebra.proofs.Trim.{order-trim, same-order}
use Rattle.algebra.proofs.Weigh.{weigh-nil, weigh-cons, weigh-add, weigh-constant, weigh-variable}
use Rattle.algebra.proofs.Weigh.{weigh-extend, weigh-cong, weight_add, weight_scale}
use Rattle.algebra.proofs.Ring.{at}
use Rattle.algebra.proofs.Substitute.{monomial_product-trim, monomial_product-unit}
use Rattle.algebra.proofs.Modulo.{mod-cong, mod-+, mod-zero_left}
use Rattle.algebra.proofs.Origin.{origin_from}
use Rattle.linear.specs.Matrix.{range}
use Rattle.monomial.specs.Enumeration.{only}
use Rattle.inversion.specs.Turn.{combination}
use Rattle.inversion.proofs.Combination.{weigh-combination}
use Rattle.inversion.proofs.Affine.{linear, affine_part, affine_agrees}
use Rattle.turn.specs.High.{high_terms}

-- ---- the terms of order 2 or more

-- whether a monomial is one of them
abbrev high : Monomial → ℕ
high e = indicator (leb 2 (order e))

abbrev low : Monomial → ℕ
low e = indicator (leb (order e) 1)

high-yes : (e : Monomial) → 2 ≤ order e → high e ≡ 1
high-yes e l = indicator-yes (leb 2 (order e)) (le→leb 2 (order e) l)

high-no : (e : Monomial) → order e ≤ 1 → high e ≡ 0
high-no e l = indicator-no (leb 2 (order e)) (λ t. omega (arith, leb→le 2 (order e) t))

low-yes : (e : Monomial) → order e ≤ 1 → low e ≡ 1
low-yes e l = indicator-yes (leb (order e) 1) (le→leb (order e) 1 l)

low-no : (e : Monomial) → 2 ≤ order e → low e ≡ 0
low-no e l = indicator-no (leb (order e) 1) (λ t. omega (arith, leb→le (order e) 1 t))

pub high_terms-within : (v : ℕ) (P : Polynomial) → Within v P → Within v (high_terms P)
unfolding high_terms only
high_terms-within v [] w = tt
high_terms-within v (t ∷ P) w = go (leb 2 (order t.exponents)) (high_terms-within v P w.1)
  where
    go : (b : Bool) → Within v (high_terms P) → Within v (add (only b (t ∷ [])) (high_terms P))
    go true ih = (w.0, ih)
    go false ih = ih

-- what they weigh
pub weigh-high : (P : Polynomial) (φ : Monomial → ℕ)
    → weigh (high_terms P) φ ≡ weigh P (λ e. φ e * indicator (leb 2 (order e)))
unfolding high_terms only
weigh-high [] φ = weigh-nil φ ∙ sym (weigh-nil _)
weigh-high (t ∷ P) φ =
    go (leb 2 (order t.exponents)) refl (weigh-high P φ)
    ∙ sym (weigh-cons t P (λ e. φ e * high e))
  where
    e : Monomial
    e = t.exponents

    go : (b : Bool) → leb 2 (order e) ≡ b → weigh (high_terms P) φ ≡ weigh P (λ e. φ e * high e)
        → weigh (add (only b (t ∷ [])) (high_terms P)) φ
        ≡ t.coefficient * (φ e * high e) + weigh P (λ e. φ e * high e)
    go true q ih =
        let h : high e ≡ 1 = indicator-yes (leb 2 (order e)) (rw q tt) in
        weigh-cons t (high_terms P) φ
        ∙ ap₂ (λ (x y : ℕ). t.coefficient * x + y)
        (sym (ap (λ (x : ℕ). φ e * x) h ∙ mul-one (φ e))) ih
    go false q ih =
        let h : high e ≡ 0 = indicator-no (leb 2 (order e)) (λ t. absurd (rw q at t)) in
        let z : t.coefficient * (φ e * high e) ≡ 0 =
        ap (λ (x : ℕ). t.coefficient * x) (ap (λ (x : ℕ). φ e * x) h ∙ mul-zero (φ e))
        ∙ mul-zero t.coefficient in
        omega (arith, ih, z)

-- their coefficients
pub high_terms-coefficient : (d : Monomial) (P : Polynomial)
    → coefficient_of d (high_terms P) ≡ coefficient_of d P * indicator (leb 2 (order d))
unfolding coefficient_of
high_terms-coefficient d P =
    weigh-high P (λ e. indicator (same d e))
    ∙ weigh-cong P (λ e. moved e (same d e) refl)
    ∙ weight_scale (high d) P (λ e. indicator (same d e))
    ∙ mul_comm (high d) _
  where
    moved : (e : Monomial) (b : Bool) → same d e ≡ b
        → indicator (same d e) * high e ≡ high d * indicator (same d e)
    moved e true q =
        let o : order d ≡ order e = same-order d e (rw q tt) in
        mul_comm (indicator (same d e)) (high e)
        ∙ ap (λ (x : ℕ). indicator (leb 2 x) * indicator (same d e)) (sym o)
    moved e false q =
        let z : indicator (same d e) ≡ 0 =
        indicator-no (same d e) (λ t. absurd (rw q at t)) in
        ap (λ (x : ℕ). x * high e) z
        ∙ zero-mul (high e)
        ∙ sym (ap (λ (x : ℕ). high d * x) z ∙ mul-zero (high d))

-- ---- a map substituted

module _ (p v : ℕ) (P : Polynomial) (g : Map) (w : Within v P) (o : FromOrder p 1 P) where
  module _ (φ : Monomial → ℕ) where
    -- what a monomial weighs with the map substituted, and the part of it up to order 1
    abbrev all : Monomial → ℕ
    all e = weigh (monomial_product g e) φ

    abbrev lower : Monomial → ℕ
    lower e = all e * low e

    parted : (e : Monomial) → all e ≡ lower e + all e * high e
    parted e = go (dec_le (order e) 1)
      where
        go : Dec (order e ≤ 1) → all e ≡ lower e + all e * high e
        go (yes l) =
            sym
            (ap₂ (λ (x y : ℕ). all e * x + all e * y) (low-yes e l) (high-no e l)
            ∙ one-zero (all e))
          where
            one-zero : (x : ℕ) → x * 1 + x * 0 ≡ x
            one-zero x = omega arith
        go (no l) =
            sym
            (ap₂ (λ (x y : ℕ). all e * x + all e * y) (low-no e (omega arith))
            (high-yes e (omega arith))
            ∙ zero_one (all e))
          where
            zero_one : (x : ℕ) → x * 0 + x * 1 ≡ x
            zero_one x = omega arith

    weigh-parted : weigh (substitute P g) φ
        ≡ weigh P lower + weigh (substitute (high_terms P) g) φ
    unfolding substitute
    weigh-parted =
        weigh-extend (monomial_product g) P φ
        ∙ weigh-cong P parted
        ∙ weight_add P lower (λ e. all e * high e)
        ∙ ap (λ (x : ℕ). weigh P lower + x)
        (sym (weigh-high P all) ∙ sym (weigh-extend (monomial_product g) (high_terms P) φ))

    lower-test : Test p 2 lower
    lower-test = record {
      trimmed = λ m.
          ap₂ (λ (x y : ℕ). x * indicator (leb y 1)) (at φ (monomial_product-trim g m))
          (order-trim m);
      high = λ m l. mod-cong p (ap (λ (x : ℕ). all m * x) (low-no m l) ∙ mul-zero (all m));
    }

    lower-unit : (j : ℕ) → lower (unit_of j) ≡ weigh (g j) φ
    lower-unit j =
        ap₂ (λ (x y : ℕ). x * y) (at φ (monomial_product-unit g j))
        (low-yes (unit_of j) (omega (arith, order-unit j)))
        ∙ mul-one (weigh (g j) φ)

    weigh-lower : weigh P lower % p ≡ weigh (combination v (linear P) g) φ % p
    unfolding affine_part
    weigh-lower =
        let c : ℕ = coefficient_of [] P in
        (affine_agrees v P p w).tested lower lower-test
        ∙ mod-cong p
        (weigh-add (constant c) (combination v (linear P) variable) lower
        ∙ ap₂ ◌+◌ (weigh-constant c lower)
        (weigh-combination v (linear P) variable lower
        ∙ sum-cong (range 0 v)
        (λ j. ap (λ (x : ℕ). linear P j * x) (weigh-variable j lower ∙ lower-unit j))
        ∙ sym (weigh-combination v (linear P) g φ)))
        ∙ mod-+ p (c * lower []) 0 _ _ (mod-zero_left p c (lower []) (origin_from p P o)) refl
        ∙ mod-cong p (omega arith)

  pub substitute-parted : {k : ℕ}
      → Agree p k (substitute P g)
      (add (combination v (linear P) g) (substitute (high_terms P) g))
  substitute-parted = record {
    tested = λ φ t.
        mod-cong p (weigh-parted φ)
        ∙ mod-+ p _ _ _ _ (weigh-lower φ) refl
        ∙ mod-cong p
        (sym (weigh-add (combination v (linear P) g) (substitute (high_terms P) g) φ));
  }
