-- A product of factors that begin at orders j and k begins at order j + k. So an origin-fixing map
-- gives nothing of lower order than the monomial it is put into, and substitution respects
-- agreement in both arguments.
use Rattle.std.proofs.Common.{ℕ, zero, suc, ◌+◌, ◌<◌, zero-le, ◌∙◌, [], ◌∷◌, arith, one-add}
use Rattle.algebra.specs.Polynomial.{Monomial, Polynomial, ◌⊕◌, order, trim, weigh, one, add}
use Rattle.algebra.specs.Polynomial.{scale, mul, power}
use Rattle.algebra.specs.Substitution.{Map, monomial_product, extend, substitute, compose}
use Rattle.algebra.specs.Substitution.{unit_of, variable, identity}
use Rattle.algebra.specs.Agreement.{Test, Agree, AgreeMap, FromOrder, OriginFixing, Within}
use Rattle.algebra.proofs.Monomials.{⊕-comm, order-unit}
use Rattle.algebra.proofs.Weigh.{weigh-cong, weigh-nil, weigh-mul, weigh-variable}
use Rattle.algebra.proofs.Weigh.{weigh-extend}
use Rattle.algebra.proofs.Ring.{at}
use Rattle.algebra.proofs.Substitute.{monomial_product-trim}
use Rattle.algebra.proofs.Modulo.{mod-cong, weigh-mod, weigh-mod_within, weigh-vanish}
use Rattle.algebra.proofs.Agreement.{agree_trans, agree_down, agree_add, agree_scale}
use Rattle.algebra.proofs.Agreement.{agree_monomial_product, agree_monomial_product_below}
use Rattle.algebra.proofs.Agreement.{test-trimmed, test-shift}

module _ (p : ℕ) where
  -- ---- no term of order below k

  pub from_zero : (P : Polynomial) → FromOrder p 0 P
  from_zero P =
      record { tested = λ φ t. rw weigh-nil (weigh-vanish p P φ (λ m. t.high m zero-le)) }

  pub from-add : {k : ℕ} {P Q : Polynomial} → FromOrder p k P → FromOrder p k Q
      → FromOrder p k (add P Q)
  from-add g h = agree_add p g h

  pub from-scale : {k : ℕ} {P : Polynomial} (c : ℕ) → FromOrder p k P
      → FromOrder p k (scale c P)
  unfolding scale
  from-scale c g = agree_scale p c g

  -- a factor that begins at order j moves the agreement up by j
  pub agree_mul_from : {j k : ℕ} {P P' Q : Polynomial} → Agree p k P P' → FromOrder p j Q
      → Agree p (k + j) (mul P Q) (mul P' Q)
  agree_mul_from {j} {k} {P} {P'} {Q} g h =
      record {
        tested = λ φ t.
            rw (weigh-mul P Q φ, weigh-mul P' Q φ) (g.tested _ (inner φ t));
      }
    where
      inner : (φ : Monomial → ℕ) → Test p (k + j) φ → Test p k (λ a. weigh Q (λ b. φ (a ⊕ b)))
      inner φ t =
          record {
            trimmed = λ a.
                weigh-cong Q (λ b. rw (⊕-comm a b, ⊕-comm (trim a) b) (test-trimmed p t b a));
            high = λ a l.
                h.tested (λ b. φ (a ⊕ b)) (test-shift p a (omega arith) t) ∙ rw weigh-nil;
          }

  pub from-mul : {j k : ℕ} {P Q : Polynomial} → FromOrder p j P → FromOrder p k Q
      → FromOrder p (j + k) (mul P Q)
  unfolding mul
  from-mul g h = agree_mul_from g h

  pub from-power : {P : Polynomial} → FromOrder p 1 P → (k : ℕ) → FromOrder p k (power P k)
  unfolding power
  from-power h zero = from_zero one
  from-power h (suc k) = rw (← one-add) (from-mul h (from-power h k))

  pub from-monomial_product : (f : Map) → OriginFixing p f → (e : Monomial)
      → FromOrder p (order e) (monomial_product f e)
  unfolding monomial_product order
  from-monomial_product f h [] = from_zero one
  from-monomial_product f h (k ∷ e) =
      from-mul (from-power (h 0) k)
      (from-monomial_product (λ i. f (suc i)) (λ i. h (suc i)) e)

  pub from-variable : (i : ℕ) → FromOrder p 1 (variable i)
  from-variable i =
      record {
        tested = λ φ t.
            mod-cong p (weigh-variable i φ)
            ∙ t.high (unit_of i) (omega (arith, order-unit i))
            ∙ rw weigh-nil;
      }

  pub identity-fixes : OriginFixing p identity
  identity-fixes = from-variable

  -- ---- substitution

  pub agree_substitute_map : {k : ℕ} (P : Polynomial) (f g : Map) → AgreeMap p k f g
      → Agree p k (substitute P f) (substitute P g)
  unfolding substitute
  agree_substitute_map P f g h =
      record {
        tested = λ φ t.
            rw (weigh-extend (monomial_product f) P φ, weigh-extend (monomial_product g) P φ)
            (weigh-mod p P _ _ (λ e. (agree_monomial_product p f g h e).tested φ t));
      }

  -- a polynomial of v variables sees the first v components only
  pub agree_substitute_below : {k : ℕ} (v : ℕ) (P : Polynomial) (f g : Map) → Within v P
      → ((i : ℕ) → i < v → Agree p k (f i) (g i)) → Agree p k (substitute P f) (substitute P g)
  unfolding substitute
  agree_substitute_below v P f g w h =
      record {
        tested = λ φ t.
            rw (weigh-extend (monomial_product f) P φ, weigh-extend (monomial_product g) P φ)
            (weigh-mod_within p v P w _ _
            (λ e l. (agree_monomial_product_below p v f g h e l).tested φ t));
      }

  pub agree_substitute : {k : ℕ} {P Q : Polynomial} (f : Map) → OriginFixing p f → Agree p k P Q
      → Agree p k (substitute P f) (substitute Q f)
  unfolding substitute
  agree_substitute {k} {P} {Q} f o h =
      record {
        tested = λ φ t.
            rw (weigh-extend (monomial_product f) P φ, weigh-extend (monomial_product f) Q φ)
            (h.tested _ (inner φ t));
      }
    where
      inner : (φ : Monomial → ℕ) → Test p k φ → Test p k (λ e. weigh (monomial_product f e) φ)
      inner φ t =
          record {
            trimmed = λ e. at φ (monomial_product-trim f e);
            high = λ e l.
                (agree_down p l (from-monomial_product f o e)).tested φ t ∙ rw weigh-nil;
          }

  pub agree_substitute_both : {k : ℕ} {P Q : Polynomial} (f g : Map) → OriginFixing p f
      → Agree p k P Q → AgreeMap p k f g → Agree p k (substitute P f) (substitute Q g)
  agree_substitute_both {Q} f g o a h =
      agree_trans p (agree_substitute f o a) (agree_substitute_map Q f g h)

  pub from-substitute : {k : ℕ} (P : Polynomial) (f : Map) → OriginFixing p f → FromOrder p k P
      → FromOrder p k (substitute P f)
  unfolding substitute extend
  from-substitute P f o h = agree_substitute f o h

  -- ---- composition

  pub agree_compose : {k : ℕ} (f f' g g' : Map) → OriginFixing p g → AgreeMap p k f f'
      → AgreeMap p k g g' → AgreeMap p k (compose f g) (compose f' g')
  unfolding compose
  agree_compose f f' g g' o a b i = agree_substitute_both g g' o (a i) b

  pub compose-fixes : (f g : Map) → OriginFixing p f → OriginFixing p g
      → OriginFixing p (compose f g)
  unfolding compose
  compose-fixes f g o u i = from-substitute (f i) g u (o i)
