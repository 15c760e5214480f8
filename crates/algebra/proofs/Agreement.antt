-- Agreement up to an order is an equivalence, and every operation respects it: a weight moved by a
-- monomial, or through a derivative, still vanishes from an order on.
use Rattle.std.proofs.Common.{ℕ, zero, suc, ◌+◌, ◌*◌, ◌%◌, ◌-◌, ◌≤◌, ◌<◌, ◌≡◌, refl, sym, ap₂, ◌∙◌, [], ◌∷◌, le_trans, mul-add, arith, length}
use Rattle.algebra.specs.Polynomial.{Monomial, Polynomial, ◌⊕◌, order, exponent, trim, weigh}
use Rattle.algebra.specs.Polynomial.{one, add, scale, difference, mul, power, add_below, lower}
use Rattle.algebra.specs.Polynomial.{derivative}
use Rattle.algebra.specs.Substitution.{Map, monomial_product}
use Rattle.algebra.specs.Agreement.{Test, Agree, AgreeMap, FromOrder, ◌≐◌}
use Rattle.algebra.proofs.Monomials.{order-⊕, order-lower}
use Rattle.algebra.proofs.Trim.{trim-⊕, trim-lower, exponent-trim}
use Rattle.algebra.proofs.Weigh.{weigh-nil, weigh-add, weigh-scale, weigh-difference}
use Rattle.algebra.proofs.Weigh.{weigh-mul, weigh-derivative}
use Rattle.algebra.proofs.Ring.{at, add-zero, mul_comm}
use Rattle.algebra.proofs.Modulo.{mod-cong, mod-+, mod-*, mod-times_if, negate_mod}
use Rattle.algebra.proofs.Modulo.{weigh-mod}

module _ (p : ℕ) where
  -- ---- an equivalence

  pub agree_refl : {k : ℕ} (P : Polynomial) → Agree p k P P
  agree_refl P = record { tested = λ φ t. refl }

  pub agree_sym : {k : ℕ} {P Q : Polynomial} → Agree p k P Q → Agree p k Q P
  agree_sym h = record { tested = λ φ t. sym (h.tested φ t) }

  pub agree_trans : {k : ℕ} {P Q R : Polynomial} → Agree p k P Q → Agree p k Q R → Agree p k P R
  agree_trans g h = record { tested = λ φ t. g.tested φ t ∙ h.tested φ t }

  pub agree_exact : {k : ℕ} (P Q : Polynomial) → P ≐ Q → Agree p k P Q
  agree_exact P Q e = record { tested = λ φ t. mod-cong p (at φ e) }

  pub agree_down : {j k : ℕ} {P Q : Polynomial} → j ≤ k → Agree p k P Q → Agree p j P Q
  agree_down l h =
      record {
        tested = λ φ t.
            h.tested φ
            (record { trimmed = t.trimmed; high = λ m u. t.high m (le_trans l u) });
      }

  -- ---- weights that vanish from an order on

  pub test-trimmed : {k : ℕ} {φ : Monomial → ℕ} → Test p k φ → (a b : Monomial)
      → φ (a ⊕ trim b) ≡ φ (a ⊕ b)
  test-trimmed t a b = cc (t.trimmed (a ⊕ trim b), t.trimmed (a ⊕ b), trim-⊕ a b)

  pub test-shift : {j k : ℕ} {φ : Monomial → ℕ} (a : Monomial) → j ≤ order a + k → Test p j φ
      → Test p k (λ b. φ (a ⊕ b))
  test-shift {j} {k} {φ} a h t =
      record {
        trimmed = test-trimmed t a;
        high = λ b l. t.high (a ⊕ b) (rw order-⊕ (omega arith));
      }

  pub test-derivative : {k : ℕ} {φ : Monomial → ℕ} (i : ℕ) → Test p k φ
      → Test p (suc k) (λ e. exponent i e * φ (lower i e))
  test-derivative {k} {φ} i t =
      record {
        trimmed = λ m.
            ap₂ ◌*◌ (exponent-trim i m)
            (cc (t.trimmed (lower i (trim m)), t.trimmed (lower i m), trim-lower i m));
        high = λ m l.
            mod-times_if p (exponent i m) (φ (lower i m))
            (λ h. t.high (lower i m) (omega (arith, order-lower i m h)));
      }

  -- ---- sum, multiple, difference

  pub agree_add : {k : ℕ} {P P' Q Q' : Polynomial} → Agree p k P P' → Agree p k Q Q'
      → Agree p k (add P Q) (add P' Q')
  agree_add {P} {P'} {Q} {Q'} g h =
      record {
        tested = λ φ t.
            rw (weigh-add P Q φ, weigh-add P' Q' φ)
            (mod-+ p _ _ _ _ (g.tested φ t) (h.tested φ t));
      }

  pub agree_scale : {k : ℕ} {P P' : Polynomial} (c : ℕ) → Agree p k P P'
      → Agree p k (scale c P) (scale c P')
  agree_scale {P} {P'} c g =
      record {
        tested = λ φ t.
            rw (weigh-scale c P φ, weigh-scale c P' φ) (mod-* p c c _ _ refl (g.tested φ t));
      }

  -- the number may be reduced modulo p
  pub agree_scale_mod : {k : ℕ} (c d : ℕ) (P : Polynomial) → c % p ≡ d % p
      → Agree p k (scale c P) (scale d P)
  agree_scale_mod c d P h =
      record {
        tested = λ φ t. rw (weigh-scale c P φ, weigh-scale d P φ) (mod-* p c d _ _ h refl);
      }

  pub agree_difference : {k : ℕ} {P P' Q Q' : Polynomial} → Agree p k P P' → Agree p k Q Q'
      → Agree p k (difference p P Q) (difference p P' Q')
  unfolding difference
  agree_difference g h = agree_add g (agree_scale (p - 1) h)

  -- p − 1 times P is the additive inverse of P
  pub add-negate : {k : ℕ} (P : Polynomial) → 0 < p → Agree p k (add P (scale (p - 1) P)) []
  add-negate P h =
      record {
        tested = λ φ t. rw (weigh-add, weigh-scale, weigh-nil) (negate_mod p (weigh P φ) h);
      }

  pub difference-self : {k : ℕ} (P : Polynomial) → 0 < p → Agree p k (difference p P P) []
  unfolding difference
  difference-self P h = add-negate P h

  pub difference-exchange : {k : ℕ} (P Q : Polynomial) → 0 < p
      → Agree p k (add (difference p P Q) (difference p Q P)) []
  difference-exchange P Q h =
      record {
        tested = λ φ t.
            rw (weigh-add, weigh-difference, weigh-difference, weigh-nil)
            (mod-cong p (omega (arith, mul-add (p - 1) (weigh P φ) (weigh Q φ)))
            ∙ negate_mod p (weigh P φ + weigh Q φ) h);
      }

  pub agree_to_difference : {k : ℕ} {P Q : Polynomial} → 0 < p → Agree p k P Q
      → FromOrder p k (difference p P Q)
  agree_to_difference {P} {Q} h g =
      agree_trans (agree_difference g (agree_refl Q)) (difference-self Q h)

  -- what is missing, added, gives the whole
  pub add-difference : {k : ℕ} (P Q : Polynomial) → 0 < p
      → Agree p k (add Q (difference p P Q)) P
  add-difference P Q h =
      record {
        tested = λ φ t.
            rw (weigh-add, weigh-difference)
            (mod-cong p (regroup (weigh Q φ) (weigh P φ) _)
            ∙ mod-+ p _ _ _ 0 refl (negate_mod p (weigh Q φ) h)
            ∙ mod-cong p (omega arith));
      }
    where
      regroup : (a b c : ℕ) → a + (b + c) ≡ b + (a + c)
      regroup a b c = omega arith

  pub difference_to_agree : {k : ℕ} {P Q : Polynomial} → 0 < p → FromOrder p k (difference p P Q)
      → Agree p k P Q
  difference_to_agree {P} {Q} h g =
      agree_trans (agree_sym (add-difference P Q h))
      (agree_trans (agree_add (agree_refl Q) g) (agree_exact _ _ (add-zero Q)))

  -- ---- product, power

  agree_mul_right : {k : ℕ} {Q Q' : Polynomial} (P : Polynomial) → Agree p k Q Q'
      → Agree p k (mul P Q) (mul P Q')
  agree_mul_right {Q} {Q'} P h =
      record {
        tested = λ φ t.
            rw (weigh-mul P Q φ, weigh-mul P Q' φ)
            (weigh-mod p P _ _ (λ a. h.tested _ (test-shift a (omega arith) t)));
      }

  pub agree_mul : {k : ℕ} {P P' Q Q' : Polynomial} → Agree p k P P' → Agree p k Q Q'
      → Agree p k (mul P Q) (mul P' Q')
  agree_mul {P} {P'} {Q} {Q'} g h =
      agree_trans (agree_mul_right P h)
      (agree_trans (agree_exact _ _ (mul_comm P Q'))
      (agree_trans (agree_mul_right Q' g) (agree_exact _ _ (mul_comm Q' P'))))

  pub agree_power : {k : ℕ} {P Q : Polynomial} → Agree p k P Q → (j : ℕ)
      → Agree p k (power P j) (power Q j)
  unfolding power
  agree_power h zero = agree_refl one
  agree_power h (suc j) = agree_mul h (agree_power h j)

  pub agree_monomial_product_below : {k : ℕ} (v : ℕ) (f g : Map)
      → ((i : ℕ) → i < v → Agree p k (f i) (g i)) → (e : Monomial) → length e ≤ v
      → Agree p k (monomial_product f e) (monomial_product g e)
  unfolding monomial_product
  agree_monomial_product_below v f g h [] l = agree_refl _
  agree_monomial_product_below zero f g h (j ∷ e) l = absurd (omega arith)
  agree_monomial_product_below (suc v) f g h (j ∷ e) l =
      agree_mul (agree_power (h 0 (omega arith)) j)
      (agree_monomial_product_below v (λ i. f (suc i)) (λ i. g (suc i))
      (λ i m. h (suc i) (omega arith)) e (omega arith))

  pub agree_monomial_product : {k : ℕ} (f g : Map) → AgreeMap p k f g → (e : Monomial)
      → Agree p k (monomial_product f e) (monomial_product g e)
  agree_monomial_product f g h e =
      agree_monomial_product_below (length e) f g (λ i l. h i) e (omega arith)

  pub agree_below : {k : ℕ} (h : ℕ) (F G : ℕ → Polynomial) → ((i : ℕ) → Agree p k (F i) (G i))
      → Agree p k (add_below h F) (add_below h G)
  unfolding add_below
  agree_below zero F G a = agree_refl []
  agree_below (suc h) F G a = agree_add (agree_below h F G a) (a h)

  -- ---- derivative: one order is lost

  pub agree_derivative : {k : ℕ} {P Q : Polynomial} (i : ℕ) → Agree p (suc k) P Q
      → Agree p k (derivative i P) (derivative i Q)
  agree_derivative {P} {Q} i h =
      record {
        tested = λ φ t.
            rw (weigh-derivative i P φ, weigh-derivative i Q φ)
            (h.tested _ (test-derivative i t));
      }
