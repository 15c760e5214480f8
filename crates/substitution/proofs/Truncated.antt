-- The walk modulo p up to an order. A product that agrees with that of a node serves as well, so
-- the products may be cut at every step. And an origin-fixing map gives nothing of lower order
-- than the monomial it is put into, so a walk that is to be right up to order `cut` may stop after
-- `cut` letters and enter only beginnings of monomials of order at most `cut`: the others add nothing
-- there.
use Rattle.std.proofs.Common.{ℕ, zero, suc, ◌+◌, ◌*◌, ◌-◌, ◌≤◌, ◌<◌, ◌≡◌, refl, sym, ap, ap₂, ◌∙◌, Bool, true, false, ◌&&◌, ◌||◌, [], ◌∷◌, append_assoc, arith, T, leb, leb→le, le→leb}
use Rattle.std.proofs.Math.Path.{fun_ext}
use Rattle.algebra.specs.Polynomial.{Monomial, Term, Polynomial, ◌⊕◌, order, same, indicator}
use Rattle.algebra.specs.Polynomial.{coefficient_of, constant, one, add, mul, add_below}
use Rattle.algebra.specs.Substitution.{Map, substitute, unit_of}
use Rattle.algebra.specs.Agreement.{Agree, OriginFixing, Within}
use Rattle.algebra.proofs.Booleans.{indicator-no}
use Rattle.algebra.proofs.Monomials.{order-⊕, order-unit}
use Rattle.algebra.proofs.Trim.{same-order}
use Rattle.algebra.proofs.Weigh.{coefficient-cons}
use Rattle.algebra.proofs.Modulo.{mod-cong}
use Rattle.algebra.proofs.Agreement.{agree_refl, agree_trans, agree_exact, agree_add, agree_scale}
use Rattle.algebra.proofs.Agreement.{agree_mul, agree_below}
use Rattle.algebra.proofs.Truncation.{agree_substitute}
use Rattle.algebra.proofs.Coefficients.{same_to_agree}
use Rattle.monomial.specs.Enumeration.{only}
use Rattle.substitution.specs.Walk.{letters, begins, begun, low_terms, all_terms, visit, walk}
use Rattle.substitution.proofs.Beginnings.{or_false, begun_all, begun-add}
use Rattle.substitution.proofs.Walk.{branch, Low, walk-substitutes}

pub order-snoc : (m : Monomial) (k : ℕ) → order (m ⊕ unit_of k) ≡ suc (order m)
order-snoc m k = order-⊕ m (unit_of k) ∙ omega (arith, order-unit k)

-- ---- products that agree

module _ (p : ℕ) where
  pub visit-agree : {k : ℕ} {R R' W W' : Polynomial} (b : Bool) (c : ℕ) → Agree p k R R'
      → Agree p k W W' → Agree p k (visit b c R W) (visit b c R' W')
  unfolding visit only
  visit-agree true c g h = agree_add p (agree_scale p c g) h
  visit-agree false c g h = agree_refl p []

  module _ (κ : Monomial → ℕ) (mark : Monomial → Bool) (f : Map) (v : ℕ) where
    pub walk-agree : {k : ℕ} {Q Q' : Polynomial} (r l : ℕ) (m : Monomial) → Agree p k Q Q'
        → Agree p k (walk κ mark f v r l m Q) (walk κ mark f v r l m Q')
    unfolding walk
    walk-agree zero l m h = agree_refl p []
    walk-agree {Q = Q} {Q' = Q'} (suc r) l m h =
        agree_below p (v - l) _ _
        (λ j.
        let d = m ⊕ unit_of (l + j) in
        let g = agree_mul p h (agree_refl p (f (l + j))) in
        visit-agree (mark d) (κ d) g (walk-agree {Q = mul Q (f (l + j))} {Q' = mul Q' (f (l + j))} r (l + j) d g))

    -- a letter whose product is replaced by one that agrees with it, as by the product cut
    pub branch-agree : {k : ℕ} (r : ℕ) (m : Monomial) (Q R : Polynomial) (i : ℕ)
        → Agree p k R (mul Q (f i))
        → Agree p k (visit (mark (m ⊕ unit_of i)) (κ (m ⊕ unit_of i)) R
        (walk κ mark f v r i (m ⊕ unit_of i) R)) (branch κ mark f v r m Q i)
    unfolding branch
    branch-agree r m Q R i h =
        let d = m ⊕ unit_of i in
        visit-agree (mark d) (κ d) h (walk-agree r i d h)

-- ---- the terms of order at most n

module _ (n : ℕ) where
  pub low_terms-low : (P : Polynomial) → Low n (low_terms n P)
  unfolding low_terms only
  low_terms-low [] = tt
  low_terms-low (t ∷ P) = go (leb (order t.exponents) n) refl (low_terms-low P)
    where
      go : (b : Bool) → leb (order t.exponents) n ≡ b → Low n (low_terms n P)
          → Low n (add (only b (t ∷ [])) (low_terms n P))
      go true q ih = (leb→le (order t.exponents) n (rw q tt), ih)
      go false q ih = ih

  pub low_terms-within : (v : ℕ) (P : Polynomial) → Within v P → Within v (low_terms n P)
  unfolding low_terms only
  low_terms-within v [] w = tt
  low_terms-within v (t ∷ P) w = go (leb (order t.exponents) n) (low_terms-within v P w.1)
    where
      go : (b : Bool) → Within v (low_terms n P) → Within v (add (only b (t ∷ [])) (low_terms n P))
      go true ih = (w.0, ih)
      go false ih = ih

  pub low_terms-add : (P Q : Polynomial) → low_terms n (add P Q) ≡ add (low_terms n P) (low_terms n Q)
  unfolding low_terms
  low_terms-add [] Q = refl
  low_terms-add (t ∷ P) Q =
      let H = only (leb (order t.exponents) n) (t ∷ []) in
      ap (add H) (low_terms-add P Q) ∙ sym (append_assoc H (low_terms n P) (low_terms n Q))

  low_terms-all : (c : ℕ) (F : ℕ → Polynomial)
      → low_terms n (all_terms c F) ≡ all_terms c (λ i. low_terms n (F i))
  unfolding low_terms add_below
  low_terms-all zero F = refl
  low_terms-all (suc c) F =
      low_terms-add (add_below c F) (F c)
      ∙ ap (λ (R : Polynomial). add R (low_terms n (F c))) (low_terms-all c F)

  -- what begins a low monomial of one component begins one of them all
  pub begun-all_low : (c : ℕ) (F : ℕ → Polynomial) (i : ℕ) (m : Monomial) → i < c
      → T (begun (low_terms n (F i)) m) → T (begun (low_terms n (all_terms c F)) m)
  begun-all_low c F i m l t =
      rw (low_terms-all c F) (begun_all c (λ j. low_terms n (F j)) i m l t)

  begun-low : (t : Term) (m : Monomial) → begun (low_terms n (t ∷ [])) m
      ≡ leb (order t.exponents) n && begins (letters m) (letters t.exponents)
  unfolding low_terms only begun
  begun-low t m = go (leb (order t.exponents) n)
    where
      go : (b : Bool) → begun (add (only b (t ∷ [])) []) m
          ≡ b && begins (letters m) (letters t.exponents)
      go true = or_false (begins (letters m) (letters t.exponents))
      go false = refl

  -- one term more
  pub begun-low_more : (P : Polynomial) (t : Term) (m : Monomial)
      → begun (low_terms n (add P (t ∷ []))) m
      ≡ begun (low_terms n P) m
      || (leb (order t.exponents) n && begins (letters m) (letters t.exponents))
  begun-low_more P t m =
      ap (λ (R : Polynomial). begun R m) (low_terms-add P (t ∷ []))
      ∙ begun-add (low_terms n P) (low_terms n (t ∷ [])) m
      ∙ ap (λ (b : Bool). begun (low_terms n P) m || b) (begun-low t m)

  pub low_terms-coefficient : (P : Polynomial) (d : Monomial) → order d ≤ n
      → coefficient_of d (low_terms n P) ≡ coefficient_of d P
  unfolding low_terms only
  low_terms-coefficient [] d l = refl
  low_terms-coefficient (t ∷ P) d l =
      go (leb (order t.exponents) n) refl (low_terms-coefficient P d l)
      ∙ sym (coefficient-cons d t P)
    where
      e : Monomial
      e = t.exponents

      go : (b : Bool) → leb (order e) n ≡ b
          → coefficient_of d (low_terms n P) ≡ coefficient_of d P
          → coefficient_of d (add (only b (t ∷ [])) (low_terms n P))
          ≡ t.coefficient * indicator (same d e) + coefficient_of d P
      go true q ih =
          coefficient-cons d t (low_terms n P)
          ∙ ap (λ (x : ℕ). t.coefficient * indicator (same d e) + x) ih
      go false q ih =
          let z : indicator (same d e) ≡ 0 =
          indicator-no (same d e)
          (λ s.
          let low : T (leb (order e) n) = le→leb (order e) n (omega (arith, same-order d e s)) in
          absurd (rw q at low)) in
          omega (arith, ih, ap (λ (x : ℕ). t.coefficient * x) z)

  pub low_terms-agree : (p : ℕ) (P : Polynomial) → Agree p (suc n) (low_terms n P) P
  low_terms-agree p P =
      same_to_agree p n (record { at_low = λ m l. mod-cong p (low_terms-coefficient P m l) })

-- ---- the walk stopped after `cut` letters

-- only coefficients of monomials that are reached matter
pub walk-cong : (κ χ : Monomial → ℕ) (mark : Monomial → Bool) (f : Map) (v r l : ℕ) (m : Monomial)
    (Q : Polynomial) → ((d : Monomial) → order d ≤ order m + r → κ d ≡ χ d)
    → walk κ mark f v r l m Q ≡ walk χ mark f v r l m Q
unfolding walk
walk-cong κ χ mark f v zero l m Q h = refl
walk-cong κ χ mark f v (suc r) l m Q h =
    ap (add_below (v - l))
    (fun_ext
    (λ j.
    let k = l + j in
    let d = m ⊕ unit_of k in
    ap₂ (λ (c : ℕ) (W : Polynomial). visit (mark d) c (mul Q (f k)) W)
    (h d (omega (arith, order-snoc m k)))
    (walk-cong κ χ mark f v r k d (mul Q (f k))
    (λ e u. h e (omega (arith, order-snoc m k))))))

module _ (p cut v : ℕ) (f : Map) (fixing : OriginFixing p f) (o : Monomial)
    (origin : order o ≡ 0) where
  pub walk-cut : (P : Polynomial) (mark : Monomial → Bool) → Within v P
      → ((m : Monomial) → T (begun (low_terms cut P) m) → T (mark m))
      → Agree p (suc cut) (add (constant (coefficient_of [] P))
      (walk (λ m. coefficient_of m P) mark f v cut 0 o one)) (substitute P f)
  walk-cut P mark w marked =
      let L = low_terms cut P in
      let κ : Monomial → ℕ = λ m. coefficient_of m P in
      let χ : Monomial → ℕ = λ m. coefficient_of m L in
      let same-walk : add (constant (κ [])) (walk κ mark f v cut 0 o one)
      ≡ add (constant (χ [])) (walk χ mark f v cut 0 o one) =
      ap₂ (λ (c : ℕ) (W : Polynomial). add (constant c) W)
      (sym (low_terms-coefficient cut P [] (unfold order in omega arith)))
      (walk-cong κ χ mark f v cut 0 o one
      (λ d u. sym (low_terms-coefficient cut P d (omega arith)))) in
      rw same-walk
      (agree_trans p
      (agree_exact p _ _
      (walk-substitutes L mark f v cut o origin (low_terms-within cut v P w) (low_terms-low cut P)
      marked))
      (agree_substitute p f fixing (low_terms-agree cut p P)))
