-- Which monomials are beginnings: a beginning of a beginning is one, a sum of polynomials has the
-- beginnings of each, and a monomial that goes on after one that is no beginning has no
-- coefficient.
use Rattle.std.proofs.Common.{ℕ, zero, suc, ◌*◌, ◌≤◌, ◌<◌, ◌≡◌, refl, sym, ap, ap₂, ◌∙◌, Bool, true, false, ◌||◌, List, [], ◌∷◌, ◌++◌, append_assoc, append-nil, arith, T, eqb, eqb→eq, length}
use Rattle.std.proofs.Math.Decide.{ℕ_discrete}
use Rattle.std.proofs.Math.Dec.{eqb_refl}
use Rattle.algebra.specs.Polynomial.{Monomial, Polynomial, ◌⊕◌, trim, same, indicator, add}
use Rattle.algebra.specs.Polynomial.{add_below, coefficient_of}
use Rattle.algebra.specs.Substitution.{unit_of}
use Rattle.algebra.proofs.Booleans.{and_intro, and_left, and_right, or_left, or_right, indicator-no}
use Rattle.algebra.proofs.Weigh.{coefficient-nil, coefficient-cons}
use Rattle.substitution.specs.Walk.{letters, begins, begun, all_terms}
use Rattle.substitution.proofs.Letters.{EndsBy, letters-snoc, letters-trim, same-letters}

-- ---- words

pub begins-append : (w s : List ℕ) → T (begins w (w ++ s))
unfolding begins
begins-append [] s = tt
begins-append (a ∷ w) s =
    and_intro (eqb a a) (begins w (w ++ s)) (eqb_refl a) (begins-append w s)

pub begins-refl : (w : List ℕ) → T (begins w w)
begins-refl w = rw append-nil at (begins-append w [])

-- a beginning, and what is left
pub begins-rest : (w u : List ℕ) → T (begins w u) → (s : List ℕ) × (u ≡ w ++ s)
unfolding begins
begins-rest [] u t = (u, refl)
begins-rest (a ∷ w) [] t = absurd t
begins-rest (a ∷ w) (b ∷ u) t =
    let r = begins-rest w u (and_right (eqb a b) _ t) in
    (r.0, ap₂ ◌∷◌ (sym (eqb→eq a b (and_left (eqb a b) _ t))) r.1)

pub begins-shorter : (w s u : List ℕ) → T (begins (w ++ s) u) → T (begins w u)
unfolding begins
begins-shorter [] s u t = tt
begins-shorter (a ∷ w) s [] t = t
begins-shorter (a ∷ w) s (b ∷ u) t =
    and_intro (eqb a b) (begins w u) (and_left (eqb a b) _ t)
    (begins-shorter w s u (and_right (eqb a b) _ t))

-- two beginnings of one word that are equally long are the same
pub begins-unique : (w x u : List ℕ) → T (begins w u) → T (begins x u) → length w ≡ length x
    → w ≡ x
unfolding begins
begins-unique [] [] u s t l = refl
begins-unique [] (b ∷ x) u s t l = absurd (omega arith)
begins-unique (a ∷ w) [] u s t l = absurd (omega arith)
begins-unique (a ∷ w) (b ∷ x) [] s t l = absurd s
begins-unique (a ∷ w) (b ∷ x) (c ∷ u) s t l =
    ap₂ ◌∷◌
    (eqb→eq a c (and_left (eqb a c) _ s) ∙ sym (eqb→eq b c (and_left (eqb b c) _ t)))
    (begins-unique w x u (and_right (eqb a c) _ s) (and_right (eqb b c) _ t) (omega arith))

-- of two beginnings of one word, the shorter begins the longer
pub begins-between : (w x u : List ℕ) → T (begins w u) → T (begins x u) → length w ≤ length x
    → T (begins w x)
unfolding begins
begins-between [] x u s t l = tt
begins-between (a ∷ w) [] u s t l = absurd (omega arith)
begins-between (a ∷ w) (b ∷ x) [] s t l = absurd s
begins-between (a ∷ w) (b ∷ x) (c ∷ u) s t l =
    let e : a ≡ b =
    eqb→eq a c (and_left (eqb a c) _ s) ∙ sym (eqb→eq b c (and_left (eqb b c) _ t)) in
    and_intro (eqb a b) (begins w x) (rw e (eqb_refl b))
    (begins-between w x u (and_right (eqb a c) _ s) (and_right (eqb b c) _ t) (omega arith))

-- ---- monomials

-- d is m and letters more
pub record Extends (m d : Monomial) : Type 0 where
  pub rest : List ℕ
  pub is : letters d ≡ letters m ++ rest

pub extends_refl : (m : Monomial) → Extends m m
extends_refl m = record { rest = []; is = sym (append-nil (letters m)) }

pub extends_snoc : (m : Monomial) (k : ℕ) → EndsBy k m → Extends m (m ⊕ unit_of k)
extends_snoc m k h = record { rest = k ∷ []; is = letters-snoc m k h }

pub extends_trans : {a b c : Monomial} → Extends a b → Extends b c → Extends a c
extends_trans {a} x y = record {
  rest = x.rest ++ y.rest;
  is =
      y.is
      ∙ ap (λ (w : List ℕ). w ++ y.rest) x.is
      ∙ append_assoc (letters a) x.rest y.rest;
}

-- ---- the beginnings of a polynomial

pub begun-extends : (P : Polynomial) {m d : Monomial} → Extends m d → T (begun P d)
    → T (begun P m)
unfolding begun
begun-extends [] x t = t
begun-extends (u ∷ P) {m} {d} x t =
    go (begins (letters d) (letters u.exponents)) refl t (begun-extends P x)
  where
    e : List ℕ
    e = letters u.exponents

    go : (b : Bool) → begins (letters d) e ≡ b → T (b || begun P d)
        → (T (begun P d) → T (begun P m)) → T (begins (letters m) e || begun P m)
    go true q h r =
        let g : T (begins (letters m ++ x.rest) e) = rw (sym x.is, q) tt in
        or_left (begins (letters m) e) (begun P m) (begins-shorter (letters m) x.rest e g)
    go false q h r = or_right (begins (letters m) e) (begun P m) (r h)

-- the exponents 0 at the end do not matter
pub begun-letters : (P : Polynomial) (a b : Monomial) → letters a ≡ letters b
    → begun P a ≡ begun P b
unfolding begun
begun-letters [] a b e = refl
begun-letters (t ∷ P) a b e =
    ap₂ ◌||◌ (ap (λ (w : List ℕ). begins w (letters t.exponents)) e) (begun-letters P a b e)

pub begun-trim : (P : Polynomial) (m : Monomial) → begun P (trim m) ≡ begun P m
begun-trim P m = begun-letters P (trim m) m (letters-trim 0 m)

pub or_false : (b : Bool) → b || false ≡ b
or_false true = refl
or_false false = refl

or_assoc : (a b c : Bool) → (a || b) || c ≡ a || (b || c)
or_assoc true b c = refl
or_assoc false b c = refl

pub begun-add : (P Q : Polynomial) (m : Monomial) → begun (add P Q) m ≡ begun P m || begun Q m
unfolding begun
begun-add [] Q m = refl
begun-add (t ∷ P) Q m =
    ap (λ (b : Bool). begins (letters m) (letters t.exponents) || b) (begun-add P Q m)
    ∙ sym (or_assoc (begins (letters m) (letters t.exponents)) (begun P m) (begun Q m))

-- what begins a monomial of one component begins one of them all
pub begun_all : (c : ℕ) (F : ℕ → Polynomial) (i : ℕ) (m : Monomial) → i < c
    → T (begun (F i) m) → T (begun (all_terms c F) m)
unfolding add_below
begun_all zero F i m l t = absurd (omega arith)
begun_all (suc c) F i m l t =
    rw (begun-add (add_below c F) (F c) m)
    (go (ℕ_discrete i c) (λ k. begun_all c F i m k t))
  where
    go : Dec (i ≡ c) → (i < c → T (begun (add_below c F) m))
        → T (begun (add_below c F) m || begun (F c) m)
    go (yes e) ih = or_right (begun (add_below c F) m) (begun (F c) m) (rw e at t)
    go (no e) ih = or_left (begun (add_below c F) m) (begun (F c) m) (ih (omega arith))

-- a monomial that goes on after one that is no beginning has no coefficient
pub coefficient-unbegun : (P : Polynomial) {m d : Monomial} → Extends m d → (T (begun P m) → ⊥)
    → coefficient_of d P ≡ 0
unfolding begun
coefficient-unbegun [] {d = d} x n = coefficient-nil d
coefficient-unbegun (t ∷ P) {m} {d} x n =
    let e = t.exponents in
    let z : indicator (same d e) ≡ 0 =
    indicator-no (same d e)
    (λ s.
    n
    (or_left (begins (letters m) (letters e)) (begun P m)
    (rw (sym (same-letters d e s) ∙ x.is) (begins-append (letters m) x.rest)))) in
    coefficient-cons d t P
    ∙ omega (
      arith,
      ap (λ (y : ℕ). t.coefficient * y) z,
      coefficient-unbegun P x (λ s. n (or_right (begins (letters m) (letters e)) (begun P m) s)),
    )
