-- The walk over the monomials of a map whose multiples of order 0 and 1 are left out agrees, up to
-- the order of the cut, with a map substituted into the terms of order 2 or more: these have no
-- constant, and what begins one of their monomials up to the cut begins such a one of the map's.
use Rattle.std.proofs.Common.{ℕ, suc, ◌+◌, ◌*◌, ◌≤◌, ◌<◌, ◌≡◌, refl, sym, ap, ◌∙◌, Bool, true, false, ◌||◌, List, [], ◌∷◌, mul-zero, arith, T, leb, leb→le}
use Rattle.algebra.specs.Polynomial.{Monomial, Polynomial, order, coefficient_of, constant, one, add}
use Rattle.algebra.specs.Polynomial.{weigh}
use Rattle.algebra.specs.Substitution.{substitute}
use Rattle.algebra.specs.Agreement.{Agree, OriginFixing}
use Rattle.algebra.proofs.Booleans.{or_right, indicator-no}
use Rattle.algebra.proofs.Weigh.{weigh-add, weigh-constant}
use Rattle.algebra.proofs.Modulo.{mod-cong}
use Rattle.algebra.proofs.Agreement.{agree_sym, agree_trans}
use Rattle.monomial.specs.Enumeration.{only}
use Rattle.series.specs.Image.{component, polynomial, map_of, monomial_at}
use Rattle.series.specs.Series.{IsMap}
use Rattle.series.proofs.Maps.{map_of-inside}
use Rattle.series.proofs.Positions.{order-first}
use Rattle.series.proofs.Reading.{polynomial-within}
use Rattle.substitution.specs.Walk.{begun, beginning, low_terms, walk}
use Rattle.substitution.specs.Marks.{outer_terms}
use Rattle.substitution.proofs.Beginnings.{begun-add}
use Rattle.substitution.proofs.MarkingAll.{beginning-some}
use Rattle.substitution.proofs.Truncated.{begun-all_low, walk-cong, walk-cut}
use Rattle.walk.specs.Walking.{inner}
use Rattle.composition.proofs.Entering.{walk_same}
use Rattle.composition.proofs.Planning.{outer_coefficients}
use Rattle.turn.specs.High.{high_terms}
use Rattle.turn.proofs.HighTerms.{high_terms-within, high_terms-coefficient}

or_later : (a b c : Bool) → (T b → T c) → T (a || b) → T (a || c)
or_later true b c f t = tt
or_later false b c f t = f t

high_terms-begun : (cut : ℕ) (P : Polynomial) (m : Monomial)
    → T (begun (low_terms cut (high_terms P)) m) → T (begun (low_terms cut P) m)
unfolding high_terms low_terms only
high_terms-begun cut [] m t = t
high_terms-begun cut (u ∷ P) m t =
    rw (begun-add low (low_terms cut P) m)
    (go (leb 2 (order u.exponents)) t (high_terms-begun cut P m))
  where
    -- the term u where its order is low
    low : Polynomial
    low = only (leb (order u.exponents) cut) (u ∷ [])

    go : (b : Bool) → T (begun (low_terms cut (add (only b (u ∷ [])) (high_terms P))) m)
        → (T (begun (low_terms cut (high_terms P)) m) → T (begun (low_terms cut P) m))
        → T (begun low m || begun (low_terms cut P) m)
    go true s ih =
        let H = low_terms cut (high_terms P) in
        or_later (begun low m) (begun H m) (begun (low_terms cut P) m) ih (rw (begun-add low H m) at s)
    go false s ih = or_right (begun low m) (begun (low_terms cut P) m) (ih s)

nothing-high : 2 ≤ order [] → ⊥
unfolding order
nothing-high l = omega arith

high_terms-constant : (P : Polynomial) → coefficient_of [] (high_terms P) ≡ 0
high_terms-constant P =
    high_terms-coefficient [] P
    ∙ ap (λ (x : ℕ). coefficient_of [] P * x)
    (indicator-no (leb 2 (order [])) (λ t. nothing-high (leb→le 2 (order []) t)))
    ∙ mul-zero (coefficient_of [] P)

-- the constant 0 adds nothing
without_constant : (p k : ℕ) (W : Polynomial) → Agree p k (add (constant 0) W) W
without_constant p k W = record {
  tested = λ φ t.
      mod-cong p
      (weigh-add (constant 0) W φ
      ∙ ap (λ (x : ℕ). x + weigh W φ) (weigh-constant 0 φ)
      ∙ omega arith);
}

module _ (p n v : ℕ) (f : List ℕ) (ys : ℕ → List ℕ) (cut : ℕ) (is_map : IsMap p n v f)
    (fixing : OriginFixing p (inner n v ys)) (i : ℕ) (l : i < v) where
  abbrev P : Polynomial
  P = polynomial n v (component n v i f)

  abbrev o : Monomial
  o = monomial_at n v 1

  -- what is entered begins one of these
  abbrev all : Polynomial
  all = low_terms cut (outer_terms n v v f)

  walk_is : walk (outer_coefficients n v 2 f i) (beginning all) (inner n v ys) v cut 0 o one
      ≡ walk (λ m. coefficient_of m (high_terms P)) (begun all) (inner n v ys) v cut 0 o one
  walk_is =
      walk-cong (outer_coefficients n v 2 f i) (λ m. coefficient_of m (high_terms P)) (beginning all)
      (inner n v ys) v cut 0 o one (λ d h. sym (high_terms-coefficient d P))
      ∙ walk_same (λ m. coefficient_of m (high_terms P)) (beginning all) (begun all)
      (inner n v ys) (inner n v ys) v (λ d h. beginning-some all d h) (λ k h. refl) cut 0 o one

  begins-all : (m : Monomial) → T (begun (low_terms cut (high_terms P)) m) → T (begun all m)
  unfolding outer_terms
  begins-all m t =
      begun-all_low cut v (λ j. polynomial n v (component n v j f)) i m l
      (high_terms-begun cut P m t)

  with_constant : Agree p (suc cut)
      (add (constant 0)
      (walk (λ m. coefficient_of m (high_terms P)) (begun all) (inner n v ys) v cut 0 o one))
      (substitute (high_terms P) (inner n v ys))
  with_constant =
      rw (high_terms-constant P) at
      (walk-cut p cut v (inner n v ys) fixing o (order-first n v) (high_terms P) (begun all)
      (high_terms-within v P (polynomial-within n v (is_map.each i l))) begins-all)

  pub walk-high : Agree p (suc cut)
      (walk (outer_coefficients n v 2 f i) (beginning (low_terms cut (outer_terms n v v f)))
      (inner n v ys) v cut 0 (monomial_at n v 1) one)
      (substitute (high_terms (map_of n v f i)) (inner n v ys))
  walk-high =
      rw (walk_is, map_of-inside n v f i l)
      (agree_trans p (agree_sym p (without_constant p (suc cut) _)) with_constant)
