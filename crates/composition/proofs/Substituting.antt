-- The constant of an outer series and its walk from the constant, cut at an order, agree up to that
-- order with the substitution of the inner map. All outer series share one tree of beginnings.
use Rattle.std.proofs.Common.{ℕ, suc, ◌*◌, ◌<◌, ◌≡◌, sym, ap, ◌∙◌, List, [], mul-one, arith, T, leb, le→leb}
use Rattle.algebra.specs.Polynomial.{Monomial, Polynomial, order, coefficient_of, constant}
use Rattle.algebra.specs.Polynomial.{one, add}
use Rattle.algebra.specs.Substitution.{substitute}
use Rattle.algebra.specs.Agreement.{Agree, OriginFixing}
use Rattle.algebra.proofs.Booleans.{indicator-yes}
use Rattle.monomial.specs.Count.{count}
use Rattle.series.specs.Image.{entries, coefficient_at, component, polynomial, map_of, monomial_at}
use Rattle.series.specs.Series.{IsSeries}
use Rattle.series.proofs.Maps.{map_of-inside}
use Rattle.series.proofs.Positions.{order-first, count-positive, coefficient_of-first}
use Rattle.series.proofs.Reading.{polynomial-within, coefficient_of-polynomial}
use Rattle.substitution.specs.Walk.{begun, beginning, low_terms, walk}
use Rattle.substitution.specs.Marks.{outer_terms}
use Rattle.substitution.proofs.MarkingAll.{beginning-some}
use Rattle.substitution.proofs.Truncated.{begun-all_low, walk-cong, walk-cut}
use Rattle.walk.specs.Walking.{inner}
use Rattle.composition.proofs.Entering.{walk_same}
use Rattle.composition.proofs.Planning.{inner_entries, outer_coefficients}

module _ (p n v c : ℕ) (outer g : List ℕ) (cut : ℕ)
    (outers : (i : ℕ) → i < c → IsSeries p (count n v) (component n v i outer))
    (fixing : OriginFixing p (map_of n v g)) (i : ℕ) (l : i < c) where
  abbrev P : Polynomial
  P = polynomial n v (component n v i outer)

  abbrev o : Monomial
  o = monomial_at n v 1

  -- what is entered begins one of these
  abbrev all : Polynomial
  all = low_terms cut (outer_terms n v c outer)

  constant-is : coefficient_at (entries (component n v i outer)) 1 ≡ coefficient_of [] P
  constant-is =
      sym
      (sym (coefficient_of-first n v P)
      ∙ coefficient_of-polynomial n v (outers i l) 1 (omega arith) (count-positive n v))

  whole : (d : Monomial) → outer_coefficients n v 0 outer i d ≡ coefficient_of d P
  whole d =
      ap (λ (x : ℕ). coefficient_of d P * x)
      (indicator-yes (leb 0 (order d)) (le→leb 0 (order d) (omega arith)))
      ∙ mul-one (coefficient_of d P)

  inner-is : (k : ℕ) → k < v → inner n v (inner_entries n v g) k ≡ map_of n v g k
  unfolding polynomial
  inner-is k h = sym (map_of-inside n v g k h)

  walk_is : walk (outer_coefficients n v 0 outer i) (beginning all) (inner n v (inner_entries n v g))
      v cut 0 o one
      ≡ walk (λ m. coefficient_of m P) (begun all) (map_of n v g) v cut 0 o one
  walk_is =
      walk-cong (outer_coefficients n v 0 outer i) (λ m. coefficient_of m P) (beginning all)
      (inner n v (inner_entries n v g)) v cut 0 o one (λ d h. whole d)
      ∙ walk_same (λ m. coefficient_of m P) (beginning all) (begun all)
      (inner n v (inner_entries n v g)) (map_of n v g) v (λ d h. beginning-some all d h) inner-is cut
      0 o one

  begins-all : (m : Monomial) → T (begun (low_terms cut P) m) → T (begun all m)
  unfolding outer_terms
  begins-all m t = begun-all_low cut c (λ j. polynomial n v (component n v j outer)) i m l t

  pub walk-substitutes : Agree p (suc cut)
      (add (constant (coefficient_at (entries (component n v i outer)) 1))
      (walk (outer_coefficients n v 0 outer i) (beginning (low_terms cut (outer_terms n v c outer)))
      (inner n v (inner_entries n v g)) v cut 0 (monomial_at n v 1) one))
      (substitute (polynomial n v (component n v i outer)) (map_of n v g))
  walk-substitutes =
      rw (constant-is, walk_is)
      (walk-cut p cut v (map_of n v g) fixing o (order-first n v) P (begun all)
      (polynomial-within n v (outers i l)) begins-all)
