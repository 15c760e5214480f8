-- Linear parts and turns by positions, as code reads and writes them: each variable has a position,
-- and the coefficient of a map there is that of the stored entry.
use Rattle.std.proofs.Common.{◌≡◌, sym, ap, ap₂, ◌∙◌, List, ℕ, suc, ◌+◌, ◌-◌, ◌*◌, ◌%◌, ◌≤◌, ◌<◌, mod-eq_of_lt, arith, T}
use Rattle.algebra.specs.Polynomial.{Monomial, order, trim, same, indicator, coefficient_of}
use Rattle.algebra.specs.Substitution.{unit_of, variable}
use Rattle.algebra.specs.Agreement.{Agree}
use Rattle.algebra.proofs.Monomials.{order-unit, length-unit}
use Rattle.algebra.proofs.Trim.{order-trim, trim_to_same, same-sym}
use Rattle.algebra.proofs.Weigh.{weigh-variable, coefficient-same}
use Rattle.algebra.proofs.Modulo.{mod-cong}
use Rattle.algebra.proofs.Represent.{pad, trim-pad, length-pad}
use Rattle.linear.specs.Matrix.{Matrix, element}
use Rattle.monomial.specs.Count.{count}
use Rattle.series.specs.Image.{entries, coefficient_at, monomial_at, component, map_of}
use Rattle.series.specs.Series.{IsMap}
use Rattle.series.proofs.Entries.{coefficient_at-reduced}
use Rattle.series.proofs.Positions.{positioned, agree_by_positions}
use Rattle.series.proofs.Reading.{coefficient_of-polynomial}
use Rattle.series.proofs.Maps.{map_of-inside, map_of-within}
use Rattle.inversion.specs.Linear.{linear_part}
use Rattle.inversion.specs.Turn.{turn}
use Rattle.inversion.proofs.Sums.{below, below-cong}
use Rattle.inversion.proofs.LinearPart.{linear_part-element}
use Rattle.inversion.proofs.Turn.{coefficient-turn, within_turn}

-- ---- variables

pub record VariableAt (n v j : ℕ) : Type 0 where
  pub q : ℕ
  pub low : 0 < q
  pub high : q ≤ count n v
  pub is : T (same (monomial_at n v q) (unit_of j))

pub variable-at : (n v j : ℕ) → 1 ≤ n → j < v → VariableAt n v j
variable-at n v j some l =
    let e : Monomial = pad v (unit_of j) in
    let t : trim e ≡ trim (unit_of j) = trim-pad v (unit_of j) in
    let o : order e ≡ order (unit_of j) = cc (order-trim e, order-trim (unit_of j), t) in
    let r = positioned n v e (length-pad v (unit_of j) (omega (arith, length-unit j)))
    (omega (arith, order-unit j)) in
    record {
      q = r.q;
      low = r.low;
      high = r.high;
      is = trim_to_same (monomial_at n v r.q) (unit_of j) (ap trim r.is ∙ t);
    }

pub coefficient-variable_at : (m : Monomial) (j : ℕ)
    → coefficient_of m (variable j) ≡ indicator (same m (unit_of j))
unfolding coefficient_of
coefficient-variable_at m j = weigh-variable j _

-- ---- the components of a map

module _ {p n v : ℕ} {ws : List ℕ} (s : IsMap p n v ws) (i : ℕ) (l : i < v) where
  pub coefficient-component : (q : ℕ) → 0 < q → q ≤ count n v
      → coefficient_of (monomial_at n v q) (map_of n v ws i)
      ≡ coefficient_at (entries (component n v i ws)) q
  coefficient-component q a b =
      ap (coefficient_of (monomial_at n v q)) (map_of-inside n v ws i l)
      ∙ coefficient_of-polynomial n v (s.each i l) q a b

  -- row i of the linear part: what is stored at the position of the variable
  pub linear_part-at : 0 < p → v ≤ 8 → (j : ℕ) → j < v → (at : VariableAt n v j)
      → element (linear_part p v (map_of n v ws)) i j
      ≡ coefficient_at (entries (component n v i ws)) at.q
  linear_part-at pos few j lj at =
      let m = monomial_at n v at.q in
      let stored = coefficient_at (entries (component n v i ws)) at.q in
      linear_part-element p v few (map_of n v ws) i j l lj
      ∙ mod-cong p
      (coefficient-same (unit_of j) m (map_of n v ws i) (same-sym m (unit_of j) at.is)
      ∙ coefficient-component at.q at.low at.high)
      ∙ mod-eq_of_lt (coefficient_at-reduced pos (s.each i l).ascending at.q)

-- ---- the turn

module _ {p n v : ℕ} (m : Matrix) {g c : List ℕ} (G : IsMap p n v g) (C : IsMap p n v c) where
  -- what the turn has at position q of component i
  abbrev pub turned_at : ℕ → ℕ → ℕ
  turned_at i q =
      coefficient_at (entries (component n v i g)) q
      + below v
      (λ j.
      element m i j
      * (indicator (same (monomial_at n v q) (unit_of j))
      + (p - 1) * coefficient_at (entries (component n v j c)) q))

  pub coefficient-turn_at : (i q : ℕ) → i < v → 0 < q → q ≤ count n v
      → coefficient_of (monomial_at n v q) (turn p v m (map_of n v g) (map_of n v c) i)
      ≡ turned_at i q
  coefficient-turn_at i q l a b =
      let e = monomial_at n v q in
      coefficient-turn p v m (map_of n v g) (map_of n v c) i e
      ∙ ap₂ ◌+◌ (coefficient-component G i l q a b)
      (below-cong v _ _
      (λ j lj.
      ap (λ (x : ℕ). element m i j * x)
      (ap₂ (λ (x y : ℕ). x + (p - 1) * y) (coefficient-variable_at e j)
      (coefficient-component C j lj q a b))))

  -- a map that has these coefficients modulo p is the turn
  pub turn-by_positions : {g' : List ℕ} → IsMap p n v g'
      → (i : ℕ) → i < v
      → ((q : ℕ) → 0 < q → q ≤ count n v
      → coefficient_at (entries (component n v i g')) q % p ≡ turned_at i q % p)
      → Agree p (suc n) (map_of n v g' i) (turn p v m (map_of n v g) (map_of n v c) i)
  turn-by_positions {g'} S i l e =
      agree_by_positions n v p (map_of n v g' i) _ (map_of-within S i)
      (within_turn p v m (map_of n v g) (map_of n v c) i (map_of-within G i)
      (λ j lj. map_of-within C j))
      (λ q a b.
      mod-cong p (coefficient-component S i l q a b)
      ∙ e q a b
      ∙ mod-cong p (sym (coefficient-turn_at i q l a b)))
