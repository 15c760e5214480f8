-- A variable and its position: the constant, which stands at position 1, times the variable is the
-- variable, and it stands at no other position.
use Rattle.std.proofs.Common.{◌≡◌, sym, ap, ◌∙◌, subst, List, ℕ, ◌≤◌, ◌<◌, arith, T, length}
use Rattle.algebra.specs.Polynomial.{Monomial, ◌⊕◌, order, trim, same, indicator}
use Rattle.algebra.specs.Substitution.{unit_of}
use Rattle.algebra.proofs.Booleans.{indicator-yes, indicator-no}
use Rattle.algebra.proofs.Monomials.{⊕-comm, ⊕-zero, order-⊕, order-unit}
use Rattle.algebra.proofs.Trim.{trim-⊕, trim-order_zero, trim_to_same, same_to_trim}
use Rattle.monomial.specs.Count.{count}
use Rattle.monomial.specs.Table.{position_of}
use Rattle.series.specs.Image.{monomial_at}
use Rattle.series.proofs.Positions.{length-monomial_at, order-first, count-positive, monomial_at-once}
use Rattle.counts.specs.Tables.{Tabled}
use Rattle.substitution.proofs.Codes.{length-child, place_inside, monomial_at-position_of}
use Rattle.turn.specs.Variables.{PositionOf}

-- a constant times a monomial
trim-origin : (m e : Monomial) → order m ≡ 0 → trim (m ⊕ e) ≡ trim e
trim-origin m e o =
    ap trim (⊕-comm m e)
    ∙ sym (trim-⊕ e m)
    ∙ ap (λ (d : Monomial). trim (e ⊕ d)) (trim-order_zero m (omega arith))
    ∙ ap trim (⊕-zero e)

module _ {n v N E : ℕ} {t : List ℕ} (g : Tabled n v N E t) where
  pub positions_some : 1 ≤ N
  positions_some = omega (arith, g.N_is, count-positive n v)

  -- what the step from the constant to a variable asks, and where it leads
  pub constant-low : order (monomial_at n v 1) < n
  constant-low = omega (arith, order-first n v, g.right.allowed.n_low)

  pub variable-stands : (j q : ℕ) → j < v → q ≡ position_of n v (monomial_at n v 1 ⊕ unit_of j)
      → PositionOf n v N j q
  variable-stands j q l e =
      let m = monomial_at n v 1 in
      let d = m ⊕ unit_of j in
      let long : length m ≡ v =
      length-monomial_at n v 1 (omega arith) (omega (arith, positions_some, g.N_is)) in
      let whole : length d ≡ v = length-child m j (omega arith) ∙ long in
      let low : order d ≤ n = omega (arith, order-⊕ m (unit_of j), order-unit j, constant-low) in
      let is : monomial_at n v q ≡ d =
      ap (monomial_at n v) e ∙ monomial_at-position_of g d whole low in
      record {
        low = omega (arith, place_inside g d whole low);
        high = omega (arith, place_inside g d whole low);
        is =
            trim_to_same (monomial_at n v q) (unit_of j)
            (ap trim is ∙ trim-origin m (unit_of j) (order-first n v));
      }

-- variable j stands at no other position
module _ {n v N j q : ℕ} (N_is : N ≡ count n v) (P : PositionOf n v N j q) where
  pub variable-here : (r : ℕ) → r ≡ q → indicator (same (monomial_at n v r) (unit_of j)) ≡ 1
  variable-here r e =
      indicator-yes (same (monomial_at n v r) (unit_of j))
      (subst (λ (z : ℕ). T (same (monomial_at n v z) (unit_of j))) (sym e) P.is)

  pub variable-elsewhere : (r : ℕ) → 1 ≤ r → r ≤ N → (r ≡ q → ⊥)
      → indicator (same (monomial_at n v r) (unit_of j)) ≡ 0
  variable-elsewhere r a h n' =
      let at = monomial_at n v r in
      let one = monomial_at n v q in
      indicator-no (same at (unit_of j))
      (λ s.
      n'
      (monomial_at-once n v r q a (omega (arith, N_is)) P.low (omega (arith, N_is, P.high))
      (trim_to_same at one (same_to_trim at (unit_of j) s ∙ sym (same_to_trim one (unit_of j) P.is)))))
