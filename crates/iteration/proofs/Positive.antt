-- Entries of order 1 or more: their polynomial has no constant.
use Rattle.std.proofs.Common.{◌≡◌, refl, ap, ◌∙◌, List, [], map, ℕ, ◌*◌, ◌≤◌, ◌<◌, mul-zero, arith, ltb, ltb→lt, length, get_or}
use Rattle.algebra.specs.Polynomial.{order, same, indicator, coefficient_of}
use Rattle.algebra.specs.Agreement.{FromOrder}
use Rattle.algebra.proofs.Sums.{sum-none}
use Rattle.algebra.proofs.Booleans.{indicator-no}
use Rattle.algebra.proofs.Modulo.{mod-cong}
use Rattle.algebra.proofs.Origin.{from-origin}
use Rattle.algebra.proofs.Trim.{same-order}
use Rattle.series.specs.Image.{position, coefficient, monomial_at, term_of}
use Rattle.product.specs.Pairs.{order_of, by_order}
use Rattle.product.proofs.Ordered.{length-by_order}
use Rattle.product.proofs.PairSums.{weigh-entries}

empty_order : order [] ≡ 0
unfolding order
empty_order = refl

module _ (n v : ℕ) (es : List ℕ)
    (positive : (i : ℕ) → i < length es → 1 ≤ order_of n v (get_or es i 0)) where
  pub positive_from : (p : ℕ) → FromOrder p 1 (map (term_of n v) es)
  unfolding coefficient_of order_of
  positive_from p =
      from-origin p (map (term_of n v) es)
      (mod-cong p
      (weigh-entries n v es (λ d. indicator (same [] d))
      ∙ sum-none es (λ w. coefficient w * indicator (same [] (monomial_at n v (position w))))
      (λ i l.
      let m = monomial_at n v (position (get_or es i 0)) in
      ap (λ (x : ℕ). coefficient (get_or es i 0) * x)
      (indicator-no (same [] m)
      (λ t. omega (arith, same-order [] m t, empty_order, positive i l)))
      ∙ mul-zero (coefficient (get_or es i 0)))))

  pub positive_none : length (by_order n v es 1) ≡ 0
  positive_none =
      length-by_order n v es 1
      ∙ sum-none es (λ x. indicator (ltb (order_of n v x) 1))
      (λ i l.
      indicator-no (ltb (order_of n v (get_or es i 0)) 1)
      (λ t. omega (arith, ltb→lt (order_of n v (get_or es i 0)) 1 t, positive i l)))
