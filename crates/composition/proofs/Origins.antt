-- A component with no constant has no entry of order 0: the constant alone is of that order.
use Rattle.std.proofs.Common.{ℕ, ◌<◌, ◌≡◌, refl, sym, ◌∙◌, subst, List, ◌∷◌, mod-eq_of_lt, arith, ltb, ltb→lt, length}
use Rattle.std.proofs.Math.Decide.{ℕ_discrete}
use Rattle.std.proofs.Math.Nat.{zero-mod}
use Rattle.algebra.specs.Sum.{sum_over}
use Rattle.algebra.specs.Polynomial.{indicator}
use Rattle.algebra.specs.Agreement.{FromOrder, OriginFixing}
use Rattle.algebra.proofs.Booleans.{indicator-no}
use Rattle.algebra.proofs.Modulo.{mod-cong}
use Rattle.algebra.proofs.Origin.{origin_from}
use Rattle.monomial.specs.Count.{count}
use Rattle.series.specs.Image.{position, entries, coefficient_at, component, polynomial, map_of}
use Rattle.series.specs.Series.{Ascending, none, next, IsSeries}
use Rattle.series.proofs.Entries.{coefficient_at-here, coefficient_at-there}
use Rattle.series.proofs.Entries.{coefficient_at-reduced}
use Rattle.series.proofs.Maps.{map_of-inside}
use Rattle.series.proofs.Positions.{coefficient_of-first, count-positive}
use Rattle.series.proofs.Reading.{coefficient_of-polynomial}
use Rattle.product.specs.Pairs.{order_of, by_order}
use Rattle.product.proofs.Ordered.{length-by_order}
use Rattle.substitution.proofs.Marking.{order-positive}

-- entries that give position 1 nothing are of order 1 or more
high-entries : (n v : ℕ) {p last : ℕ} {es : List ℕ} → Ascending p (count n v) last es
    → coefficient_at es 1 ≡ 0 → sum_over es (λ x. indicator (ltb (order_of n v x) 1)) ≡ 0
unfolding sum_over order_of
high-entries n v none z = refl
high-entries n v (next {w = w} {es = es} x r) z =
    go (ℕ_discrete (position w) 1) (λ y. high-entries n v r y)
  where
    go : Dec (position w ≡ 1)
        → (coefficient_at es 1 ≡ 0 → sum_over es (λ x. indicator (ltb (order_of n v x) 1)) ≡ 0)
        → sum_over (w ∷ es) (λ x. indicator (ltb (order_of n v x) 1)) ≡ 0
    go (yes e) ih = absurd (omega (arith, coefficient_at-here w es 1 e, x.nonzero))
    go (no e) ih =
        let o = order-positive n v (count n v) refl (position w) (omega (arith, x.above)) x.inside in
        let b = ltb (order_of n v w) 1 in
        omega (
          arith,
          indicator-no b (λ t. omega (arith, ltb→lt (order_of n v w) 1 t, o)),
          ih (sym (coefficient_at-there w es 1 e) ∙ z),
        )

pub none_low : (n v : ℕ) {p : ℕ} {ws : List ℕ} → IsSeries p (count n v) ws → 0 < p
    → FromOrder p 1 (polynomial n v ws) → length (by_order n v (entries ws) 1) ≡ 0
none_low n v {p} {ws} s pos f =
    length-by_order n v (entries ws) 1
    ∙ high-entries n v s.ascending
    (sym (mod-eq_of_lt (coefficient_at-reduced pos s.ascending 1))
    ∙ mod-cong p
    (sym (coefficient_of-polynomial n v s 1 (omega arith) (count-positive n v))
    ∙ coefficient_of-first n v (polynomial n v ws))
    ∙ origin_from p (polynomial n v ws) f
    ∙ zero-mod p)

pub component-fixing : (n v : ℕ) {p : ℕ} (ws : List ℕ) → OriginFixing p (map_of n v ws) → (k : ℕ)
    → k < v → FromOrder p 1 (polynomial n v (component n v k ws))
component-fixing n v {p} ws f k l = subst (FromOrder p 1) (map_of-inside n v ws k l) (f k)
