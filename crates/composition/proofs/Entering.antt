-- The walk from the constant goes on to monomials of one letter or more, so that a mark of the
-- constant does not matter; and it multiplies by the first v components alone.
use Rattle.std.proofs.Common.{ℕ, zero, suc, ◌+◌, ◌-◌, ◌<◌, ◌≡◌, refl, ap, ap₂, ◌∙◌, Bool, arith}
use Rattle.algebra.specs.Polynomial.{Monomial, Polynomial, ◌⊕◌, order, add, mul, add_below}
use Rattle.algebra.specs.Substitution.{Map, unit_of}
use Rattle.substitution.specs.Walk.{visit, walk}
use Rattle.substitution.proofs.Truncated.{order-snoc}

add_below-cong : (F G : ℕ → Polynomial) (h : ℕ) → ((i : ℕ) → i < h → F i ≡ G i)
    → add_below h F ≡ add_below h G
unfolding add_below
add_below-cong F G zero e = refl
add_below-cong F G (suc h) e =
    ap₂ add (add_below-cong F G h (λ i l. e i (omega arith))) (e h (omega arith))

module _ (κ : Monomial → ℕ) (mark mark' : Monomial → Bool) (f g : Map) (v : ℕ)
    (marks : (d : Monomial) → 0 < order d → mark d ≡ mark' d)
    (maps : (k : ℕ) → k < v → f k ≡ g k) where
  pub walk_same : (r l : ℕ) (m : Monomial) (Q : Polynomial)
      → walk κ mark f v r l m Q ≡ walk κ mark' g v r l m Q
  unfolding walk
  walk_same zero l m Q = refl
  walk_same (suc r) l m Q =
      add_below-cong _ _ (v - l)
      (λ j b.
      let k = l + j in
      let d = m ⊕ unit_of k in
      let e : mul Q (f k) ≡ mul Q (g k) = ap (mul Q) (maps k (omega arith)) in
      ap₂ (λ (a : Bool) (R : Polynomial). visit a (κ d) R (walk κ mark f v r k d R))
      (marks d (omega (arith, order-snoc m k))) e
      ∙ ap (visit (mark' d) (κ d) (mul Q (g k))) (walk_same r k d (mul Q (g k))))
