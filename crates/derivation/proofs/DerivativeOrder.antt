-- Lowering the exponent of a variable keeps the order of the positions: it takes the same from the
-- codes and from the order of every monomial, and the order of the positions goes by these.
use Rattle.std.proofs.Common.{◌≡◌, sym, ap, ap₂, ◌∙◌, subst, [], ◌∷◌, ℕ, zero, suc, ◌+◌, ◌-◌, ◌≤◌, ◌<◌, arith, length, get_or}
use Rattle.std.proofs.Math.Decide.{dec_lt}
use Rattle.algebra.specs.Polynomial.{Monomial, ◌⊕◌, exponent, lower}
use Rattle.algebra.specs.Substitution.{unit_of}
use Rattle.algebra.proofs.Monomials.{⊕-zero, order-lower, length-lower}
use Rattle.monomial.specs.Count.{count}
use Rattle.monomial.specs.Table.{C1, C2, monomials, position_of, Before, by_C2, by_order, by_C1}
use Rattle.monomial.specs.Table.{Stands}
use Rattle.monomial.proofs.Size.{length-monomials}
use Rattle.monomial.proofs.Places.{placed, C1-⊕, C2-⊕}
use Rattle.monomial.proofs.Ascending.{ascending}
use Rattle.series.specs.Image.{monomial_at}
use Rattle.series.proofs.Positions.{length-monomial_at, order-monomial_at}

-- the lowered monomial times the variable is the monomial again
raise_lower : (i : ℕ) (a : Monomial) → 0 < exponent i a → lower i a ⊕ unit_of i ≡ a
unfolding exponent lower unit_of ◌⊕◌
raise_lower i [] h = absurd (omega arith)
raise_lower zero (x ∷ a) h = ap₂ ◌∷◌ (omega arith) (⊕-zero a)
raise_lower (suc i) (x ∷ a) h = ap₂ ◌∷◌ (omega arith) (raise_lower i a h)

module _ (n v : ℕ) where
  -- ---- positions go by the rule of the table

  before-once : {a b : Monomial} → Before n v a b → Before n v b a → ⊥
  before-once (by_C2 x) (by_C2 y) = omega arith
  before-once (by_C2 x) (by_order e y) = omega arith
  before-once (by_C2 x) (by_C1 e o y) = omega arith
  before-once (by_order d x) (by_C2 y) = omega arith
  before-once (by_order d x) (by_order e y) = omega arith
  before-once (by_order d x) (by_C1 e o y) = omega arith
  before-once (by_C1 d u x) (by_C2 y) = omega arith
  before-once (by_C1 d u x) (by_order e y) = omega arith
  before-once (by_C1 d u x) (by_C1 e o y) = omega arith

  before-place : (a b : Monomial) → Stands n v a → Stands n v b → Before n v a b
      → position_of n v a < position_of n v b
  before-place a b p q h = go (dec_lt p.index q.index) (dec_lt q.index p.index)
    where
      go : Dec (p.index < q.index) → Dec (q.index < p.index) → position_of n v a < position_of n v b
      go (yes l) _ = omega (arith, p.at, q.at)
      go (no l) (yes u) =
          let r = ascending n v q.index p.index u p.inside in
          let r' = subst (Before n v (get_or (monomials n v) q.index [])) p.is r in
          absurd (before-once h (subst (λ (z : Monomial). Before n v z a) q.is r'))
      go (no l) (no u) =
          let e : p.index ≡ q.index = omega arith in
          let s : a ≡ b =
          sym p.is ∙ ap (λ (i : ℕ). get_or (monomials n v) i []) e ∙ q.is in
          let r = subst (λ (z : Monomial). Before n v z b) s h in
          absurd (before-once r r)

  -- ---- one exponent made less

  module _ (k : ℕ) where
    module _ (m : Monomial) (h : 0 < exponent k m) where
      pub C1-lower : C1 n v (lower k m) + C1 n v (unit_of k) ≡ C1 n v m
      C1-lower = sym (C1-⊕ n v (lower k m) (unit_of k)) ∙ ap (C1 n v) (raise_lower k m h)

      pub C2-lower : C2 n v (lower k m) + C2 n v (unit_of k) ≡ C2 n v m
      C2-lower = sym (C2-⊕ n v (lower k m) (unit_of k)) ∙ ap (C2 n v) (raise_lower k m h)

    before-lower : (a b : Monomial) → 0 < exponent k a → 0 < exponent k b → Before n v a b
        → Before n v (lower k a) (lower k b)
    before-lower a b ha hb (by_C2 x) = by_C2 (omega (arith, C2-lower a ha, C2-lower b hb))
    before-lower a b ha hb (by_order e x) =
        by_order (omega (arith, C2-lower a ha, C2-lower b hb))
        (omega (arith, order-lower k a ha, order-lower k b hb))
    before-lower a b ha hb (by_C1 e o x) =
        by_C1 (omega (arith, C2-lower a ha, C2-lower b hb))
        (omega (arith, order-lower k a ha, order-lower k b hb))
        (omega (arith, C1-lower a ha, C1-lower b hb))

    -- ---- the lowered monomial of a position

    module _ (q : ℕ) (l : 1 ≤ q) (h : q ≤ count n v) where
      pub length-lowered : length (lower k (monomial_at n v q)) ≡ v
      length-lowered = length-lower k (monomial_at n v q) ∙ length-monomial_at n v q l h

      pub placed_lowered : 0 < exponent k (monomial_at n v q)
          → Stands n v (lower k (monomial_at n v q))
      placed_lowered pos =
          placed n v (lower k (monomial_at n v q)) length-lowered
          (omega (arith, order-lower k (monomial_at n v q) pos, order-monomial_at n v q l h))

    pub lowered_ascending : (q r : ℕ) → 1 ≤ q → q < r → r ≤ count n v
        → 0 < exponent k (monomial_at n v q) → 0 < exponent k (monomial_at n v r)
        → position_of n v (lower k (monomial_at n v q)) < position_of n v (lower k (monomial_at n v r))
    unfolding monomial_at
    lowered_ascending q r l u h hq hr =
        before-place (lower k a) (lower k b) (placed_lowered q l (omega arith) hq)
        (placed_lowered r (omega arith) h hr)
        (before-lower a b hq hr
        (ascending n v (q - 1) (r - 1) (omega arith) (omega (arith, length-monomials n v))))
      where
        a : Monomial
        a = monomial_at n v q

        b : Monomial
        b = monomial_at n v r
