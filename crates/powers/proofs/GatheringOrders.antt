-- A product has no term of an order below the sum of the least orders of its factors.
use Rattle.std.proofs.Common.{◌≡◌, refl, sym, ap, ◌∙◌, List, [], ◌∷◌, ℕ, zero, suc, ◌+◌, ◌*◌, ◌≤◌, ◌<◌, mul-zero, arith, eqb, ltb, eqb→eq, length, get_or, lt-ltb}
use Rattle.std.proofs.Math.Decide.{dec_le}
use Rattle.algebra.specs.Sum.{sum_over}
use Rattle.algebra.proofs.Sums.{sum-none}
use Rattle.algebra.specs.Polynomial.{◌⊕◌, order, indicator}
use Rattle.algebra.proofs.Booleans.{indicator-no}
use Rattle.algebra.proofs.Monomials.{order-⊕}
use Rattle.monomial.specs.Count.{count}
use Rattle.monomial.specs.Table.{product_place}
use Rattle.series.specs.Image.{position, coefficient, monomial_at}
use Rattle.series.proofs.Positions.{length-monomial_at}
use Rattle.product.specs.Pairs.{order_of, by_order, pair_sum}
use Rattle.product.specs.Regions.{Placed}
use Rattle.product.proofs.Ordered.{length-by_order, placed_at}
use Rattle.product.proofs.PairSums.{found}

-- ---- sums of which every part is 0

sum-each : (xs : List ℕ) (f : ℕ → ℕ) → sum_over xs f ≡ 0 → (i : ℕ) → i < length xs
    → f (get_or xs i 0) ≡ 0
unfolding sum_over
sum-each [] f e i l = absurd (omega arith)
sum-each (x ∷ xs) f e zero l = omega arith
sum-each (x ∷ xs) f e (suc i) l = sum-each xs f (omega arith) i (omega arith)

module _ (n v : ℕ) where
  -- a list without a constant
  pub no_constant : (ys : List ℕ) → length (by_order n v ys 1) ≡ 0
      → (i : ℕ) → i < length ys → 1 ≤ order_of n v (get_or ys i 0)
  unfolding indicator
  no_constant ys e i l = go (dec_le 1 o)
    where
      o : ℕ
      o = order_of n v (get_or ys i 0)

      none : indicator (ltb (order_of n v (get_or ys i 0)) 1) ≡ 0
      none =
          sum-each ys (λ y. indicator (ltb (order_of n v y) 1))
          (sym (length-by_order n v ys 1) ∙ e) i l

      go : Dec (1 ≤ o) → 1 ≤ o
      go (yes h) = h
      go (no h) =
          let t : indicator (ltb o 1) ≡ 1 = rw (lt-ltb o 1 (omega arith)) refl in
          absurd (omega (arith, none, t))

  module _ (x y j : ℕ) (xl : 1 ≤ position x) (xh : position x ≤ count n v) (yl : 1 ≤ position y)
      (yh : position y ≤ count n v) (l : 1 ≤ j) (h : j ≤ count n v) where
    -- the order of the monomial where a product stands
    order-found : product_place n v (monomial_at n v (position x)) (monomial_at n v (position y)) ≡ j
        → order (monomial_at n v j) ≡ order_of n v x + order_of n v y
    unfolding order_of
    order-found e =
        let a = monomial_at n v (position x) in
        let b = monomial_at n v (position y) in
        ap order
        (found n v a b j (length-monomial_at n v (position x) xl xh)
        (length-monomial_at n v (position y) yl yh) l h e
        (dec_le (order (a ⊕ b)) n))
        ∙ order-⊕ a b

    pair_none : order (monomial_at n v j) < order_of n v x + order_of n v y
        → coefficient x * coefficient y
        * indicator
        (eqb (product_place n v (monomial_at n v (position x)) (monomial_at n v (position y))) j)
        ≡ 0
    pair_none u =
        let q = product_place n v (monomial_at n v (position x)) (monomial_at n v (position y)) in
        ap (λ (z : ℕ). coefficient x * coefficient y * z)
        (indicator-no (eqb q j) (λ t. omega (arith, order-found (eqb→eq q j t))))
        ∙ mul-zero (coefficient x * coefficient y)

  pub pair_sum-none : (xs ys : List ℕ) (j lo : ℕ) → Placed (count n v) xs → Placed (count n v) ys
      → 1 ≤ j → j ≤ count n v
      → ((i : ℕ) → i < length xs → lo ≤ suc (order_of n v (get_or xs i 0)))
      → ((i : ℕ) → i < length ys → 1 ≤ order_of n v (get_or ys i 0))
      → order (monomial_at n v j) < lo → pair_sum n v xs ys j ≡ 0
  unfolding pair_sum
  pair_sum-none xs ys j lo px py l h ox oy u =
      sum-none xs _ (λ i a.
      sum-none ys _ (λ k b.
      let x = placed_at (count n v) xs i px a in
      let y = placed_at (count n v) ys k py b in
      pair_none (get_or xs i 0) (get_or ys k 0) j x.0 x.1 y.0 y.1 l h
      (omega (arith, ox i a, oy k b))))
