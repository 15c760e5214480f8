-- Maps that agree below order k + 1 give products over a monomial m that agree below order k plus
-- the order of m: each of the other factors begins at order 1, and moves the agreement up by one.
use Rattle.std.proofs.Common.{[], ◌∷◌, ℕ, zero, suc, ◌+◌, arith}
use Rattle.algebra.specs.Polynomial.{Monomial, Polynomial, order, one, mul, power}
use Rattle.algebra.specs.Substitution.{Map, monomial_product}
use Rattle.algebra.specs.Agreement.{Agree, AgreeMap, FromOrder, OriginFixing}
use Rattle.algebra.proofs.Ring.{mul_comm}
use Rattle.algebra.proofs.Agreement.{agree_refl, agree_trans, agree_exact, agree_down}
use Rattle.algebra.proofs.Truncation.{agree_mul_from, from-power, from-monomial_product}

module _ (p k : ℕ) where
  -- P' begins at order a, and Q at order b
  mul-graded : (a b : ℕ) {P P' Q Q' : Polynomial} → FromOrder p a P' → FromOrder p b Q
      → Agree p (k + a) P P' → Agree p (k + b) Q Q' → Agree p (k + (a + b)) (mul P Q) (mul P' Q')
  mul-graded a b {P} {P'} {Q} {Q'} u w g h =
      agree_trans p (agree_down p (omega arith) (agree_mul_from p g w))
      (agree_trans p (agree_exact p _ _ (mul_comm P' Q))
      (agree_trans p (agree_down p (omega arith) (agree_mul_from p h u))
      (agree_exact p _ _ (mul_comm Q' P'))))

  power-graded : {P Q : Polynomial} → FromOrder p 1 P → FromOrder p 1 Q → Agree p (suc k) P Q
      → (j : ℕ) → Agree p (k + j) (power P j) (power Q j)
  unfolding power
  power-graded u w h zero = agree_refl p one
  power-graded u w h (suc j) =
      agree_down p (omega arith)
      (mul-graded 1 j w (from-power p u j) (agree_down p (omega arith) h) (power-graded u w h j))

  pub monomial_product-graded : (f g : Map) → OriginFixing p f → OriginFixing p g
      → AgreeMap p (suc k) f g → (m : Monomial)
      → Agree p (k + order m) (monomial_product f m) (monomial_product g m)
  unfolding monomial_product order
  monomial_product-graded f g u w h [] = agree_refl p one
  monomial_product-graded f g u w h (j ∷ m) =
      mul-graded j (order m) (from-power p (w 0) j)
      (from-monomial_product p (λ i. f (suc i)) (λ i. u (suc i)) m)
      (power-graded (u 0) (w 0) (h 0) j)
      (monomial_product-graded (λ i. f (suc i)) (λ i. g (suc i)) (λ i. u (suc i)) (λ i. w (suc i))
      (λ i. h (suc i)) m)
