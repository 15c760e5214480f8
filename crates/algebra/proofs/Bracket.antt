-- The bracket is bilinear, a derivation in each argument, and turns its sign where the two are
-- exchanged: each holds of one pair of variables, by the rules of the derivative in the ring, and
-- so of the sum over the pairs.
use Rattle.std.proofs.Common.{ℕ, suc, ◌<◌, refl, sym, ◌∙◌, [], mul_comm}
use Rattle.algebra.specs.Polynomial.{Polynomial, add, scale, difference, mul, derivative}
use Rattle.algebra.specs.Polynomial.{pair_bracket, bracket}
use Rattle.algebra.specs.Agreement.{Agree, ◌≐◌}
use Rattle.algebra.proofs.Ring.{ring-laws, add_cong}
use Rattle.algebra.proofs.Below.{below-cong, below-nil, below-add, below-scale, below-mul}
use Rattle.algebra.proofs.Derivative.{derivative-add, derivative-scale, derivative-mul}
use Rattle.algebra.proofs.Agreement.{agree_trans, agree_exact, agree_add, agree_below}
use Rattle.algebra.proofs.Agreement.{agree_mul, agree_difference, agree_derivative}
use Rattle.algebra.proofs.Agreement.{difference-exchange}

-- ---- one pair

module _ (p i j : ℕ) where
  pair_add_left : (P Q R : Polynomial)
      → pair_bracket p i j (add P Q) R ≐ add (pair_bracket p i j P R) (pair_bracket p i j Q R)
  unfolding pair_bracket difference
  pair_add_left P Q R = simp (ring-laws, derivative-add)

  pair_add_right : (P Q R : Polynomial)
      → pair_bracket p i j P (add Q R) ≐ add (pair_bracket p i j P Q) (pair_bracket p i j P R)
  unfolding pair_bracket difference
  pair_add_right P Q R = simp (ring-laws, derivative-add)

  pair_scale_left : (c : ℕ) (P Q : Polynomial)
      → pair_bracket p i j (scale c P) Q ≐ scale c (pair_bracket p i j P Q)
  unfolding pair_bracket difference
  pair_scale_left c P Q = simp (ring-laws, derivative-scale, mul_comm)

  pair_scale_right : (c : ℕ) (P Q : Polynomial)
      → pair_bracket p i j P (scale c Q) ≐ scale c (pair_bracket p i j P Q)
  unfolding pair_bracket difference
  pair_scale_right c P Q = simp (ring-laws, derivative-scale, mul_comm)

  pair_mul_left : (P Q R : Polynomial)
      → pair_bracket p i j (mul P Q) R
      ≐ add (mul Q (pair_bracket p i j P R)) (mul P (pair_bracket p i j Q R))
  unfolding pair_bracket difference
  pair_mul_left P Q R = simp (ring-laws, derivative-mul)

  pair_mul_right : (P Q R : Polynomial)
      → pair_bracket p i j P (mul Q R)
      ≐ add (mul R (pair_bracket p i j P Q)) (mul Q (pair_bracket p i j P R))
  unfolding pair_bracket difference
  pair_mul_right P Q R = simp (ring-laws, derivative-mul)

  pair_exchange : {k : ℕ} (P Q : Polynomial) → 0 < p
      → Agree p k (add (pair_bracket p i j P Q) (pair_bracket p i j Q P)) []
  pair_exchange P Q h =
      agree_trans p (agree_add p (agree_exact p _ _ left) (agree_exact p _ _ right))
      (difference-exchange p A B h)
    where
      A : Polynomial
      A = mul (derivative i P) (derivative j Q)

      B : Polynomial
      B = mul (derivative j P) (derivative i Q)

      left : pair_bracket p i j P Q ≐ difference p A B
      left = unfold pair_bracket in refl

      right : pair_bracket p i j Q P ≐ difference p B A
      right = unfold pair_bracket difference in simp ring-laws

-- ---- all pairs

module _ (p h : ℕ) where
  pub bracket-add_left : (P Q R : Polynomial)
      → bracket p h (add P Q) R ≐ add (bracket p h P R) (bracket p h Q R)
  unfolding bracket
  bracket-add_left P Q R =
      below-cong h _ _ (λ k. pair_add_left p _ _ P Q R) ∙ below-add h _ _

  pub bracket-add_right : (P Q R : Polynomial)
      → bracket p h P (add Q R) ≐ add (bracket p h P Q) (bracket p h P R)
  unfolding bracket
  bracket-add_right P Q R =
      below-cong h _ _ (λ k. pair_add_right p _ _ P Q R) ∙ below-add h _ _

  pub bracket-scale_left : (c : ℕ) (P Q : Polynomial)
      → bracket p h (scale c P) Q ≐ scale c (bracket p h P Q)
  unfolding bracket
  bracket-scale_left c P Q =
      below-cong h _ _ (λ k. pair_scale_left p _ _ c P Q) ∙ below-scale h c _

  pub bracket-scale_right : (c : ℕ) (P Q : Polynomial)
      → bracket p h P (scale c Q) ≐ scale c (bracket p h P Q)
  unfolding bracket
  bracket-scale_right c P Q =
      below-cong h _ _ (λ k. pair_scale_right p _ _ c P Q) ∙ below-scale h c _

  pub bracket-mul_left : (P Q R : Polynomial)
      → bracket p h (mul P Q) R ≐ add (mul Q (bracket p h P R)) (mul P (bracket p h Q R))
  unfolding bracket
  bracket-mul_left P Q R =
      below-cong h _ _ (λ k. pair_mul_left p _ _ P Q R)
      ∙ below-add h _ _
      ∙ add_cong _ _ _ _ (below-mul h Q _) (below-mul h P _)

  pub bracket-mul_right : (P Q R : Polynomial)
      → bracket p h P (mul Q R) ≐ add (mul R (bracket p h P Q)) (mul Q (bracket p h P R))
  unfolding bracket
  bracket-mul_right P Q R =
      below-cong h _ _ (λ k. pair_mul_right p _ _ P Q R)
      ∙ below-add h _ _
      ∙ add_cong _ _ _ _ (below-mul h R _) (below-mul h Q _)

  pub bracket-exchange : {k : ℕ} (P Q : Polynomial) → 0 < p
      → Agree p k (add (bracket p h P Q) (bracket p h Q P)) []
  unfolding bracket
  bracket-exchange P Q l =
      agree_trans p (agree_exact p _ _ (sym (below-add h _ _)))
      (agree_trans p (agree_below p h _ _ (λ k. pair_exchange p _ _ P Q l))
      (agree_exact p _ _ (below-nil h)))

  -- one order is lost, as by the derivative
  pub agree_bracket : {k : ℕ} {P P' Q Q' : Polynomial} → Agree p (suc k) P P'
      → Agree p (suc k) Q Q' → Agree p k (bracket p h P Q) (bracket p h P' Q')
  unfolding bracket pair_bracket
  agree_bracket a b =
      agree_below p h _ _
      (λ k.
      agree_difference p
      (agree_mul p (agree_derivative p _ a) (agree_derivative p _ b))
      (agree_mul p (agree_derivative p _ a) (agree_derivative p _ b)))
