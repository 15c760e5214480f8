-- The test that computes is the readable form: it looks at the monomials of both polynomials, and
-- these cover them.
use Rattle.std.proofs.Common.{ℕ, zero, suc, ◌%◌, ◌≤◌, ◌<◌, ◌≡◌, Bool, ◌||◌, ◌⊎◌, inl, inr, List, [], ◌∷◌, ◌++◌, arith, eq-or-lt_of_le, T, eqb, ltb, ltb→lt, lt→ltb, eqb→eq}
use mathlib.Core.List.{Memᴰ}
use Rattle.std.proofs.Math.Decide.{dec_le}
use Rattle.std.proofs.Math.Nat.{suc_inj}
use Rattle.std.proofs.Math.Dec.{eqb_refl}
use Rattle.algebra.specs.Polynomial.{Monomial, Polynomial, order, coefficient_of}
use Rattle.algebra.specs.Substitution.{Map}
use Rattle.algebra.specs.Agreement.{Same}
use Rattle.algebra.specs.Check.{monomials_in, all_same, agrees, agrees_map}
use Rattle.algebra.proofs.Booleans.{and_intro, and_left, and_right, or_left, or_right}
use Rattle.algebra.proofs.Booleans.{or_other}
use Rattle.algebra.proofs.Coefficients.{agree_on_own, agree_to_same}

module _ (p n : ℕ) where
  -- the test at one monomial
  abbrev same_at : Polynomial → Polynomial → Monomial → Bool
  same_at P Q m = ltb n (order m) || eqb (coefficient_of m P % p) (coefficient_of m Q % p)

  same_here : (P Q : Polynomial) (m : Monomial) → T (same_at P Q m) → order m ≤ n
      → coefficient_of m P % p ≡ coefficient_of m Q % p
  same_here P Q m t l =
      eqb→eq _ _ (or_other (ltb n (order m)) _ (λ u. omega (arith, ltb→lt n (order m) u)) t)

  pub all-same_at : (s : List Monomial) (P Q : Polynomial) → T (all_same p n s P Q)
      → (m : Monomial) → Memᴰ m s → order m ≤ n
      → coefficient_of m P % p ≡ coefficient_of m Q % p
  unfolding all_same
  all-same_at (d ∷ s) P Q t m (Memᴰ.head e) l =
      same_here P Q m (rw (← e) at (and_left (same_at P Q d) (all_same p n s P Q) t)) l
  all-same_at (d ∷ s) P Q t m (Memᴰ.tail u) l =
      all-same_at s P Q (and_right (same_at P Q d) (all_same p n s P Q) t) m u l
  all-same_at [] P Q t m x3 l = elim x3 [ ]

  pub same-all : (s : List Monomial) (P Q : Polynomial) → Same p n P Q → T (all_same p n s P Q)
  unfolding all_same
  same-all [] P Q h = tt
  same-all (m ∷ s) P Q h =
      and_intro (same_at P Q m) (all_same p n s P Q) (go (dec_le (order m) n)) (same-all s P Q h)
    where
      go : Dec (order m ≤ n) → T (same_at P Q m)
      go (yes l) =
          or_right (ltb n (order m)) _
          (rw (h.at_low m l) (eqb_refl (coefficient_of m Q % p)))
      go (no l) = or_left (ltb n (order m)) _ (lt→ltb n (order m) (omega arith))

  pub agrees_to_same : (P Q : Polynomial) → T (agrees p n P Q) → Same p n P Q
  unfolding agrees
  agrees_to_same P Q t =
      agree_to_same p n
      (agree_on_own p n P Q (all-same_at (monomials_in P ++ monomials_in Q) P Q t))

  pub same_to_agrees : (P Q : Polynomial) → Same p n P Q → T (agrees p n P Q)
  unfolding agrees
  same_to_agrees P Q h = same-all (monomials_in P ++ monomials_in Q) P Q h

  pub agrees_map_to_same : (v : ℕ) (f g : Map) → T (agrees_map p n v f g)
      → (i : ℕ) → i < v → Same p n (f i) (g i)
  unfolding agrees_map
  agrees_map_to_same zero f g t i l = absurd (omega arith)
  agrees_map_to_same (suc v) f g t i l = go (eq-or-lt_of_le l) (agrees_map_to_same v f g first i)
    where
      first : T (agrees_map p n v f g)
      first = and_left (agrees_map p n v f g) (agrees p n (f v) (g v)) t

      last : Same p n (f v) (g v)
      last = agrees_to_same (f v) (g v) (and_right (agrees_map p n v f g) (agrees p n (f v) (g v)) t)

      go : (suc i ≡ suc v) ⊎ (suc i < suc v) → (i < v → Same p n (f i) (g i))
          → Same p n (f i) (g i)
      go (inl e) k = rw (suc_inj e) last
      go (inr m) k = k (omega arith)
