-- The two halves of a pair are what it gives to the bracket, since a factor of one derivative is a
-- factor of the product; and one pair after another, they add up to the bracket.
use Rattle.std.proofs.Common.{◌≡◌, refl, sym, ap, ◌∙◌, subst, List, [], ◌++◌, ℕ, zero, suc, ◌+◌, ◌-◌, ◌*◌, ◌/◌, ◌≤◌, ◌<◌, add-one, arith, length, drop}
use Rattle.algebra.specs.Polynomial.{Polynomial, add, scale, difference, mul, add_below}
use Rattle.algebra.specs.Polynomial.{derivative, pair_bracket, bracket}
use Rattle.algebra.specs.Agreement.{Agree}
use Rattle.algebra.proofs.Modulo.{mod-cong}
use Rattle.algebra.proofs.Ring.{one-scale, scale-mul, mul-cong}
use Rattle.algebra.proofs.Agreement.{agree_exact, agree_add}
use Rattle.series.specs.Image.{polynomial, image}
use Rattle.bracket.specs.Sums.{Factors, PairIn, PairsIn, Grown, Summed}
use Rattle.bracket.specs.Sums.{derivative_in, left_after}
use Rattle.bracket.proofs.Adding.{written-drop}
use Rattle.bracket.proofs.Growing.{grown-none, grown-more, grown-agree}

-- ---- one pair

halves_agree : (p k i j : ℕ) (P Q : Polynomial)
    → Agree p k
    (add (mul (scale 1 (derivative i P)) (derivative j Q))
    (mul (scale (p - 1) (derivative j P)) (derivative i Q)))
    (pair_bracket p i j P Q)
unfolding pair_bracket difference
halves_agree p k i j P Q =
    let A = derivative i P in
    let B = derivative j Q in
    agree_add p (agree_exact p _ _ (mul-cong (scale 1 A) A B B (one-scale A) refl))
    (agree_exact p _ _ (scale-mul (p - 1) (derivative j P) (derivative i Q)))

module _ {n v N E p k : ℕ} {t a b result w : List ℕ} {s : ℕ}
    (q : PairIn n v N E p k t a b result w s) where
  abbrev P : Polynomial
  P = polynomial n v a

  abbrev Q : Polynomial
  Q = polynomial n v b

  module _ {w1 : List ℕ} {s1 : ℕ}
      (g : Grown n v N p
      (mul (scale 1 (derivative (2 * k) (polynomial n v a)))
      (derivative (2 * k + 1) (polynomial n v b))) w w1 s s1 1) where
    pub pair_grown : {w2 : List ℕ} {s2 : ℕ}
        → Grown n v N p
        (mul (scale (p - 1) (derivative (2 * k + 1) (polynomial n v a)))
        (derivative (2 * k) (polynomial n v b))) w1 w2 s1 s2 1
        → Grown n v N p
        (pair_bracket p (2 * k) (2 * k + 1) (polynomial n v a) (polynomial n v b)) w w2 s s2 2
    pair_grown h =
        grown-agree q.factors.N_is (halves_agree p (suc n) (2 * k) (2 * k + 1) P Q)
        (grown-more g h)

-- ---- one pair more

bracket-more : (p k : ℕ) (P Q : Polynomial)
    → add (bracket p k P Q) (pair_bracket p (2 * k) (2 * k + 1) P Q) ≡ bracket p (k + 1) P Q
unfolding bracket add_below
bracket-more p k P Q = ap (λ (h : ℕ). bracket p h P Q) (sym (add-one k))

bracket-none : (p : ℕ) (P Q : Polynomial) → [] ≡ bracket p 0 P Q
unfolding bracket add_below
bracket-none p P Q = refl

-- the words behind the image are never written
left-drop : {n v N E p : ℕ} {t a b : List ℕ} (q : Factors n v N E p t a b) (k : ℕ) (r : List ℕ)
    → drop (N + 1) (left_after n v N p k (polynomial n v a) r) ≡ drop (N + 1) r
left-drop q zero r = refl
left-drop {p = p} {a = a} q (suc k) r =
    written-drop q (scale (p - 1) (derivative (2 * k + 1) (polynomial _ _ a))) _ refl

-- the pairs below k are added
pub record Adding (n v N p : ℕ) (a b result w result' w' : List ℕ) (s k : ℕ) : Type 0 where
  pub high : k ≤ v / 2
  pub size : length result' ≡ length result
  pub left : result' ≡ left_after n v N p k (polynomial n v a) result
  pub grown : Grown n v N p (bracket p k (polynomial n v a) (polynomial n v b)) w w' 0 s (2 * k)

module _ {n v N E p : ℕ} {t a b result w : List ℕ} (q : PairsIn n v N E p t a b result w) where
  pub adding_none : Adding n v N p a b result w result w 0 0
  adding_none =
      record {
        high = omega arith;
        size = refl;
        left = refl;
        grown = subst (λ (R : Polynomial). Grown n v N p R w w 0 0 0)
            (bracket-none p (polynomial n v a) (polynomial n v b))
            (grown-none n v N p q.summing.bound);
      }

  module _ {result1 w1 : List ℕ} {s k : ℕ} (g : Adding n v N p a b result w result1 w1 s k)
      (l : k < v / 2) where
    pub adding_more : {result2 w2 : List ℕ} {s2 : ℕ} → length result2 ≡ length result1
        → Grown n v N p
        (pair_bracket p (2 * k) (2 * k + 1) (polynomial n v a) (polynomial n v b)) w1 w2 s s2 2
        → result2 ≡ derivative_in n v N p (p - 1) (2 * k + 1) (polynomial n v a) result1
        → Adding n v N p a b result w result2 w2 s2 (k + 1)
    adding_more {w2 = w2} {s2 = s2} e h r =
        record {
          high = omega arith;
          size = e ∙ g.size;
          left =
              r
              ∙ ap (λ (x : List ℕ). image p n v (scale (p - 1) (derivative (2 * k + 1) P)) ++ x)
              (ap (drop (N + 1)) g.left ∙ left-drop q.factors k result)
              ∙ ap (λ (j : ℕ). left_after n v N p j P result) (sym (add-one k));
          grown =
              let z : 2 * k + 2 ≡ 2 * (k + 1) = omega arith in
              subst (λ (m : ℕ). Grown n v N p (bracket p (k + 1) P Q) w w2 0 s2 m) z
              (subst (λ (R : Polynomial). Grown n v N p R w w2 0 s2 (2 * k + 2))
              (bracket-more p k P Q) (grown-more g.grown h));
        }
      where
        P : Polynomial
        P = polynomial n v a

        Q : Polynomial
        Q = polynomial n v b

  -- after the last pair
  pub left_behind : drop (N + 1) (left_after n v N p (v / 2) (polynomial n v a) result)
      ≡ drop (N + 1) result
  left_behind = left-drop q.factors (v / 2) result

  pub adding_done : {result1 w1 : List ℕ} {s k : ℕ} → Adding n v N p a b result w result1 w1 s k
      → k ≡ v / 2
      → Summed n v N p (bracket p (v / 2) (polynomial n v a) (polynomial n v b)) w w1
  adding_done {w1 = w1} {s = s} {k = k} g e =
      record {
        size = d.size;
        kept = d.kept;
        sums = λ j l h.
            d.sums j l h ∙ mod-cong p (omega (arith, q.summing.bound j (omega arith)));
      }
    where
      d : Grown n v N p (bracket p (v / 2) (polynomial n v a) (polynomial n v b)) w w1 0 s (2 * k)
      d = subst
          (λ (h : ℕ).
          Grown n v N p (bracket p h (polynomial n v a) (polynomial n v b)) w w1 0 s (2 * k)) e
          g.grown
