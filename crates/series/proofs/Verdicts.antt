-- Checks made one after another pass where each passes; where one declines, the first such one
-- decides.
use Rattle.std.proofs.Common.{◌≡◌, refl, sym, ap, ◌∙◌, List, [], ◌∷◌, ◌++◌, ℕ, zero, suc, ◌<◌, arith}
use Rattle.std.proofs.Math.Decide.{dec_lt}
use Rattle.monomial.specs.Enumeration.{upto}
use Rattle.answer.specs.Refusals.{Verdict, passed, declined}
use Rattle.answer.specs.Checks.{or_else, first_of}

pub declined_not_passed : {k : ℕ} {at : List ℕ} → declined k at ≡ passed → ⊥
declined_not_passed e = let z : ◌≡◌ {A = ℕ} 0 1 = cc in omega arith

first_of-snoc : (ws : List Verdict) (w : Verdict) → first_of (ws ++ w ∷ []) ≡ or_else (first_of ws) w
first_of-snoc [] passed = refl
first_of-snoc [] (declined k at) = refl
first_of-snoc (passed ∷ ws) w = first_of-snoc ws w
first_of-snoc (declined k at ∷ ws) w = refl

module _ (g : ℕ → Verdict) where
  -- the checks g 0, g 1, .. up to g (m - 1)
  abbrev pub first_below : ℕ → Verdict
  first_below m = first_of (upto (λ i. g i ∷ []) m)

  pub first_below-suc : (m : ℕ) → first_below (suc m) ≡ or_else (first_below m) (g m)
  unfolding upto
  first_below-suc m = first_of-snoc (upto (λ i. g i ∷ []) m) (g m)

  -- one check more, where the checks before it say w
  after : (m : ℕ) {w : Verdict} → first_below m ≡ w → first_below (suc m) ≡ or_else w (g m)
  after m e = first_below-suc m ∙ ap (λ (x : Verdict). or_else x (g m)) e

  pub all-passed : (m : ℕ) → ((i : ℕ) → i < m → g i ≡ passed) → first_below m ≡ passed
  unfolding upto
  all-passed zero e = refl
  all-passed (suc m) e = after m (all-passed m (λ i l. e i (omega arith))) ∙ e m (omega arith)

  pub passed_all : (m : ℕ) → first_below m ≡ passed → (i : ℕ) → i < m → g i ≡ passed
  passed_all zero e i l = absurd (omega arith)
  passed_all (suc m) e i l = go (first_below m) refl (λ h k. passed_all m h i k) (dec_lt i m)
    where
      go : (w : Verdict) → first_below m ≡ w → (first_below m ≡ passed → i < m → g i ≡ passed)
          → Dec (i < m) → g i ≡ passed
      go passed a ih (yes k) = ih a k
      go passed a ih (no k) = let q : i ≡ m = omega arith in ap g q ∙ sym (after m a) ∙ e
      go (declined c at) a ih k = absurd (declined_not_passed (sym (after m a) ∙ e))

  pub first-declined : (m i : ℕ) {k : ℕ} {at : List ℕ} → i < m
      → ((j : ℕ) → j < i → g j ≡ passed) → g i ≡ declined k at → first_below m ≡ declined k at
  first-declined zero i l e d = absurd (omega arith)
  first-declined (suc m) i {k} {at} l e d = go (dec_lt i m) (λ h. first-declined m i h e d)
    where
      go : Dec (i < m) → (i < m → first_below m ≡ declined k at)
          → first_below (suc m) ≡ declined k at
      go (yes h) ih = after m (ih h)
      go (no h) ih =
          let q : m ≡ i = omega arith in
          after m (all-passed m (λ j l. e j (omega arith))) ∙ ap g q ∙ d

  -- the first check that declines
  pub record Declining (m k : ℕ) (at : List ℕ) : Type 0 where
    pub i : ℕ
    pub inside : i < m
    pub before : (j : ℕ) → j < i → g j ≡ passed
    pub declines : g i ≡ declined k at

  pub declined_first : (m : ℕ) {k : ℕ} {at : List ℕ} → first_below m ≡ declined k at
      → Declining m k at
  unfolding upto
  declined_first zero e = absurd (declined_not_passed (sym e))
  declined_first (suc m) {k} {at} e = go (first_below m) refl (λ h. declined_first m h)
    where
      go : (w : Verdict) → first_below m ≡ w
          → (first_below m ≡ declined k at → Declining m k at) → Declining (suc m) k at
      go passed a ih =
          record {
            i = m;
            inside = omega arith;
            before = passed_all m a;
            declines = sym (after m a) ∙ e;
          }
      go (declined c b) a ih =
          let r = ih (a ∙ sym (after m a) ∙ e) in
          record {
            i = r.i;
            inside = omega (arith, r.inside);
            before = r.before;
            declines = r.declines;
          }
