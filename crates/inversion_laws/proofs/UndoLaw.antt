-- `undo_after` and `undo_before`: where both calls finish, f composed with its inverse is the identity map, word for
-- word. `only_after` and `only_before`: a map whose composition with f is the identity map is the inverse of f.
use Rattle.std.proofs.Common.{◌≡◌, sym, ap, ◌∙◌, Bool, true, List, [], ◌∷◌, ◌++◌, ℕ, length, get_or, drop, take_at}
use Rattle.answer.specs.declared.Setting.{Setting}
use Rattle.answer.specs.Refusals.{Outcome}
use Rattle.answer.specs.Sizes.{map_words}
use Rattle.inversion.specs.Linear.{determinant_of}
use Rattle.inversion.specs.Undoing as Undoings
use Rattle.inversion.proofs.Closing.{after-is_inverse, before-is_inverse}
use Rattle.checks.specs.Settings.{prime_of, map_in, identity_in, inverse_in}
use Rattle.checks.specs.Room.{RoomPassed}
use Rattle.checks.specs.Calls.{Left, left, compose_call, invert_call}
use Rattle.calls.specs.Calls.{all_finished, result_of, work_of, needed_map}
use Rattle.inversion_laws.specs.Laws.{undo_after_calls, undo_before_calls, only_after_calls, only_before_calls}
use Rattle.calls.proofs.Words.{IsMapIn, FixesIn, composed}
use Rattle.inversion_laws.proofs.Undoing.{undone_after, undone_before}
use Rattle.calls.proofs.Inputs.{positive, small, fixing, map_check_passed, constant_check_passed}
use Rattle.calls.proofs.FinishedCalls.{all_finished_parts, needed_map_image, TwoMaps, RegularMap}
use Rattle.calls.proofs.FinishedCalls.{compose-finished, invert_finished}

-- ---- the inverse undoes

module _ (s : Setting) (t f g₀ h₀ work₀ : List ℕ) where
  -- the inversion, and the composition with what it left: x and y make the outer and the inner map of it
  abbrev inverted : Left Outcome
  inverted = invert_call s t f g₀ work₀

  module _ (x y : List ℕ → List ℕ) where
    abbrev with_inverse : Left Outcome
    with_inverse = compose_call s t (x (result_of inverted)) (y (result_of inverted)) h₀ (work_of inverted)

    undone : (RoomPassed s [] → RegularMap s f → (rest : List ℕ)
        → composed s (x (inverse_in s f ++ rest)) (y (inverse_in s f ++ rest)) ≡ identity_in s)
        → all_finished (inverted ∷ with_inverse ∷ []) ≡ true → needed_map s (result_of with_inverse) ≡ identity_in s
    undone law all =
        let e1 = all_finished_parts inverted (with_inverse ∷ []) all in
        let d1 = invert_finished s t f g₀ work₀ e1.0 in
        let d2 =
        compose-finished s t (x (result_of inverted)) (y (result_of inverted)) h₀ (work_of inverted)
        (all_finished_parts with_inverse [] e1.1).0 in
        let r = d1.1.setting in
        ap (needed_map s) d2.1.result_is
        ∙ needed_map_image r _ _
        ∙ ap (λ (g : List ℕ). composed s (x g) (y g)) d1.1.result_is
        ∙ law r d1.0 (drop (length (inverse_in s f)) g₀)

  after : (undo_after_calls s t f g₀ h₀ work₀).answer ≡ true
      → needed_map s (get_or (undo_after_calls s t f g₀ h₀ work₀).slices 1 []) ≡ identity_in s
  unfolding undo_after_calls
  after =
      undone (λ g. g) (λ g. f)
      (λ r d. undone_after s r.prime (small r) r.allowed f (fixing s d.map d.origin) d.regular)

  before : (undo_before_calls s t f g₀ h₀ work₀).answer ≡ true
      → needed_map s (get_or (undo_before_calls s t f g₀ h₀ work₀).slices 1 []) ≡ identity_in s
  unfolding undo_before_calls
  before =
      undone (λ g. f) (λ g. g)
      (λ r d. undone_before s r.prime (small r) r.allowed f (fixing s d.map d.origin) d.regular)

  module _ {r : Bool} {g h work : List ℕ} where
    pub undo_after_law : left r (g ∷ h ∷ work ∷ []) ≡ undo_after_calls s t f g₀ h₀ work₀ → r ≡ true
        → needed_map s h ≡ identity_in s
    undo_after_law e all =
        ap (λ (l : Left Bool). needed_map s (get_or l.slices 1 [])) e
        ∙ after (sym (ap (λ (l : Left Bool). l.answer) e) ∙ all)

    pub undo_before_law : left r (g ∷ h ∷ work ∷ []) ≡ undo_before_calls s t f g₀ h₀ work₀ → r ≡ true
        → needed_map s h ≡ identity_in s
    undo_before_law e all =
        ap (λ (l : Left Bool). needed_map s (get_or l.slices 1 [])) e
        ∙ before (sym (ap (λ (l : Left Bool). l.answer) e) ∙ all)

-- ---- what undoes is the inverse

module _ (s : Setting) (r : RoomPassed s []) {f h : List ℕ} (F : IsMapIn s f) (o : FixesIn s f) (H : IsMapIn s h) where
  -- h outer
  pub only_after : composed s h f ≡ identity_in s
      → (needed_map s h ≡ inverse_in s f) × (determinant_of (prime_of s) s.v (map_in s f) ≡ 0 → ⊥)
  unfolding Undoings.composed inverse_in
  only_after e =
      let u =
      after-is_inverse r.prime (small r) s.n s.v r.allowed 1 f (map_check_passed s 1 F)
      (constant_check_passed s (positive r) F o) 1 h (map_check_passed s 1 H) e in
      (u.0, u.1.determinant)

  -- h inner
  pub only_before : FixesIn s h → composed s f h ≡ identity_in s
      → (needed_map s h ≡ inverse_in s f) × (determinant_of (prime_of s) s.v (map_in s f) ≡ 0 → ⊥)
  unfolding Undoings.composed inverse_in
  only_before q e =
      let u =
      before-is_inverse r.prime (small r) s.n s.v r.allowed 1 f (map_check_passed s 1 F)
      (constant_check_passed s (positive r) F o) 1 h (map_check_passed s 1 H) (constant_check_passed s (positive r) H q) e in
      (u.0, u.1.determinant)

module _ (s : Setting) (t f h e₀ g₀ work₀ : List ℕ) where
  -- x outer and y inner
  module _ (x y : List ℕ) where
    abbrev composition : Left Outcome
    composition = compose_call s t x y e₀ work₀

    abbrev inversion : Left Outcome
    inversion = invert_call s t f g₀ (work_of composition)

    only : (RoomPassed s [] → TwoMaps s x y → RegularMap s f → composed s x y ≡ identity_in s
        → needed_map s h ≡ inverse_in s f)
        → all_finished (composition ∷ inversion ∷ []) ≡ true
        → needed_map s (result_of composition) ≡ identity_in s → needed_map s h ≡ needed_map s (result_of inversion)
    only law all is =
        let e1 = all_finished_parts composition (inversion ∷ []) all in
        let d1 = compose-finished s t x y e₀ work₀ e1.0 in
        let d2 = invert_finished s t f g₀ (work_of composition) (all_finished_parts inversion [] e1.1).0 in
        let r = d1.1.setting in
        law r d1.0 d2.0 (sym (ap (needed_map s) d1.1.result_is ∙ needed_map_image r _ _) ∙ is)
        ∙ sym
        (ap (needed_map s) d2.1.result_is
        ∙ take_at (inverse_in s f) (drop (length (inverse_in s f)) g₀) (map_words s.n s.v) d2.0.whole)

  after-only : (only_after_calls s t f h e₀ g₀ work₀).answer ≡ true
      → needed_map s (get_or (only_after_calls s t f h e₀ g₀ work₀).slices 0 []) ≡ identity_in s
      → needed_map s h ≡ needed_map s (get_or (only_after_calls s t f h e₀ g₀ work₀).slices 1 [])
  unfolding only_after_calls
  after-only = only h f (λ r d k is. (only_after s r d.inner d.origin d.outer is).0)

  before-only : (only_before_calls s t f h e₀ g₀ work₀).answer ≡ true
      → needed_map s (get_or (only_before_calls s t f h e₀ g₀ work₀).slices 0 []) ≡ identity_in s
      → needed_map s h ≡ needed_map s (get_or (only_before_calls s t f h e₀ g₀ work₀).slices 1 [])
  unfolding only_before_calls
  before-only = only f h (λ r d k is. (only_before s r k.map k.origin d.inner d.origin is).0)

  module _ {r : Bool} {e g work : List ℕ} where
    pub only-after_law : left r (e ∷ g ∷ work ∷ []) ≡ only_after_calls s t f h e₀ g₀ work₀ → r ≡ true
        → needed_map s e ≡ identity_in s → needed_map s h ≡ needed_map s g
    only-after_law l all is =
        after-only (sym (ap (λ (x : Left Bool). x.answer) l) ∙ all)
        (sym (ap (λ (x : Left Bool). needed_map s (get_or x.slices 0 [])) l) ∙ is)
        ∙ sym (ap (λ (x : Left Bool). needed_map s (get_or x.slices 1 [])) l)

    pub only-before_law : left r (e ∷ g ∷ work ∷ []) ≡ only_before_calls s t f h e₀ g₀ work₀ → r ≡ true
        → needed_map s e ≡ identity_in s → needed_map s h ≡ needed_map s g
    only-before_law l all is =
        before-only (sym (ap (λ (x : Left Bool). x.answer) l) ∙ all)
        (sym (ap (λ (x : Left Bool). needed_map s (get_or x.slices 0 [])) l) ∙ is)
        ∙ sym (ap (λ (x : Left Bool). needed_map s (get_or x.slices 1 [])) l)
