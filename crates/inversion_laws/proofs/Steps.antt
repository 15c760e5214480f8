-- The calls that a function of this crate makes, one after another, are those of its law.
use Rattle.std.proofs.Common.{◌≡◌, Bool, ◌&&◌, List, [], ◌∷◌, ℕ}
use Rattle.std.proofs.Math.Bool.{and-true}
use Rattle.answer.specs.declared.Setting.{Setting}
use Rattle.checks.specs.Calls.{left, compose_call, invert_call}
use Rattle.calls.proofs.Steps.{Step}
use Rattle.inversion_laws.specs.Laws.{undo_after_calls, undo_before_calls, only_after_calls, only_before_calls}

module _ (s : Setting) (t f : List ℕ) where
  module _ (g₀ h₀ work₀ : List ℕ) {g h work₁ work : List ℕ} {p q : Bool} (d1 : Step (invert_call s t f g₀ work₀) p g work₁) where
    pub undo_after_steps : Step (compose_call s t g f h₀ work₁) q h work
        → left (p && q) (g ∷ h ∷ work ∷ []) ≡ undo_after_calls s t f g₀ h₀ work₀
    unfolding undo_after_calls
    undo_after_steps d2 = simp and-true (cc)

    pub undo_before_steps : Step (compose_call s t f g h₀ work₁) q h work
        → left (p && q) (g ∷ h ∷ work ∷ []) ≡ undo_before_calls s t f g₀ h₀ work₀
    unfolding undo_before_calls
    undo_before_steps d2 = simp and-true (cc)

  module _ (h e₀ g₀ work₀ : List ℕ) {e g work₁ work : List ℕ} {p q : Bool} where
    pub only-after_steps : Step (compose_call s t h f e₀ work₀) p e work₁ → Step (invert_call s t f g₀ work₁) q g work
        → left (p && q) (e ∷ g ∷ work ∷ []) ≡ only_after_calls s t f h e₀ g₀ work₀
    unfolding only_after_calls
    only-after_steps d1 d2 = simp and-true (cc)

    pub only-before_steps : Step (compose_call s t f h e₀ work₀) p e work₁ → Step (invert_call s t f g₀ work₁) q g work
        → left (p && q) (e ∷ g ∷ work ∷ []) ≡ only_before_calls s t f h e₀ g₀ work₀
    unfolding only_before_calls
    only-before_steps d1 d2 = simp and-true (cc)
