-- The calls that a function of this crate makes, one after another, are those of its law.
use Rattle.std.proofs.Common.{◌≡◌, Bool, ◌&&◌, List, [], ◌∷◌, ℕ}
use Rattle.std.proofs.Math.Bool.{and_assoc, and-true}
use Rattle.answer.specs.declared.Setting.{Setting}
use Rattle.checks.specs.Calls.{left, substitute_call, compose_call}
use Rattle.calls.proofs.Steps.{Step}
use Rattle.substitution_laws.specs.Laws.{Operation, twice_calls, respect_calls}

module _ (s : Setting) (t a f : List ℕ) where
  pub twice_steps : (g once₀ twice₀ both₀ whole₀ work₀ : List ℕ)
      {once twice both whole work₁ work₂ work₃ work : List ℕ} {p q u w : Bool}
      → Step (substitute_call s t a f once₀ work₀) p once work₁
      → Step (substitute_call s t once g twice₀ work₁) q twice work₂
      → Step (compose_call s t f g both₀ work₂) u both work₃
      → Step (substitute_call s t a both whole₀ work₃) w whole work
      → left (p && q && u && w) (once ∷ twice ∷ both ∷ whole ∷ work ∷ [])
      ≡ twice_calls s t a f g once₀ twice₀ both₀ whole₀ work₀
  unfolding twice_calls
  twice_steps g once₀ twice₀ both₀ whole₀ work₀ d1 d2 d3 d4 = simp (and_assoc, and-true) (cc)

  pub respect_steps : (o : Operation) (b both₀ whole₀ first₀ second₀ apart₀ work₀ : List ℕ)
      {both whole first second apart work₁ work₂ work₃ work₄ work : List ℕ} {p q u w z : Bool}
      → Step (o a b both₀ work₀) p both work₁
      → Step (substitute_call s t both f whole₀ work₁) q whole work₂
      → Step (substitute_call s t a f first₀ work₂) u first work₃
      → Step (substitute_call s t b f second₀ work₃) w second work₄
      → Step (o first second apart₀ work₄) z apart work
      → left (p && q && u && w && z) (both ∷ whole ∷ first ∷ second ∷ apart ∷ work ∷ [])
      ≡ respect_calls o s t a b f both₀ whole₀ first₀ second₀ apart₀ work₀
  unfolding respect_calls
  respect_steps o b both₀ whole₀ first₀ second₀ apart₀ work₀ d1 d2 d3 d4 d5 = simp (and_assoc, and-true) (cc)
