-- `substitute_twice`: where its four calls finish, f and then g substituted are the composition of both substituted,
-- word for word.
use Rattle.std.proofs.Common.{◌≡◌, sym, ap, ◌∙◌, Bool, true, List, [], ◌∷◌, ℕ, length, get_or, drop}
use Rattle.answer.specs.declared.Setting.{Setting}
use Rattle.checks.specs.Calls.{Left, left, substitute_call, compose_call}
use Rattle.calls.specs.Calls.{result_of, work_of, needed_series}
use Rattle.substitution_laws.specs.Laws.{twice_calls}
use Rattle.calls.proofs.Words.{substituted, composed}
use Rattle.substitution_laws.proofs.Substituting.{substituted-twice}
use Rattle.calls.proofs.Inputs.{positive, small}
use Rattle.calls.proofs.FinishedCalls.{all_finished_parts, needed_image, substitute-finished, compose-finished}

module _ (s : Setting) (t a f g once₀ twice₀ both₀ whole₀ work₀ : List ℕ) where
  law : (twice_calls s t a f g once₀ twice₀ both₀ whole₀ work₀).answer ≡ true
      → needed_series s (get_or (twice_calls s t a f g once₀ twice₀ both₀ whole₀ work₀).slices 1 [])
      ≡ needed_series s (get_or (twice_calls s t a f g once₀ twice₀ both₀ whole₀ work₀).slices 3 [])
  unfolding twice_calls
  law all =
      let c1 = substitute_call s t a f once₀ work₀ in
      let c2 = substitute_call s t (result_of c1) g twice₀ (work_of c1) in
      let c3 = compose_call s t f g both₀ (work_of c2) in
      let c4 = substitute_call s t a (result_of c3) whole₀ (work_of c3) in
      let e1 = all_finished_parts c1 (c2 ∷ c3 ∷ c4 ∷ []) all in
      let e2 = all_finished_parts c2 (c3 ∷ c4 ∷ []) e1.1 in
      let e3 = all_finished_parts c3 (c4 ∷ []) e2.1 in
      let e4 = all_finished_parts c4 [] e3.1 in
      let d1 = substitute-finished s t a f once₀ work₀ e1.0 in
      let d2 = substitute-finished s t (result_of c1) g twice₀ (work_of c1) e2.0 in
      let d3 = compose-finished s t f g both₀ (work_of c2) e3.0 in
      let d4 = substitute-finished s t a (result_of c3) whole₀ (work_of c3) e4.0 in
      let r = d1.1.setting in
      let x = substituted s a f in
      let m = composed s f g in
      ap (needed_series s) d2.1.result_is
      ∙ needed_image r _ _
      ∙ ap (λ (y : List ℕ). substituted s y g) d1.1.result_is
      ∙ substituted-twice s (positive r) (small r) d1.0.series d1.0.map d3.0.inner d3.0.origin
      (drop (length x) once₀) (drop (length m) both₀)
      ∙ ap (substituted s a) (sym d3.1.result_is)
      ∙ sym (needed_image r _ _)
      ∙ sym (ap (needed_series s) d4.1.result_is)

  pub twice_law : {r : Bool} {once twice both whole work : List ℕ}
      → left r (once ∷ twice ∷ both ∷ whole ∷ work ∷ []) ≡ twice_calls s t a f g once₀ twice₀ both₀ whole₀ work₀
      → r ≡ true → needed_series s twice ≡ needed_series s whole
  twice_law h e =
      ap (λ (l : Left Bool). needed_series s (get_or l.slices 1 [])) h
      ∙ law (sym (ap (λ (l : Left Bool). l.answer) h) ∙ e)
      ∙ sym (ap (λ (l : Left Bool). needed_series s (get_or l.slices 3 [])) h)
