-- For each law its calls, one after another: whether both finished, and the words of every slice that they may write.
-- s is the setting, t a table, f, g and h maps; the slices that are written are given as they were before the first
-- call.
--
-- Glossary
--   undo_after_calls s t f g h work
--                      the inverse g of f; h, the composition with g outer and f inner
--   undo_before_calls s t f g h work
--                      the same with f outer and g inner
--   only_after_calls s t f h e g work
--                      e, the composition of a given map h as outer and f as inner map; the inverse g of f
--   only_before_calls s t f h e g work
--                      the same with f outer and h inner
use Rattle.std.specs.Prelude.{Bool, List, [], ◌∷◌, ℕ}
use Rattle.answer.specs.declared.Setting.{Setting}
use Rattle.checks.specs.Calls.{Left, left, compose_call, invert_call}
use Rattle.calls.specs.Calls.{all_finished, result_of, work_of}

unfoldable pub undo_after_calls : Setting → List ℕ → List ℕ → List ℕ → List ℕ → List ℕ → Left Bool
undo_after_calls s t f g h work =
    let c1 = invert_call s t f g work in
    let c2 = compose_call s t (result_of c1) f h (work_of c1) in
    left (all_finished (c1 ∷ c2 ∷ [])) (result_of c1 ∷ result_of c2 ∷ work_of c2 ∷ [])

unfoldable pub undo_before_calls : Setting → List ℕ → List ℕ → List ℕ → List ℕ → List ℕ → Left Bool
undo_before_calls s t f g h work =
    let c1 = invert_call s t f g work in
    let c2 = compose_call s t f (result_of c1) h (work_of c1) in
    left (all_finished (c1 ∷ c2 ∷ [])) (result_of c1 ∷ result_of c2 ∷ work_of c2 ∷ [])

unfoldable pub only_after_calls : Setting → List ℕ → List ℕ → List ℕ → List ℕ → List ℕ → List ℕ → Left Bool
only_after_calls s t f h e g work =
    let c1 = compose_call s t h f e work in
    let c2 = invert_call s t f g (work_of c1) in
    left (all_finished (c1 ∷ c2 ∷ [])) (result_of c1 ∷ result_of c2 ∷ work_of c2 ∷ [])

unfoldable pub only_before_calls : Setting → List ℕ → List ℕ → List ℕ → List ℕ → List ℕ → List ℕ → Left Bool
only_before_calls s t f h e g work =
    let c1 = compose_call s t f h e work in
    let c2 = invert_call s t f g (work_of c1) in
    left (all_finished (c1 ∷ c2 ∷ [])) (result_of c1 ∷ result_of c2 ∷ work_of c2 ∷ [])
