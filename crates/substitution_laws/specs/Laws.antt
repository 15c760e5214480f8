-- For each law its calls, one after another: whether all of them finished, and the words of every slice that they may
-- write. s is the setting, t a table, a and b series, f and g maps; the slices that are written are given as they
-- were before the first call.
--
-- Glossary
--   twice_calls s t a f g once twice both whole work
--                      f substituted into a, g into what that gives; g composed into f, and that substituted into a
--   respect_calls o s t a b f both whole first second apart work
--                      the operation o on a and b, f substituted into what that gives; f substituted into a and into
--                      b, and the operation on these
--   sum_calls, product_calls
--                      these of the sum and of the product
use Rattle.std.specs.Prelude.{Bool, List, [], ◌∷◌, ℕ}
use Rattle.answer.specs.declared.Setting.{Setting}
use Rattle.answer.specs.Refusals.{Outcome}
use Rattle.checks.specs.Calls.{Left, left, sum_call, product_call, substitute_call, compose_call}
use Rattle.calls.specs.Calls.{all_finished, result_of, work_of, keeping}

unfoldable pub twice_calls : Setting → List ℕ → List ℕ → List ℕ → List ℕ
    → List ℕ → List ℕ → List ℕ → List ℕ → List ℕ → Left Bool
twice_calls s t a f g once twice both whole work =
    let c1 = substitute_call s t a f once work in
    let c2 = substitute_call s t (result_of c1) g twice (work_of c1) in
    let c3 = compose_call s t f g both (work_of c2) in
    let c4 = substitute_call s t a (result_of c3) whole (work_of c3) in
    left (all_finished (c1 ∷ c2 ∷ c3 ∷ c4 ∷ []))
    (result_of c1 ∷ result_of c2 ∷ result_of c3 ∷ result_of c4 ∷ work_of c4 ∷ [])

-- an operation takes two series, its result and the work space
abbrev pub Operation : Type 0
Operation = List ℕ → List ℕ → List ℕ → List ℕ → Left Outcome

unfoldable pub respect_calls : Operation → Setting → List ℕ → List ℕ → List ℕ → List ℕ
    → List ℕ → List ℕ → List ℕ → List ℕ → List ℕ → List ℕ → Left Bool
respect_calls operate s t a b f both whole first second apart work =
    let c1 = operate a b both work in
    let c2 = substitute_call s t (result_of c1) f whole (work_of c1) in
    let c3 = substitute_call s t a f first (work_of c2) in
    let c4 = substitute_call s t b f second (work_of c3) in
    let c5 = operate (result_of c3) (result_of c4) apart (work_of c4) in
    left (all_finished (c1 ∷ c2 ∷ c3 ∷ c4 ∷ c5 ∷ []))
    (result_of c1 ∷ result_of c2 ∷ result_of c3 ∷ result_of c4 ∷ result_of c5 ∷ work_of c5 ∷ [])

abbrev pub summing : Setting → Operation
summing s a b result work = keeping work (sum_call s a b result)

abbrev pub sum_calls : Setting → List ℕ → List ℕ → List ℕ → List ℕ
    → List ℕ → List ℕ → List ℕ → List ℕ → List ℕ → List ℕ → Left Bool
sum_calls s = respect_calls (summing s) s

abbrev pub product_calls : Setting → List ℕ → List ℕ → List ℕ → List ℕ
    → List ℕ → List ℕ → List ℕ → List ℕ → List ℕ → List ℕ → Left Bool
product_calls s t = respect_calls (product_call s t) s t
