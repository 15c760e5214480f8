-- A call of the kernel as the laws see it. c is what the call left (`product_call` and the like, of the crate checks).
--
-- Glossary
--   is_finished o       a call with the outcome o finished
--   all_finished cs     each of the calls finished
--   result_of c         the result that it left
--   work_of c           the work space that it left
--   keeping work c      what a call left that takes no work space, beside the work space as it was
--   needed_series s ws  the words of a slice that are its series: the first N + 1
--   needed_map s ws     those that are its map: the first v (N + 1)
use Rattle.std.specs.Prelude.{Bool, true, false, ◌&&◌, List, [], ◌∷◌, ℕ, get_or, take}
use Rattle.answer.specs.declared.Setting.{Setting}
use Rattle.answer.specs.Refusals.{Outcome, finished, refused}
use Rattle.answer.specs.Sizes.{series_words, map_words}
use Rattle.checks.specs.Calls.{Left, left}

abbrev pub is_finished : Outcome → Bool
is_finished (finished k) = true
is_finished (refused n at) = false

abbrev pub all_finished : List (Left Outcome) → Bool
all_finished [] = true
all_finished (c ∷ cs) = is_finished c.answer && all_finished cs

abbrev pub result_of : Left Outcome → List ℕ
result_of c = get_or c.slices 0 []

abbrev pub work_of : Left Outcome → List ℕ
work_of c = get_or c.slices 1 []

abbrev pub keeping : List ℕ → Left Outcome → Left Outcome
keeping work c = left c.answer (result_of c ∷ work ∷ [])

abbrev pub needed_series : Setting → List ℕ → List ℕ
needed_series s ws = take (series_words s.n s.v) ws

abbrev pub needed_map : Setting → List ℕ → List ℕ
needed_map s ws = take (map_words s.n s.v) ws
