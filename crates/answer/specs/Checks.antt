-- The checks of 01's table that need no series, each as a verdict over the inputs.
--
-- first_of cs            the first verdict of a list that declines, or passed: checks in ascending number
-- unless t n at          passed where the test t holds, declined with number n and place `at` otherwise
-- setting_check n v      1: n, v or N out of range, place 0
-- variable_check v k     3: the variable k is not one of 1 to v, place 0
-- even_check v           4: a bracket with odd v, place 0
-- multiplier_check p c   5: the multiplier is above p - 1, place 0
-- table_check n v t      6: a word of t differs from the rule, place the first such word, from 0
-- (2: crate checks, specs/Room; 7, 8: crate series; 9: crate inversion)
use Rattle.std.specs.Prelude.{Bool, true, false, ◌&&◌, List, [], ◌∷◌, ℕ, ◌%◌, leb, ltb, eqb}
use Rattle.monomial.specs.Count.{allowed, words}
use Rattle.monomial.specs.Table.{table_words}
use Rattle.monomial.specs.Difference.{first_difference}
use Rattle.answer.specs.Refusals.{Verdict, passed, declined}

-- c where it declines, the verdict w otherwise
abbrev pub or_else : Verdict → Verdict → Verdict
or_else passed w = w
or_else (declined n at) w = declined n at

abbrev pub first_of : List Verdict → Verdict
first_of [] = passed
first_of (c ∷ cs) = or_else c (first_of cs)

abbrev pub unless : Bool → ℕ → List ℕ → Verdict
unless true n at = passed
unless false n at = declined n at

unfoldable pub setting_check : ℕ → ℕ → Verdict
setting_check n v = unless (allowed n v) 1 (0 ∷ [])

unfoldable pub variable_check : ℕ → ℕ → Verdict
variable_check v k = unless (leb 1 k && leb k v) 3 (0 ∷ [])

unfoldable pub even_check : ℕ → Verdict
even_check v = unless (eqb (v % 2) 0) 4 (0 ∷ [])

unfoldable pub multiplier_check : ℕ → ℕ → Verdict
multiplier_check p c = unless (ltb c p) 5 (0 ∷ [])

unfoldable pub table_check : ℕ → ℕ → List ℕ → Verdict
table_check n v t =
    let w = first_difference (table_words n v) t in
    unless (leb (words n v) w) 6 (w ∷ [])
