-- Refusals 7 and 8 over the components of an argument (01, 'When the kernel declines'), where only
-- the number N of positions is known. A series has one component, a map has v of them.
--
-- part N at ws               the N + 1 words from word `at` on
-- argument_check p N a k ws  7 for the k components of argument a, in order, each of N + 1 words
-- Given                      an argument of a call: its words, and how many components they are
-- arguments_check p N a xs   7 for the arguments xs, in order, counted from a
-- constants_check N k ws     8 for a map of k components, each of N + 1 words: place the first with a constant, from 1
-- map_check p n v a ws       7 for the map that is argument a
-- constant_check n v ws      8 for a map
use Rattle.std.specs.Prelude.{not, List, [], ◌∷◌, ℕ, suc, ◌+◌, ◌*◌, take, drop}
use Rattle.std.specs.Borrow.{Bor}
use Rattle.monomial.specs.Count.{count}
use Rattle.monomial.specs.Enumeration.{upto}
use Rattle.answer.specs.Refusals.{Verdict, passed}
use Rattle.answer.specs.Checks.{or_else, first_of, unless}
use Rattle.series.specs.Faults.{series_check, has_constant}

abbrev pub part : ℕ → ℕ → List ℕ → List ℕ
part N at ws = take (N + 1) (drop at ws)

unfoldable pub argument_check : ℕ → ℕ → ℕ → ℕ → List ℕ → Verdict
argument_check p N a k ws =
    first_of (upto (λ i. series_check p N a (suc i) (part N (i * (N + 1)) ws) ∷ []) k)

abbrev pub Given : Type 0
Given = Bor (List ℕ) × ℕ

unfoldable pub arguments_check : ℕ → ℕ → ℕ → List Given → Verdict
arguments_check p N a [] = passed
arguments_check p N a (x ∷ xs) = or_else (argument_check p N a x.1 x.0.now) (arguments_check p N (suc a) xs)

unfoldable pub constants_check : ℕ → ℕ → List ℕ → Verdict
constants_check N k ws =
    first_of (upto (λ i. unless (not (has_constant (part N (i * (N + 1)) ws))) 8 (suc i ∷ []) ∷ []) k)

abbrev pub map_check : ℕ → ℕ → ℕ → ℕ → List ℕ → Verdict
map_check p n v a ws = argument_check p (count n v) a v ws

abbrev pub constant_check : ℕ → ℕ → List ℕ → Verdict
constant_check n v ws = constants_check (count n v) v ws
