-- The published numbers and places of the refusals (01, 'When the kernel declines').
--
-- number r             the number of a refusal, 1 to 10
-- place r              its place: three numbers for refusal 7 (argument, component, word), one for any other
-- Verdict              what a check says in 01's terms: passed, or declined with number and place
-- verdict c            the verdict that a `Check` of the code stands for, or another result of checks
-- Outcome              what a call says in 01's terms: finished with the number that it reports (0 where it
--                      reports none), or refused with number and place
-- outcome a            the outcome that an `Answer` of the code stands for
-- answered w k         the outcome of a call whose checks say w and that reports k where they pass
-- written w new old    what a slice holds after a call whose checks say w: `new`, and what stood beyond it in
--                      `old`, where they pass; `old` where they decline
use Rattle.std.specs.Prelude.{List, [], ◌∷◌, ◌++◌, ℕ, length, drop, Result, Ok, Err}
use Rattle.answer.specs.declared.Refusal.{Refusal}
use Rattle.answer.specs.declared.Refusal.TheVariants.{SettingOutOfRange, SliceTooShort, VariableOutOfRange, OddVariables, MultiplierOutOfRange, TableDiffers, NotAnImage, HasConstant, Singular, Malformed}

abbrev pub number : Refusal → ℕ
number SettingOutOfRange = 1
number (SliceTooShort k) = 2
number VariableOutOfRange = 3
number OddVariables = 4
number MultiplierOutOfRange = 5
number (TableDiffers w) = 6
number (NotAnImage a c w) = 7
number (HasConstant c) = 8
number Singular = 9
number Malformed = 10

abbrev pub place : Refusal → List ℕ
place SettingOutOfRange = 0 ∷ []
place (SliceTooShort k) = k ∷ []
place VariableOutOfRange = 0 ∷ []
place OddVariables = 0 ∷ []
place MultiplierOutOfRange = 0 ∷ []
place (TableDiffers w) = w ∷ []
place (NotAnImage a c w) = a ∷ c ∷ w ∷ []
place (HasConstant c) = c ∷ []
place Singular = 0 ∷ []
place Malformed = 0 ∷ []

pub data Verdict : Type 0 where
  passed : Verdict
  declined : (n : ℕ) (at : List ℕ) → Verdict

abbrev pub verdict : {A : Type 0} → Result A Refusal → Verdict
verdict (Ok a) = passed
verdict (Err r) = declined (number r) (place r)

pub data Outcome : Type 0 where
  finished : (reported : ℕ) → Outcome
  refused : (n : ℕ) (at : List ℕ) → Outcome

abbrev pub outcome : Result ℕ Refusal → Outcome
outcome (Ok k) = finished k
outcome (Err r) = refused (number r) (place r)

abbrev pub answered : Verdict → ℕ → Outcome
answered passed k = finished k
answered (declined n at) k = refused n at

abbrev pub written : Verdict → List ℕ → List ℕ → List ℕ
written passed new old = new ++ drop (length new) old
written (declined n at) new old = old
