-- Term 3 of undoing maps, over the setting: their number is 1 or 0, after a map f as before it, and `invert` leaves the
-- one or refuses 9. That one of the two holds is `term-3` (proofs/Closing.antt).
--
-- Glossary
--   undoing_after_in s f       the origin-fixing maps of the setting that undo f after it
--   undoing_before_in s f      those that undo f before it
--   Taken s t f result work    no check of a call of `invert` before 7 declines: its slices are long enough, and t is
--                              the right table
--   OneUndoesIn s f            one map undoes f after it, one before it, and both are the words that `invert` leaves
--   NoneUndoesIn s f           none does, and `invert` refuses 9 and writes nothing
use Rattle.std.specs.Prelude.{◌≡◌, List, [], ◌∷◌, ◌++◌, ℕ, length, drop}
use Rattle.answer.specs.declared.Setting.{Setting}
use Rattle.answer.specs.Refusals.{passed, finished, refused}
use Rattle.answer.specs.Sizes.{map_words, work_words}
use Rattle.inversion.specs.Inverse.{undoing_after, undoing_before}
use Rattle.checks.specs.declared.Kind.TheVariants.{Table, Map, Work}
use Rattle.checks.specs.Settings.{prime_of, inverse_in, zeros}
use Rattle.checks.specs.Room.{slice, room}
use Rattle.checks.specs.Inputs.{inputs}
use Rattle.checks.specs.Calls.{left, invert_call}

abbrev pub undoing_after_in : Setting → List ℕ → List (List ℕ)
undoing_after_in s f = undoing_after (prime_of s) s.n s.v f

abbrev pub undoing_before_in : Setting → List ℕ → List (List ℕ)
undoing_before_in s f = undoing_before (prime_of s) s.n s.v f

pub record Taken (s : Setting) (t f result work : List ℕ) : Type 0 where
  pub room_is :
      room s (slice Table (length t) ∷ slice Map (length f) ∷ slice Map (length result) ∷ slice Work (length work) ∷ [])
      ≡ passed
  pub table_is : inputs s t [] ≡ passed

pub record OneUndoesIn (s : Setting) (f : List ℕ) : Type 0 where
  pub number_after : length (undoing_after_in s f) ≡ 1
  pub number_before : length (undoing_before_in s f) ≡ 1
  pub after : undoing_after_in s f ≡ inverse_in s f ∷ []
  pub before : undoing_before_in s f ≡ inverse_in s f ∷ []
  pub call : (t result work : List ℕ) → Taken s t f result work
      → invert_call s t f result work
      ≡ left (finished 0)
      ((inverse_in s f ++ drop (map_words s.n s.v) result) ∷ (zeros s ++ drop (work_words s.n s.v) work) ∷ [])

pub record NoneUndoesIn (s : Setting) (f : List ℕ) : Type 0 where
  pub number_after : length (undoing_after_in s f) ≡ 0
  pub number_before : length (undoing_before_in s f) ≡ 0
  pub after : undoing_after_in s f ≡ []
  pub before : undoing_before_in s f ≡ []
  pub call : (t result work : List ℕ) → Taken s t f result work
      → invert_call s t f result work ≡ left (refused 9 (0 ∷ [])) (result ∷ work ∷ [])
