-- Term 3 of undoing maps at the prime of a setting. The setting is taken, and the words f pass 7 and 8: one map undoes
-- f after it and one before it, and both are the words that `invert` leaves; or none does, and `invert` refuses 9.
use Rattle.std.proofs.Common.{◌≡◌, ap, ap₂, ◌∙◌, ◌⊎◌, inl, inr, List, [], ◌∷◌, ◌++◌, ℕ, length, drop}
use Rattle.std.proofs.Math.ListN.{length-replicate}
use Rattle.answer.specs.declared.Setting.{Setting}
use Rattle.answer.specs.Refusals.{Verdict, passed, declined, finished}
use Rattle.answer.specs.Sizes.{work_words}
use Rattle.inversion.specs.Closing.{OneUndoes, NoneUndoes}
use Rattle.inversion.proofs.Closing.{one-or_none}
use Rattle.checks.specs.declared.Kind.TheVariants.{Table, Map, Work}
use Rattle.checks.specs.Settings.{prime_of, inverse_in, zeros}
use Rattle.checks.specs.Room.{slice, room}
use Rattle.checks.specs.Inputs.{map, images, inputs, constants, singular}
use Rattle.checks.specs.Calls.{left, write, leaves, invert_checks, invert_call}
use Rattle.checks.proofs.RoomLaws.{room-passed}
use Rattle.checks.proofs.InputLaws.{images-passed}
use Rattle.closing.specs.Undoing.{Taken, OneUndoesIn, NoneUndoesIn}
use Rattle.calls.proofs.Words.{IsMapIn, FixesIn}
use Rattle.calls.proofs.Inputs.{positive, small, last_decides, map_check_passed, map-passed, map-passes, inputs-pass}
use Rattle.calls.proofs.Inputs.{constant_check_passed, constants-passed, fixing}
use Rattle.calls.proofs.FinishedCalls.{length-inverse}

module _ (s : Setting) (taken : room s [] ≡ passed) (f : List ℕ)
    (passes-7 : images s 1 (map f ∷ []) ≡ passed) (passes-8 : constants s f ≡ passed) where
  is_map : IsMapIn s f
  is_map = map-passed s 1 f (images-passed s 1 (map f ∷ []) passes-7).0

  fixes : FixesIn s f
  fixes = constants-passed s is_map passes-8

  -- where no earlier check declines, 9 decides
  decided : (t result work : List ℕ) → Taken s t f result work → (w : Verdict) → singular s f ≡ w
      → invert_call s t f result work ≡ leaves w 0 (write (inverse_in s f) result ∷ write (zeros s) work ∷ [])
  unfolding invert_call invert_checks
  decided t result work k w e =
      ap (λ (x : Verdict). leaves x 0 (write (inverse_in s f) result ∷ write (zeros s) work ∷ []))
      (last_decides (
      room s (slice Table (length t) ∷ slice Map (length f) ∷ slice Map (length result) ∷ slice Work (length work) ∷ [])
      ∷ inputs s t (map f ∷ [])
      ∷ constants s f
      ∷ []) (singular s f)
      (k.room_is, (inputs-pass s t [] (map f ∷ []) k.table_is (map-passes s 1 is_map, tt), (passes-8, tt)))
      ∙ e)

  one : OneUndoes (prime_of s) s.n s.v f → OneUndoesIn s f
  unfolding inverse_in singular
  one u =
      let r = room-passed s [] taken in
      let F = fixing s is_map fixes in
      record {
        number_after = u.number_after;
        number_before = u.number_before;
        after = u.after;
        before = u.before;
        call = λ t result work k.
            decided t result work k passed u.inverted
            ∙ ap₂
            (λ (x y : ℕ).
            left (finished 0) ((inverse_in s f ++ drop x result) ∷ (zeros s ++ drop y work) ∷ []))
            (length-inverse r f F u.determinant)
            (length-replicate (work_words s.n s.v) 0);
      }

  none : NoneUndoes (prime_of s) s.n s.v f → NoneUndoesIn s f
  unfolding singular
  none u = record {
    number_after = u.number_after;
    number_before = u.number_before;
    after = u.after;
    before = u.before;
    call = λ t result work k. decided t result work k (declined 9 (0 ∷ [])) u.refused;
  }

  pub term-3 : OneUndoesIn s f ⊎ NoneUndoesIn s f
  term-3 =
      let r = room-passed s [] taken in
      go
      (one-or_none r.prime (small r) s.n s.v r.allowed 1 f (map_check_passed s 1 is_map)
      (constant_check_passed s (positive r) is_map fixes))
    where
      go : OneUndoes (prime_of s) s.n s.v f ⊎ NoneUndoes (prime_of s) s.n s.v f
          → OneUndoesIn s f ⊎ NoneUndoesIn s f
      go (inl u) = inl (one u)
      go (inr u) = inr (none u)
