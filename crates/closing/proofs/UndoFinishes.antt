-- `undo_after` and `undo_before` are not empty: where the slices are long enough, the table is right, and f passes 7, 8
-- and 9, both calls finish.
use Rattle.std.proofs.Common.{◌≡◌, refl, sym, ap₂, subst, ◌∙◌, true, List, [], ◌∷◌, ℕ, length, drop}
use Rattle.answer.specs.declared.Setting.{Setting}
use Rattle.answer.specs.Refusals.{passed}
use Rattle.checks.specs.declared.Kind.TheVariants.{Table, Map, Work}
use Rattle.checks.specs.Settings.{inverse_in}
use Rattle.checks.specs.Room.{Slice, slice, room, RoomPassed}
use Rattle.checks.specs.Inputs.{map, inputs, constants, singular}
use Rattle.checks.specs.Calls.{compose_call, invert_call}
use Rattle.checks.proofs.RoomLaws.{room-passed}
use Rattle.checks.proofs.InputLaws.{inputs-passed}
use Rattle.calls.specs.Calls.{is_finished, result_of, work_of}
use Rattle.inversion_laws.specs.Laws.{undo_after_calls, undo_before_calls}
use Rattle.calls.proofs.Words.{IsMapIn, FixesIn}
use Rattle.calls.proofs.Rooms.{compose_slices, room-chosen}
use Rattle.inversion_laws.proofs.Undoing.{inverse-map, inverse-fixes}
use Rattle.calls.proofs.Inputs.{small, map-passed}
use Rattle.calls.proofs.Inputs.{constants-passed}
use Rattle.calls.proofs.Inputs.{singular-passed, fixing}
use Rattle.calls.proofs.FinishedCalls.{Wrote}
use Rattle.calls.proofs.FinishedCalls.{invert_finished}
use Rattle.closing.proofs.Finishing.{all-finish, compose-finishes, invert_finishes}

module _ (s : Setting) (t f g h work : List ℕ)
    (slices-fit : room s (slice Table (length t) ∷ slice Map (length f) ∷ slice Map (length g) ∷ slice Map (length h) ∷ slice Work (length work) ∷ [])
    ≡ passed)
    (given : inputs s t (map f ∷ []) ≡ passed) (f-fixes : constants s f ≡ passed)
    (f-regular : singular s f ≡ passed) where
  abbrev bs : List Slice
  bs = slice Table (length t) ∷ slice Map (length f) ∷ slice Map (length g) ∷ slice Map (length h) ∷ slice Work (length work) ∷ []

  roomy : RoomPassed s bs
  roomy = room-passed s bs slices-fit

  F : IsMapIn s f
  F = map-passed s 1 f (inputs-passed s t (map f ∷ []) roomy.allowed roomy.fitting.0 given).1.0

  o : FixesIn s f
  o = constants-passed s F f-fixes

  inverted : is_finished (invert_call s t f g work).answer ≡ true
  inverted =
      invert_finishes s t (map f ∷ []) given f g work (room-chosen s bs (0 ∷ 1 ∷ 2 ∷ 4 ∷ []) slices-fit) F o
      (singular-passed s f f-regular)

  wrote_inverse : Wrote s (inverse_in s f) g work (invert_call s t f g work)
  wrote_inverse = (invert_finished s t f g work inverted).1

  inverse-is : IsMapIn s (result_of (invert_call s t f g work)) × FixesIn s (result_of (invert_call s t f g work))
  inverse-is =
      let rest = drop (length (inverse_in s f)) g in
      let q = fixing s F o in
      let d = singular-passed s f f-regular in (
        subst (IsMapIn s) (sym wrote_inverse.result_is)
            (inverse-map s roomy.prime (small roomy) roomy.allowed f q d rest),
        subst (FixesIn s) (sym wrote_inverse.result_is)
            (inverse-fixes s roomy.prime (small roomy) roomy.allowed f q d rest),
      )

  pub undo_after_finishes : (undo_after_calls s t f g h work).answer ≡ true
  unfolding undo_after_calls
  undo_after_finishes =
      let c1 = invert_call s t f g work in
      let c2 = compose_call s t (result_of c1) f h (work_of c1) in
      all-finish c1 (c2 ∷ []) inverted
      (all-finish c2 []
      (compose-finishes s t (map f ∷ []) given (result_of c1) f h (work_of c1)
      (ap₂ (λ (x y : ℕ). room s (compose_slices (length t) x (length f) (length h) y))
      wrote_inverse.result_long wrote_inverse.work_long
      ∙ room-chosen s bs (0 ∷ 2 ∷ 1 ∷ 3 ∷ 4 ∷ []) slices-fit)
      inverse-is.0 F o)
      refl)

  pub undo_before_finishes : (undo_before_calls s t f g h work).answer ≡ true
  unfolding undo_before_calls
  undo_before_finishes =
      let c1 = invert_call s t f g work in
      let c2 = compose_call s t f (result_of c1) h (work_of c1) in
      all-finish c1 (c2 ∷ []) inverted
      (all-finish c2 []
      (compose-finishes s t (map f ∷ []) given f (result_of c1) h (work_of c1)
      (ap₂ (λ (x y : ℕ). room s (compose_slices (length t) (length f) x (length h) y))
      wrote_inverse.result_long wrote_inverse.work_long
      ∙ slices-fit)
      F inverse-is.0 inverse-is.1)
      refl)
