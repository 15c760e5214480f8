-- `only_after` and `only_before` are not empty: where the slices are long enough, the table is right, f and h pass 7,
-- f passes 8, as does an inner map h, and the composition is the identity map, both calls finish: no further check of
-- f is asked for, because then its linear part is not singular.
use Rattle.std.proofs.Common.{◌≡◌, refl, ap, ◌∙◌, true, List, [], ◌∷◌, ℕ, length}
use Rattle.algebra.specs.Substitution.{compose}
use Rattle.answer.specs.declared.Setting.{Setting}
use Rattle.answer.specs.Refusals.{passed}
use Rattle.inversion.specs.Linear.{determinant_of}
use Rattle.checks.specs.declared.Kind.TheVariants.{Table, Map, Work}
use Rattle.checks.specs.Settings.{prime_of, map_in, map_image_in, identity_in}
use Rattle.checks.specs.Room.{Slice, slice, room, RoomPassed}
use Rattle.checks.specs.Inputs.{map, inputs, constants}
use Rattle.checks.specs.Calls.{compose_call, invert_call}
use Rattle.checks.proofs.RoomLaws.{room-passed}
use Rattle.checks.proofs.InputLaws.{inputs-passed}
use Rattle.calls.specs.Calls.{is_finished, work_of}
use Rattle.inversion_laws.specs.Laws.{only_after_calls, only_before_calls}
use Rattle.calls.proofs.Words.{IsMapIn, FixesIn}
use Rattle.calls.proofs.Rooms.{invert_slices, room-chosen}
use Rattle.calls.proofs.Inputs.{map-passed}
use Rattle.calls.proofs.Inputs.{constants-passed}
use Rattle.calls.proofs.FinishedCalls.{compose-finished}
use Rattle.inversion_laws.proofs.UndoLaw.{only_after, only_before}
use Rattle.closing.proofs.Finishing.{all-finish, compose-finishes, invert_finishes}

module _ (s : Setting) (t f h e g work : List ℕ)
    (slices-fit : room s (
    slice Table (length t)
    ∷ slice Map (length f)
    ∷ slice Map (length h)
    ∷ slice Map (length e)
    ∷ slice Map (length g)
    ∷ slice Work (length work)
    ∷ [])
    ≡ passed)
    (given : inputs s t (map f ∷ map h ∷ []) ≡ passed) (f-fixes : constants s f ≡ passed) where
  abbrev bs : List Slice
  bs =
      slice Table (length t) ∷ slice Map (length f) ∷ slice Map (length h) ∷ slice Map (length e) ∷ slice Map (length g) ∷ slice Work (length work) ∷ []

  roomy : RoomPassed s bs
  roomy = room-passed s bs slices-fit

  setting : RoomPassed s []
  setting = room-passed s [] (room-chosen s bs [] slices-fit)

  maps : IsMapIn s f × IsMapIn s h
  maps =
      let i = (inputs-passed s t (map f ∷ map h ∷ []) roomy.allowed roomy.fitting.0 given).1 in
      (map-passed s 1 f i.0, map-passed s 2 h i.1.0)

  o : FixesIn s f
  o = constants-passed s maps.0 f-fixes

  -- the inversion after a composition that left the work space as long as it was
  inverts : (after : List ℕ) → length after ≡ length work
      → (determinant_of (prime_of s) s.v (map_in s f) ≡ 0 → ⊥)
      → is_finished (invert_call s t f g after).answer ≡ true
  inverts after l d =
      invert_finishes s t (map f ∷ map h ∷ []) given f g after
      (ap (λ (y : ℕ). room s (invert_slices (length t) (length f) (length g) y)) l
      ∙ room-chosen s bs (0 ∷ 1 ∷ 4 ∷ 5 ∷ []) slices-fit)
      maps.0 o d

  pub only-after_finishes : map_image_in s (compose (map_in s h) (map_in s f)) ≡ identity_in s
      → (only_after_calls s t f h e g work).answer ≡ true
  unfolding only_after_calls
  only-after_finishes is =
      let c1 = compose_call s t h f e work in
      let c2 = invert_call s t f g (work_of c1) in
      let e1 =
      compose-finishes s t (map f ∷ map h ∷ []) given h f e work (room-chosen s bs (0 ∷ 2 ∷ 1 ∷ 3 ∷ 5 ∷ []) slices-fit)
      maps.1 maps.0 o in
      let d1 = (compose-finished s t h f e work e1).1 in
      all-finish c1 (c2 ∷ []) e1
      (all-finish c2 []
      (inverts (work_of c1) d1.work_long (only_after s setting maps.0 o maps.1 is).1) refl)

  pub only-before_finishes : constants s h ≡ passed → map_image_in s (compose (map_in s f) (map_in s h)) ≡ identity_in s
      → (only_before_calls s t f h e g work).answer ≡ true
  unfolding only_before_calls
  only-before_finishes h-fixes is =
      let c1 = compose_call s t f h e work in
      let c2 = invert_call s t f g (work_of c1) in
      let q = constants-passed s maps.1 h-fixes in
      let e1 =
      compose-finishes s t (map f ∷ map h ∷ []) given f h e work (room-chosen s bs (0 ∷ 1 ∷ 2 ∷ 3 ∷ 5 ∷ []) slices-fit)
      maps.0 maps.1 q in
      let d1 = (compose-finished s t f h e work e1).1 in
      all-finish c1 (c2 ∷ []) e1
      (all-finish c2 []
      (inverts (work_of c1) d1.work_long (only_before s setting maps.0 o maps.1 q is).1) refl)
