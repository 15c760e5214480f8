-- `substitute_twice` is not empty: where the slices are long enough, the table is right, a, f and g pass 7, and f and g
-- have no constants, its four calls finish.
use Rattle.std.proofs.Common.{◌≡◌, refl, sym, ap, ap₂, subst, ◌∙◌, true, List, [], ◌∷◌, ℕ, length, drop}
use Rattle.algebra.specs.Substitution.{substitute, compose}
use Rattle.answer.specs.declared.Setting.{Setting}
use Rattle.answer.specs.Refusals.{passed}
use Rattle.series.proofs.Maps.{map_image-map}
use Rattle.checks.specs.declared.Kind.TheVariants.{Table, Series, Map, Work}
use Rattle.checks.specs.Settings.{prime_of, series_in, map_in}
use Rattle.checks.specs.Room.{slice, room}
use Rattle.checks.specs.Inputs.{series, map, inputs, constants}
use Rattle.checks.specs.Calls.{substitute_call, compose_call}
use Rattle.checks.proofs.RoomLaws.{room-passed}
use Rattle.checks.proofs.InputLaws.{inputs-passed}
use Rattle.calls.specs.Calls.{result_of, work_of}
use Rattle.substitution_laws.specs.Laws.{twice_calls}
use Rattle.calls.proofs.Words.{IsMapIn, FixesIn, composed}
use Rattle.calls.proofs.Rooms.{substitute_slices, compose_slices, room-chosen}
use Rattle.calls.proofs.Inputs.{positive, small, series-passed, map-passed}
use Rattle.calls.proofs.Inputs.{constants-passed}
use Rattle.calls.proofs.FinishedCalls.{substitute-finished, compose-finished}
use Rattle.closing.proofs.Finishing.{all-finish, substitute-finishes, compose-finishes}
use Rattle.closing.proofs.Finishing.{wrote_series, composed-fixes}

module _ (s : Setting) (t a f g once twice both whole work : List ℕ)
    (slices-fit : room s (
    slice Table (length t)
    ∷ slice Series (length a)
    ∷ slice Map (length f)
    ∷ slice Map (length g)
    ∷ slice Series (length once)
    ∷ slice Series (length twice)
    ∷ slice Map (length both)
    ∷ slice Series (length whole)
    ∷ slice Work (length work)
    ∷ [])
    ≡ passed)
    (given : inputs s t (series a ∷ map f ∷ map g ∷ []) ≡ passed)
    (f-fixes : constants s f ≡ passed) (g-fixes : constants s g ≡ passed) where
  pub twice_finishes : (twice_calls s t a f g once twice both whole work).answer ≡ true
  unfolding twice_calls
  twice_finishes =
      let xs = series a ∷ map f ∷ map g ∷ [] in
      let bs =
      slice Table (length t)
      ∷ slice Series (length a)
      ∷ slice Map (length f)
      ∷ slice Map (length g)
      ∷ slice Series (length once)
      ∷ slice Series (length twice)
      ∷ slice Map (length both)
      ∷ slice Series (length whole)
      ∷ slice Work (length work)
      ∷ [] in
      let m = room-passed s bs slices-fit in
      let i = (inputs-passed s t xs m.allowed m.fitting.0 given).1 in
      let A = series-passed s 1 a i.0 in
      let F = map-passed s 2 f i.1.0 in
      let G = map-passed s 3 g i.1.1.0 in
      let o = constants-passed s F f-fixes in
      let q = constants-passed s G g-fixes in
      let c1 = substitute_call s t a f once work in
      let c2 = substitute_call s t (result_of c1) g twice (work_of c1) in
      let c3 = compose_call s t f g both (work_of c2) in
      let c4 = substitute_call s t a (result_of c3) whole (work_of c3) in
      let e1 =
      substitute-finishes s t xs given a f once work (room-chosen s bs (0 ∷ 1 ∷ 2 ∷ 4 ∷ 8 ∷ []) slices-fit) A F o in
      let d1 = (substitute-finished s t a f once work e1).1 in
      let r = d1.setting in
      let e2 =
      substitute-finishes s t xs given (result_of c1) g twice (work_of c1)
      (ap₂ (λ (x y : ℕ). room s (substitute_slices (length t) x (length g) (length twice) y))
      d1.result_long d1.work_long
      ∙ room-chosen s bs (0 ∷ 4 ∷ 3 ∷ 5 ∷ 8 ∷ []) slices-fit)
      (wrote_series s (substitute (series_in s a) (map_in s f)) d1) G q in
      let d2 = (substitute-finished s t (result_of c1) g twice (work_of c1) e2).1 in
      let l2 = d2.work_long ∙ d1.work_long in
      let e3 =
      compose-finishes s t xs given f g both (work_of c2)
      (ap (λ (y : ℕ). room s (compose_slices (length t) (length f) (length g) (length both) y)) l2
      ∙ room-chosen s bs (0 ∷ 2 ∷ 3 ∷ 6 ∷ 8 ∷ []) slices-fit)
      F G q in
      let d3 = (compose-finished s t f g both (work_of c2) e3).1 in
      let rest = drop (length (composed s f g)) both in
      let e4 =
      substitute-finishes s t xs given a (result_of c3) whole (work_of c3)
      (ap₂ (λ (x y : ℕ). room s (substitute_slices (length t) (length a) x (length whole) y))
      d3.result_long (d3.work_long ∙ l2)
      ∙ room-chosen s bs (0 ∷ 1 ∷ 6 ∷ 7 ∷ 8 ∷ []) slices-fit)
      A
      (subst (IsMapIn s) (sym d3.result_is)
      (map_image-map (prime_of s) s.n s.v (positive r) (small r) (compose (map_in s f) (map_in s g)) rest))
      (subst (FixesIn s) (sym d3.result_is) (composed-fixes s r F G o q rest)) in
      all-finish c1 (c2 ∷ c3 ∷ c4 ∷ []) e1
      (all-finish c2 (c3 ∷ c4 ∷ []) e2 (all-finish c3 (c4 ∷ []) e3 (all-finish c4 [] e4 refl)))
