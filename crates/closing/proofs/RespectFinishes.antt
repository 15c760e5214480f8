-- `substitute_sum` and `substitute_product` are not empty: where the slices are long enough, the table is right,
-- a, b and f pass 7, and f has no constant, their five calls finish.
use Rattle.std.proofs.Common.{◌≡◌, refl, ap, ap₂, ◌∙◌, true, List, [], ◌∷◌, ℕ, length}
use Rattle.algebra.specs.Polynomial.{Polynomial, add, mul}
use Rattle.algebra.specs.Substitution.{substitute}
use Rattle.answer.specs.declared.Setting.{Setting}
use Rattle.answer.specs.Refusals.{passed}
use Rattle.checks.specs.declared.Kind.TheVariants.{Table, Series, Map, Work}
use Rattle.checks.specs.Settings.{series_in, map_in, image_in}
use Rattle.checks.specs.Room.{slice, room}
use Rattle.checks.specs.Inputs.{series, map, inputs, constants}
use Rattle.checks.specs.Calls.{product_call}
use Rattle.checks.specs.Calls.{substitute_call}
use Rattle.checks.proofs.RoomLaws.{room-passed}
use Rattle.checks.proofs.InputLaws.{inputs-passed}
use Rattle.calls.specs.Calls.{is_finished, result_of, work_of}
use Rattle.substitution_laws.specs.Laws.{Operation, respect_calls, summing, sum_calls, product_calls}
use Rattle.calls.proofs.Words.{IsSeriesIn}
use Rattle.calls.proofs.Rooms.{operation_slices, substitute_slices, room-chosen}
use Rattle.calls.proofs.Inputs.{series-passed, map-passed}
use Rattle.calls.proofs.Inputs.{constants-passed}
use Rattle.calls.proofs.FinishedCalls.{Wrote, TwoSeries, sum-finished, product-finished}
use Rattle.calls.proofs.FinishedCalls.{substitute-finished}
use Rattle.closing.proofs.Finishing.{all-finish, sum-finishes, product-finishes, substitute-finishes, wrote_series}

-- a call of the operation finishes on two series where the slices are long enough, and leaves a series
record OnSeries (s : Setting) (t : List ℕ) (o : Operation) : Type 0 where
  of : List ℕ → List ℕ → Polynomial
  finishes_on : (a b result work : List ℕ)
      → room s (operation_slices (length t) (length a) (length b) (length result) (length work))
      ≡ passed
      → IsSeriesIn s a → IsSeriesIn s b → is_finished (o a b result work).answer ≡ true
  done : (a b result work : List ℕ) → is_finished (o a b result work).answer ≡ true
      → TwoSeries s a b × Wrote s (image_in s (of a b)) result work (o a b result work)

module _ (s : Setting) (t a b f both whole first second apart work : List ℕ)
    (slices-fit : room s (
    slice Table (length t)
    ∷ slice Series (length a)
    ∷ slice Series (length b)
    ∷ slice Map (length f)
    ∷ slice Series (length both)
    ∷ slice Series (length whole)
    ∷ slice Series (length first)
    ∷ slice Series (length second)
    ∷ slice Series (length apart)
    ∷ slice Work (length work)
    ∷ [])
    ≡ passed)
    (given : inputs s t (series a ∷ series b ∷ map f ∷ []) ≡ passed) (f-fixes : constants s f ≡ passed) where
  respect_finishes : (o : Operation) → OnSeries s t o
      → (respect_calls o s t a b f both whole first second apart work).answer ≡ true
  unfolding respect_calls
  respect_finishes o k =
      let xs = series a ∷ series b ∷ map f ∷ [] in
      let bs =
      slice Table (length t)
      ∷ slice Series (length a)
      ∷ slice Series (length b)
      ∷ slice Map (length f)
      ∷ slice Series (length both)
      ∷ slice Series (length whole)
      ∷ slice Series (length first)
      ∷ slice Series (length second)
      ∷ slice Series (length apart)
      ∷ slice Work (length work)
      ∷ [] in
      let m = room-passed s bs slices-fit in
      let i = (inputs-passed s t xs m.allowed m.fitting.0 given).1 in
      let A = series-passed s 1 a i.0 in
      let B = series-passed s 2 b i.1.0 in
      let F = map-passed s 3 f i.1.1.0 in
      let q = constants-passed s F f-fixes in
      let c1 = o a b both work in
      let c2 = substitute_call s t (result_of c1) f whole (work_of c1) in
      let c3 = substitute_call s t a f first (work_of c2) in
      let c4 = substitute_call s t b f second (work_of c3) in
      let c5 = o (result_of c3) (result_of c4) apart (work_of c4) in
      let e1 = k.finishes_on a b both work (room-chosen s bs (0 ∷ 1 ∷ 2 ∷ 4 ∷ 9 ∷ []) slices-fit) A B in
      let d1 = (k.done a b both work e1).1 in
      let e2 =
      substitute-finishes s t xs given (result_of c1) f whole (work_of c1)
      (ap₂ (λ (x y : ℕ). room s (substitute_slices (length t) x (length f) (length whole) y))
      d1.result_long d1.work_long
      ∙ room-chosen s bs (0 ∷ 4 ∷ 3 ∷ 5 ∷ 9 ∷ []) slices-fit)
      (wrote_series s (k.of a b) d1) F q in
      let d2 = (substitute-finished s t (result_of c1) f whole (work_of c1) e2).1 in
      let l2 = d2.work_long ∙ d1.work_long in
      let e3 =
      substitute-finishes s t xs given a f first (work_of c2)
      (ap (λ (y : ℕ). room s (substitute_slices (length t) (length a) (length f) (length first) y))
      l2
      ∙ room-chosen s bs (0 ∷ 1 ∷ 3 ∷ 6 ∷ 9 ∷ []) slices-fit)
      A F q in
      let d3 = (substitute-finished s t a f first (work_of c2) e3).1 in
      let l3 = d3.work_long ∙ l2 in
      let e4 =
      substitute-finishes s t xs given b f second (work_of c3)
      (ap (λ (y : ℕ). room s (substitute_slices (length t) (length b) (length f) (length second) y))
      l3
      ∙ room-chosen s bs (0 ∷ 2 ∷ 3 ∷ 7 ∷ 9 ∷ []) slices-fit)
      B F q in
      let d4 = (substitute-finished s t b f second (work_of c3) e4).1 in
      let e5 =
      k.finishes_on (result_of c3) (result_of c4) apart (work_of c4)
      (ap₂
      (λ (x y : ℕ).
      room s (operation_slices (length t) x y (length apart) (length (work_of c4))))
      d3.result_long d4.result_long
      ∙ ap
      (λ (y : ℕ).
      room s (operation_slices (length t) (length first) (length second) (length apart) y))
      (d4.work_long ∙ l3)
      ∙ room-chosen s bs (0 ∷ 6 ∷ 7 ∷ 8 ∷ 9 ∷ []) slices-fit)
      (wrote_series s (substitute (series_in s a) (map_in s f)) d3)
      (wrote_series s (substitute (series_in s b) (map_in s f)) d4) in
      all-finish c1 (c2 ∷ c3 ∷ c4 ∷ c5 ∷ []) e1
      (all-finish c2 (c3 ∷ c4 ∷ c5 ∷ []) e2
      (all-finish c3 (c4 ∷ c5 ∷ []) e3 (all-finish c4 (c5 ∷ []) e4 (all-finish c5 [] e5 refl))))

  pub sum-law_finishes : (sum_calls s t a b f both whole first second apart work).answer ≡ true
  sum-law_finishes =
      respect_finishes (summing s)
      record {
        of = λ x y. add (series_in s x) (series_in s y);
        finishes_on = sum-finishes s t (series a ∷ series b ∷ map f ∷ []) given;
        done = sum-finished s;
      }

  pub product-law_finishes : (product_calls s t a b f both whole first second apart work).answer ≡ true
  product-law_finishes =
      respect_finishes (product_call s t)
      record {
        of = λ x y. mul (series_in s x) (series_in s y);
        finishes_on = product-finishes s t (series a ∷ series b ∷ map f ∷ []) given;
        done = product-finished s t;
      }
