-- A call that finished: its checks passed, so its arguments are series and maps, and it wrote what its definition says
-- into slices that keep their lengths.
use Rattle.std.proofs.Common.{◌≡◌, refl, ap, Bool, true, false, ◌&&◌, List, [], ◌∷◌, ◌++◌, ℕ, ◌≤◌, arith, length, drop, length-append, length-drop, take_at}
use Rattle.std.proofs.Math.ListN.{length-replicate}
use Rattle.algebra.specs.Polynomial.{Polynomial, add, mul}
use Rattle.algebra.specs.Substitution.{Map, substitute, compose}
use Rattle.answer.specs.declared.Setting.{Setting}
use Rattle.answer.specs.Refusals.{Verdict, passed, declined, Outcome, answered, written}
use Rattle.answer.specs.Sizes.{series_words, map_words, work_words}
use Rattle.series.specs.Image.{pair_count}
use Rattle.series.proofs.Writing.{length-image}
use Rattle.series.proofs.Maps.{length-map_image}
use Rattle.inversion.specs.Linear.{determinant_of}
use Rattle.inversion.specs.Undoing.{Fixing}
use Rattle.inversion.proofs.Counting.{inverse-fixing}
use Rattle.checks.specs.declared.Kind.TheVariants as kind
use Rattle.checks.specs.Settings.{prime_of, series_in, map_in, image_in, map_image_in, inverse_in, zeros}
use Rattle.checks.specs.Room.{Slice, slice, room, RoomPassed}
use Rattle.checks.specs.Inputs.{series, map, images, inputs, constants, singular}
use Rattle.checks.specs.Calls.{Left, write, leaves, sum_checks, sum_call, product_checks, product_call}
use Rattle.checks.specs.Calls.{substitute_checks, substitute_call, compose_checks, compose_call, invert_checks, invert_call}
use Rattle.checks.proofs.RoomLaws.{room-passed}
use Rattle.checks.proofs.InputLaws.{images-passed, inputs-passed}
use Rattle.calls.specs.Calls.{is_finished, all_finished, result_of, work_of, keeping, needed_series, needed_map}
use Rattle.calls.proofs.Words.{IsSeriesIn, IsMapIn, FixesIn, summed, multiplied, substituted, composed}
use Rattle.calls.proofs.Rooms.{operation_slices, substitute_slices, compose_slices, invert_slices, room-chosen}
use Rattle.calls.proofs.Inputs.{positive, small, each-passed, series-passed, map-passed}
use Rattle.calls.proofs.Inputs.{constants-passed, singular-passed, fixing}

-- ---- answers

pub finished_passed : (w : Verdict) (k : ℕ) → is_finished (answered w k) ≡ true → w ≡ passed
finished_passed passed k e = refl
finished_passed (declined n at) k e = let z : ◌≡◌ {A = ℕ} 0 1 = cc in absurd (omega arith)

both_true : (x y : Bool) → x && y ≡ true → (x ≡ true) × (y ≡ true)
both_true true y e = (refl, e)
both_true false y e = let z : ◌≡◌ {A = ℕ} 0 1 = cc in absurd (omega arith)

pub all_finished_parts : (c : Left Outcome) (cs : List (Left Outcome)) → all_finished (c ∷ cs) ≡ true
    → (is_finished c.answer ≡ true) × (all_finished cs ≡ true)
all_finished_parts c cs e = both_true (is_finished c.answer) (all_finished cs) e

-- ---- lengths

module _ {s : Setting} {bs : List Slice} (r : RoomPassed s bs) where
  pub length-series : (P : Polynomial) → length (image_in s P) ≡ (series_words s.n s.v)
  unfolding series_words
  length-series P = length-image (prime_of s) s.n s.v (positive r) (small r) P

  pub length-map : (f : Map) → length (map_image_in s f) ≡ (map_words s.n s.v)
  unfolding map_words
  length-map f = length-map_image (prime_of s) s.n s.v (positive r) (small r) f

  pub length-inverse : (f : List ℕ) → Fixing (prime_of s) s.v (map_in s f)
      → (determinant_of (prime_of s) s.v (map_in s f) ≡ 0 → ⊥) → length (inverse_in s f) ≡ (map_words s.n s.v)
  unfolding inverse_in map_words
  length-inverse f F d =
      (inverse-fixing r.prime (small r) s.n s.v r.allowed.n_low r.allowed.v_high f F d).whole

  -- the needed words of a result are the image
  pub needed_image : (P : Polynomial) (rest : List ℕ) → needed_series s (image_in s P ++ rest) ≡ image_in s P
  needed_image P rest = take_at (image_in s P) rest (series_words s.n s.v) (length-series P)

  pub needed_map_image : (f : Map) (rest : List ℕ) → needed_map s (map_image_in s f ++ rest) ≡ map_image_in s f
  needed_map_image f rest = take_at (map_image_in s f) rest (map_words s.n s.v) (length-map f)

length-written : (w : Verdict) (new old : List ℕ) → length new ≤ length old → length (written w new old) ≡ length old
length-written passed new old l = simp (length-append, length-drop) (omega arith)
length-written (declined n at) new old l = refl

-- ---- what a call wrote

pub record Wrote (s : Setting) (new result work : List ℕ) (c : Left Outcome) : Type 0 where
  pub setting : RoomPassed s []
  pub result_is : result_of c ≡ new ++ drop (length new) result
  pub result_long : length (result_of c) ≡ length result
  pub work_long : length (work_of c) ≡ length work

wrote : (s : Setting) (bs : List Slice) (w : Verdict) (k : ℕ) (new result work : List ℕ) → room s bs ≡ passed
    → w ≡ passed → length new ≤ length result → (work_words s.n s.v) ≤ length work
    → Wrote s new result work (leaves w k (write new result ∷ write (zeros s) work ∷ []))
wrote s bs w k new result work h e l m = record {
  setting = room-passed s [] (room-chosen s bs [] h);
  result_is = ap (λ (x : Verdict). written x new result) e;
  result_long = length-written w new result l;
  work_long = length-written w (zeros s) work (omega (arith, m, length-replicate {A = ℕ} (work_words s.n s.v) 0));
}

-- ---- sum and product

pub record TwoSeries (s : Setting) (a b : List ℕ) : Type 0 where
  pub first : IsSeriesIn s a
  pub second : IsSeriesIn s b

pub sum-finished : (s : Setting) (a b result work : List ℕ) → is_finished (sum_call s a b result).answer ≡ true
    → TwoSeries s a b × Wrote s (summed s a b) result work (keeping work (sum_call s a b result))
unfolding sum_call sum_checks
sum-finished s a b result work h =
    let bs = slice kind.Series (length a) ∷ slice kind.Series (length b) ∷ slice kind.Series (length result) ∷ [] in
    let w = sum_checks s a b (length result) in
    let p = finished_passed w 0 h in
    let e = each-passed (room s bs ∷ images s 1 (series a ∷ series b ∷ []) ∷ []) p in
    let r = room-passed s bs e.0 in
    let i = images-passed s 1 (series a ∷ series b ∷ []) e.1.0 in (
      record { first = series-passed s 1 a i.0; second = series-passed s 2 b i.1.0 },
      record {
        setting = room-passed s [] (room-chosen s bs [] e.0);
        result_is = ap (λ (x : Verdict). written x (summed s a b) result) p;
        result_long =
            length-written w (summed s a b) result
            (omega (arith, length-series r (add (series_in s a) (series_in s b)), r.fitting.1.1.0));
        work_long = refl;
      },
    )

module _ (s : Setting) (t : List ℕ) where
  pub product-finished : (a b result work : List ℕ) → is_finished (product_call s t a b result work).answer ≡ true
      → TwoSeries s a b × Wrote s (multiplied s a b) result work (product_call s t a b result work)
  unfolding product_call product_checks
  product-finished a b result work h =
      let bs = operation_slices (length t) (length a) (length b) (length result) (length work) in
      let w = product_checks s t a b (length result) (length work) in
      let k = pair_count s.n (series_in s a) (series_in s b) in
      let p = finished_passed w k h in
      let e = each-passed (room s bs ∷ inputs s t (series a ∷ series b ∷ []) ∷ []) p in
      let r = room-passed s bs e.0 in
      let i = (inputs-passed s t (series a ∷ series b ∷ []) r.allowed r.fitting.0 e.1.0).1 in (
        record { first = series-passed s 1 a i.0; second = series-passed s 2 b i.1.0 },
        wrote s bs w k (multiplied s a b) result work e.0 p
            (omega (arith, length-series r (mul (series_in s a) (series_in s b)), r.fitting.1.1.1.0))
            r.fitting.1.1.1.1.0,
      )

-- ---- substitution, composition, inversion

pub record SeriesAndMap (s : Setting) (a f : List ℕ) : Type 0 where
  pub series : IsSeriesIn s a
  pub map : IsMapIn s f
  pub origin : FixesIn s f

pub record TwoMaps (s : Setting) (f g : List ℕ) : Type 0 where
  pub outer : IsMapIn s f
  pub inner : IsMapIn s g
  pub origin : FixesIn s g

pub record RegularMap (s : Setting) (f : List ℕ) : Type 0 where
  pub map : IsMapIn s f
  pub origin : FixesIn s f
  pub regular : determinant_of (prime_of s) s.v (map_in s f) ≡ 0 → ⊥
  pub whole : length (inverse_in s f) ≡ (map_words s.n s.v)

module _ (s : Setting) (t : List ℕ) where
  pub substitute-finished : (a f result work : List ℕ)
      → is_finished (substitute_call s t a f result work).answer ≡ true
      → SeriesAndMap s a f × Wrote s (substituted s a f) result work (substitute_call s t a f result work)
  unfolding substitute_call substitute_checks
  substitute-finished a f result work h =
      let bs = substitute_slices (length t) (length a) (length f) (length result) (length work) in
      let w = substitute_checks s t a f (length result) (length work) in
      let p = finished_passed w 0 h in
      let e = each-passed (room s bs ∷ inputs s t (series a ∷ map f ∷ []) ∷ constants s f ∷ []) p in
      let r = room-passed s bs e.0 in
      let i = (inputs-passed s t (series a ∷ map f ∷ []) r.allowed r.fitting.0 e.1.0).1 in
      let F = map-passed s 2 f i.1.0 in (
        record { series = series-passed s 1 a i.0; map = F; origin = constants-passed s F e.1.1.0 },
        wrote s bs w 0 (substituted s a f) result work e.0 p
            (omega (arith, length-series r (substitute (series_in s a) (map_in s f)), r.fitting.1.1.1.0))
            r.fitting.1.1.1.1.0,
      )

  pub compose-finished : (f g result work : List ℕ)
      → is_finished (compose_call s t f g result work).answer ≡ true
      → TwoMaps s f g × Wrote s (composed s f g) result work (compose_call s t f g result work)
  unfolding compose_call compose_checks
  compose-finished f g result work h =
      let bs = compose_slices (length t) (length f) (length g) (length result) (length work) in
      let w = compose_checks s t f g (length result) (length work) in
      let p = finished_passed w 0 h in
      let e = each-passed (room s bs ∷ inputs s t (map f ∷ map g ∷ []) ∷ constants s g ∷ []) p in
      let r = room-passed s bs e.0 in
      let i = (inputs-passed s t (map f ∷ map g ∷ []) r.allowed r.fitting.0 e.1.0).1 in
      let G = map-passed s 2 g i.1.0 in (
        record { outer = map-passed s 1 f i.0; inner = G; origin = constants-passed s G e.1.1.0 },
        wrote s bs w 0 (composed s f g) result work e.0 p
            (omega (arith, length-map r (compose (map_in s f) (map_in s g)), r.fitting.1.1.1.0))
            r.fitting.1.1.1.1.0,
      )

  pub invert_finished : (f result work : List ℕ) → is_finished (invert_call s t f result work).answer ≡ true
      → RegularMap s f × Wrote s (inverse_in s f) result work (invert_call s t f result work)
  unfolding invert_call invert_checks
  invert_finished f result work h =
      let bs = invert_slices (length t) (length f) (length result) (length work) in
      let w = invert_checks s t f (length result) (length work) in
      let p = finished_passed w 0 h in
      let e = each-passed (room s bs ∷ inputs s t (map f ∷ []) ∷ constants s f ∷ singular s f ∷ []) p in
      let r = room-passed s bs e.0 in
      let i = (inputs-passed s t (map f ∷ []) r.allowed r.fitting.0 e.1.0).1 in
      let F = map-passed s 1 f i.0 in
      let o = constants-passed s F e.1.1.0 in
      let d = singular-passed s f e.1.1.1.0 in
      let l = length-inverse r f (fixing s F o) d in (
        record { map = F; origin = o; regular = d; whole = l },
        wrote s bs w 0 (inverse_in s f) result work e.0 p (omega (arith, r.fitting.1.1.0))
            r.fitting.1.1.1.0,
      )
