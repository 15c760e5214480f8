-- A call finishes where its slices are long enough, the table is right, its series and maps pass 7, and its maps 8
-- and 9 where it asks for it. What a finished call wrote is a series again, and a composition of maps without
-- constants has none.
use Rattle.std.proofs.Common.{◌≡◌, sym, ap, ap₂, subst, true, ◌&&◌, List, [], ◌∷◌, ◌++◌, ℕ, arith, length, drop}
use Rattle.algebra.specs.Polynomial.{Polynomial}
use Rattle.algebra.proofs.Agreement.{agree_trans, agree_down}
use Rattle.algebra.proofs.Truncation.{compose-fixes}
use Rattle.answer.specs.declared.Setting.{Setting}
use Rattle.answer.specs.Refusals.{Verdict, passed, Outcome, answered}
use Rattle.series.specs.Image.{pair_count}
use Rattle.series.proofs.Writing.{image-series}
use Rattle.inversion.specs.Linear.{determinant_of}
use Rattle.inversion.proofs.Words.{map_of-origin}
use Rattle.checks.specs.declared.Kind.TheVariants.{Series}
use Rattle.checks.specs.Settings.{prime_of, series_in, map_in, image_in}
use Rattle.checks.specs.Room.{slice, room, RoomPassed}
use Rattle.checks.specs.Inputs.{Argument, series, map, images, inputs, constants, singular}
use Rattle.checks.specs.Calls.{Left, sum_checks, sum_call, product_checks, product_call}
use Rattle.checks.specs.Calls.{substitute_checks, substitute_call, compose_checks, compose_call, invert_checks, invert_call}
use Rattle.checks.proofs.RoomLaws.{room-passed}
use Rattle.calls.specs.Calls.{is_finished, all_finished, result_of}
use Rattle.substitution_laws.specs.Laws.{summing}
use Rattle.calls.proofs.Words.{IsSeriesIn, IsMapIn, FixesIn, composed}
use Rattle.calls.proofs.Rooms.{operation_slices, substitute_slices, compose_slices, invert_slices, room-chosen}
use Rattle.substitution_laws.proofs.Substituting.{read_composed}
use Rattle.calls.proofs.Inputs.{positive, small, each-passes, series-passes, map-passes}
use Rattle.calls.proofs.Inputs.{images-pass, inputs-pass, constants-pass}
use Rattle.calls.proofs.Inputs.{singular-passes}
use Rattle.calls.proofs.FinishedCalls.{Wrote}

-- ---- one call

finishes : (w : Verdict) (k : ℕ) → w ≡ passed → is_finished (answered w k) ≡ true
finishes w k e = ap (λ (x : Verdict). is_finished (answered x k)) e

pub all-finish : (c : Left Outcome) (cs : List (Left Outcome)) → is_finished c.answer ≡ true → all_finished cs ≡ true
    → all_finished (c ∷ cs) ≡ true
all-finish c cs e h = ap₂ ◌&&◌ e h

module _ (s : Setting) (t : List ℕ) (xs : List Argument) (table : inputs s t xs ≡ passed) where
  pub sum-finishes : (a b result work : List ℕ)
      → room s (operation_slices (length t) (length a) (length b) (length result) (length work))
      ≡ passed
      → IsSeriesIn s a → IsSeriesIn s b → is_finished (summing s a b result work).answer ≡ true
  unfolding sum_call sum_checks
  sum-finishes a b result work h A B =
      let bs = operation_slices (length t) (length a) (length b) (length result) (length work) in
      finishes (sum_checks s a b (length result)) 0
      (each-passes (
      room s (slice Series (length a) ∷ slice Series (length b) ∷ slice Series (length result) ∷ [])
      ∷ images s 1 (series a ∷ series b ∷ [])
      ∷ []) (
        room-chosen s bs (1 ∷ 2 ∷ 3 ∷ []) h,
        (images-pass s 1 (series a ∷ series b ∷ []) (series-passes s 1 A, (series-passes s 2 B, tt)), tt),
      ))

  pub product-finishes : (a b result work : List ℕ)
      → room s (operation_slices (length t) (length a) (length b) (length result) (length work))
      ≡ passed
      → IsSeriesIn s a → IsSeriesIn s b → is_finished (product_call s t a b result work).answer ≡ true
  unfolding product_call product_checks
  product-finishes a b result work h A B =
      let bs = operation_slices (length t) (length a) (length b) (length result) (length work) in
      finishes (product_checks s t a b (length result) (length work)) (pair_count s.n (series_in s a) (series_in s b))
      (each-passes (room s bs ∷ inputs s t (series a ∷ series b ∷ []) ∷ [])
      (h, (inputs-pass s t xs (series a ∷ series b ∷ []) table (series-passes s 1 A, (series-passes s 2 B, tt)), tt)))

  pub substitute-finishes : (a f result work : List ℕ)
      → room s (substitute_slices (length t) (length a) (length f) (length result) (length work))
      ≡ passed
      → IsSeriesIn s a → IsMapIn s f → FixesIn s f → is_finished (substitute_call s t a f result work).answer ≡ true
  unfolding substitute_call substitute_checks
  substitute-finishes a f result work h A F o =
      let bs = substitute_slices (length t) (length a) (length f) (length result) (length work) in
      finishes (substitute_checks s t a f (length result) (length work)) 0
      (each-passes (room s bs ∷ inputs s t (series a ∷ map f ∷ []) ∷ constants s f ∷ []) (
        h,
        (
          inputs-pass s t xs (series a ∷ map f ∷ []) table (series-passes s 1 A, (map-passes s 2 F, tt)),
          (constants-pass s (positive (room-passed s bs h)) F o, tt),
        ),
      ))

  pub compose-finishes : (f g result work : List ℕ)
      → room s (compose_slices (length t) (length f) (length g) (length result) (length work))
      ≡ passed
      → IsMapIn s f → IsMapIn s g → FixesIn s g → is_finished (compose_call s t f g result work).answer ≡ true
  unfolding compose_call compose_checks
  compose-finishes f g result work h F G o =
      let bs = compose_slices (length t) (length f) (length g) (length result) (length work) in
      finishes (compose_checks s t f g (length result) (length work)) 0
      (each-passes (room s bs ∷ inputs s t (map f ∷ map g ∷ []) ∷ constants s g ∷ []) (
        h,
        (
          inputs-pass s t xs (map f ∷ map g ∷ []) table (map-passes s 1 F, (map-passes s 2 G, tt)),
          (constants-pass s (positive (room-passed s bs h)) G o, tt),
        ),
      ))

  pub invert_finishes : (f result work : List ℕ)
      → room s (invert_slices (length t) (length f) (length result) (length work)) ≡ passed
      → IsMapIn s f → FixesIn s f → (determinant_of (prime_of s) s.v (map_in s f) ≡ 0 → ⊥)
      → is_finished (invert_call s t f result work).answer ≡ true
  unfolding invert_call invert_checks
  invert_finishes f result work h F o d =
      let bs = invert_slices (length t) (length f) (length result) (length work) in
      finishes (invert_checks s t f (length result) (length work)) 0
      (each-passes (room s bs ∷ inputs s t (map f ∷ []) ∷ constants s f ∷ singular s f ∷ []) (
        h,
        (
          inputs-pass s t xs (map f ∷ []) table (map-passes s 1 F, tt),
          (constants-pass s (positive (room-passed s bs h)) F o, (singular-passes s f d, tt)),
        ),
      ))

-- ---- what was written is taken again

pub wrote_series : (s : Setting) (P : Polynomial) {result work : List ℕ} {c : Left Outcome}
    → Wrote s (image_in s P) result work c → IsSeriesIn s (result_of c)
wrote_series s P {result} d =
    subst (IsSeriesIn s) (sym d.result_is)
    (image-series (prime_of s) s.n s.v (positive d.setting) (small d.setting) P
    (drop (length (image_in s P)) result))

module _ (s : Setting) (r : RoomPassed s []) where
  pub composed-fixes : {f g : List ℕ} → IsMapIn s f → IsMapIn s g → FixesIn s f → FixesIn s g → (rest : List ℕ)
      → FixesIn s (composed s f g ++ rest)
  composed-fixes {f} {g} F G o q rest =
      map_of-origin (prime_of s) s.n s.v (composed s f g ++ rest)
      (λ i l.
      agree_trans (prime_of s)
      (agree_down (prime_of s) (omega arith) (read_composed s (positive r) (small r) F G rest i l))
      (compose-fixes (prime_of s) (map_in s f) (map_in s g) o q i))
