-- The verdict of each check fits its bits, in every setting.
use Rattle.std.proofs.Common.{◌&&◌, not, List, [], ◌∷◌, ℕ, suc, ◌+◌, ◌*◌, ◌%◌, ◌≤◌, ◌<◌, arith, leb, ltb, eqb, length, leb-false, ltb-false}
use Rattle.monomial.specs.Count.{count, words, Allowed}
use Rattle.monomial.specs.Table.{table_words}
use Rattle.monomial.specs.Difference.{first_difference}
use Rattle.monomial.proofs.Bounds.{words-bound}
use Rattle.answer.specs.declared.Setting.{Setting}
use Rattle.answer.specs.Refusals.{Verdict}
use Rattle.answer.specs.Checks.{or_else, unless, variable_check, even_check, multiplier_check, table_check}
use Rattle.series.specs.Image.{map_of}
use Rattle.series.specs.Faults.{first_fault, series_check, has_constant}
use Rattle.series.specs.Arguments.{part, argument_check, constants_check}
use Rattle.inversion.specs.Linear.{determinant_of, singular_check}
use Rattle.checks.specs.declared.Shape.{Shape}
use Rattle.checks.specs.declared.Shape.TheVariants.{Series, Map}
use Rattle.checks.specs.Settings.{prime_of, extent_of}
use Rattle.checks.specs.Room.{Slice, room, RoomPassed}
use Rattle.checks.specs.Inputs.{components_of, Argument, images, inputs, constants, singular}
use Rattle.checks.proofs.RoomLaws.{OnePlace, nowhere, somewhere, room-places, room-passed}
use Rattle.encoding.proofs.Fits.{Fits, fits_passed, fits_one, fits_three}
use Rattle.encoding.proofs.Fits.{or_else-fits, both, unless-fits, first_below-fits}

-- 1, 2; the checks after them may lean on what they say
places-fit : {k : ℕ} {w : Verdict} → OnePlace k w → k < 1099511627776 → Fits w
places-fit nowhere l = fits_passed
places-fit (somewhere {n} {w} h) l = fits_one {w = w} (h.0, h.1, h.2, omega arith)

pub room_fits : (s : Setting) (bs : List Slice) {w : Verdict} → length bs < 1099511627776 → (RoomPassed s bs → Fits w)
    → Fits (or_else (room s bs) w)
room_fits s bs l f = or_else-fits (places-fit (room-places s bs) l) (λ e. f (room-passed s bs e))

-- 3
pub variable-fits : (v k : ℕ) → Fits (variable_check v k)
unfolding variable_check
variable-fits v k = unless-fits (leb 1 k && leb k v) (λ e. fits_one (omega arith))

-- 4
pub even_fits : (v : ℕ) → Fits (even_check v)
unfolding even_check
even_fits v = unless-fits (eqb (v % 2) 0) (λ e. fits_one (omega arith))

-- 5
pub multiplier_fits : (p c : ℕ) → Fits (multiplier_check p c)
unfolding multiplier_check
multiplier_fits p c = unless-fits (ltb c p) (λ e. fits_one (omega arith))

module _ (s : Setting) (r : Allowed s.n s.v) where
  -- 6
  table_fits : (t : List ℕ) → Fits (table_check s.n s.v t)
  unfolding table_check
  table_fits t =
      let T = words s.n s.v in
      let w = first_difference (table_words s.n s.v) t in
      unless-fits (leb T w) (λ e. fits_one (omega (arith, leb-false T w e, words-bound s.n s.v r)))

  -- 7: a series, an argument, all of them
  series-fits : (a c : ℕ) (ws : List ℕ) → a < 256 → c < 256
      → Fits (series_check (prime_of s) (count s.n s.v) a c ws)
  unfolding series_check
  series-fits a c ws x y =
      let N = count s.n s.v in
      let k = first_fault (prime_of s) N ws in
      unless-fits (ltb N k) (λ e. fits_three (omega (arith, ltb-false N k e, r.few)))

  argument_fits : (a k : ℕ) (ws : List ℕ) → a < 256 → k ≤ 8
      → Fits (argument_check (prime_of s) (count s.n s.v) a k ws)
  unfolding argument_check
  argument_fits a k ws x y =
      let N = count s.n s.v in
      first_below-fits (λ i. series_check (prime_of s) N a (suc i) (part N (i * (N + 1)) ws)) k
      (λ i l. series-fits a (suc i) _ x (omega arith))

  few_components : (k : Shape) → components_of (extent_of s) k ≤ 8
  few_components Series = omega arith
  few_components Map = r.v_high

  pub images-fit : (k : ℕ) (xs : List Argument) → k + length xs < 256 → Fits (images s k xs)
  unfolding images
  images-fit k [] l = fits_passed
  images-fit k (x ∷ xs) l =
      both (argument_fits k (components_of (extent_of s) x.shape) x.holds (omega arith) (few_components x.shape))
      (images-fit (suc k) xs (omega arith))

  -- 6, then 7
  pub inputs-fit : (t : List ℕ) (xs : List Argument) → length xs < 255 → Fits (inputs s t xs)
  unfolding inputs
  inputs-fit t xs l = both (table_fits t) (images-fit 1 xs (omega arith))

  -- 8
  pub constants-fit : (f : List ℕ) → Fits (constants s f)
  unfolding constants constants_check
  constants-fit f =
      let N = count s.n s.v in
      first_below-fits (λ i. unless (not (has_constant (part N (i * (N + 1)) f))) 8 (suc i ∷ [])) s.v
      (λ i l. unless-fits (not (has_constant (part N (i * (N + 1)) f))) (λ e. fits_one (omega (arith, r.v_high))))

-- 9
pub singular-fits : (s : Setting) (f : List ℕ) → Fits (singular s f)
unfolding singular singular_check
singular-fits s f =
    unless-fits (not (eqb (determinant_of (prime_of s) s.v (map_of s.n s.v f)) 0)) (λ e. fits_one (omega arith))
