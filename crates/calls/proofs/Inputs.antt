-- Refusals 6 to 9 in terms of series and maps: an argument passes 7 where it is a series or a map, whatever its number;
-- a map passes 8 where it has no constant.
use Rattle.std.proofs.Common.{◌≡◌, refl, sym, ◌∙◌, List, [], ◌∷◌, ◌++◌, ℕ, suc, ◌≤◌, ◌<◌, arith}
use Rattle.monomial.specs.Count.{count}
use Rattle.answer.specs.declared.Setting.{Setting}
use Rattle.answer.specs.Refusals.{Verdict, passed}
use Rattle.answer.specs.Checks.{first_of, table_check}
use Rattle.answer.proofs.Laws.{or_else-passed, or_else-last}
use Rattle.answer.proofs.Passing.{both_pass}
use Rattle.series.specs.Arguments.{argument_check, map_check, constant_check}
use Rattle.series.proofs.Series.{series_to_passed}
use Rattle.series.proofs.Reading.{passed_to_Is_series}
use Rattle.series.proofs.Maps.{map_of-within, map_to_passed}
use Rattle.series.proofs.Constants.{passed_to_fixing, fixing_to_passed}
use Rattle.series.proofs.Arguments.{argument_series, argument_map, constants-map}
use Rattle.inversion.specs.Linear.{determinant_of}
use Rattle.inversion.specs.Undoing.{Fixing}
use Rattle.inversion.proofs.LinearPart.{passed_to_regular, regular_to_passed}
use Rattle.checks.specs.Settings.{prime_of, extent_of, map_in}
use Rattle.checks.specs.Room.{Slice, RoomPassed}
use Rattle.checks.specs.Inputs.{components_of, Argument, images, inputs, constants, singular}
use Rattle.checks.proofs.InputLaws.{AreImages, map-good}
use Rattle.calls.proofs.Words.{IsSeriesIn, IsMapIn, FixesIn}

-- ---- the prime of a setting that is taken

module _ {s : Setting} {bs : List Slice} (r : RoomPassed s bs) where
  pub positive : 0 < prime_of s
  positive = omega (arith, r.prime_low)

  pub small : prime_of s ≤ 65536
  small = omega (arith, r.prime_high)

-- ---- checks in ascending number

-- each of the checks passed
abbrev pub Each : List Verdict → Type 0
Each [] = Unit {0}
Each (w ∷ ws) = (w ≡ passed) × Each ws

pub each-passed : (ws : List Verdict) → first_of ws ≡ passed → Each ws
each-passed [] e = tt
each-passed (w ∷ ws) e =
    let h = both_pass w (first_of ws) e in
    (h.0, each-passed ws h.1)

pub each-passes : (ws : List Verdict) → Each ws → first_of ws ≡ passed
each-passes [] e = refl
each-passes (w ∷ ws) e = or_else-passed w (first_of ws) e.0 ∙ each-passes ws e.1

-- where all but the last passed, it decides
pub last_decides : (ws : List Verdict) (w : Verdict) → Each ws → first_of (ws ++ (w ∷ [])) ≡ w
last_decides [] w e = or_else-last w
last_decides (x ∷ ws) w e = or_else-passed x (first_of (ws ++ (w ∷ []))) e.0 ∙ last_decides ws w e.1

module _ (s : Setting) where
  abbrev N : ℕ
  N = count s.n s.v

  -- ---- 7

  pub series-passed : (k : ℕ) (a : List ℕ) → argument_check (prime_of s) (count s.n s.v) k 1 a ≡ passed
      → IsSeriesIn s a
  series-passed k a h =
      passed_to_Is_series s.n s.v (prime_of s) k 1 a (sym (argument_series (prime_of s) N k a) ∙ h)

  pub series-passes : (k : ℕ) {a : List ℕ} → IsSeriesIn s a
      → argument_check (prime_of s) (count s.n s.v) k 1 a ≡ passed
  series-passes k {a} A = argument_series (prime_of s) N k a ∙ series_to_passed (prime_of s) N k 1 a A

  pub map_check_passed : (k : ℕ) {f : List ℕ} → IsMapIn s f → map_check (prime_of s) s.n s.v k f ≡ passed
  map_check_passed k {f} F = map_to_passed (prime_of s) s.n s.v k f F

  pub map-passed : (k : ℕ) (f : List ℕ) → argument_check (prime_of s) (count s.n s.v) k s.v f ≡ passed
      → IsMapIn s f
  map-passed k f h = (map-good s k f h).is_map

  pub map-passes : (k : ℕ) {f : List ℕ} → IsMapIn s f
      → argument_check (prime_of s) (count s.n s.v) k s.v f ≡ passed
  map-passes k {f} F = argument_map (prime_of s) s.n s.v k f ∙ map_check_passed k F

  pub images-pass : (k : ℕ) (xs : List Argument) → AreImages s k xs → images s k xs ≡ passed
  unfolding images
  images-pass k [] d = refl
  images-pass k (x ∷ xs) d =
      or_else-passed (argument_check (prime_of s) N k (components_of (extent_of s) x.shape) x.holds)
      (images s (suc k) xs) d.0
      ∙ images-pass (suc k) xs d.1

  -- ---- 6: a table that is right for some arguments is right for others

  pub inputs-pass : (t : List ℕ) (xs ys : List Argument) → inputs s t xs ≡ passed → AreImages s 1 ys
      → inputs s t ys ≡ passed
  unfolding inputs
  inputs-pass t xs ys h d =
      let c = table_check s.n s.v t in
      or_else-passed c (images s 1 ys) (both_pass c (images s 1 xs) h).0 ∙ images-pass 1 ys d

  -- ---- 8 and 9

  pub constant_check_passed : {f : List ℕ} → 0 < prime_of s → IsMapIn s f → FixesIn s f
      → constant_check s.n s.v f ≡ passed
  constant_check_passed pos F o = fixing_to_passed F pos (λ i l. o i)

  pub constants-passed : {f : List ℕ} → IsMapIn s f → constants s f ≡ passed → FixesIn s f
  unfolding constants
  constants-passed {f} F h = passed_to_fixing F (sym (constants-map s.n s.v f) ∙ h)

  pub constants-pass : {f : List ℕ} → 0 < prime_of s → IsMapIn s f → FixesIn s f → constants s f ≡ passed
  unfolding constants
  constants-pass {f} pos F o = constants-map s.n s.v f ∙ constant_check_passed pos F o

  pub singular-passed : (f : List ℕ) → singular s f ≡ passed
      → determinant_of (prime_of s) s.v (map_in s f) ≡ 0 → ⊥
  unfolding singular
  singular-passed f h = passed_to_regular (prime_of s) s.n s.v f h

  pub singular-passes : (f : List ℕ) → (determinant_of (prime_of s) s.v (map_in s f) ≡ 0 → ⊥)
      → singular s f ≡ passed
  unfolding singular
  singular-passes f d = regular_to_passed (prime_of s) s.n s.v f d

  -- what inversion asks of a map
  pub fixing : {f : List ℕ} → IsMapIn s f → FixesIn s f → Fixing (prime_of s) s.v (map_in s f)
  fixing F o = record { origin = o; within = λ i l. map_of-within F i }
