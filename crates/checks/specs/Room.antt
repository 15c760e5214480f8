-- Refusals 1 and 2, which all routines share (01, 'When the kernel declines'): the ONE place that says which settings
-- and which lengths are taken.
--
-- Slice            a slice of the caller: what it is for (a table, a series, a map or work space) and its length
-- slice k x        the slice of kind k with x words
-- needed_by z k    the words that a slice of kind k needs in a setting of the sizes z
-- long_enough z b  the slice b has what it needs
-- slices_check ok number k bs
--                  the refusal `number` for the first slice that is not ok, place that slice, counted from k
-- room s bs        1: the setting is out of range; then 2: a slice is too short
-- Fitting z bs     every slice is long enough
-- RoomPassed s bs  what holds where `room` passed: the routines know no more of it
-- Decided s w r    the code's half of checks that say w: r has their verdict, and where none declined the sizes of the
--                  setting
use Rattle.std.specs.Prelude.{◌≡◌, Bool, List, [], ◌∷◌, ℕ, suc, ◌≤◌, ◌<◌, leb, Result, IfOk}
use Rattle.residue.specs.Modulus.{Prime}
use Rattle.monomial.specs.Count.{words, Allowed}
use Rattle.counts.specs.declared.Sizes.{Sizes}
use Rattle.answer.specs.declared.Setting.{Setting}
use Rattle.answer.specs.declared.Refusal.{Refusal}
use Rattle.answer.specs.Refusals.{Verdict, passed, verdict}
use Rattle.answer.specs.Sizes.{series_words, map_words, work_words}
use Rattle.answer.specs.Checks.{or_else, unless, setting_check}
use Rattle.checks.specs.declared.Kind.{Kind}
use Rattle.checks.specs.declared.Kind.TheVariants.{Table, Series, Map, Work}
use Rattle.checks.specs.Settings.{prime_of, extent_of}

abbrev pub Slice : Type 0
Slice = Kind × ℕ

abbrev pub slice : Kind → ℕ → Slice
slice k x = (k, x)

abbrev pub needed_by : Sizes → Kind → ℕ
needed_by z Table = words z.n z.v
needed_by z Series = series_words z.n z.v
needed_by z Map = map_words z.n z.v
needed_by z Work = work_words z.n z.v

abbrev pub long_enough : Sizes → Slice → Bool
long_enough z b = leb (needed_by z b.0) b.1

unfoldable pub slices_check : (Slice → Bool) → ℕ → ℕ → List Slice → Verdict
slices_check ok number k [] = passed
slices_check ok number k (b ∷ bs) = or_else (unless (ok b) number (k ∷ [])) (slices_check ok number (suc k) bs)

unfoldable pub room : Setting → List Slice → Verdict
room s bs = or_else (setting_check s.n s.v) (slices_check (long_enough (extent_of s)) 2 1 bs)

abbrev pub Fitting : Sizes → List Slice → Type 0
Fitting z [] = Unit {0}
Fitting z (b ∷ bs) = (needed_by z b.0 ≤ b.1) × Fitting z bs

pub record RoomPassed (s : Setting) (bs : List Slice) : Type 0 where
  pub allowed : Allowed s.n s.v
  pub prime : Prime (prime_of s)
  pub prime_low : 65280 < prime_of s
  pub prime_high : prime_of s < 65536
  pub fitting : Fitting (extent_of s) bs

pub record Decided (s : Setting) (w : Verdict) (r : Result Sizes Refusal) : Type 0 where
  pub says : verdict r ≡ w
  pub sized : IfOk r (λ z. z ≡ extent_of s)
