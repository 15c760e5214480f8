-- The published table: for each routine its checks in ascending number, and what a call leaves. s is the setting, t a
-- table, a and b series, f a map, outer and inner maps; `table`, `result` and `work` are the slices that are written,
-- as they were at the call. The first check that declines decides.
--
-- Left A             what a call leaves: its answer, and the words of each slice that it may write
-- leaves w k ws      what a call leaves whose checks say w, that reports k and writes ws where they pass; where one
--                    declines every slice is as it was
-- build_call s table                    1, 2: builds the table
-- check_call s t                        1, 2, 6: checks a table
-- sum_call s a b result                 1, 2, 7: a + b
-- difference_call s a b result          1, 2, 7: a - b
-- multiple_call s c a result            1, 2, 5, 7: c a
-- product_call s t a b result work      1, 2, 6, 7: a b; it reports the number of pairs
-- derivative_call s k t a result        1, 2, 3, 6, 7: the derivative of a in variable k, from 1
-- bracket_call s t a b result work      1, 2, 4, 6, 7: the bracket of a and b
-- substitute_call s t a f result work   1, 2, 6, 7, 8: f substituted into a
-- compose_call s t outer inner result work
--                                       1, 2, 6, 7, 8: inner substituted into each component of outer
-- invert_call s t f result work         1, 2, 6, 7, 8, 9: the map that undoes f
use Rattle.std.specs.Prelude.{List, [], ◌∷◌, ℕ, ◌-◌, length}
use Rattle.algebra.specs.Polynomial.{add, scale, difference, mul, derivative}
use Rattle.algebra.specs.Substitution.{substitute, compose}
use Rattle.answer.specs.declared.Setting.{Setting}
use Rattle.answer.specs.Refusals.{Verdict, Outcome, answered, written}
use Rattle.answer.specs.Checks.{first_of, variable_check, even_check, multiplier_check}
use Rattle.series.specs.Image.{pair_count}
use Rattle.checks.specs.declared.Kind.TheVariants.{Table, Series, Map, Work}
use Rattle.checks.specs.Settings.{prime_of, table_in, series_in, map_in, image_in, map_image_in, zeros}
use Rattle.checks.specs.Settings.{bracket_in, inverse_in}
use Rattle.checks.specs.Room.{slice, room}
use Rattle.checks.specs.Inputs.{series, map, images, inputs, constants, singular}

pub record Left (A : Type 0) : Type 0 where
  pub answer : A
  pub slices : List (List ℕ)

abbrev pub left : {A : Type 0} → A → List (List ℕ) → Left A
left x ws = record { answer = x; slices = ws }

-- words that are written to a slice, and what stood there
pub record Write : Type 0 where
  pub new : List ℕ
  pub old : List ℕ

abbrev pub write : List ℕ → List ℕ → Write
write new old = record { new = new; old = old }

abbrev pub written_to : Verdict → List Write → List (List ℕ)
written_to w [] = []
written_to w (x ∷ xs) = written w x.new x.old ∷ written_to w xs

abbrev pub leaves : Verdict → ℕ → List Write → Left Outcome
leaves w k ws = left (answered w k) (written_to w ws)

-- ---- tables

unfoldable pub build_checks : Setting → ℕ → Verdict
build_checks s table = first_of (room s (slice Table table ∷ []) ∷ [])

unfoldable pub build_call : Setting → List ℕ → Left Outcome
build_call s table = leaves (build_checks s (length table)) 0 (write (table_in s) table ∷ [])

unfoldable pub check_checks : Setting → List ℕ → Verdict
check_checks s t = first_of (room s (slice Table (length t) ∷ []) ∷ inputs s t [] ∷ [])

unfoldable pub check_call : Setting → List ℕ → Left Outcome
check_call s t = leaves (check_checks s t) 0 []

-- ---- sums

unfoldable pub sum_checks : Setting → List ℕ → List ℕ → ℕ → Verdict
sum_checks s a b result =
    first_of (
    room s (slice Series (length a) ∷ slice Series (length b) ∷ slice Series result ∷ [])
    ∷ images s 1 (series a ∷ series b ∷ [])
    ∷ [])

unfoldable pub sum_call : Setting → List ℕ → List ℕ → List ℕ → Left Outcome
sum_call s a b result =
    leaves (sum_checks s a b (length result)) 0
    (write (image_in s (add (series_in s a) (series_in s b))) result ∷ [])

unfoldable pub difference_call : Setting → List ℕ → List ℕ → List ℕ → Left Outcome
difference_call s a b result =
    leaves (sum_checks s a b (length result)) 0
    (write (image_in s (difference (prime_of s) (series_in s a) (series_in s b))) result ∷ [])

unfoldable pub multiple_checks : Setting → ℕ → List ℕ → ℕ → Verdict
multiple_checks s c a result =
    first_of (
    room s (slice Series (length a) ∷ slice Series result ∷ [])
    ∷ multiplier_check (prime_of s) c
    ∷ images s 1 (series a ∷ [])
    ∷ [])

unfoldable pub multiple_call : Setting → ℕ → List ℕ → List ℕ → Left Outcome
multiple_call s c a result =
    leaves (multiple_checks s c a (length result)) 0 (write (image_in s (scale c (series_in s a))) result ∷ [])

-- ---- products

unfoldable pub product_checks : Setting → List ℕ → List ℕ → List ℕ → ℕ → ℕ → Verdict
product_checks s t a b result work =
    first_of (
    room s (
    slice Table (length t) ∷ slice Series (length a) ∷ slice Series (length b)
    ∷ slice Series result ∷ slice Work work ∷ [])
    ∷ inputs s t (series a ∷ series b ∷ [])
    ∷ [])

unfoldable pub product_call : Setting → List ℕ → List ℕ → List ℕ → List ℕ → List ℕ → Left Outcome
product_call s t a b result work =
    leaves (product_checks s t a b (length result) (length work))
    (pair_count s.n (series_in s a) (series_in s b))
    (write (image_in s (mul (series_in s a) (series_in s b))) result ∷ write (zeros s) work ∷ [])

unfoldable pub derivative_checks : Setting → ℕ → List ℕ → List ℕ → ℕ → Verdict
derivative_checks s k t a result =
    first_of (
    room s (slice Table (length t) ∷ slice Series (length a) ∷ slice Series result ∷ [])
    ∷ variable_check s.v k
    ∷ inputs s t (series a ∷ [])
    ∷ [])

unfoldable pub derivative_call : Setting → ℕ → List ℕ → List ℕ → List ℕ → Left Outcome
derivative_call s k t a result =
    leaves (derivative_checks s k t a (length result)) 0
    (write (image_in s (derivative (k - 1) (series_in s a))) result ∷ [])

unfoldable pub bracket_checks : Setting → List ℕ → List ℕ → List ℕ → ℕ → ℕ → Verdict
bracket_checks s t a b result work =
    first_of (
    room s (
    slice Table (length t) ∷ slice Series (length a) ∷ slice Series (length b)
    ∷ slice Series result ∷ slice Work work ∷ [])
    ∷ even_check s.v
    ∷ inputs s t (series a ∷ series b ∷ [])
    ∷ [])

unfoldable pub bracket_call : Setting → List ℕ → List ℕ → List ℕ → List ℕ → List ℕ → Left Outcome
bracket_call s t a b result work =
    leaves (bracket_checks s t a b (length result) (length work)) 0
    (write (image_in s (bracket_in s (series_in s a) (series_in s b))) result ∷ write (zeros s) work ∷ [])

-- ---- maps

unfoldable pub substitute_checks : Setting → List ℕ → List ℕ → List ℕ → ℕ → ℕ → Verdict
substitute_checks s t a f result work =
    first_of (
    room s (
    slice Table (length t) ∷ slice Series (length a) ∷ slice Map (length f)
    ∷ slice Series result ∷ slice Work work ∷ [])
    ∷ inputs s t (series a ∷ map f ∷ [])
    ∷ constants s f
    ∷ [])

unfoldable pub substitute_call : Setting → List ℕ → List ℕ → List ℕ → List ℕ → List ℕ → Left Outcome
substitute_call s t a f result work =
    leaves (substitute_checks s t a f (length result) (length work)) 0
    (write (image_in s (substitute (series_in s a) (map_in s f))) result ∷ write (zeros s) work ∷ [])

unfoldable pub compose_checks : Setting → List ℕ → List ℕ → List ℕ → ℕ → ℕ → Verdict
compose_checks s t outer inner result work =
    first_of (
    room s (
    slice Table (length t) ∷ slice Map (length outer) ∷ slice Map (length inner)
    ∷ slice Map result ∷ slice Work work ∷ [])
    ∷ inputs s t (map outer ∷ map inner ∷ [])
    ∷ constants s inner
    ∷ [])

unfoldable pub compose_call : Setting → List ℕ → List ℕ → List ℕ → List ℕ → List ℕ → Left Outcome
compose_call s t outer inner result work =
    leaves (compose_checks s t outer inner (length result) (length work)) 0
    (write (map_image_in s (compose (map_in s outer) (map_in s inner))) result ∷ write (zeros s) work ∷ [])

unfoldable pub invert_checks : Setting → List ℕ → List ℕ → ℕ → ℕ → Verdict
invert_checks s t f result work =
    first_of (
    room s (slice Table (length t) ∷ slice Map (length f) ∷ slice Map result ∷ slice Work work ∷ [])
    ∷ inputs s t (map f ∷ [])
    ∷ constants s f
    ∷ singular s f
    ∷ [])

unfoldable pub invert_call : Setting → List ℕ → List ℕ → List ℕ → List ℕ → Left Outcome
invert_call s t f result work =
    leaves (invert_checks s t f (length result) (length work)) 0
    (write (inverse_in s f) result ∷ write (zeros s) work ∷ [])
