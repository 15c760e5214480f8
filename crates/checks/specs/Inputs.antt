-- Refusals 6 to 9, which look at the words of the inputs (01, 'When the kernel declines').
--
-- Shape              what the words of an argument are: a series or a map
-- kind_of k          the kind of its slice
-- components_of z k  its components: 1 or v
-- given k ws         an argument
-- arguments a b      the arguments of a call with one or two
-- images s k xs      7 for the arguments xs, counted from k: the first word that is faulty
-- inputs s t xs      6, then 7
-- constants s f      8: the map f has a constant
-- singular s f       9: the linear part of the map f is singular modulo p
-- Long s xs          the arguments xs are long enough
-- ImagesIn, InputsIn, ConstantsIn
--                    what the code's half asks: the sizes of a setting in range, slices that are long enough, and for
--                    8 that the map has passed 7
-- Tested s w t r     the code's half of checks that say w, the table t among them: r has their verdict, and where none
--                    declined t, as the table of the sizes of the setting
use Rattle.std.specs.Prelude.{◌≡◌, List, [], ◌∷◌, ℕ, suc, ◌≤◌, length, Option, Some, None, Result, IfOk}
use Rattle.std.specs.Borrow.{Bor}
use Rattle.monomial.specs.Count.{count, words, Allowed}
use Rattle.counts.specs.declared.Sizes.{Sizes}
use Rattle.counts.specs.declared.table.Table.{Table}
use Rattle.answer.specs.declared.Setting.{Setting}
use Rattle.answer.specs.declared.Refusal.{Refusal}
use Rattle.answer.specs.Refusals.{Verdict, passed, verdict}
use Rattle.answer.specs.Sizes.{map_words}
use Rattle.answer.specs.Checks.{or_else, table_check}
use Rattle.series.specs.Arguments.{argument_check, constants_check}
use Rattle.inversion.specs.Linear.{singular_check}
use Rattle.checks.specs.declared.Kind.{Kind}
use Rattle.checks.specs.declared.Kind.TheVariants as kind
use Rattle.checks.specs.declared.Shape.{Shape}
use Rattle.checks.specs.declared.Shape.TheVariants.{Series, Map}
use Rattle.checks.specs.Settings.{prime_of, extent_of}
use Rattle.checks.specs.Room.{needed_by}

abbrev pub kind_of : Shape → Kind
kind_of Series = kind.Series
kind_of Map = kind.Map

abbrev pub components_of : Sizes → Shape → ℕ
components_of z Series = 1
components_of z Map = z.v

pub record Argument : Type 0 where
  pub shape : Shape
  pub holds : List ℕ

abbrev pub given : Shape → List ℕ → Argument
given k ws = record { shape = k; holds = ws }

abbrev pub series : List ℕ → Argument
series ws = given Series ws

abbrev pub map : List ℕ → Argument
map ws = given Map ws

abbrev pub arguments : Shape × Bor (List ℕ) → Option (Shape × Bor (List ℕ)) → List Argument
arguments a None = given a.0 a.1.now ∷ []
arguments a (Some b) = given a.0 a.1.now ∷ given b.0 b.1.now ∷ []

unfoldable pub images : Setting → ℕ → List Argument → Verdict
images s k [] = passed
images s k (a ∷ rest) =
    or_else (argument_check (prime_of s) (count s.n s.v) k (components_of (extent_of s) a.shape) a.holds)
    (images s (suc k) rest)

unfoldable pub inputs : Setting → List ℕ → List Argument → Verdict
inputs s t arguments = or_else (table_check s.n s.v t) (images s 1 arguments)

unfoldable pub constants : Setting → List ℕ → Verdict
constants s f = constants_check (count s.n s.v) s.v f

unfoldable pub singular : Setting → List ℕ → Verdict
singular s f = singular_check (prime_of s) s.n s.v f

abbrev pub Long : Setting → List Argument → Type 0
Long s [] = Unit {0}
Long s (a ∷ rest) = (needed_by (extent_of s) (kind_of a.shape) ≤ length a.holds) × Long s rest

pub record ImagesIn (s : Setting) (z : Sizes) (xs : List Argument) : Type 0 where
  pub sized : z ≡ extent_of s
  pub allowed : Allowed s.n s.v
  pub long : Long s xs

pub record InputsIn (s : Setting) (z : Sizes) (table : ℕ) (xs : List Argument) : Type 0 where
  pub table_long : words s.n s.v ≤ table
  pub arguments : ImagesIn s z xs

pub record ConstantsIn (s : Setting) (z : Sizes) (f : List ℕ) : Type 0 where
  pub sized : z ≡ extent_of s
  pub allowed : Allowed s.n s.v
  pub long : map_words s.n s.v ≤ length f
  pub passed_7 : (k : ℕ) × (argument_check (prime_of s) (count s.n s.v) k s.v f ≡ passed)

pub record Tested (s : Setting) (w : Verdict) (t : List ℕ) (r : Result Table Refusal) : Type 0 where
  pub says : verdict r ≡ w
  pub table : IfOk r (λ x. (x.z ≡ extent_of s) × (x.words.now ≡ t))
