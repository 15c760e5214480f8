-- Laws of `inputs` and `constants`: all that a routine uses of them.
use Rattle.std.proofs.Common.{Option, Some, None, Ok, ◌≡◌, refl, sym, ◌∙◌, List, [], ◌∷◌, ℕ, suc, ◌+◌, ◌*◌, ◌≤◌, ◌<◌, arith, length}
use Rattle.std.specs.Borrow.{Bor}
use Rattle.algebra.specs.Agreement.{OriginFixing}
use Rattle.monomial.specs.Count.{count, words, Allowed}
use Rattle.answer.specs.declared.Setting.{Setting}
use Rattle.answer.specs.Refusals.{Verdict, passed}
use Rattle.answer.specs.Checks.{table_check}
use Rattle.answer.specs.Sizes.{series_words, map_words}
use Rattle.answer.proofs.Laws.{or_else-last}
use Rattle.answer.proofs.Passing.{both_pass}
use Rattle.series.specs.Image.{component}
use Rattle.series.specs.Series.{IsMap}
use Rattle.series.specs.Faults.{series_check}
use Rattle.series.specs.Arguments.{argument_check, arguments_check}
use Rattle.series.proofs.Arguments.{argument_series, argument_map, constants-map}
use Rattle.series.proofs.Constants.{passed_to_fixing}
use Rattle.series.proofs.Maps.{passed_to_map}
use Rattle.series.proofs.Positions.{count-positive}
use Rattle.series.proofs.Series.{passed_to_fault_none, fault_none_to_long}
use Rattle.series.proofs.Verdicts.{passed_all}
use Rattle.counts.specs.Tables.{Right, Tabled}
use Rattle.product.specs.Core.{SeriesIn}
use Rattle.counts.specs.declared.Sizes.{Sizes}
use Rattle.counts.specs.declared.table.Table.{Table}
use Rattle.checks.specs.declared.Shape.{Shape}
use Rattle.checks.specs.declared.Shape.TheVariants.{Series, Map}
use Rattle.checks.specs.Settings.{prime_of, extent_of, map_in}
use Rattle.checks.specs.Room.{needed_by, Decided}
use Rattle.checks.specs.Inputs.{kind_of, components_of, Long, Argument, arguments, given, images, inputs, constants, Tested}
use Rattle.checks.proofs.TablePassed.{right_table}

-- the components of an argument that is long enough lie inside it
pub inside : {s : Setting} {z : Sizes} {x : ℕ} (k : Shape) (l : ℕ) → z ≡ extent_of s → x ≡ components_of z k
    → needed_by (extent_of s) (kind_of k) ≤ l → x * (z.count + 1) ≤ l
unfolding series_words map_words
inside Series l q e h = rw (e, q) (omega (arith, h))
inside Map l q e h = rw (e, q) h

pub first-long : (s : Setting) (a : Shape × Bor (List ℕ)) (o : Option (Shape × Bor (List ℕ))) → Long s (arguments a o)
    → needed_by (extent_of s) (kind_of a.0) ≤ length a.1.now
first-long s a None h = h.0
first-long s a (Some b) h = h.0

-- each argument passed
abbrev pub AreImages : Setting → ℕ → List Argument → Type 0
AreImages s k [] = Unit {0}
AreImages s k (a ∷ rest) =
    (argument_check (prime_of s) (count s.n s.v) k (components_of (extent_of s) a.shape) a.holds ≡ passed)
    × AreImages s (suc k) rest

pub images-passed : (s : Setting) (k : ℕ) (xs : List Argument) → images s k xs ≡ passed → AreImages s k xs
unfolding images
images-passed s k [] h = tt
images-passed s k (a ∷ rest) h =
    let w = argument_check (prime_of s) (count s.n s.v) k (components_of (extent_of s) a.shape) a.holds in
    let b = both_pass w (images s (suc k) rest) h in
    (b.0, images-passed s (suc k) rest b.1)

-- what holds where it passed
pub inputs-passed : (s : Setting) (t : List ℕ) (xs : List Argument) → Allowed s.n s.v
    → words s.n s.v ≤ length t → inputs s t xs ≡ passed → Right s.n s.v t × AreImages s 1 xs
unfolding inputs
inputs-passed s t xs a l h =
    let b = both_pass (table_check s.n s.v t) (images s 1 xs) h in
    (right_table s.n s.v t a l b.0, images-passed s 1 xs b.1)

-- a table of the sizes of the setting that passed its check
pub inputs_tabled : {s : Setting} {z : Sizes} {t : List ℕ} → z ≡ extent_of s → Allowed s.n s.v → words s.n s.v ≤ length t
    → table_check s.n s.v t ≡ passed → Tabled z.n z.v z.count z.codes t
inputs_tabled {s} {t = t} q a l h =
    rw q (record { right = right_table s.n s.v t a l h; N_is = refl; E_is = refl })

-- a table that passed has the sizes of the setting
pub tested_sizes : {s : Setting} {w : Verdict} {t : List ℕ} {x : Table} → Tested s w t (Ok x) → Decided s w (Ok x.z)
tested_sizes d = record { says = d.says; sized = d.table.0 }

-- an argument that is a series and passed
pub series-good : (s : Setting) (k : ℕ) (ws : List ℕ) → series_words s.n s.v ≤ length ws
    → argument_check (prime_of s) (count s.n s.v) k 1 ws ≡ passed
    → SeriesIn (prime_of s) (count s.n s.v) ws
unfolding series_words
series-good s k ws l h =
    let N = count s.n s.v in
    record { long = l; good = passed_to_fault_none (prime_of s) N k 1 ws (sym (argument_series (prime_of s) N k ws) ∙ h) }

-- what the test says of two arguments, or of one
module _ (s : Setting) {z : Sizes} {p : ℕ} (q : z ≡ extent_of s) (e : p ≡ prime_of s) where
  pub images-two : (k m : Shape) (a b : Bor (List ℕ)) {x y : ℕ} → x ≡ components_of z k → y ≡ components_of z m
      → arguments_check p z.count 1 ((a, x) ∷ (b, y) ∷ []) ≡ images s 1 (given k a.now ∷ given m b.now ∷ [])
  unfolding images arguments_check
  images-two k m a b f g = rw (f, g, e, q)

  pub images-one : (k : Shape) (a : Bor (List ℕ)) {x : ℕ} → x ≡ components_of z k
      → arguments_check p z.count 1 ((a, x) ∷ []) ≡ images s 1 (given k a.now ∷ [])
  unfolding images arguments_check
  images-one k a f = rw (f, e, q)

-- a table alone
pub inputs-none : (s : Setting) (t : List ℕ) → inputs s t [] ≡ table_check s.n s.v t
unfolding inputs images
inputs-none s t = or_else-last (table_check s.n s.v t)

-- ---- maps

-- each component of an argument that passed is a series
pub components-good : (s : Setting) (k : ℕ) (m : Shape) (ws : List ℕ)
    → argument_check (prime_of s) (count s.n s.v) k (components_of (extent_of s) m) ws ≡ passed
    → (i : ℕ) → i < components_of (extent_of s) m
    → SeriesIn (prime_of s) (count s.n s.v) (component s.n s.v i ws)
unfolding argument_check component
components-good s k m ws h i l =
    let p = prime_of s in
    let N = count s.n s.v in
    let x = component s.n s.v i ws in
    let q = passed_all (λ j. series_check p N k (suc j) (component s.n s.v j ws)) (components_of (extent_of s) m) h i l in
    let f = passed_to_fault_none p N k (suc i) x q in
    record { long = fault_none_to_long p N (count-positive s.n s.v) x f; good = f }

-- a map that passed 7
pub record MapGood (s : Setting) (f : List ℕ) : Type 0 where
  pub components : (i : ℕ) → i < s.v → SeriesIn (prime_of s) (count s.n s.v) (component s.n s.v i f)
  pub is_map : IsMap (prime_of s) s.n s.v f

pub map-good : (s : Setting) (k : ℕ) (f : List ℕ)
    → argument_check (prime_of s) (count s.n s.v) k s.v f ≡ passed → MapGood s f
map-good s k f h =
    record {
      components = components-good s k Map f h;
      is_map = passed_to_map (prime_of s) s.n s.v k f (sym (argument_map (prime_of s) s.n s.v k f) ∙ h);
    }

-- .. and 8
pub map-fixing : (s : Setting) (f : List ℕ) → MapGood s f → constants s f ≡ passed → OriginFixing (prime_of s) (map_in s f)
unfolding constants
map-fixing s f g h = passed_to_fixing g.is_map (sym (constants-map s.n s.v f) ∙ h)
