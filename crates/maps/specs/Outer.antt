-- Substitution and composition as one: an inner map substituted into an outer argument of shape k, as the result is.
--
-- outer_checks k s t outer inner result work
--                    the checks of both: those of composition where k is Map, of substitution where it is Series
-- outer_image k s outer inner
--                    what is written: the image of the composed map, or of the series
-- outer_call k s t outer inner result work
--                    what the call leaves
use Rattle.std.specs.Prelude.{List, [], ◌∷◌, ℕ, length}
use Rattle.algebra.specs.Substitution.{substitute, compose}
use Rattle.answer.specs.declared.Setting.{Setting}
use Rattle.answer.specs.Refusals.{Verdict, Outcome}
use Rattle.answer.specs.Checks.{first_of}
use Rattle.checks.specs.declared.Kind.TheVariants as kind
use Rattle.checks.specs.declared.Shape.{Shape}
use Rattle.checks.specs.declared.Shape.TheVariants.{Series, Map}
use Rattle.checks.specs.Settings.{series_in, map_in, image_in, map_image_in, zeros}
use Rattle.checks.specs.Room.{slice, room}
use Rattle.checks.specs.Inputs.{kind_of, given, map, inputs, constants}
use Rattle.checks.specs.Calls.{Left, leaves, write}

unfoldable pub outer_checks : Shape → Setting → List ℕ → List ℕ → List ℕ → ℕ → ℕ → Verdict
outer_checks k s t outer inner result work =
    first_of (
    room s (
    slice kind.Table (length t) ∷ slice (kind_of k) (length outer) ∷ slice kind.Map (length inner)
    ∷ slice (kind_of k) result ∷ slice kind.Work work ∷ [])
    ∷ inputs s t (given k outer ∷ map inner ∷ [])
    ∷ constants s inner
    ∷ [])

abbrev pub outer_image : Shape → Setting → List ℕ → List ℕ → List ℕ
outer_image Series s outer inner = image_in s (substitute (series_in s outer) (map_in s inner))
outer_image Map s outer inner = map_image_in s (compose (map_in s outer) (map_in s inner))

unfoldable pub outer_call : Shape → Setting → List ℕ → List ℕ → List ℕ → List ℕ → List ℕ → Left Outcome
outer_call k s t outer inner result work =
    leaves (outer_checks k s t outer inner (length result) (length work)) 0
    (write (outer_image k s outer inner) result ∷ write (zeros s) work ∷ [])
