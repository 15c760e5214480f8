-- The checks of inversion but the last (01, 'When the kernel declines').
--
-- origin_checks s t f result work  1, 2, 6, 7, 8: the words of f are those of a map that fixes the origin, and there
--                                  is room for its inverse
use Rattle.std.specs.Prelude.{List, [], ◌∷◌, ℕ, length}
use Rattle.answer.specs.declared.Setting.{Setting}
use Rattle.answer.specs.Refusals.{Verdict}
use Rattle.answer.specs.Checks.{first_of}
use Rattle.checks.specs.declared.Kind.TheVariants.{Table, Map, Work}
use Rattle.checks.specs.Room.{slice, room}
use Rattle.checks.specs.Inputs.{map, inputs, constants}

unfoldable pub origin_checks : Setting → List ℕ → List ℕ → ℕ → ℕ → Verdict
origin_checks s t f result work =
    first_of (
    room s (slice Table (length t) ∷ slice Map (length f) ∷ slice Map result ∷ slice Work work ∷ [])
    ∷ inputs s t (map f ∷ [])
    ∷ constants s f
    ∷ [])
