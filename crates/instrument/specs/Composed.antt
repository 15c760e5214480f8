-- Glossary
--   composed t outer inner result   the words that a composition with the table t leaves in its result
use Rattle.std.specs.Prelude.{List, [], ℕ, get_or, replicate}
use Rattle.checks.specs.Calls.{compose_call}
use Rattle.optics.specs.Order.{order_3}

unfoldable pub composed : List ℕ → List ℕ → List ℕ → List ℕ → List ℕ
composed t outer inner result = get_or (compose_call order_3 t outer inner result (replicate 1019 0)).slices 0 []
