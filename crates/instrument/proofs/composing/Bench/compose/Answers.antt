-- The first slice that the call leaves is its result.
use Rattle.std.proofs.Common.{ap, [], get_or}
use Rattle.instrument.specs.Composed.{composed}
use Rattle.instrument.proofs.composing.Bench.compose.Goals as goal

pub returns : goal.returns
unfolding composed
returns g c = ap (λ l. get_or l.slices 0 []) (rw c.setting.ensures at c.compose-came.ensures)
