-- `raise` meets its contract: each step is told what it asks by those before it (`TurnSteps`).
use Rattle.std.proofs.Common.{refl}
use Rattle.composition.proofs.Planning.{laid}
use Rattle.iteration.proofs.TurnSteps.{plan_asks, node_asks, sums_ask, raised-made}
use Rattle.iteration.proofs.Turns.raise.Goals as goal

pub walk-requires-clause-laid : goal.walk-requires-clause-laid
walk-requires-clause-laid c = laid _ c.args.self.now.regions

pub walk-requires-clause-by_index : goal.walk-requires-clause-by_index
walk-requires-clause-by_index c =
    (_, _, _, plan_asks _ c.args.self.now.regions refl refl refl c.requires c.requires.grown.1)

pub walk-requires-clause-node : goal.walk-requires-clause-node
walk-requires-clause-node c = (_, _, node_asks _ c.args.self.now.regions refl refl refl c.requires)

pub walk-requires-clause-by_index_2 : goal.walk-requires-clause-by_index_2
walk-requires-clause-by_index_2 c =
    (_, sums_ask _ c.args.self.now.regions refl refl refl c.requires c.start.ensures)

pub returns : goal.returns
returns c =
    raised-made _ c.args.self.now.regions refl refl refl c.requires c.start.ensures c.walk.ensures
