-- `turn` meets its contract: what `raise` makes gives the terms of the new order (`TurnSteps`).
use Rattle.iteration.proofs.TurnSteps.{grow_asks, turn-made}
use Rattle.iteration.proofs.Turns.turn.Goals as goal

pub grow-requires : goal.grow-requires
grow-requires c =
    rw c.args.self.now.regions.marks_is
    (grow_asks c.requires.task c.requires.turn_in c.raise.ensures)

pub returns : goal.returns
returns c =
    turn-made c.requires.task c.requires.turn_in c.raise.ensures c.grow.ensures
