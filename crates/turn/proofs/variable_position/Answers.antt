-- The constant stands at position 1, and the step from it by variable j leads to the variable.
use Rattle.std.proofs.Common.{arith}
use Rattle.turn.proofs.Positions.{positions_some, constant-low, variable-stands}
use Rattle.turn.proofs.variable_position.Goals as goal

pub child-requires : goal.child-requires
child-requires c =
    let r = c.args.t.right in
    record { le_q = (omega arith, positions_some r, c.requires.j_lt_v, constant-low r) }

pub returns : goal.returns
returns c =
    variable-stands c.args.t.right c.args.j c.child.result c.requires.j_lt_v c.child.ensures
