use Rattle.std.proofs.Common.{sym}
use Rattle.builder.proofs.BuildWritten.{advances_none, ends_none}
use Rattle.builder.proofs.BuildOrder.{order-none}
use Rattle.builder.proofs.write_first_block.Goals as goal

pub loop-s-init : goal.loop-s-init
loop-s-init c =
    let z = c.args.k.now.z in
    (sym (order-none z.n z.v), ends_none z.n z.v, advances_none z.n z.v 0 c.args.t.now)
