use Rattle.std.proofs.Common.{arith}
use Rattle.growth.proofs.Carrying.{carried_more}
use Rattle.growth.proofs.carry.Goals as goal

pub loop-k-preserved : goal.loop-k-preserved
loop-k-preserved c =
    let q = c.requires in
    carried_more c.loop-k.invariant q.0 (omega (arith, c.told-ends, q.2)) (q.3 c.loop-k.k (omega arith))
    (c.fill.ensures.after (λ y e. e))
