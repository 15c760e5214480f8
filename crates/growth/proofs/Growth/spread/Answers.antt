use Rattle.std.proofs.Common.{refl, arith}
use Rattle.growth.proofs.Spreading.{part-asks, spread_more, spread_all}
use Rattle.growth.proofs.Growth.spread.Goals as goal

pub add_listed-requires : goal.add_listed-requires
add_listed-requires c =
    rw c.list_at.ensures (part-asks c.requires c.clear.ensures c.loop-k.invariant (omega arith) refl)

pub loop-k-preserved : goal.loop-k-preserved
loop-k-preserved c =
    let k = c.add_listed in
    spread_more c.requires c.clear.ensures c.loop-k.invariant (omega arith)
    refl k.new.part (rw c.list_at.ensures at k.ensures)

pub returns : goal.returns
returns c =
    spread_all c.requires c.clear.ensures c.loop-k.invariant (omega arith)
