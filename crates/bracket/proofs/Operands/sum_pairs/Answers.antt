use Rattle.bracket.proofs.Pairing.{adding_none, adding_more}
use Rattle.bracket.proofs.Operands.sum_pairs.Goals as goal

pub loop-k-init : goal.loop-k-init
loop-k-init c = adding_none c.requires

pub loop-k-preserved : goal.loop-k-preserved
loop-k-preserved c =
    let g = c.pair-pairs in
    adding_more c.requires c.loop-k.invariant c.loop-k-test.true
    g.auto.res g.ensures.grown g.ensures.res_after
