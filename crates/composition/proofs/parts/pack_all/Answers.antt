use Rattle.std.proofs.Common.{◌+◌, arith}
use Rattle.composition.proofs.Filling.{filled_none, filled-part}
use Rattle.composition.proofs.Filling.{filled_more, part-long}
use Rattle.composition.proofs.Filling.{length-packed_words, packed-written}
use Rattle.composition.proofs.parts.pack_all.Goals as goal

pub loop-i-init : goal.loop-i-init
loop-i-init c =
    let a = c.args in
    filled_none _ (a.count + 1) a.components a.res.now

pub pack-requires-clause-by_index : goal.pack-requires-clause-by_index
pack-requires-clause-by_index c =
    let fit = c.requires.result_in in
    rw (filled-part (λ j. length-packed_words c.args.count _) fit c.loop-i.invariant)
    (λ q x y. c.requires.residues c.loop-i.i q (omega arith) x y)

pub loop-i-preserved : goal.loop-i-preserved
loop-i-preserved c =
    let k = c.pack in
    let a = c.args in
    let fit = c.requires.result_in in
    let same = filled-part (λ j. length-packed_words a.count _) fit c.loop-i.invariant in
    filled_more (λ j. length-packed_words a.count _) fit c.loop-i.invariant (omega arith) k.new.res
    (packed-written a.count _ k.new.res
    (part-long c.loop-i.i a.components a.count a.res.now (omega arith) fit)
    (rw same at k.ensures))
