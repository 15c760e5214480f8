use Rattle.std.proofs.Common.{◌+◌, sym, ◌∙◌}
use Rattle.faults.proofs.CodeArguments.{argument-next, arguments-end}
use Rattle.faults.proofs.CodeQuick.{passed_is}
use Rattle.faults.proofs.quick.image_check.Goals as goal

pub loop-words-preserved : goal.loop-words-preserved
loop-words-preserved c =
    let f = c.args.f in
    let j = c.loop-words.words-index in
    let e = passed_is _ (sym c.if-not-are_images.false ∙ c.are_images.ensures (j + 1)) in
    c.loop-words.invariant ∙ argument-next f.p f.count (j + 1) c.args.arguments.now j c.loop-words-test.true e

pub returns : goal.returns
returns c =
    let f = c.args.f in
    let j = c.loop-words.words-index in
    sym (c.loop-words.invariant ∙ arguments-end f.p f.count (j + 1) c.args.arguments.now j c.loop-words-test.false)
