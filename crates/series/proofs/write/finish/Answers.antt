-- Word 0 and the zeros complete the image.
use Rattle.std.proofs.Common.{◌∙◌, arith}
use Rattle.series.proofs.CodeWords.{image-made}
use Rattle.series.proofs.write.finish.Goals as goal

pub returns : goal.returns
returns c =
    let s = c in
    let a = s.args in
    c.clear.ensures
    ∙ image-made a.count a.at a.res.now (omega arith) (omega arith) (omega arith)
