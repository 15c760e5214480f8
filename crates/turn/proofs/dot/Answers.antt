use Rattle.std.proofs.Common.{sym, arith}
use Rattle.linear.specs.Matrix.{at}
use Rattle.turn.proofs.Combining.{dot-none, dot-more}
use Rattle.turn.proofs.dot.Goals as goal

pub loop-j-init : goal.loop-j-init
loop-j-init c =
    (sym (dot-none _ _), omega arith)

pub loop-j-preserved : goal.loop-j-preserved
loop-j-preserved c =
    let a = c.args in
    let l = c.loop-j in (
      omega (arith, l.invariant.0, c.wide_product-s.ensures, dot-more l.j (at a.a) (at a.x)),
      omega (arith, l.invariant.1, c.wide_product-s.ensures),
    )
