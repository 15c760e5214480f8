-- `copy` meets its contract: each turn writes one word more over the part.
use Rattle.std.proofs.Common.{◌≡◌, sym, ap, ◌∙◌, List, ℕ, ◌+◌, arith, get_or, set}
use Rattle.series.proofs.Over.{over_none}
use Rattle.product.proofs.Parts.{copy_more}
use Rattle.product.proofs.copy.Goals as goal

pub loop-i-init : goal.loop-i-init
loop-i-init c = sym (over_none _ _)

pub loop-i-preserved : goal.loop-i-preserved
loop-i-preserved c =
    let a = c.args in
    let i = c.loop-i.i in
    ap (λ (x : List ℕ). set x (a.at + i) (get_or a.a.now i 0)) c.loop-i.invariant
    ∙ copy_more a.work.now a.at a.a.now i (omega arith) (omega arith)
