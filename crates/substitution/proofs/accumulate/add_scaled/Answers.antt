-- `add_scaled` meets its contract: a multiple by 0 changes nothing.
use Rattle.substitution.proofs.Adding.{added_none}
use Rattle.substitution.proofs.accumulate.add_scaled.Goals as goal

pub returns-then-c-eq0 : goal.returns-then-c-eq0
returns-then-c-eq0 c =
    let a = c.args in
    added_none a.res.now a.work.now a.at a.first a.c a.p c.requires c.if-c-eq0.true
