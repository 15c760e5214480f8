-- `bracket` meets its contract: where the checks pass the core's requires hold, and it leaves what the core writes.
use Rattle.checks.proofs.RoomLaws.{sized, work_asks, work_is}
use Rattle.checks.proofs.InputLaws.{tested_sizes}
use Rattle.brackets.proofs.BracketCall.{all-passed, core_ready, bracket-finished}
use Rattle.brackets.proofs.bracket.Goals as goal

pub work_words-words-requires : goal.work_words-words-requires
work_words-words-requires c =
    let x = c.args in
    let d = tested_sizes c.in_ok-t.ensures in
    work_asks (sized (all-passed x.s x.table.now x.a.now x.b.now x.res.now x.work.now d.says).roomy.allowed d.sized)

pub bracket-requires : goal.bracket-requires
bracket-requires c =
    let x = c.args in
    let g = core_ready x.s x.table.now x.a.now x.b.now x.res.now x.work.now
    (tested_sizes c.in_ok-t.ensures) (work_is c.in_ok-t.ensures.table.0 c.work_words-words.ensures) c.prime.ensures in
    record { product_in = rw c.in_ok-t.ensures.table.1 g.0; lt_p = g.1 }

pub returns : goal.returns
returns c =
    let x = c.args in
    let m = c.bracket.ensures in
    bracket-finished x.s x.table.now x.a.now x.b.now x.res.now x.work.now
    (tested_sizes c.in_ok-t.ensures) (work_is c.in_ok-t.ensures.table.0 c.work_words-words.ensures) c.prime.ensures (m.res_after, m.work_after)
