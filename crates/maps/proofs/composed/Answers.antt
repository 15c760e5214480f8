-- `composed` meets its contract: where the checks pass the core's requires hold, and it leaves what the core writes.
use Rattle.checks.proofs.RoomLaws.{sized, work_asks, work_is}
use Rattle.checks.proofs.InputLaws.{tested_sizes}
use Rattle.maps.proofs.OuterCall.{all-passed, core_ready, outer-finished}
use Rattle.maps.proofs.composed.Goals as goal

pub work_words-words-requires : goal.work_words-words-requires
work_words-words-requires c =
    let x = c.args in
    let d = tested_sizes c.in_ok-t.ensures in
    work_asks (sized (all-passed x.k x.s x.table.now x.outer.now x.inner.now x.res.now x.work.now d.says).roomy.allowed d.sized)

pub compose-requires : goal.compose-requires
compose-requires c =
    let x = c.args in
    rw c.in_ok-t.ensures.table.1
    (core_ready x.k x.s x.table.now x.outer.now x.inner.now x.res.now x.work.now
    (tested_sizes c.in_ok-t.ensures) c.components-m.ensures (work_is c.in_ok-t.ensures.table.0 c.work_words-words.ensures) c.prime.ensures)

pub returns : goal.returns
returns c =
    let x = c.args in
    let e = c.compose.ensures in
    outer-finished x.k x.s x.table.now x.outer.now x.inner.now x.res.now x.work.now
    (tested_sizes c.in_ok-t.ensures) c.components-m.ensures (work_is c.in_ok-t.ensures.table.0 c.work_words-words.ensures) c.prime.ensures
    (e.res_after, e.work_after)
