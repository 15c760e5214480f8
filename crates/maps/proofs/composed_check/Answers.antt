-- `composed_check` meets its contract: `room` decides, or `inputs`, or `constants` does.
use Rattle.maps.proofs.OuterCall.{inputs-ready, constants-ready}
use Rattle.maps.proofs.composed_check.Goals as goal

pub inputs-requires : goal.inputs-requires
inputs-requires c =
    let x = c.args in
    let d = rw c.kind-kind.ensures at c.in_ok-z.ensures in
    inputs-ready x.k x.s x.t.now x.outer.now x.inner.now x.res x.work d

pub constants-requires : goal.constants-requires
constants-requires c =
    let x = c.args in
    let d = rw c.kind-kind.ensures at c.in_ok-z.ensures in
    constants-ready x.k x.s x.t.now x.outer.now x.inner.now x.res x.work d c.in_ok-table.ensures.says
