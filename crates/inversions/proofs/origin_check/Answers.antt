-- `origin_check` meets its contract: `room` decides, or `inputs`, or `constants` does.
use Rattle.inversions.proofs.InvertCall.{inputs-ready, constants-ready}
use Rattle.inversions.proofs.origin_check.Goals as goal

pub inputs-requires : goal.inputs-requires
inputs-requires c = let x = c.args in inputs-ready x.s x.t.now x.map.now x.res x.work c.in_ok-z.ensures

pub constants-requires : goal.constants-requires
constants-requires c =
    let x = c.args in
    constants-ready x.s x.t.now x.map.now x.res x.work c.in_ok-z.ensures c.in_ok-table.ensures.says
