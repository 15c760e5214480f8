-- `derivative_check` meets its contract: `room` decides, or the variable, or `inputs` does.
use Rattle.derivatives.proofs.DerivativeCall.{inputs-ready}
use Rattle.derivatives.proofs.derivative_check.Goals as goal

pub inputs-requires : goal.inputs-requires
inputs-requires c = let x = c.args in inputs-ready x.s x.k x.t.now x.a.now x.res c.in_ok-z.ensures
