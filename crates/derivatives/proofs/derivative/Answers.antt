-- `derivative` meets its contract: where the checks pass the core's requires hold, and it writes the derivative.
use Rattle.std.proofs.Common.{arith}
use Rattle.checks.proofs.InputLaws.{tested_sizes}
use Rattle.derivatives.proofs.DerivativeCall.{all-passed, core_ready, derivative-finished}
use Rattle.derivatives.proofs.derivative.Goals as goal

pub overflow_sub-x : goal.overflow_sub-x
overflow_sub-x c =
    let x = c.args in
    omega (arith, (all-passed x.s x.k x.table.now x.a.now x.res.now c.in_ok-t.ensures.says).variable_low)

pub derivative-requires : goal.derivative-requires
derivative-requires c =
    let x = c.args in
    rw c.in_ok-t.ensures.table.1
    (core_ready x.s x.k x.table.now x.a.now x.res.now (tested_sizes c.in_ok-t.ensures) c.prime.ensures)

pub returns : goal.returns
returns c =
    let x = c.args in
    derivative-finished x.s x.k x.table.now x.a.now x.res.now (tested_sizes c.in_ok-t.ensures) c.prime.ensures
    c.derivative.ensures
