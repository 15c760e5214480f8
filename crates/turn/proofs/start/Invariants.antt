-- The invariant: minus the variables before j stand in their parts, and the other parts are zeros.
use Rattle.turn.proofs.Starting.{StartedUpto}
use Rattle.turn.proofs.start.Given as goal

abbrev pub invariant-loop-j : goal.invariant-loop-j
invariant-loop-j l =
    StartedUpto l.p l.t.z.n l.t.z.v l.t.z.count l.initial.res l.res l.j
