-- The invariant: what the words up to k break is counted.
use Rattle.std.proofs.Common.{◌≡◌, ◌*◌, ◌≤◌}
use Rattle.faults.specs.Quick.{misfits}
use Rattle.faults.proofs.Form.misfits.Given as goal

abbrev pub invariant-loop-k : goal.invariant-loop-k
invariant-loop-k l =
    (l.bad ≤ 3 * l.k) × (l.bad ≡ misfits l.self.p l.k l.words)
