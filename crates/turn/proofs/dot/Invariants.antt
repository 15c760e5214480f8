-- The invariant: the sum of the products before j, each of at most 32 bits.
use Rattle.std.proofs.Common.{◌≡◌, ◌*◌, ◌≤◌}
use Rattle.linear.specs.Matrix.{at}
use Rattle.turn.specs.Vectors.{dot}
use Rattle.turn.proofs.dot.Given as goal

abbrev pub invariant-loop-j : goal.invariant-loop-j
invariant-loop-j l =
    (l.s ≡ dot l.j (at l.a) (at l.x)) × (l.s ≤ l.j * 4294967296)
