-- The invariant: the products with the rows before i are made.
use Rattle.std.proofs.Common.{◌≡◌, ℕ, ◌%◌, ◌<◌, length}
use Rattle.linear.specs.Matrix.{element, at}
use Rattle.turn.specs.Vectors.{dot}
use Rattle.turn.proofs.applied.Given as goal

abbrev pub invariant-loop-i : goal.invariant-loop-i
invariant-loop-i l =
    (length l.y ≡ 8)
    × ((k : ℕ) → k < l.i → at l.y k ≡ dot l.v (element l.m k) (at l.x) % l.p)
