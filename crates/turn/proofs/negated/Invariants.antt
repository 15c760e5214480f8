-- The invariant: the rows before i are negated.
use Rattle.std.proofs.Common.{◌≡◌, ℕ, ◌-◌, ◌*◌, ◌%◌, ◌<◌, length}
use Rattle.linear.specs.Matrix.{element}
use Rattle.turn.proofs.negated.Given as goal

abbrev pub invariant-loop-i : goal.invariant-loop-i
invariant-loop-i l =
    (length l.o ≡ 8)
    × ((k j : ℕ) → k < l.i → j < 8 → element l.o k j ≡ ((l.p - 1) * element l.m k j) % l.p)
