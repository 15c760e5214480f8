-- The invariant: the rows before c are done, and the rows from c on are those of t.
use Rattle.std.proofs.Common.{◌≡◌, ℕ, ◌+◌, ◌-◌, ◌*◌, ◌%◌, ◌<◌, ◌≤◌, length}
use Rattle.linear.specs.Matrix.{element, at}
use Rattle.linear.proofs.filed.Given as goal

abbrev pub invariant-loop-c : goal.invariant-loop-c
invariant-loop-c l =
    (length l.o ≡ 8)
    × ((d x : ℕ) → d < l.c → x < 8
    → element l.o d x ≡ (element l.t d x + (l.p - element l.f d l.j) * at l.s x) % l.p)
    × ((d x : ℕ) → l.c ≤ d → element l.o d x ≡ element l.t d x)
