-- The invariant: i positions are written. Each has the C1 of a position that was written before.
use Rattle.std.proofs.Common.{◌≡◌, ℕ, ◌+◌, ◌<◌, length, get_or}
use Rattle.monomial.specs.Count.{count}
use Rattle.builder.specs.Build.{C1s, CodesAt, Advances}
use Rattle.builder.proofs.write_block.Given as goal

abbrev pub invariant-loop-i : goal.invariant-loop-i
invariant-loop-i l =
    (length l.t ≡ length l.initial.t)
    × ((n v : ℕ) → l.total ≡ count n v → ((j : ℕ) → j < l.m → CodesAt n v (l.from + j) (get_or (C1s n v) j 0) l.y)
    → Advances n v l.from (l.from + l.i) l.initial.t l.t)
