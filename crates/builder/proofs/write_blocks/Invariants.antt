-- The invariant: the blocks of second codes below y are written. A code whose digit sum is
-- at most n has a block; past one with a larger sum no code has one, up to the next multiple of b.
use Rattle.std.proofs.Common.{◌≡◌, ◌+◌, ◌-◌, ◌*◌, ◌≤◌}
use Rattle.builder.specs.Build.{Advances, order_start, block_start}
use Rattle.builder.proofs.write_blocks.Given as goal

abbrev pub invariant-loop-y : goal.invariant-loop-y
invariant-loop-y l =
    let z = l.k.z in
    (l.y ≡ l.q * (z.n + 1) + l.r)
    × (l.r ≤ z.n + 1)
    × (1 ≤ l.y)
    × (l.y ≤ l.k.seconds)
    × (l.p ≡ block_start z.n z.v l.y)
    × Advances z.n z.v (order_start z.n z.v (z.n + 1)) l.p l.initial.t l.t

abbrev pub decreases-loop-y : goal.decreases-loop-y
decreases-loop-y l =
    (l.k.seconds - l.y) + (l.k.rows - l.q)
