-- The invariant: the second codes below y have the index of their block, and all others 0.
use Rattle.std.proofs.Common.{◌≡◌, ◌+◌, ◌-◌, ◌*◌, ◌≤◌}
use Rattle.monomial.specs.Count.{codes}
use Rattle.builder.specs.Build.{block_start, filled}
use Rattle.builder.proofs.BuildPlaces.{D2s}
use Rattle.builder.proofs.write_d2.Given as goal

abbrev pub invariant-loop-y : goal.invariant-loop-y
invariant-loop-y l =
    let z = l.k.z in
    (l.y ≡ l.q * (z.n + 1) + l.r)
    × (l.r ≤ z.n + 1)
    × (l.y ≤ l.k.seconds)
    × (l.start ≡ block_start z.n z.v l.y)
    × (l.t ≡ filled l.at (D2s z.n z.v l.y) (codes z.n z.v) l.initial.t)

abbrev pub decreases-loop-y : goal.decreases-loop-y
decreases-loop-y l =
    (l.k.seconds - l.y) + (l.k.rows - l.q)
