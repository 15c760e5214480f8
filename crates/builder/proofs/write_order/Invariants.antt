-- The invariant: the monomials of order s whose first codes stand in rows below x are written. A row whose
-- digit sum is at most s adds one; past one with a larger sum the next rows add none, up to a multiple of b.
use Rattle.std.proofs.Common.{◌≡◌, ◌+◌, ◌-◌, ◌*◌, ◌≤◌}
use Rattle.builder.specs.Build.{Advances}
use Rattle.builder.proofs.BuildOrder.{row_start}
use Rattle.builder.proofs.write_order.Given as goal

abbrev pub invariant-loop-x : goal.invariant-loop-x
invariant-loop-x l =
    let z = l.k.z in
    (l.x ≡ l.q * (z.n + 1) + l.r)
    × (l.r ≤ z.n + 1)
    × (l.x ≤ l.k.rows)
    × (l.p ≡ row_start z.n z.v l.s l.x)
    × Advances z.n z.v l.from l.p l.initial.t l.t

abbrev pub decreases-loop-x : goal.decreases-loop-x
decreases-loop-x l =
    (l.k.rows - l.x) + (l.k.rows - l.q)
