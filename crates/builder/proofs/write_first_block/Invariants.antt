-- The invariant: the orders below s are written, and their ends are held.
use Rattle.std.proofs.Common.{◌≡◌}
use Rattle.builder.specs.Build.{Advances, Ends, order_start}
use Rattle.builder.proofs.write_first_block.Given as goal

abbrev pub invariant-loop-s : goal.invariant-loop-s
invariant-loop-s l =
    let z = l.k.z in
    (l.p ≡ order_start z.n z.v l.s) × Ends z.n z.v l.s l.ends × Advances z.n z.v 0 l.p l.initial.t l.t
