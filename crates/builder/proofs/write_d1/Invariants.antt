-- The invariant: the codes of the first i positions have their place, and all others 0.
use Rattle.std.proofs.Common.{◌≡◌, ◌+◌, length}
use Rattle.monomial.specs.Count.{codes}
use Rattle.builder.specs.Build.{filled}
use Rattle.builder.proofs.BuildPlaces.{D1s}
use Rattle.builder.proofs.write_d1.Given as goal

abbrev pub invariant-loop-i : goal.invariant-loop-i
invariant-loop-i l =
    let z = l.fn.z in
    (length l.t ≡ length l.initial.t) × (l.t ≡ filled (z.count + z.count) (D1s z.n z.v l.i) (codes z.n z.v) l.initial.t)
