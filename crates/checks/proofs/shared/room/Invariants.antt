-- The slices before index i are long enough.
use Rattle.std.proofs.Common.{◌≡◌, ◌+◌, drop}
use Rattle.checks.specs.Settings.{extent_of}
use Rattle.checks.specs.Room.{long_enough, slices_check}
use Rattle.checks.proofs.shared.room.Given as goal

abbrev pub invariant-loop-i : goal.invariant-loop-i
invariant-loop-i l =
    let ok = long_enough (extent_of l.fn.s) in
    slices_check ok 2 1 l.fn.slices ≡ slices_check ok 2 (l.i + 1) (drop l.i l.fn.slices)
