-- The invariant: the first i words are copied.
use Rattle.std.proofs.Common.{◌≡◌, take}
use Rattle.series.specs.Over.{over}
use Rattle.product.proofs.copy.Given as goal

abbrev pub invariant-loop-i : goal.invariant-loop-i
invariant-loop-i l = l.work ≡ over l.initial.work l.at (take l.i l.a)
