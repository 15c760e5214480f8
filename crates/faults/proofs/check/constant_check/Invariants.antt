-- The invariant: no component before the one in hand has a constant. Word 1 of a component tells.
use Rattle.std.proofs.Common.{◌≡◌, ℕ, ◌<◌}
use Rattle.answer.specs.Refusals.{passed}
use Rattle.faults.proofs.CodeConstants.{constant_of}
use Rattle.faults.proofs.check.constant_check.Given as goal

abbrev pub invariant-loop-i : goal.invariant-loop-i
invariant-loop-i l =
    (j : ℕ) → j < l.i → constant_of l.count l.map j ≡ passed
