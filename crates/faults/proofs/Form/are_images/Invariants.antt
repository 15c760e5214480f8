-- The invariant: the components before i pass. The first that is no image declines.
use Rattle.std.proofs.Common.{◌≡◌, ℕ, ◌<◌}
use Rattle.answer.specs.Refusals.{passed}
use Rattle.faults.proofs.CodeArguments.{component_check}
use Rattle.faults.proofs.Form.are_images.Given as goal

abbrev pub invariant-loop-i : goal.invariant-loop-i
invariant-loop-i l =
    (a x : ℕ) → x < l.i → component_check l.self.p l.self.count a l.words x ≡ passed
