-- The words before the index are as they must be.
use Rattle.std.proofs.Common.{ℕ, ◌<◌, get_or}
use Rattle.stated.proofs.verdict.compare.Given as goal

abbrev pub invariant-loop-at : goal.invariant-loop-at
invariant-loop-at g l = (i : ℕ) → i < l.at → goal.F-post g l.wanted i (get_or l.words i 0)
