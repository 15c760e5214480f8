-- Each line takes at least one byte.
use Rattle.std.proofs.Common.{length}
use Rattle.cases.proofs.line.lines.Given as goal

abbrev pub decreases-loop-b : goal.decreases-loop-b
decreases-loop-b g l = length l.rest
