-- Each turn prints at least one line: what is left of the lines falls.
use Rattle.std.proofs.Common.{◌-◌, ◌≤◌}
use Rattle.maptab.proofs.print_lines.Given as goal

abbrev pub invariant-loop-next : goal.invariant-loop-next
invariant-loop-next g l = l.next ≤ l.lines

abbrev pub decreases-loop-next : goal.decreases-loop-next
decreases-loop-next g l = l.lines - l.next
