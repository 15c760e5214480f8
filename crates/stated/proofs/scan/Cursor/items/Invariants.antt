-- Each item takes at least one byte.
use Rattle.std.proofs.Common.{length}
use Rattle.stated.proofs.scan.Cursor.items.Given as goal

abbrev pub decreases-loop-b : goal.decreases-loop-b
decreases-loop-b l = length l.self.rest.now
