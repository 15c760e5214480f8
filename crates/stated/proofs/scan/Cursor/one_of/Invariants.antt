-- Nothing is read until a name is found.
use Rattle.std.proofs.Common.{◌≤◌, length}
use Rattle.stated.proofs.scan.Cursor.one_of.Given as goal

abbrev pub invariant-loop-name : goal.invariant-loop-name
invariant-loop-name g l = length l.self.rest.now ≤ length l.fn.self.rest.now
