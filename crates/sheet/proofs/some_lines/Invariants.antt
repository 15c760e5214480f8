-- The invariant: the bytes written are the lines from j up to `next`, each of at most 64 bytes.
use Rattle.std.proofs.Common.{◌-◌, ◌*◌, ◌≤◌}
use Rattle.text.specs.Writing.{SameBuffer}
use Rattle.sheet.specs.Sheet.{lines_from}
use Rattle.sheet.specs.Part.{Printed}
use Rattle.sheet.proofs.some_lines.Given as goal

abbrev pub invariant-loop-next : goal.invariant-loop-next
invariant-loop-next l = record {
  printed : Printed (lines_from l.z.n l.z.v) l.z.count l.j l.initial.out.out.now l.out.out.now l.next l.out.at;
  kept : SameBuffer l.initial.out l.out;
  short : l.out.at ≤ 64 * (l.next - l.j);
}
