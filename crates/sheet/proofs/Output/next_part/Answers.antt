-- A refusal has one line.
use Rattle.std.proofs.Common.{◌≡◌, arith}
use Rattle.answer.specs.Refusals.{number}
use Rattle.text.specs.Text.{refused_text}
use Rattle.text.specs.Writing.{Room}
use Rattle.text.proofs.Rows.{number_low, length-refused_text}
use Rattle.text.proofs.Writings.{writes_same}
use Rattle.sheet.proofs.Parts.{prepared_ranged, refusal_printed}
use Rattle.sheet.proofs.Output.next_part.Goals as goal

pub line_count-requires : goal.line_count-requires
line_count-requires c = prepared_ranged c.args.self.d c.args.self.table.now c.args.self.prepared

pub returns-in-Err-clause-kept : goal.returns-in-Err-clause-kept
returns-in-Err-clause-kept c =
    let k = number c.in-Err.r in
    let few = number_low c.in-Err.r in
    let room : Room c.args.out.now (refused_text k) = omega (arith, length-refused_text k (omega arith)) in
    writes_same room c.refused.ensures

pub returns-in-Err-clause-printed : goal.returns-in-Err-clause-printed
returns-in-Err-clause-printed c =
    let left = rw (c.line_count.ensures, c.in-Err.is) at c.if-line_count-k.false in
    let first : c.args.k ≡ 0 = omega arith in
    rw (c.in-Err.is, first)
    (refusal_printed _ (rw c.requires at c.refused.ensures.wrote) (returns-in-Err-clause-kept c).long)
