-- The sizes that a table is prepared for are in range.
use Rattle.sheet.proofs.Parts.{prepared_ranged}
use Rattle.maptab.proofs.print_lines.Goals as goal

pub line_count-lines-requires : goal.line_count-lines-requires
line_count-lines-requires g c = prepared_ranged c.args.output.d c.args.output.table.now c.args.output.prepared
