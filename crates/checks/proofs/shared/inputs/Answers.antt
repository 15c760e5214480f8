-- `inputs` meets its contract: a table that passed its check is the table of the sizes.
use Rattle.std.proofs.Common.{sym}
use Rattle.checks.proofs.InputLaws.{inputs_tabled}
use Rattle.checks.proofs.shared.inputs.Goals as goal

pub invariant_of-result : goal.invariant_of-result
invariant_of-result c =
    let q = c.requires.arguments in
    let e = q.sized in
    record { right = inputs_tabled e q.allowed c.requires.table_long (sym (rw e at c.in_ok-table_check.ensures)) }
