-- `check_table` meets its contract: what the checker asks, and that 6 is the last that is looked at.
use Rattle.std.proofs.Common.{rules}
use Rattle.checks.specs.Calls.{check_checks, check_call}
use Rattle.checks.proofs.InputLaws.{inputs-none}
use Rattle.tables.proofs.TableCall.{table-ready}
use Rattle.tables.proofs.checking.check_table.Goals as goal

pub table_check-requires : goal.table_check-requires
table_check-requires c = table-ready c.args.s _ c.in_ok-z.ensures

pub returns-in_err-table_check : goal.returns-in_err-table_check
unfolding check_checks check_call
returns-in_err-table_check c = rw (inputs-none c.args.s c.args.table.now) (search rules)

pub returns : goal.returns
unfolding check_checks check_call
returns c = rw (inputs-none c.args.s c.args.table.now) (search rules)
