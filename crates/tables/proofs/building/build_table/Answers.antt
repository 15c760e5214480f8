-- `build_table` meets its contract: where the checks pass it hands the slice on, else it returns at once.
use Rattle.tables.proofs.TableCall.{table-ready, build_finished}
use Rattle.tables.proofs.building.build_table.Goals as goal

pub build_table-requires : goal.build_table-requires
build_table-requires c = table-ready c.args.s _ c.in_ok-z.ensures

pub returns : goal.returns
returns c = build_finished c.args.s c.args.table.now _ c.in_ok-z.ensures c.build_table.ensures
