-- `prepare` meets its contract: each region is written without changing the others (`Preparing`).
use Rattle.composition.proofs.Preparing.{all-prepared}
use Rattle.composition.proofs.setup.prepare.Goals as goal

pub returns-clause-prepared : goal.returns-clause-prepared
returns-clause-prepared c =
    all-prepared c.requires c.fill_orders.ensures c.mark_beginnings.ensures
    c.list_positions-starts.ensures c.clear.ensures
