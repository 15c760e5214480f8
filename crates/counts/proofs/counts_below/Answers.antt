-- A test over the whole table compares it with the definition.
use Rattle.counts.proofs.Counts.{listed-row}
use Rattle.counts.proofs.counts_below.Goals as goal

pub returns : goal.returns
returns c =
    listed-row c.args.v c.requires
