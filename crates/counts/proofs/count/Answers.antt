-- A test over the whole table compares it with the definition.
use Rattle.counts.proofs.Counts.{listed-count}
use Rattle.counts.proofs.count.Goals as goal

pub returns : goal.returns
returns c =
    listed-count c.args.n c.args.v c.requires.0 c.requires.1
