use Rattle.std.proofs.Common.{rules}
use Rattle.linear.proofs.combined.Goals as goal

pub returns : goal.returns
returns c = record { value = search rules; below = search rules }
