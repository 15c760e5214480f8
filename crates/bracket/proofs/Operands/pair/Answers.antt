-- `pair` meets its contract: the sums grow by the one half, and then by the other.
use Rattle.bracket.proofs.Pairing.{pair_grown}
use Rattle.bracket.proofs.Operands.pair.Goals as goal

pub returns-clause-grown : goal.returns-clause-grown
returns-clause-grown c =
    pair_grown c.requires c.half-more.ensures.grown c.half.ensures.grown
