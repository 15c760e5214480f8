-- The terms of order o behind the lists, and the ends carried, are lists of one order more.
use Rattle.std.proofs.Common.{rules}
use Rattle.growth.proofs.Growing.{grown}
use Rattle.growth.proofs.Growth.grow.Goals as goal

pub returns : goal.returns
returns c =
    search (rules, grown)
