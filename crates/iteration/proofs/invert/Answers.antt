-- `invert` meets its contract: lists without entries grow into the inverse, which is written as images
-- (`Iterating`).
use Rattle.iteration.proofs.Iterating.{prepare_asks, task, turns-ask, packing}
use Rattle.iteration.proofs.Iterating.{result_is, work_is}
use Rattle.iteration.proofs.invert.Goals as goal

pub prepare-at-requires : goal.prepare-at-requires
prepare-at-requires c = prepare_asks c.requires

pub all-requires-clause-task : goal.all-requires-clause-task
all-requires-clause-task c = task c.requires c.negated-neg.ensures

pub all-requires-clause-turn_in : goal.all-requires-clause-turn_in
all-requires-clause-turn_in c =
    turns-ask c.requires c.negated-neg.ensures c.prepare-at.ensures.prepared

pub pack_all-requires : goal.pack_all-requires
pack_all-requires c =
    packing c.requires c.negated-neg.ensures c.prepare-at.ensures.prepared c.all.ensures
    c.spread.ensures

pub returns-clause-res_after : goal.returns-clause-res_after
returns-clause-res_after c =
    result_is c.requires c.negated-neg.ensures c.prepare-at.ensures.prepared c.all.ensures
    c.spread.ensures c.pack_all.ensures

pub returns-clause-work_after : goal.returns-clause-work_after
returns-clause-work_after c =
    work_is c.requires c.negated-neg.ensures c.prepare-at.ensures.prepared c.all.ensures
    c.clear.ensures
