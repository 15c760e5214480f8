-- `compose` meets its contract: each step is told what it asks by those before it (`Composed`).
use Rattle.std.proofs.Common.{refl}
use Rattle.composition.specs.Setup.{InnerListed, orders_at}
use Rattle.composition.proofs.Composed.{prepare_asks, list-asks, begin_asks}
use Rattle.composition.proofs.Composed.{plan_asks, node_asks, sums_ask, packing_asks, result_is, work_is}
use Rattle.composition.proofs.Planning.{laid}
use Rattle.composition.proofs.compose.Goals as goal
use Rattle.composition.proofs.compose.Goals.{After-list_all-ends}

-- the lists stand below the orders
listed : (c : After-list_all-ends) →
    let z = c.args.t.z in
    InnerListed z.n z.v z.count (orders_at z.v z.count) c.args.t.words.now c.args.inner.now
    c.prepare-at.new.work c.list_all-ends.new.work c.list_all-ends.result
listed c = rw c.prepare-at.ensures.regions.orders_is at c.list_all-ends.ensures

pub prepare-at-requires : goal.prepare-at-requires
prepare-at-requires c = prepare_asks c.requires

pub list_all-ends-requires : goal.list_all-ends-requires
list_all-ends-requires c =
    rw c.prepare-at.ensures.regions.orders_is
    (list-asks c.requires c.prepare-at.ensures.prepared)

pub begin_sums-requires : goal.begin_sums-requires
begin_sums-requires c = begin_asks c.requires

pub walk-requires-clause-laid : goal.walk-requires-clause-laid
walk-requires-clause-laid c = laid _ c.prepare-at.ensures.regions

pub walk-requires-clause-by_index : goal.walk-requires-clause-by_index
walk-requires-clause-by_index c =
    let e = c.prepare-at.ensures in
    let L = listed (goal.at.walk-requires-clause-by_index c).After-list_all-ends in
    (_, _, _, plan_asks _ e.regions refl refl refl c.requires e.prepared L)

pub walk-requires-clause-node : goal.walk-requires-clause-node
walk-requires-clause-node c =
    let e = c.prepare-at.ensures in
    let L = listed (goal.at.walk-requires-clause-node c).After-list_all-ends in
    (_, _, node_asks _ e.regions refl refl refl c.requires e.prepared L)

pub walk-requires-clause-by_index_2 : goal.walk-requires-clause-by_index_2
walk-requires-clause-by_index_2 c =
    let e = c.prepare-at.ensures in
    let L = listed (goal.at.walk-requires-clause-by_index_2 c).After-list_all-ends in
    (_, sums_ask _ e.regions refl refl refl c.requires e.prepared L c.begin_sums.ensures)

pub pack_all-requires : goal.pack_all-requires
pack_all-requires c =
    let e = c.prepare-at.ensures in
    let L = listed (goal.at.pack_all-requires c).After-list_all-ends in
    packing_asks _ e.regions refl refl refl c.requires e.prepared L c.begin_sums.ensures c.walk.ensures

pub returns-clause-res_after : goal.returns-clause-res_after
returns-clause-res_after c =
    let e = c.prepare-at.ensures in
    let L = listed (goal.at.returns-clause-res_after c).After-list_all-ends in
    result_is _ e.regions refl refl refl c.requires e.prepared L c.begin_sums.ensures c.walk.ensures
    c.pack_all.ensures

pub returns-clause-work_after : goal.returns-clause-work_after
returns-clause-work_after c =
    let e = c.prepare-at.ensures in
    let L = listed (goal.at.returns-clause-work_after c).After-list_all-ends in
    work_is _ e.regions refl refl refl c.requires e.prepared L c.begin_sums.ensures c.walk.ensures
    c.clear.ensures
