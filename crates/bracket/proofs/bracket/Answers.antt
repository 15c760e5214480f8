-- `bracket` meets its contract: each step is told what it asks by those before, as `Finishing` has
-- them.
use Rattle.std.proofs.Common.{ap, ◌∙◌, ◌+◌, drop}
use Rattle.bracket.proofs.Pairing.{left_behind}
use Rattle.bracket.proofs.Finishing.{pairs_ask, result_is, work_is}
use Rattle.bracket.proofs.bracket.Goals as goal

pub sum_pairs-requires : goal.sum_pairs-requires
sum_pairs-requires c =
    let q = c.requires in
    pairs_ask q.product_in q.lt_p c.fill_orders.ensures c.clear.ensures

pub returns-clause-res_after : goal.returns-clause-res_after
returns-clause-res_after c =
    let q = c.requires in
    let f = c.fill_orders.ensures in
    let s = c.sum_pairs.ensures in
    result_is q.product_in q.lt_p f c.clear.ensures s.summed c.compress.ensures _
    (ap (drop (c.args.t.z.count + 1)) s.res_after
    ∙ left_behind (pairs_ask q.product_in q.lt_p f c.clear.ensures))
    c.copy.ensures

pub returns-clause-work_after : goal.returns-clause-work_after
returns-clause-work_after c =
    let q = c.requires in
    work_is q.product_in q.lt_p c.fill_orders.ensures c.clear.ensures c.sum_pairs.ensures.summed
    c.compress.ensures c.clear-2.ensures
