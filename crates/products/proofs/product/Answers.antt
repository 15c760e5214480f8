-- `product` meets its contract: where the checks pass the core's requires hold, and it leaves what the core writes.
use Rattle.checks.proofs.RoomLaws.{sized, work_asks, work_is}
use Rattle.checks.proofs.InputLaws.{tested_sizes}
use Rattle.products.proofs.ProductCall.{all-passed, pair_ready, product-finished}
use Rattle.products.proofs.product.Goals as goal

pub work_words-words-requires : goal.work_words-words-requires
work_words-words-requires c =
    let x = c.args in
    let d = tested_sizes c.in_ok-t.ensures in
    work_asks (sized (all-passed x.s x.table.now x.a.now x.b.now x.res.now x.work.now d.says).roomy.allowed d.sized)

pub product-pairs-requires : goal.product-pairs-requires
product-pairs-requires c =
    let x = c.args in
    let d = tested_sizes c.in_ok-t.ensures in
    rw c.in_ok-t.ensures.table.1
    (pair_ready x.s x.table.now x.a.now x.b.now x.res.now x.work.now d.sized (work_is c.in_ok-t.ensures.table.0 c.work_words-words.ensures) c.prime-p.ensures
    (all-passed x.s x.table.now x.a.now x.b.now x.res.now x.work.now d.says))

pub returns : goal.returns
returns c =
    let x = c.args in
    let m = c.product-pairs.ensures in
    product-finished x.s x.table.now x.a.now x.b.now x.res.now x.work.now
    (tested_sizes c.in_ok-t.ensures) (work_is c.in_ok-t.ensures.table.0 c.work_words-words.ensures) c.prime-p.ensures (m.value, (m.res_after, m.work_after))
