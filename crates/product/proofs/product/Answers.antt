-- `product` meets its contract: each step is told what it asks by the step before, as `Whole` has them.
use Rattle.std.proofs.Common.{refl}
use Rattle.product.proofs.Whole.{sort_asks, multiply_asks, Handed, handed}
use Rattle.product.proofs.product.Goals as goal
use Rattle.product.proofs.product.Goals.{After-multiply-pairs}

-- what the multiplication leaves
left : (c : After-multiply-pairs) →
    Handed c.args.t.z.n c.args.t.z.v c.args.t.z.count c.args.words c.args.p c.args.a.now
    c.args.b.now c.args.res.now c.args.work.now c.multiply-pairs.new.work c.multiply-pairs.result
left c =
    let x = c.args in
    let z = x.t.z in
    let f = c.fill_orders in
    let u = c.sort-ends in
    let m = c.multiply-pairs in
    let e = c.whole.ensures in
    handed z.n z.v z.count z.codes x.words x.p x.t.words.now x.a.now x.b.now x.res.now x.work.now
    c.requires f.new.work f.ensures u.new.work u.result u.ensures c.copy.new.work
    _ c.copy.ensures refl m.new.work m.result (rw (e.0, e.2, e.3) at m.ensures)

pub multiply-pairs-requires : goal.multiply-pairs-requires
multiply-pairs-requires c =
    let x = c.args in
    let z = x.t.z in
    let f = c.fill_orders in
    let u = c.sort-ends in
    let e = c.whole.ensures in
    rw (c.copy.ensures, e.0, e.1, e.2, e.3)
    (multiply_asks z.n z.v z.count z.codes x.words x.p x.t.words.now x.a.now x.b.now x.res.now
    x.work.now c.requires f.new.work f.ensures u.new.work u.result u.ensures)

pub sort-ends-requires : goal.sort-ends-requires
sort-ends-requires c =
    let x = c.args in
    let z = x.t.z in
    let f = c.fill_orders in
    sort_asks z.n z.v z.count z.codes x.words x.p x.t.words.now x.a.now x.b.now x.res.now x.work.now
    c.requires f.new.work f.ensures

pub returns-clause-value : goal.returns-clause-value
returns-clause-value c = (left (goal.at.returns-clause-value c).After-multiply-pairs).pairs_are

pub returns-clause-res_after : goal.returns-clause-res_after
returns-clause-res_after c =
    (left (goal.at.returns-clause-res_after c).After-multiply-pairs).result_is c.copy-2.new.work
    c.copy-2.ensures

pub returns-clause-work_after : goal.returns-clause-work_after
returns-clause-work_after c =
    (left (goal.at.returns-clause-work_after c).After-multiply-pairs).work_is c.clear.new.s
    c.clear.ensures
