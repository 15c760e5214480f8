use Rattle.std.proofs.Common.{◌≡◌, ap, ◌∙◌, ℕ, ◌+◌, ◌%◌, arith}
use Rattle.product.specs.Pairs.{sum_at}
use Rattle.product.proofs.Packing.{packing_none, packing_more, packing_finished_part, packing_few, entry_of-few}
use Rattle.product.proofs.SumsKept.{packing_sum}
use Rattle.product.proofs.compress.Goals as goal

pub loop-j-init : goal.loop-j-init
loop-j-init c =
    let a = c.args in
    packing_none a.work.now (λ q. sum_at a.work.now q % a.p) a.count a.at c.requires.1

pub put-i-requires-clause-c_in_bounds : goal.put-i-requires-clause-c_in_bounds
put-i-requires-clause-c_in_bounds c =
    let a = c.args in
    let l = c.loop-j in
    let f = packing_few a.work.now (λ q. sum_at a.work.now q % a.p) a.count a.at c.requires.1
    l.work l.i l.j l.invariant in
    omega (arith, f.1, l.invariant.size, entry_of-few (l.j + 1) c.residue_at-c.result)

pub loop-j-preserved : goal.loop-j-preserved
loop-j-preserved c =
    let a = c.args in
    let l = c.loop-j in
    let e = c.put-i.ensures in
    packing_more a.work.now (λ q. sum_at a.work.now q % a.p) a.count a.at c.requires.1
    l.work c.put-i.new.res l.i c.put-i.result l.j c.residue_at-c.result l.invariant
    c.loop-j-test.true
    (c.residue_at-c.ensures.0
    ∙ ap (λ (x : ℕ). x % a.p)
    (packing_sum a.work.now (λ q. sum_at a.work.now q % a.p) a.count a.at l.work l.i l.j
    c.requires.0 c.requires.1 l.invariant c.loop-j-test.true))
    e.value e.res_after

pub finish-requires-clause-at_bound : goal.finish-requires-clause-at_bound
finish-requires-clause-at_bound c =
    let a = c.args in
    let l = c.loop-j in
    let f = packing_few a.work.now (λ q. sum_at a.work.now q % a.p) a.count a.at c.requires.1
    l.work l.i l.j l.invariant in
    omega (arith, f.1)

pub returns : goal.returns
returns c =
    let a = c.args in
    let l = c.loop-j in
    let e : l.j ≡ a.count = omega arith in
    packing_finished_part a.work.now (λ q. sum_at a.work.now q % a.p) a.count a.at c.requires.1
    l.work l.i (rw e at l.invariant) c.finish.new.res c.finish.ensures
