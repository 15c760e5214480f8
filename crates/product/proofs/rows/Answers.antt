use Rattle.std.proofs.Common.{arith}
use Rattle.product.proofs.AddRows.{rows_none, rows-entry, rows_more, rows-done}
use Rattle.product.proofs.rows.Goals as goal

pub loop-i-init : goal.loop-i-init
loop-i-init c =
    let a = c.args in
    rows_none a.t.z.n a.t.z.v a.t.z.count a.t.z.codes a.f.cut a.f.os a.f.cs a.t.words.now a.work.now a.f.ends.now
    a.s.at a.s.m a.from c.requires

pub entry_row-pairs-requires : goal.entry_row-pairs-requires
entry_row-pairs-requires c =
    let a = c.args in
    let l = c.loop-i in
    rows-entry a.t.z.n a.t.z.v a.t.z.count a.t.z.codes a.f.cut a.f.os a.f.cs a.t.words.now a.work.now a.f.ends.now
    a.s.at a.s.m a.from c.requires l.work l.pairs l.i l.invariant c.loop-i-test.true

pub loop-i-preserved : goal.loop-i-preserved
loop-i-preserved c =
    let a = c.args in
    let l = c.loop-i in
    let r = c.entry_row-pairs in
    rows_more a.t.z.n a.t.z.v a.t.z.count a.t.z.codes a.f.cut a.f.os a.f.cs a.t.words.now a.work.now a.f.ends.now
    a.s.at a.s.m a.from c.requires l.work l.pairs l.i l.invariant c.loop-i-test.true r.new.work r.result
    r.ensures

pub returns : goal.returns
returns c =
    let a = c.args in
    let l = c.loop-i in
    rows-done a.t.z.n a.t.z.v a.t.z.count a.t.z.codes a.f.cut a.f.os a.f.cs a.t.words.now a.work.now a.f.ends.now
    a.s.at a.s.m a.from c.requires l.work l.pairs l.i l.invariant (omega arith)
