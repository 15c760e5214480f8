-- `multiply` meets its contract: the sums are cleared, the rows added, the sums written as an image.
use Rattle.product.proofs.Multiplying.{listed1, rows-ask, multiplied}
use Rattle.product.proofs.multiply.Goals as goal

pub rows-pairs-requires : goal.rows-pairs-requires
rows-pairs-requires c =
    let a = c.args in
    let z = a.t.z in
    rw c.clear.ensures (rows-ask z.n z.v z.count z.codes a.f.cut a.f.os a.f.cs a.t.words.now a.work.now
    a.f.ends.now a.s.at a.s.m a.dst a.p c.requires)

pub returns : goal.returns
returns c =
    λ ys l.
    let a = c.args in
    let z = a.t.z in
    let r = c.rows-pairs in
    let e = c.clear.ensures in
    multiplied z.n z.v z.count z.codes a.f.cut a.f.os a.f.cs a.t.words.now a.work.now a.f.ends.now a.s.at
    a.s.m a.dst a.p c.requires r.new.work r.result c.compress.new.work ys l
    (rw e at (r.ensures ys (rw e (listed1 z.n z.v z.count z.codes a.f.cut a.f.os a.f.cs a.t.words.now
    a.work.now a.f.ends.now a.s.at a.s.m a.dst a.p c.requires ys l))))
    c.compress.ensures
