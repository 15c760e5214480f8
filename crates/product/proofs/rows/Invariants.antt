-- `rows` meets its contract. The invariant: the rows of the first i entries are added.
use Rattle.product.proofs.AddRows.{Rows}
use Rattle.product.proofs.rows.Given as goal

abbrev pub invariant-loop-i : goal.invariant-loop-i
invariant-loop-i l =
    let z = l.t.z in
    Rows z.n z.v z.count l.f.cut l.f.cs l.initial.work l.f.ends.now l.s.at l.s.m l.from l.work l.pairs l.i
