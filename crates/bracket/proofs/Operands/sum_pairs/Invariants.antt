-- `sum_pairs` meets its contract. The invariant: the pairs below k are added.
use Rattle.bracket.proofs.Pairing.{Adding}
use Rattle.bracket.proofs.Operands.sum_pairs.Given as goal

abbrev pub invariant-loop-k : goal.invariant-loop-k
invariant-loop-k l =
    let z = l.self.t.z in
    Adding z.n z.v z.count l.p l.self.a.now l.self.b.now l.initial.res l.initial.work l.res l.work l.pairs l.k
