-- `add_listed` meets its contract. The invariant: after j entries each word has grown by those of the first j
-- coefficients whose codes lead to it, modulo p.
use Rattle.growth.specs.Spreading.{AddedListed}
use Rattle.growth.proofs.Growth.add_listed.Given as goal

abbrev pub invariant-loop-j : goal.invariant-loop-j
invariant-loop-j l =
    AddedListed l.self.t.z.count l.self.t.z.codes l.cs l.j l.self.p l.self.t.words.now l.work l.initial.part l.part
