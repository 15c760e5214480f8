-- The invariant: the coefficients of the components before k are listed.
use Rattle.growth.proofs.Appends.{Part}
use Rattle.growth.proofs.Growth.append_all.Given as goal

abbrev pub invariant-loop-k : goal.invariant-loop-k
invariant-loop-k l =
    Part l.self.t.z.n l.self.t.z.v l.self.t.z.count l.o l.q l.k l.y l.initial.work l.work l.initial.ends l.ends
