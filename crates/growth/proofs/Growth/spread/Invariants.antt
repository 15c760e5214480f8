-- `spread` meets its contract. The invariant: the parts before part k are made, and all other words are as the
-- clearing left them.
use Rattle.growth.proofs.Spreading.{SpreadUpto}
use Rattle.growth.proofs.Growth.spread.Given as goal

abbrev pub invariant-loop-k : goal.invariant-loop-k
invariant-loop-k l =
    SpreadUpto l.self.t.z.n l.self.t.z.v l.self.t.z.count l.self.t.z.codes l.self.p l.self.t.words.now l.work l.ends l.initial.res l.res l.k
