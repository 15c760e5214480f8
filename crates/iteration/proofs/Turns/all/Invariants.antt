-- The invariant: the listed map undoes the given one up to order cut - 1, the words behind `result`
-- are as before, and the work slice stays prepared (`TurnsMade`).
use Rattle.std.proofs.Common.{◌-◌}
use Rattle.iteration.specs.Turning.{TurnsMade}
use Rattle.iteration.proofs.Turns.all.Given as goal

abbrev pub invariant-loop-cut : goal.invariant-loop-cut
invariant-loop-cut l =
    TurnsMade l.self.g.t.z.n l.self.g.t.z.v l.self.g.t.z.count l.self.g.t.z.codes (l.cut - 1) l.self.g.p
    l.self.g.t.words.now l.self.map.now l.self.g.starts.now l.ends l.initial.res l.res l.initial.work l.work
