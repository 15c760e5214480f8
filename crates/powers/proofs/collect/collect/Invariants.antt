-- `collect` meets its contract. The invariant: the rows of the first i entries are done.
use Rattle.std.proofs.Common.{List, ℕ}
use Rattle.powers.specs.Collecting.{CollectIn}
use Rattle.powers.proofs.CollectingRows.{Rows}
use Rattle.powers.proofs.collect.collect.Given as goal

abbrev pub invariant-loop-i : goal.invariant-loop-i
invariant-loop-i l =
    (lo : ℕ) (ys : List ℕ)
    → CollectIn l.t.z.n l.t.z.v l.t.z.count l.t.z.codes lo l.f.cut l.f.os l.f.cs l.t.words.now l.initial.work
    l.f.ends.now l.s.at l.s.m l.dst l.p ys
    → Rows l.t.z.n l.t.z.v l.t.z.count lo l.f.cut l.dst l.p ys l.initial.work l.s.at l.s.m l.work l.e l.i
