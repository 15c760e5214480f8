-- `add_all` meets its contract. The invariant: the parts before part i have grown by their multiples,
-- and no other word has changed. Below the least order every multiple is by 0.
use Rattle.walk.proofs.Parts.{AddedUpto}
use Rattle.walk.proofs.add_all.Given as goal

abbrev pub invariant-loop-i : goal.invariant-loop-i
invariant-loop-i l =
    AddedUpto l.s l.work l.q l.at l.first l.initial.res l.res l.i
