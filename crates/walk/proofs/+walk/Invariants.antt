-- `walk` meets its contract. What falls is the number of letters left. The invariant: the sums have
-- grown by what the letters from l to before k add, and what the plan speaks of is as before.
use Rattle.walk.proofs.Turns.{Inside}
use Rattle.walk.proofs.+walk.Given as goal

abbrev pub decreases-walk : goal.decreases-walk
decreases-walk l = l.left

abbrev pub invariant-loop-k : goal.invariant-loop-k
invariant-loop-k l =
    Inside l.s l.q l.l l.at l.left l.initial.work l.work l.initial.res l.res l.k
