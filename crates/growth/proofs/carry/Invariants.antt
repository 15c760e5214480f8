-- The invariant: the lists before k are carried, and the rows of the others are as before.
use Rattle.growth.proofs.Carrying.{CarriedFirst}
use Rattle.growth.proofs.carry.Given as goal

abbrev pub invariant-loop-k : goal.invariant-loop-k
invariant-loop-k l =
    CarriedFirst l.z.n l.k l.o l.initial.ends l.ends
