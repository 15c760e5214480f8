-- The invariant: t and k are the table after i rows. A row of which nothing is left gives the
-- answer for a singular matrix; after v rows the table is full, and k is the inverse.
use Rattle.linear.specs.Elimination.{Table}
use Rattle.linear.proofs.invert.Given as goal

abbrev pub invariant-loop-i : goal.invariant-loop-i
invariant-loop-i l =
    Table l.p l.v l.i l.m l.t l.k
