use Rattle.std.proofs.Common.{◌+◌}
use Rattle.product.specs.Rows.{Rowed, place_with, value_with}
use Rattle.product.proofs.row.Given as goal

abbrev pub invariant-loop-k : goal.invariant-loop-k
invariant-loop-k l =
    Rowed l.r (place_with l.t l.initial.work l.h.d1 l.h.d2 l.cs) (value_with l.initial.work l.c (l.cs + l.r)) l.k l.initial.work l.work
