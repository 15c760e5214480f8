-- `add_by` meets its contract. The invariant: the entries that have come, from number `first` on, are added.
use Rattle.std.proofs.Common.{◌+◌}
use Rattle.substitution.proofs.Adding.{AddedUpto}
use Rattle.substitution.proofs.accumulate.add_by.Given as goal

abbrev pub invariant-loop-w : goal.invariant-loop-w
invariant-loop-w l =
    AddedUpto l.initial.res l.work l.at l.first l.c l.p l.res (l.first + l.w-index)
