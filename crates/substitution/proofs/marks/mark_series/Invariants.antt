-- `mark_series` meets its contract. The invariant: the entries that have come are marked.
use Rattle.substitution.proofs.SeriesMarks.{MarkedEntries}
use Rattle.substitution.proofs.marks.mark_series.Given as goal

abbrev pub invariant-loop-x : goal.invariant-loop-x
invariant-loop-x l =
    MarkedEntries l.t.z.n l.t.z.v l.t.z.count l.cols.marks l.series l.initial.work l.work l.x-index
