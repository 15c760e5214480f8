-- `mark_beginnings` meets its contract. The invariant: the monomials of the series that have come and their beginnings
-- are marked, and the constant; the other series are left.
use Rattle.std.proofs.Common.{◌+◌, ◌-◌}
use Rattle.std.specs.Slice.Iter.{chunks_exact_rest, chunks_exact_size}
use Rattle.series.proofs.Chunks.{PartsLeft}
use Rattle.substitution.proofs.MarkingAll.{MarkedUpto}
use Rattle.substitution.proofs.marks.mark_beginnings.Given as goal

abbrev pub invariant-loop-part : goal.invariant-loop-part
invariant-loop-part l =
    let s = l.part-iterator in
    let z = l.t.z in record {
      left : PartsLeft (z.count + 1) l.components l.outer (l.components - s.n) s.n (chunks_exact_size s.iter)
          (chunks_exact_rest s.iter);
      marked : MarkedUpto z.n z.v z.count l.cols.marks l.outer l.initial.work l.work (l.components - s.n);
    }
