-- The invariant: the rows of the components that have come are read, zeros follow, and the other components are left.
use Rattle.std.proofs.Common.{◌+◌}
use Rattle.std.specs.Slice.Iter.{chunks_exact_rest, chunks_exact_size}
use Rattle.series.proofs.Chunks.{PartsLeft}
use Rattle.turn.proofs.LinearRows.{LinearUpto}
use Rattle.turn.proofs.linear_part.Given as goal

abbrev pub invariant-loop-i : goal.invariant-loop-i
invariant-loop-i l =
    let s = l.i-iterator in
    let parts = s.iter.iter in record {
      left : PartsLeft (l.t.z.count + 1) l.t.z.v l.map s.count s.iter.n (chunks_exact_size parts)
          (chunks_exact_rest parts);
      rows : LinearUpto l.p l.t.z.n l.t.z.v l.map l.m s.count;
    }
