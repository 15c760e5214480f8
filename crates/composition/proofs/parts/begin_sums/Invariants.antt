-- `begin_sums` meets its contract. The invariant: the parts of the outer series that have come have their constants,
-- the others are zeros, and the other outer series are left.
use Rattle.std.proofs.Common.{◌+◌, ◌*◌, drop}
use Rattle.std.specs.Slice.Iter.{chunks_exact_rest, chunks_exact_size}
use Rattle.series.specs.Image.{entries, coefficient_at}
use Rattle.series.proofs.Chunks.{PartsLeft}
use Rattle.composition.specs.Parts.{nth_part}
use Rattle.composition.proofs.Filling.{BegunUpto}
use Rattle.composition.proofs.parts.begin_sums.Given as goal

abbrev pub invariant-loop-i : goal.invariant-loop-i
invariant-loop-i l =
    let s = l.i-iterator in
    let parts = s.iter.iter in record {
      left : PartsLeft (l.count + 1) l.components l.outer s.count s.iter.n (chunks_exact_size parts)
          (chunks_exact_rest parts);
      begun : BegunUpto (λ j. coefficient_at (entries (nth_part l.count j l.outer)) 1) l.count l.components
          (drop (l.components * (l.count + 1)) l.fn.res) l.res s.count;
    }
