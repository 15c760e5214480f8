-- `list_all` meets its contract. The invariant: the first components, as many as have come, are listed, and the
-- others are left.
use Rattle.std.proofs.Common.{◌+◌}
use Rattle.std.specs.Slice.Iter.{chunks_exact_rest, chunks_exact_size}
use Rattle.series.proofs.Chunks.{PartsLeft}
use Rattle.composition.proofs.Listing.{ListedUpto}
use Rattle.composition.proofs.setup.list_all.Given as goal

abbrev pub invariant-loop-k : goal.invariant-loop-k
invariant-loop-k l =
    let s = l.k-iterator in
    let parts = s.iter.iter in record {
      left : PartsLeft (l.t.z.count + 1) l.t.z.v l.inner s.count s.iter.n (chunks_exact_size parts)
          (chunks_exact_rest parts);
      listed : ListedUpto l.t.z.n l.t.z.v l.t.z.count l.orders l.t.words.now l.inner l.initial.work
          l.work l.ends s.count;
    }
