-- Three loops, left at the first fault. The arguments, the components and the words before the ones
-- in hand passed, so the fault that is found is the first.
use Rattle.std.proofs.Common.{◌≡◌, ℕ, ◌+◌, ◌<◌, Ok, drop}
use Rattle.std.specs.Slice.Iter.{chunks_exact_rest, chunks_exact_size}
use Rattle.answer.specs.Refusals.{passed}
use Rattle.series.specs.Faults.{first_fault}
use Rattle.series.specs.Arguments.{arguments_check}
use Rattle.series.proofs.Chunks.{PartsLeft}
use Rattle.faults.proofs.CodeArguments.{scan, component_check, argument}
use Rattle.faults.proofs.check.image_check.Given as goal

abbrev pub invariant-loop-k : goal.invariant-loop-k
invariant-loop-k l =
    (l.answer ≡ Ok tt) × (scan l.f.p l.f.count l.m l.k l.prev l.part ≡ first_fault l.f.p l.f.count l.part)

abbrev pub invariant-loop-component : goal.invariant-loop-component
invariant-loop-component l =
    let s = l.component-iterator in
    let parts = s.iter.iter in
    let words = (argument l.arguments l.argument).0.now in
    record {
      none : l.answer ≡ Ok tt;
      left : PartsLeft (l.f.count + 1) l.components words s.count s.iter.n (chunks_exact_size parts)
          (chunks_exact_rest parts);
      earlier : (x : ℕ) → x < s.count
          → component_check l.f.p l.f.count (l.argument + 1) words x ≡ passed;
    }

abbrev pub invariant-arguments : goal.invariant-arguments
invariant-arguments l =
    let check = arguments_check l.f.p l.f.count in
    (l.answer ≡ Ok tt) × (check 1 l.arguments ≡ check (l.argument + 1) (drop l.argument l.arguments))
