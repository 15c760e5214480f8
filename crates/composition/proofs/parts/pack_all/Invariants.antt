-- `pack_all` meets its contract. The invariant: the first i parts are packed, and the rest of the
-- result is as before.
use Rattle.std.proofs.Common.{◌+◌}
use Rattle.composition.specs.Parts.{nth_part, packed_words}
use Rattle.composition.proofs.Filling.{FilledUpto}
use Rattle.composition.proofs.parts.pack_all.Given as goal

abbrev pub invariant-loop-i : goal.invariant-loop-i
invariant-loop-i l =
    FilledUpto (λ j. packed_words l.count (nth_part l.count j l.initial.res)) (l.count + 1)
    l.components l.initial.res l.res l.i
