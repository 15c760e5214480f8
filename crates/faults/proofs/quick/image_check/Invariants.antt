-- The invariant: the arguments before the one in hand pass.
use Rattle.std.proofs.Common.{◌≡◌, ◌+◌, drop}
use Rattle.series.specs.Arguments.{arguments_check}
use Rattle.faults.proofs.quick.image_check.Given as goal

abbrev pub invariant-loop-words : goal.invariant-loop-words
invariant-loop-words l =
    let check = arguments_check l.f.p l.f.count in
    check 1 l.arguments ≡ check (l.words-index + 1) (drop l.words-index l.arguments)
