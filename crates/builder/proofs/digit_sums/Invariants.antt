-- The invariant: the sums of the codes below c are held, q has the digits of c above the lowest, r.
use Rattle.std.proofs.Common.{◌≡◌, ◌+◌, ◌*◌, ◌<◌, length}
use Rattle.builder.specs.Build.{DigitSums}
use Rattle.builder.proofs.digit_sums.Given as goal

abbrev pub invariant-loop-c : goal.invariant-loop-c
invariant-loop-c l =
    (l.c ≡ l.q * l.b + l.r) × (l.r < l.b) × (l.q < l.c) × (length l.ds ≡ 1331) × DigitSums l.b l.c l.ds
