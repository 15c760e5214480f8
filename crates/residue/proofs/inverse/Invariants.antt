-- The invariant: w times a is `rest`, modulo p. Each turn makes `rest` smaller, and p is prime, so
-- that it stays above 0.
use Rattle.std.proofs.Common.{◌≡◌, ◌*◌, ◌%◌, ◌<◌}
use Rattle.residue.proofs.inverse.Given as goal

abbrev pub invariant-loop-rest : goal.invariant-loop-rest
invariant-loop-rest l =
    (0 < l.rest) × (l.rest < l.p) × (l.w < l.p) × ((l.w * l.a) % l.p ≡ l.rest)

abbrev pub decreases-loop-rest : goal.decreases-loop-rest
decreases-loop-rest l =
    l.rest
