-- The invariant: the words of the parts before j are read.
use Rattle.std.proofs.Common.{◌≡◌, ℕ, ◌<◌, length}
use Rattle.linear.specs.Matrix.{at}
use Rattle.turn.specs.Vectors.{word_at}
use Rattle.turn.proofs.gather.Given as goal

abbrev pub invariant-loop-j : goal.invariant-loop-j
invariant-loop-j l =
    (length l.x ≡ 8)
    × ((k : ℕ) → k < l.j → at l.x k ≡ word_at l.z.count l.parts l.q k)
