-- The invariant: the coefficients of the variables before j are read, and zeros follow.
use Rattle.std.proofs.Common.{◌≡◌, ℕ, ◌%◌, ◌<◌, ◌≤◌, length}
use Rattle.algebra.specs.Polynomial.{coefficient_of}
use Rattle.algebra.specs.Substitution.{unit_of}
use Rattle.linear.specs.Matrix.{at}
use Rattle.series.specs.Image.{polynomial}
use Rattle.turn.proofs.linear_row.Given as goal

abbrev pub invariant-loop-j : goal.invariant-loop-j
invariant-loop-j l =
    (length l.r ≡ 8)
    × ((k : ℕ) → k < l.j → at l.r k ≡ coefficient_of (unit_of k) (polynomial l.t.z.n l.t.z.v l.series) % l.p)
    × ((k : ℕ) → l.j ≤ k → k < 8 → at l.r k ≡ 0)
