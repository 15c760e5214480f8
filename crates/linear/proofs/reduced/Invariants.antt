-- The invariant: the rows of the table before n are taken out of the row. The loop no longer sees
-- m, so it is said of any matrix that the row and its coefficients started from.
use Rattle.linear.specs.Matrix.{Matrix}
use Rattle.linear.specs.Elimination.{Table, Reduced}
use Rattle.linear.proofs.reduced.Given as goal

abbrev pub invariant-loop-n : goal.invariant-loop-n
invariant-loop-n l =
    (m : Matrix) → Table l.p l.v l.i m l.t l.k
    → Reduced l.p l.v l.i 0 m l.t l.initial.row l.initial.coefficients
    → Reduced l.p l.v l.i l.n m l.t l.row l.coefficients
