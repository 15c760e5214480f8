-- `climb` meets its contract. The invariant: the monomial of x is marked, with its beginnings that
-- are longer than the one at position q. The measure is the order of that one.
use Rattle.algebra.specs.Polynomial.{order}
use Rattle.series.specs.Image.{monomial_at}
use Rattle.substitution.proofs.Marking.{Climbing}
use Rattle.substitution.proofs.marks.climb.Given as goal

abbrev pub invariant-loop-work : goal.invariant-loop-work
invariant-loop-work l =
    Climbing l.t.z.n l.t.z.v l.t.z.count l.ms l.x l.initial.work l.work l.q

abbrev pub decreases-loop-work : goal.decreases-loop-work
decreases-loop-work l =
    order (monomial_at l.t.z.n l.t.z.v l.q)
