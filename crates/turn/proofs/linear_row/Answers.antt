use Rattle.std.proofs.Common.{◌∙◌, ◌%◌, arith, length-set, get_or-set_other}
use Rattle.algebra.specs.Polynomial.{coefficient_of}
use Rattle.algebra.specs.Substitution.{unit_of}
use Rattle.linear.proofs.Stores.{store_more}
use Rattle.series.specs.Image.{polynomial}
use Rattle.substitution.proofs.Searching.{series-ascending}
use Rattle.turn.proofs.LinearRows.{stored_variable}
use Rattle.turn.proofs.linear_row.Goals as goal

pub coefficient_in-requires : goal.coefficient_in-requires
coefficient_in-requires c =
    series-ascending c.args.p c.args.t.z.count c.args.series.now c.requires.series

pub loop-j-preserved : goal.loop-j-preserved
loop-j-preserved c =
    let s = c.requires in
    let a = c.args in
    let l = c.loop-j in (
      simp length-set l.invariant.0,
      store_more l.r l.j _
          (λ k. coefficient_of (unit_of k) (polynomial a.t.z.n a.t.z.v a.series.now) % a.p)
          (omega (arith, l.invariant.0, c.args.t.right.right.allowed)) l.invariant.1
          (c.coefficient_in.ensures
          ∙ stored_variable c.args.t.right.N_is a.series.now s.series s.p_nonzero
          c.variable_position-place.ensures),
      λ k lk h.
          get_or-set_other l.r l.j k c.coefficient_in.result 0 (λ e. omega arith)
          ∙ l.invariant.2 k (omega arith) h,
    )
