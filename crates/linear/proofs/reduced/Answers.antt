use Rattle.std.proofs.Common.{◌≡◌, refl, [], ◌≤◌, get_or, add-one, arith}
use Rattle.linear.specs.Matrix.{at}
use Rattle.linear.specs.Elimination.{Reduced}
use Rattle.linear.proofs.Elimination.{reduced_start, reduced_step}
use Rattle.linear.proofs.reduced.Goals as goal
use Rattle.linear.proofs.reduced.Goals.{At-loop-n}

-- the row at the loop's head
state : (c : At-loop-n)
    → (let a = c.args in
    Reduced a.p a.v a.i c.loop-n.n a.m a.t
    c.loop-n.row c.loop-n.coefficients)
state c =
    let a = c.args in
    let pre = c.requires in
    c.loop-n.invariant a.m pre.table
    (reduced_start pre.small_prime.prime a.v a.i pre.v_bound pre.i_lt_v a.m a.t a.k
    (get_or a.m a.i []) c.unit_row-coefficients.result
    pre.held (λ x. refl) c.unit_row-coefficients.ensures)

pub overflow_sub-g : goal.overflow_sub-g
overflow_sub-g c =
    let n = c.loop-n.n in
    let below : at c.loop-n.row n ≤ c.args.p =
    omega (arith, (state (goal.at.overflow_sub-g c).At-loop-n).below_row n (omega arith)) in
    below

pub loop-n-preserved : goal.loop-n-preserved
loop-n-preserved c =
    let pre = c.requires in
    let a = c.args in
    let loop = c.loop-n in
    λ m T D.
    rw add-one
    (reduced_step pre.small_prime.prime a.v a.i pre.v_bound pre.i_lt_v m a.t a.k
    loop.n loop.row loop.coefficients c.combined-r.result
    c.combined-s.result (omega arith) T (loop.invariant m T D)
    c.combined-r.ensures c.combined-s.ensures)

pub returns : goal.returns
returns c =
    let e : c.loop-n.n ≡ c.args.v = omega arith in
    rw e at (state (goal.at.returns c).At-loop-n)
