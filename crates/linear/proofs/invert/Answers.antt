use Rattle.std.proofs.Common.{◌≡◌, add-one, arith}
use Rattle.residue.proofs.Inverses.{prime_positive}
use Rattle.linear.proofs.Stores.{element-zeros}
use Rattle.linear.proofs.Elimination.{empty_table, nothing_left}
use Rattle.linear.proofs.Filing.{filed_table}
use Rattle.linear.proofs.Answers.{regular-answer}
use Rattle.linear.proofs.invert.Goals as goal

pub loop-i-init : goal.loop-i-init
loop-i-init c =
    let a = c.args in
    empty_table a.p a.v (prime_positive c.requires.small_prime.prime) c.requires.v_bound a.m _ _
    (element-zeros 8 8) (element-zeros 8 8)

pub returns-in_err-j : goal.returns-in_err-j
returns-in_err-j c =
    let line = c.reduced-line in
    rw c.from_residual.ensures
    (nothing_left c.requires.small_prime.prime c.args.v c.loop-i.i c.requires.v_bound (omega arith)
    c.args.m c.loop-i.t c.loop-i.k line.result.row line.result.coefficients line.ensures
    c.in_err-j.ensures)

pub loop-i-preserved : goal.loop-i-preserved
loop-i-preserved c =
    let a = c.args in
    let line = c.reduced-line in
    let pivot = c.divided-pivot in
    rw add-one
    (filed_table a.p a.v c.loop-i.i c.in_ok-j.j
    (prime_positive c.requires.small_prime.prime) c.requires.v_bound (omega arith)
    c.in_ok-j.ensures.0
    a.m c.loop-i.t c.loop-i.k c.filed-t2.result c.filed-k2.result
    line.result.row line.result.coefficients pivot.result.row pivot.result.coefficients
    c.loop-i.invariant line.ensures pivot.ensures c.filed-t2.ensures c.filed-k2.ensures)

pub returns : goal.returns
returns c =
    let e : c.loop-i.i ≡ c.args.v = omega arith in
    regular-answer c.requires.small_prime.prime (rw e at c.loop-i.invariant)
