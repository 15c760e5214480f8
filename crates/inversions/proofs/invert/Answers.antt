-- `invert` meets its contract: one of the first checks declines, or the linear part decides on 9, and the iteration
-- inverts.
use Rattle.checks.specs.Calls.{invert_call}
use Rattle.checks.proofs.RoomLaws.{sized, work_asks, work_is}
use Rattle.checks.proofs.InputLaws.{tested_sizes}
use Rattle.inversions.proofs.InvertCall.{all-passed, linear_asks, held}
use Rattle.inversions.proofs.InvertCall.{singular_says, iteration_asks, invert_finished}
use Rattle.std.proofs.Common.{rules}
use Rattle.inversions.proofs.invert.Goals as goal

pub linear_part-l-requires : goal.linear_part-l-requires
linear_part-l-requires c =
    let x = c.args in
    let g = linear_asks x.s x.table.now x.map.now x.res.now x.work.now (tested_sizes c.in_ok-t.ensures) c.prime-p.ensures in
    record { map = g.map; p_nonzero = g.positive }

pub invert-requires : goal.invert-requires
invert-requires c =
    let x = c.args in
    let d = tested_sizes c.in_ok-t.ensures in
    let i = c.prime-p.ensures in
    let g = linear_asks x.s x.table.now x.map.now x.res.now x.work.now d i in
    record {
      small_prime = g.small_prime;
      v_bound = g.few;
      held = held x.s x.table.now x.map.now x.res.now x.work.now d i c.linear_part-l.ensures;
    }

pub returns-in_err-m : goal.returns-in_err-m
unfolding invert_call
returns-in_err-m c =
    let x = c.args in
    let e = c.in_err-m.ensures in
    let h = singular_says x.s x.table.now x.map.now x.res.now x.work.now (tested_sizes c.in_ok-t.ensures) c.prime-p.ensures
    c.linear_part-l.ensures c.invert.ensures e.ok_part e.value in
    search (rules, h)

pub work_words-words-requires : goal.work_words-words-requires
work_words-words-requires c =
    let x = c.args in
    let d = tested_sizes c.in_ok-t.ensures in
    work_asks (sized (all-passed x.s x.table.now x.map.now x.res.now x.work.now d.says).roomy.allowed d.sized)

pub invert-requires-2 : goal.invert-requires-2
invert-requires-2 c =
    let x = c.args in
    let h = rw c.in_ok-m.ensures.ok_part at c.invert.ensures in
    rw c.in_ok-t.ensures.table.1
    (iteration_asks x.s x.table.now x.map.now x.res.now x.work.now (tested_sizes c.in_ok-t.ensures) c.prime-p.ensures
    c.linear_part-l.ensures h (work_is c.in_ok-t.ensures.table.0 c.work_words-words.ensures))

pub returns : goal.returns
returns c =
    let x = c.args in
    let h = rw c.in_ok-m.ensures.ok_part at c.invert.ensures in
    let r = c.invert-2 in
    invert_finished x.s x.table.now x.map.now x.res.now x.work.now (tested_sizes c.in_ok-t.ensures) c.prime-p.ensures
    c.linear_part-l.ensures h (work_is c.in_ok-t.ensures.table.0 c.work_words-words.ensures) r.auto.res (r.ensures.res_after, r.ensures.work_after)
