use Rattle.std.proofs.Common.{sym, subst}
use Rattle.substitution.proofs.Marking.{Climbing, climb_start}
use Rattle.substitution.proofs.Marking.{climb_less, climb_step, climb_done}
use Rattle.substitution.proofs.marks.climb.Goals as goal

pub loop-work-init : goal.loop-work-init
loop-work-init c =
    let a = c.args in
    subst (Climbing a.t.z.n a.t.z.v a.t.z.count a.ms a.x a.work.now a.work.now)
    (sym c.position-q.ensures.0)
    (climb_start a.t.right a.ms a.x a.g c.requires.x_value a.work.now
    c.requires.marks.1.inside
    c.requires.bound.0 c.requires.bound.1 c.requires.marks.1)

pub loop-work-smaller : goal.loop-work-smaller
loop-work-smaller c =
    let a = c.args in
    climb_less a.t.right a.ms a.x a.g c.requires.x_value a.work.now
    c.requires.marks.1.inside
    c.loop-work.work c.loop-work.q c.loop-work.invariant c.loop-work-test.true
    c.shorter-q.result c.shorter-q.ensures

pub loop-work-preserved : goal.loop-work-preserved
loop-work-preserved c =
    let a = c.args in
    climb_step a.t.right a.ms a.x a.g c.requires.x_value a.work.now
    c.requires.marks.1.inside
    c.loop-work.work c.loop-work.q c.loop-work.invariant c.loop-work-test.true
    c.shorter-q.result c.shorter-q.ensures

pub returns : goal.returns
returns c =
    let a = c.args in
    climb_done a.t.right a.ms a.x a.g c.requires.x_value a.work.now
    c.requires.marks.1.inside
    c.loop-work.work c.loop-work.q c.loop-work.invariant c.loop-work-test.false
