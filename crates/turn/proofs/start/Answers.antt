use Rattle.std.proofs.Common.{◌≡◌, arith}
use Rattle.turn.proofs.Starting.{StartedUpto, started_none, started_self, started_since}
use Rattle.turn.proofs.Starting.{started_more, started_all}
use Rattle.turn.proofs.start.Goals as goal
use Rattle.turn.proofs.start.Goals.{After-clear}

-- the words once all parts are cleared
cleared : (d : After-clear) →
    let a = d.args in
    StartedUpto a.p a.t.z.n a.t.z.v a.t.z.count a.res.now d.clear.new.s 0
cleared d =
    let a = d.args in
    started_none a.p a.t.z.n a.t.z.v a.t.z.count a.res.now d.requires.p_nonzero.1
    d.clear.new.s d.clear.ensures

pub loop-j-init : goal.loop-j-init
loop-j-init c = started_self (cleared (goal.at.loop-j-init c).After-clear)

pub loop-j-preserved : goal.loop-j-preserved
loop-j-preserved c =
    let d = (goal.at.loop-j-preserved c).After-clear in
    let a = c.args in
    started_more a.p a.t.z.n a.t.z.v a.t.z.count _ (omega (arith, (cleared d).size, c.requires.p_nonzero.1))
    c.args.t.right.N_is (omega arith) c.loop-j.invariant c.variable_position-q.ensures

pub returns : goal.returns
returns c =
    let d = (goal.at.returns c).After-clear in
    let a = c.args in
    let e : c.loop-j.j ≡ a.t.z.v = omega arith in
    started_all a.p a.t.z.n a.t.z.v a.t.z.count a.res.now c.requires.p_nonzero.1 c.args.t.right.N_is
    c.requires.p_nonzero.0 (started_since (cleared d) (rw e at c.loop-j.invariant))
