use Rattle.std.proofs.Common.{ℕ, ◌+◌, ◌-◌, ◌<◌, arith, length}
use Rattle.walk.proofs.Turns.{none_left, inside_start, inside_end}
use Rattle.walk.proofs.Turns.{mark_inside, step_asks, walk-asks, inside_skip, inside_enter}
use Rattle.walk.proofs.+walk.Goals as goal
use Rattle.walk.proofs.+walk.Goals.{After-child-c, then-work-s-ge11+then-left-gt1}
use Rattle.walk.proofs.+walk.Goals.{then-work-s-ge11+else-left-gt1, else-work-s-ge11}

-- the mark of the longer monomial lies inside the work slice
mark_in : (t : ℕ) (c : After-child-c t) → c.args.s.now.columns.marks + c.child-c.result < length c.loop-k.work
mark_in t c =
    let g = c.requires in
    mark_inside g.laid c.loop-k.invariant c.loop-k-test.true g.by_index.3 g.node.2 g.by_index_2.1
    c.child-c.result c.child-c.ensures

pub returns-then-left-eq0 : goal.returns-then-left-eq0
returns-then-left-eq0 t c =
    let a = c.args in
    none_left a.s.now a.q a.l a.at a.left
    a.work.now a.res.now c.if-left-eq0.true

pub loop-k-init : goal.loop-k-init
loop-k-init t c =
    let a = c.args in
    inside_start a.s.now a.q a.l a.at a.left
    a.work.now a.res.now c.if-left-eq0.false c.requires.l_le_v

pub overflow_add-s : goal.overflow_add-s
overflow_add-s t c =
    omega (arith, mark_in t (goal.at.overflow_add-s t c).After-child-c)

pub offset_bounds-work-s : goal.offset_bounds-work-s
offset_bounds-work-s t c =
    omega (arith, mark_in t (goal.at.offset_bounds-work-s t c).After-child-c)

pub bounds-work-s : goal.bounds-work-s
bounds-work-s t c =
    mark_in t (goal.at.bounds-work-s t c).After-child-c

pub step-requires-clause-by_index : goal.step-requires-clause-by_index
step-requires-clause-by_index t c =
    let g = c.requires in
    let d = c.child-c in
    (step_asks g.laid c.loop-k.invariant c.loop-k-test.true g.by_index.3 g.node.2 g.by_index_2.1
    d.result d.ensures).1.0

pub step-requires-clause-step_in : goal.step-requires-clause-step_in
step-requires-clause-step_in t c =
    let g = c.requires in
    let d = c.child-c in
    (step_asks g.laid c.loop-k.invariant c.loop-k-test.true g.by_index.3 g.node.2 g.by_index_2.1
    d.result d.ensures).1.1.0

pub step-requires-clause-by_index_2 : goal.step-requires-clause-by_index_2
step-requires-clause-by_index_2 t c =
    let g = c.requires in
    let d = c.child-c in
    (step_asks g.laid c.loop-k.invariant c.loop-k-test.true g.by_index.3 g.node.2 g.by_index_2.1
    d.result d.ensures).1.1.1

pub walk-requires : goal.walk-requires
walk-requires t c =
    let g = c.requires in
    let L = c.loop-k in
    let d = c.child-c in (
      omega (arith, c.decreases, L.invariant.some),
      walk-asks g.laid L.invariant c.loop-k-test.true g.by_index.3 g.node.2 g.by_index_2.1
          d.result d.ensures c.step.ensures,
    )

pub loop-k-preserved : goal.loop-k-preserved
loop-k-preserved t c =
    let g = c.requires in
    let L = c.loop-k in
    let d = c.child-c in
    elim c.if-work-s-ge11.branch [
      | then-work-s-ge11+then-left-gt1 w ↦
          rw (w.work-is, w.res-is)
          (inside_enter g.laid L.invariant c.loop-k-test.true g.by_index.3 g.node.2 g.by_index_2.1
          d.result d.ensures w.if-work-s-ge11.true w.step.ensures w.walk.ensures)
      | then-work-s-ge11+else-left-gt1 w ↦
          let a = c.args in
          rw (w.work-is, w.res-is)
          (inside_enter g.laid L.invariant c.loop-k-test.true g.by_index.3 g.node.2 g.by_index_2.1
          d.result d.ensures w.if-work-s-ge11.true w.step.ensures
          (none_left a.s.now d.result L.k (a.at - (a.s.now.t.z.count + 1)) (a.left - 1)
          w.step.new.work w.step.new.res (omega (arith, w.if-left-gt1.false))))
      | else-work-s-ge11 w ↦
          rw (w.work-is, w.res-is)
          (inside_skip g.laid L.invariant c.loop-k-test.true d.result d.ensures
          w.if-work-s-ge11.false)
    ]

pub returns : goal.returns
returns t c =
    inside_end c.requires.laid c.loop-k.invariant c.loop-k-test.false
