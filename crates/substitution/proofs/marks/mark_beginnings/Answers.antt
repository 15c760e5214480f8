use Rattle.std.proofs.Common.{◌≡◌, refl, ◌+◌, ◌-◌, ◌<◌, ◌∙◌, arith, set}
use Rattle.series.specs.Image.{component}
use Rattle.series.proofs.Chunks.{parts-none, part_next, parts_more, parts-all}
use Rattle.substitution.proofs.Marking.{outside_refl}
use Rattle.substitution.proofs.SeriesMarks.{orders_kept}
use Rattle.substitution.proofs.MarkingAll.{MarkedUpto, marked_since, count-some}
use Rattle.substitution.proofs.MarkingAll.{marked_none, marked_more, marked_all}
use Rattle.substitution.proofs.MarkingAll.{outer-inside, outer-series, part-is}
use Rattle.substitution.proofs.marks.mark_beginnings.Goals as goal
use Rattle.substitution.proofs.marks.mark_beginnings.Goals.{After-clear, In-Some}

-- the words when only the constant is marked
start : (c : After-clear) →
    let a = c.args in
    MarkedUpto a.t.z.n a.t.z.v a.t.z.count a.cols.marks a.outer.now a.work.now
    (set c.clear.new.s (a.cols.marks + 1) 11) 0
start c =
    let a = c.args in
    marked_none c.args.t.right a.cols.marks a.outer.now a.work.now c.clear.new.s
    c.requires.count_in_bounds c.clear.ensures

-- the part that comes is the next component
more : (c : In-Some) → c.args.components - c.loop-part.part-iterator.n < c.args.components
more c = omega (arith, c.in-Some.ensures.steps.1, c.loop-part.invariant.left.left_is)

next : (c : In-Some) →
    let a = c.args in
    c.in-Some.part.now ≡ component a.t.z.n a.t.z.v (a.components - c.loop-part.part-iterator.n) a.outer.now
next c =
    let d = c.in-Some.ensures.steps.0.1 in
    part_next c.loop-part.invariant.left _ _ d.0 d.1
    ∙ part-is c.args.t.right c.requires.outer _ (more c)

pub bounds-work-cols : goal.bounds-work-cols
bounds-work-cols c =
    omega (arith, c.clear.auto, count-some c.args.t.right)

pub loop-part-init : goal.loop-part-init
loop-part-init c =
    let a = c.args in
    let h = c.chunks_exact.ensures in
    let d = c.take-part-items.ensures in
    let e : a.components - a.components ≡ 0 = omega arith in
    rw (c.into_iter-part-iterator.ensures.into_iter_gives, d.source, d.count, e)
    record {
      left = parts-none refl h.size h.rest;
      marked = record {
        marks = (start (goal.at.loop-part-init c).After-clear).marks;
        outside = outside_refl _ (a.cols.marks + 1) (a.cols.marks + a.t.z.count + 1);
      };
    }

pub mark_series-requires-clause-orders_at : goal.mark_series-requires-clause-orders_at
mark_series-requires-clause-orders_at c =
    let d = (goal.at.mark_series-requires-clause-orders_at c).After-clear in
    orders_kept c.requires.orders_at
    (marked_since (start d).outside c.loop-part.invariant.marked).outside

pub mark_series-requires-clause-series : goal.mark_series-requires-clause-series
mark_series-requires-clause-series c =
    let f = (goal.at.mark_series-requires-clause-series c).In-Some in
    rw (next f) (outer-series c.args.t.right c.requires.outer _ (more f))

pub loop-part-preserved : goal.loop-part-preserved
loop-part-preserved c =
    let f = (goal.at.loop-part-preserved c).In-Some in
    let a = c.args in
    let d = c.in-Some.ensures.steps in
    let L = c.loop-part.invariant in
    let e : a.components - c.next.new.self.n ≡ a.components - c.loop-part.part-iterator.n + 1 =
    omega (arith, d.1, L.left.left_is) in
    rw e
    record {
      left = parts_more L.left _ _ d.0.1.0 d.0.1.1 d.1 d.0.0;
      marked = marked_more a.t.right c.requires.outer _ (more f) L.marked (rw (next f) at c.mark_series.ensures);
    }

-- the constant's mark is taken back
pub returns : goal.returns
returns c =
    let L = c.loop-part.invariant in
    let a = c.args in
    let all =
    parts-all L.left (λ l. outer-inside a.t.right c.requires.outer _ l) (λ h. (c.in-None.ensures.steps h).1.0) in
    let e : a.components - c.loop-part.part-iterator.n ≡ a.components = omega (arith, all, L.left.left_is) in
    let d = (goal.at.returns c).After-clear in
    marked_all a.t.right (marked_since (start d).outside (rw e at L.marked))
