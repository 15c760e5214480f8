use Rattle.std.proofs.Common.{◌≡◌, ◌+◌, ◌≤◌, ◌<◌, arith, length, get_or}
use Rattle.algebra.specs.Polynomial.{order}
use Rattle.series.specs.Image.{position, monomial_at}
use Rattle.product.proofs.ListCounts.{entry-lent}
use Rattle.substitution.proofs.SeriesMarks.{entry-inside, entries-inside, entry-asks}
use Rattle.substitution.proofs.SeriesMarks.{entries-more, entries-all, orders_kept}
use Rattle.substitution.proofs.SeriesMarks.{entry-order}
use Rattle.substitution.proofs.marks.mark_series.Goals as goal
use Rattle.substitution.proofs.marks.mark_series.Goals.{After-position}

-- the position of the entry that comes
position_is : (c : After-position) →
    c.position.result ≡ position (get_or c.args.series.now (c.loop-x.x-index + 1) 0)
position_is c = rw (entry-lent c.args.series.now _ c.loop-x-test.true) at c.position.ensures.0

-- where its order stands
order_in : (c : After-position) → c.args.cols.orders + c.position.result < length c.loop-x.work
order_in c =
    let s = c.requires in
    let l = c.loop-x in
    let h = entry-asks s.series l.x-index (entry-inside s.series _ c.loop-x-test.true) in
    omega (
      arith,
      h.1,
      position_is c,
      s.orders_at.apart,
      (l.invariant.marked.marks s.marks.0 s.marks.1).inside,
    )

-- its order as it is read
order-read : (c : After-position) →
    let a = c.args in
    let o = get_or c.loop-x.work (a.cols.orders + c.position.result) 0 in
    (o ≡ order (monomial_at a.t.z.n a.t.z.v (position (get_or a.series.now (c.loop-x.x-index + 1) 0))))
    × (o ≤ 10)
order-read c =
    let s = c.requires in
    let l = c.loop-x in
    rw (position_is c)
    (entry-order c.args.t.right (orders_kept s.orders_at l.invariant.marked.outside)
    s.series l.x-index (entry-inside s.series _ c.loop-x-test.true))

pub bounds-work-cols : goal.bounds-work-cols
bounds-work-cols c =
    order_in (goal.at.bounds-work-cols c).After-position

pub overflow_sub-o : goal.overflow_sub-o
overflow_sub-o c =
    omega (arith, (order-read (goal.at.overflow_sub-o c).After-position).1)

pub climb-requires-clause-marks : goal.climb-requires-clause-marks
climb-requires-clause-marks c =
    let K = c.requires.marks in
    (_, c.loop-x.invariant.marked.marks K.0 K.1)

pub climb-requires-clause-bound : goal.climb-requires-clause-bound
climb-requires-clause-bound c =
    rw (entry-lent c.args.series.now _ c.loop-x-test.true)
    (entry-asks c.requires.series c.loop-x.x-index (entry-inside c.requires.series _ c.loop-x-test.true))

pub climb-requires-clause-x_value : goal.climb-requires-clause-x_value
climb-requires-clause-x_value c =
    let o = order-read (goal.at.climb-requires-clause-x_value c).After-position in
    rw (entry-lent c.args.series.now _ c.loop-x-test.true) (omega (arith, o.0, o.1))

pub loop-x-preserved : goal.loop-x-preserved
loop-x-preserved c =
    entries-more c.requires.series c.loop-x.invariant (entry-inside c.requires.series _ c.loop-x-test.true)
    (rw (entry-lent c.args.series.now _ c.loop-x-test.true) at c.climb.ensures)

pub returns : goal.returns
returns c =
    let s = c.requires.series in
    entries-all s c.loop-x.invariant (entries-inside s _ c.loop-x-test.false)
