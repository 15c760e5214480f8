use Rattle.std.proofs.Common.{refl, arith}
use Rattle.growth.proofs.Orders.{ordering_none, ordering_inside, to_few}
use Rattle.growth.proofs.Orders.{few_positions, ordering_done}
use Rattle.growth.proofs.Orders.{position-low, position-high, all-asks, ordering_more}
use Rattle.growth.proofs.Growth.append_order.Goals as goal

pub loop-k-init : goal.loop-k-init
loop-k-init c =
    let g = c.requires in
    ordering_none g refl refl

pub bounds-work-self : goal.bounds-work-self
bounds-work-self c =
    let g = c.requires in
    let s = c.loop-k.invariant in
    omega (arith, ordering_inside g s, to_few g s)

pub gather-x-requires : goal.gather-x-requires
gather-x-requires c =
    let g = c.requires in (
      g.table.right.allowed.v_high,
      position-high g c.loop-k.invariant (omega arith) c.position-q.ensures.0,
      few_positions g,
      g.parts_in,
    )

pub applied-y-requires-clause-by_index_2 : goal.applied-y-requires-clause-by_index_2
applied-y-requires-clause-by_index_2 c =
    let g = c.requires in
    let s = c.loop-k.invariant in
    λ j h.
    rw (c.gather-x.ensures.word j h)
    (g.words _ j (position-low g s (omega arith) c.position-q.ensures.0)
    (position-high g s (omega arith) c.position-q.ensures.0) h)

pub append_all-requires : goal.append_all-requires
append_all-requires c =
    let g = c.requires in
    all-asks g c.loop-k.invariant (omega arith) c.position-q.ensures.0
    c.gather-x.ensures c.applied-y.ensures

pub loop-k-preserved : goal.loop-k-preserved
loop-k-preserved c =
    let g = c.requires in
    ordering_more g c.loop-k.invariant (omega arith) c.position-q.ensures.0
    c.gather-x.ensures c.applied-y.ensures c.append_all.ensures

pub returns : goal.returns
returns c =
    ordering_done c.requires c.loop-k.invariant (omega arith)
