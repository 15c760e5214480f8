use Rattle.std.proofs.Common.{◌≡◌, ◌+◌, ◌<◌, sym, ◌∙◌, arith}
use Rattle.series.specs.Image.{component}
use Rattle.series.proofs.Chunks.{parts-none, part_next, parts_more, parts-all}
use Rattle.turn.proofs.PartWords.{component-is}
use Rattle.turn.proofs.LinearRows.{linear-none, linear-more, linear-all}
use Rattle.turn.proofs.LinearRows.{map-series, map-inside}
use Rattle.turn.proofs.linear_part.Goals as goal
use Rattle.turn.proofs.linear_part.Goals.{In-Some}

-- the part that comes is the next component
part_is : (c : In-Some) →
    let z = c.args.t.z in
    c.in-Some.part.now ≡ component z.n z.v c.loop-i.i-iterator.count c.args.map.now
part_is c =
    let z = c.args.t.z in
    let d = c.in-Some.ensures.steps.0.0.1 in
    part_next c.loop-i.invariant.left _ _ d.0 d.1
    ∙ sym (component-is z.n z.v z.count c.args.t.right.N_is c.args.map.now _)

more : (c : In-Some) → c.loop-i.i-iterator.count < c.args.t.z.v
more c = omega (arith, c.loop-i.invariant.left.left_is, c.in-Some.ensures.steps.0.1)

pub loop-i-init : goal.loop-i-init
loop-i-init c =
    let h = c.chunks_exact.ensures in
    let d = c.take-parts.ensures in
    let e = c.enumerate-i-items.ensures in
    rw (c.into_iter-i-iterator.ensures.into_iter_gives, e.count, e.source, d.source)
    record {
      left = parts-none d.count h.size h.rest;
      rows = linear-none c.args.p c.args.t.z.n c.args.t.z.v c.args.map.now;
    }

pub linear_row-requires-clause-series : goal.linear_row-requires-clause-series
linear_row-requires-clause-series c =
    let f = (goal.at.linear_row-requires-clause-series c).In-Some in
    rw (part_is f) (map-series c.args.t.right.N_is c.requires.map _ (more f))

pub loop-i-preserved : goal.loop-i-preserved
loop-i-preserved c =
    let f = (goal.at.loop-i-preserved c).In-Some in
    let d = c.in-Some.ensures.steps in
    let e = d.0.0.1 in
    let L = c.loop-i.invariant in
    rw (d.2, d.1)
    record {
      left = parts_more L.left _ _ e.0 e.1 d.0.1 d.0.0.0;
      rows = linear-more (omega (arith, more f, c.args.t.right.right.allowed)) L.rows (rw (part_is f) at c.linear_row.ensures);
    }

pub returns : goal.returns
returns c =
    let L = c.loop-i.invariant in
    let r = c.args.t.right in
    let all = parts-all L.left (λ l. map-inside r.N_is c.requires.map _ l) (λ h. (c.in-None.ensures.steps.0 h).1.0) in
    let e : c.loop-i.i-iterator.count ≡ c.args.t.z.v = omega (arith, all, L.left.left_is) in
    linear-all r.right.allowed.v_high (rw e at L.rows)
