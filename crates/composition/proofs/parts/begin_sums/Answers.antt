use Rattle.std.proofs.Common.{◌≡◌, ◌+◌, ◌*◌, ◌≤◌, ◌<◌, arith, length}
use Rattle.series.specs.Image.{entries, coefficient_at}
use Rattle.series.proofs.Chunks.{parts-none, part_next, parts_more, parts-all}
use Rattle.composition.specs.Parts.{nth_part}
use Rattle.composition.proofs.Filling.{part-fits, begun_none, begun_more, begun-all}
use Rattle.composition.proofs.parts.begin_sums.Goals as goal
use Rattle.composition.proofs.parts.begin_sums.Goals.{In-Some}

-- the part that comes is the next outer series
part_is : (c : In-Some) → c.in-Some.part.now ≡ nth_part c.args.count c.loop-i.i-iterator.count c.args.outer.now
part_is c =
    let d = c.in-Some.ensures.steps.0.0.1 in
    part_next c.loop-i.invariant.left _ _ d.0 d.1

more : (c : In-Some) → c.loop-i.i-iterator.count < c.args.components
more c = omega (arith, c.loop-i.invariant.left.left_is, c.in-Some.ensures.steps.0.1)

pub loop-i-init : goal.loop-i-init
loop-i-init c =
    let h = c.chunks_exact.ensures in
    let d = c.take-parts.ensures in
    let e = c.enumerate-i-items.ensures in
    rw (c.into_iter-i-iterator.ensures.into_iter_gives, e.count, e.source, d.source)
    record {
      left = parts-none d.count h.size h.rest;
      begun = begun_none _ c.args.count c.args.components c.args.res.now c.clear.ensures;
    }

pub coefficient_in-requires : goal.coefficient_in-requires
coefficient_in-requires c =
    let f = (goal.at.coefficient_in-requires c).In-Some in
    rw (part_is f) (c.requires.ascending c.loop-i.i-iterator.count (more f))

pub loop-i-preserved : goal.loop-i-preserved
loop-i-preserved c =
    let f = (goal.at.loop-i-preserved c).In-Some in
    let a = c.args in
    let d = c.in-Some.ensures.steps in
    let e = d.0.0.1 in
    let L = c.loop-i.invariant in
    let k : c.coefficient_in.result
    ≡ coefficient_at (entries (nth_part a.count c.loop-i.i-iterator.count a.outer.now)) 1 =
    rw (part_is f) at c.coefficient_in.ensures in
    rw (d.2, d.1, k)
    record {
      left = parts_more L.left _ _ e.0 e.1 d.0.1 d.0.0.0;
      begun = begun_more _ a.count a.components c.requires.some (more f) L.begun;
    }

pub returns : goal.returns
returns c =
    let a = c.args in
    let L = c.loop-i.invariant in
    let inside : c.loop-i.i-iterator.count < a.components
    → c.loop-i.i-iterator.count * (a.count + 1) + (a.count + 1) ≤ length a.outer.now =
    λ l. omega (arith, part-fits _ _ (a.count + 1) l, c.requires.outer_in) in
    let all = parts-all L.left inside (λ h. (c.in-None.ensures.steps.0 h).1.0) in
    let e : c.loop-i.i-iterator.count ≡ a.components = omega (arith, all, L.left.left_is) in
    begun-all _ a.count a.components e L.begun
