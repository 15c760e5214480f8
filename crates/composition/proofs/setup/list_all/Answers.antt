use Rattle.std.proofs.Common.{◌≡◌, refl, sym, ◌∙◌, ◌<◌, arith}
use Rattle.series.specs.Image.{component}
use Rattle.series.proofs.Chunks.{parts-none, part_next, parts_more, parts-all}
use Rattle.composition.proofs.Listing.{component-part, component-inside, listed-none, sort_asks}
use Rattle.composition.proofs.Listing.{listed_more, listed-all}
use Rattle.composition.proofs.setup.list_all.Goals as goal
use Rattle.composition.proofs.setup.list_all.Goals.{In-Some}

-- the part that comes is the next component
part_is : (c : In-Some) →
    let z = c.args.t.z in
    c.in-Some.part.now ≡ component z.n z.v c.loop-k.k-iterator.count c.args.inner.now
part_is c =
    let z = c.args.t.z in
    let d = c.in-Some.ensures.steps.0.0.1 in
    part_next c.loop-k.invariant.left _ _ d.0 d.1
    ∙ sym (component-part z.n z.v z.count _ c.args.inner.now c.requires.ready.1.N_is)

more : (c : In-Some) → c.loop-k.k-iterator.count < c.args.t.z.v
more c = omega (arith, c.loop-k.invariant.left.left_is, c.in-Some.ensures.steps.0.1)

pub loop-k-init : goal.loop-k-init
loop-k-init c =
    let h = c.chunks_exact.ensures in
    let d = c.take-parts.ensures in
    let e = c.enumerate-k-items.ensures in
    rw (c.into_iter-k-iterator.ensures.into_iter_gives, e.count, e.source, d.source)
    record {
      left = parts-none d.count h.size h.rest;
      listed = listed-none c.requires refl;
    }

pub sort-requires : goal.sort-requires
sort-requires c =
    let f = (goal.at.sort-requires c).In-Some in
    rw (c.list_at.ensures, c.in-Some.ensures.steps.1, part_is f)
    (sort_asks c.requires c.loop-k.invariant.listed (more f))

pub loop-k-preserved : goal.loop-k-preserved
loop-k-preserved c =
    let f = (goal.at.loop-k-preserved c).In-Some in
    let d = c.in-Some.ensures.steps in
    let e = d.0.0.1 in
    let L = c.loop-k.invariant in
    rw (d.2, d.1)
    record {
      left = parts_more L.left _ _ e.0 e.1 d.0.1 d.0.0.0;
      listed = listed_more c.requires L.listed (more f) (rw (c.list_at.ensures, d.1, part_is f) at c.sort.ensures);
    }

pub returns : goal.returns
returns c =
    let L = c.loop-k.invariant in
    listed-all
    (parts-all L.left (component-inside c.requires _) (λ h. (c.in-None.ensures.steps.0 h).1.0))
    L.listed
