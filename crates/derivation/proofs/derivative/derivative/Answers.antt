use Rattle.std.proofs.Common.{ℕ, ◌+◌, ◌<◌, ◌≡◌, ◌∙◌, List, ap, arith, length, get_or}
use Rattle.product.proofs.ListCounts.{entries-lent, entry-lent}
use Rattle.derivation.specs.Derivative.{DerivativeIn}
use Rattle.derivation.proofs.DerivativeImage.{entries-few, entry-placed}
use Rattle.derivation.proofs.DerivativeImage.{length-series, deriving_none, deriving_more, deriving_room}
use Rattle.derivation.proofs.DerivativeImage.{deriving_done}
use Rattle.derivation.proofs.derivative.derivative.Goals as goal
use Rattle.derivation.proofs.derivative.derivative.Goals.{In-loop-x}

more : (c : In-loop-x) → c.loop-x.x-index < get_or c.args.a.now 0 0
more c = omega (arith, ap length (entries-lent c.args.a.now), length-series c.requires, c.loop-x-test.true)

pub loop-x-init : goal.loop-x-init
loop-x-init c = deriving_none c.requires

-- the words of the entries are inside
pub slice_bounds-x-items-end : goal.slice_bounds-x-items-end
slice_bounds-x-items-end c = let d = c.requires in omega (arith, entries-few d, d.long)

pub put_derived-j-requires-clause-x_in : goal.put_derived-j-requires-clause-x_in
put_derived-j-requires-clause-x_in c =
    let d = c.requires in
    let x = entry-placed d (more (goal.at.put_derived-j-requires-clause-x_in c).In-loop-x) in
    rw (c.locate-s.ensures.0, entry-lent c.args.a.now _ c.loop-x-test.true) (x.0, omega (arith, x.1, d.N_is))

pub put_derived-j-requires-clause-room : goal.put_derived-j-requires-clause-room
put_derived-j-requires-clause-room c =
    let d = c.requires in
    let v = c.loop-x.invariant in
    let l = more (goal.at.put_derived-j-requires-clause-room c).In-loop-x in
    omega (arith, v.few, l, entries-few d, d.room, (deriving_room d v).2)

pub loop-x-preserved : goal.loop-x-preserved
loop-x-preserved c =
    let e = c.locate-s.ensures in
    deriving_more c.requires c.loop-x.invariant (more (goal.at.loop-x-preserved c).In-loop-x)
    (rw (e.0, e.1, entry-lent c.args.a.now _ c.loop-x-test.true) at c.put_derived-j.ensures)

pub finish-requires-clause-at_bound : goal.finish-requires-clause-at_bound
finish-requires-clause-at_bound c = (deriving_room c.requires c.loop-x.invariant).1

pub returns : goal.returns
returns c =
    let v = c.loop-x.invariant in
    let b = c.args.a.now in
    let e : c.loop-x.x-index ≡ get_or b 0 0 =
    omega (arith, ap length (entries-lent b), length-series c.requires, c.loop-x-test.false, v.high) in
    c.finish.ensures ∙ deriving_done c.requires v e
