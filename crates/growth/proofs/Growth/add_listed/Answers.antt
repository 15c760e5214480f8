use Rattle.std.proofs.Common.{◌≤◌, ◌<◌, arith, ◌≡◌, length}
use Rattle.growth.specs.Spreading.{listed_place}
use Rattle.growth.proofs.Spreading.{added_none, place_read, added_more}
use Rattle.growth.proofs.Growth.add_listed.Goals as goal
use Rattle.growth.proofs.Growth.add_listed.Goals.{After-place-q}

-- the codes that are read lead to a place of the part
place : (c : After-place-q) →
    c.place-q.result ≡ listed_place c.args.self.now.t.z.count c.args.self.now.t.z.codes c.args.self.now.t.words.now c.args.work.now
    c.args.cs c.loop-j.j
place c =
    place_read c.requires c.loop-j.j c.low.ensures.0 c.high.ensures.0 c.place-q.ensures

low-place : (c : After-place-q) → c.place-q.result ≤ c.args.self.now.t.z.count
low-place c =
    omega (arith, place c, c.requires.place_in c.loop-j.j (omega arith))

inside : (c : After-place-q) → c.place-q.result < length c.loop-j.part
inside c =
    omega (arith, low-place c, c.requires.size, c.loop-j.invariant.size)

pub loop-j-init : goal.loop-j-init
loop-j-init c = added_none c.requires

pub bounds-part-q : goal.bounds-part-q
bounds-part-q c =
    inside (goal.at.bounds-part-q c).After-place-q

pub bounds-part-q-in-loop-j : goal.bounds-part-q-in-loop-j
bounds-part-q-in-loop-j c =
    inside (goal.at.bounds-part-q-in-loop-j c).After-place-q

pub loop-j-preserved : goal.loop-j-preserved
loop-j-preserved c =
    let f = (goal.at.loop-j-preserved c).After-place-q in
    added_more c.requires c.loop-j.invariant (omega arith) (place f) c.add-x.ensures.0

pub offset_bounds-part-q : goal.offset_bounds-part-q
offset_bounds-part-q c = omega (arith, inside (goal.at.offset_bounds-part-q c).After-place-q)

pub offset_bounds-part-q-in-loop-j : goal.offset_bounds-part-q-in-loop-j
offset_bounds-part-q-in-loop-j c =
    omega (arith, inside (goal.at.offset_bounds-part-q-in-loop-j c).After-place-q)
