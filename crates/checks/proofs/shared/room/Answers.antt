-- `room` meets its contract: 1 decides, or the first slice that is too short.
use Rattle.std.proofs.Common.{◌∙◌, sym}
use Rattle.checks.specs.Settings.{extent_of}
use Rattle.checks.specs.Room.{room, long_enough}
use Rattle.checks.proofs.RoomLaws.{sized, setting_in_range, enough, too_short, slices-step, slices-stop, slices-end}
use Rattle.checks.proofs.shared.room.Goals as goal

pub needed-requires : goal.needed-requires
needed-requires c = let k = c.in_ok-z.ensures in sized (setting_in_range c.args.s k.says) k.sized

pub loop-i-preserved : goal.loop-i-preserved
loop-i-preserved c =
    let s = c.args.s in
    let e = enough s _ c.in_ok-z.ensures.sized c.needed.ensures c.if-words-needed.false in
    c.loop-i.invariant ∙ slices-step (long_enough (extent_of s)) 2 c.args.slices.now c.loop-i.i _ c.loop-i-test.true e

pub returns-then-words-needed : goal.returns-then-words-needed
unfolding room
returns-then-words-needed c =
    let s = c.args.s in
    let e = too_short s _ c.in_ok-z.ensures.sized c.needed.ensures c.if-words-needed.true in
    let h = slices-stop (long_enough (extent_of s)) 2 c.args.slices.now c.loop-i.i _ c.loop-i-test.true e in
    record { says = rw (← c.in_ok-z.ensures.says) (h ∙ sym c.loop-i.invariant); sized = tt }

pub returns : goal.returns
unfolding room
returns c =
    let k = c.in_ok-z.ensures in
    let h = slices-end (long_enough (extent_of c.args.s)) 2 c.args.slices.now c.loop-i.i c.loop-i-test.false in
    record { says = rw (← k.says) (h ∙ sym c.loop-i.invariant); sized = k.sized }
