use Rattle.walk.proofs.Parts.{added_low, added_more, added_all}
use Rattle.walk.proofs.Parts.{part_ascends, part-asks}
use Rattle.walk.proofs.add_all.Goals as goal

pub returns-then-work-s : goal.returns-then-work-s
returns-then-work-s c =
    added_low c.requires c.if-work-s.true

pub coefficient_in-c-requires : goal.coefficient_in-c-requires
coefficient_in-c-requires c =
    part_ascends c.requires c.loop-i.invariant c.loop-i-test.true

pub add_scaled-requires : goal.add_scaled-requires
add_scaled-requires c =
    let h = c.coefficient_in-c in
    part-asks c.requires c.loop-i.invariant c.loop-i-test.true h.result h.ensures

pub loop-i-preserved : goal.loop-i-preserved
loop-i-preserved c =
    let h = c.coefficient_in-c in
    let d = c.add_scaled in
    added_more c.requires c.loop-i.invariant c.loop-i-test.true h.result h.ensures
    d.new.res d.ensures

pub returns : goal.returns
returns c =
    added_all c.requires c.loop-i.invariant c.loop-i-test.false
    c.if-work-s.false
