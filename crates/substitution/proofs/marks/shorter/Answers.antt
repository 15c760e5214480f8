-- `shorter` meets its contract: the words that it reads are the codes of the monomial; the one of
-- them that has the last variable is lowered by its weight, and D1 and D2 lead to the position.
use Rattle.std.proofs.Common.{◌∙◌, arith}
use Rattle.substitution.proofs.Steps.{codes_at, first-asks, first-place_asks, first-place}
use Rattle.substitution.proofs.Steps.{second-asks, second-place_asks, second-place}
use Rattle.substitution.proofs.marks.shorter.Goals as goal

pub lowered-requires : goal.lowered-requires
lowered-requires c =
    let d = codes_at c.args.t.right (omega (arith, c.requires.le_q.0)) c.requires.le_q.1 c.codes_at-first.ensures in
    first-asks d c.requires.le_q.0 c.if-second-eq0.true

pub place-requires : goal.place-requires
place-requires c =
    let d = codes_at c.args.t.right (omega (arith, c.requires.le_q.0)) c.requires.le_q.1 c.codes_at-first.ensures in
    let x = first-place_asks d c.requires.le_q.0 c.if-second-eq0.true
    c.lowered.result c.lowered.ensures in
    (x.1, x.2)

pub returns-then-second-eq0 : goal.returns-then-second-eq0
returns-then-second-eq0 c =
    let d = codes_at c.args.t.right (omega (arith, c.requires.le_q.0)) c.requires.le_q.1 c.codes_at-first.ensures in
    c.place.ensures
    ∙ first-place d c.requires.le_q.0 c.if-second-eq0.true
    c.lowered.result c.lowered.ensures

pub lowered-requires-2 : goal.lowered-requires-2
lowered-requires-2 c =
    let d = codes_at c.args.t.right (omega (arith, c.requires.le_q.0)) c.requires.le_q.1 c.codes_at-first.ensures in
    second-asks d c.requires.le_q.0 c.if-second-eq0.false

pub place-requires-2 : goal.place-requires-2
place-requires-2 c =
    let d = codes_at c.args.t.right (omega (arith, c.requires.le_q.0)) c.requires.le_q.1 c.codes_at-first.ensures in
    let x = second-place_asks d c.requires.le_q.0 c.if-second-eq0.false
    c.lowered-2.result c.lowered-2.ensures in
    (x.1, x.2)

pub returns : goal.returns
returns c =
    let d = codes_at c.args.t.right (omega (arith, c.requires.le_q.0)) c.requires.le_q.1 c.codes_at-first.ensures in
    c.place-2.ensures
    ∙ second-place d c.requires.le_q.0 c.if-second-eq0.false
    c.lowered-2.result c.lowered-2.ensures
