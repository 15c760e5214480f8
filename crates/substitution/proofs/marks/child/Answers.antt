-- `child` meets its contract: the words that it reads are the codes of the monomial, the weight of
-- variable k makes them those of the product, and D1 and D2 lead to its position.
use Rattle.std.proofs.Common.{◌∙◌}
use Rattle.substitution.proofs.Steps.{codes_at, child_first_asks, child_first}
use Rattle.substitution.proofs.Steps.{child_second_asks, child_second}
use Rattle.substitution.proofs.marks.child.Goals as goal

pub place-requires : goal.place-requires
place-requires c =
    let d = codes_at c.args.t.right c.requires.le_q.0 c.requires.le_q.1 c.codes_at-first.ensures in
    let x = child_first_asks d c.args.k c.requires.le_q.2 c.requires.le_q.3
    c.power.result (rw c.half-half.ensures at c.if-k-half.true) c.power.ensures.0 in
    (x.1, x.2)

pub returns-then-k-half : goal.returns-then-k-half
returns-then-k-half c =
    let d = codes_at c.args.t.right c.requires.le_q.0 c.requires.le_q.1 c.codes_at-first.ensures in
    c.place.ensures
    ∙ child_first d c.args.k c.requires.le_q.2 c.requires.le_q.3
    c.power.result (rw c.half-half.ensures at c.if-k-half.true) c.power.ensures.0

pub place-requires-2 : goal.place-requires-2
place-requires-2 c =
    let d = codes_at c.args.t.right c.requires.le_q.0 c.requires.le_q.1 c.codes_at-first.ensures in
    let x = child_second_asks d c.args.k c.requires.le_q.2 c.requires.le_q.3
    c.power-2.result (rw c.half-half.ensures at c.if-k-half.false) (rw c.half-half.ensures at c.power-2.ensures.0) in
    (x.1, x.2)

pub returns : goal.returns
returns c =
    let d = codes_at c.args.t.right c.requires.le_q.0 c.requires.le_q.1 c.codes_at-first.ensures in
    c.place-2.ensures
    ∙ child_second d c.args.k c.requires.le_q.2 c.requires.le_q.3
    c.power-2.result (rw c.half-half.ensures at c.if-k-half.false) (rw c.half-half.ensures at c.power-2.ensures.0)
