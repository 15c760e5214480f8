-- D1 and D2 at the lowered codes lead to the position.
use Rattle.std.proofs.Common.{◌∙◌, arith}
use Rattle.derivation.proofs.DerivativePlace.{Found, found}
use Rattle.derivation.proofs.derivative.Variable.lowered_at.Goals as goal
use Rattle.derivation.proofs.derivative.Variable.lowered_at.Goals.{After-codes_at-first}

-- where the codes of the position, less those of the variable, lead
leads : (c : After-codes_at-first) → let s = c.args.self in
    Found s.t.right s.located.weighed c.requires.0 c.requires.1 c.requires.2
    c.codes_at-first.result.0 c.codes_at-first.result.1
leads c =
    let s = c.args.self in
    let e = c.codes_at-first.ensures in
    found s.t.right s.located.weighed c.requires.0 c.requires.1 c.requires.2 e.0 e.1

pub overflow_sub-first : goal.overflow_sub-first
overflow_sub-first c = (leads (goal.at.overflow_sub-first c).After-codes_at-first).first_above

pub overflow_sub-second : goal.overflow_sub-second
overflow_sub-second c = (leads (goal.at.overflow_sub-second c).After-codes_at-first).second_above

pub place-requires : goal.place-requires
place-requires c =
    let l = leads (goal.at.place-requires c).After-codes_at-first in (l.first_in, l.second_in)

pub returns : goal.returns
returns c =
    let l = leads (goal.at.returns c).After-codes_at-first in
    let e = c.place.ensures ∙ l.place_is in
    (e, omega (arith, e, l.place_small))
