use Rattle.optics.proofs.Ratios.{plain_shown, minus_shown, whole_shown}
use Rattle.optics.proofs.number.shown.Goals as goal

pub returns-then-top-le500 : goal.returns-then-top-le500
returns-then-top-le500 c =
    plain_shown c.args.p c.args.c c.loop-bottom.bottom c.reduce-x.ensures.0
    c.multiply-top.ensures.0

pub returns-then-p-top-le500 : goal.returns-then-p-top-le500
returns-then-p-top-le500 c =
    minus_shown c.args.p c.args.c c.loop-bottom.bottom c.reduce-x.ensures.0
    c.multiply-top.ensures.0 c.multiply-top.ensures.1

pub returns : goal.returns
returns c = whole_shown _ _ _ c.reduce-x.ensures.0
