-- The denominator is no multiple of p, which is prime, so that it has an inverse.
use Rattle.std.proofs.Common.{arith}
use Rattle.optics.proofs.Ratios.{plain_ratio, minus_ratio}
use Rattle.optics.proofs.number.ratio.Goals as goal

pub returns-then-f : goal.returns-then-f
returns-then-f c =
    let f = c.args.f in (
      omega arith,
      c.negate.ensures.1,
      minus_ratio c.args.p f.top f.bottom c.inverse.result c.reduce-t.ensures.0
          c.reduce-b.ensures.0 c.inverse.ensures.1 c.multiply-q.ensures.0 _
          c.if-f.true _ c.negate.ensures.0,
    )

pub returns : goal.returns
returns c =
    let f = c.args.f in (
      omega arith,
      c.multiply-q.ensures.1,
      plain_ratio c.args.p f.top f.bottom c.inverse.result c.reduce-t.ensures.0
          c.reduce-b.ensures.0 c.inverse.ensures.1 c.multiply-q.ensures.0 _ c.if-f.false,
    )
