-- A number below 10 is one byte. Any other is what the call of itself writes for x / 10, and one byte more.
use Rattle.std.proofs.Common.{arith}
use Rattle.text.proofs.Decimals.{decimal-small, decimal-large, length-decimal_large}
use Rattle.text.proofs.Writings.{room-then, writes_append}
use Rattle.text.proofs.Writer.+decimal.Goals as goal

pub byte-requires : goal.byte-requires
byte-requires t c = rw (decimal-small c.args.x c.if-x-lt10.true) at c.requires

pub returns-then-x-lt10 : goal.returns-then-x-lt10
returns-then-x-lt10 t c = rw (decimal-small c.args.x c.if-x-lt10.true) c.byte.ensures

pub decimal-requires : goal.decimal-requires
decimal-requires t c = (omega arith, omega (arith, length-decimal_large c.args.x c.if-x-lt10.false))

pub byte-requires-2 : goal.byte-requires-2
byte-requires-2 t c =
    room-then _ (rw (decimal-large c.args.x c.if-x-lt10.false) at c.requires) c.decimal.ensures

pub returns : goal.returns
returns t c =
    let e = decimal-large c.args.x c.if-x-lt10.false in
    rw e (writes_append (rw e at c.requires) c.decimal.ensures c.byte-2.ensures)
