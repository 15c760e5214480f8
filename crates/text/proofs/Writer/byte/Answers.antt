-- One store is one byte written.
use Rattle.std.proofs.Common.{arith, refl}
use Rattle.text.proofs.Writings.{wrote_byte}
use Rattle.text.proofs.Writer.byte.Goals as goal

pub returns : goal.returns
returns c = record { same = refl; wrote = wrote_byte c.args.self.now.at c.args.b c.args.self.now.out.now (omega arith) }
