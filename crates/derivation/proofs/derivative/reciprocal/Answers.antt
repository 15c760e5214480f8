-- `reciprocal` meets its contract: a quotient is at most the number that is divided.
use Rattle.std.proofs.Common.{refl, div-le_self, arith}
use Rattle.derivation.specs.Derivative.{reciprocal}
use Rattle.derivation.proofs.derivative.reciprocal.Goals as goal

pub returns : goal.returns
unfolding reciprocal
returns c =
    (refl, omega (arith, div-le_self 4294967296 c.args.d))
