-- The weight of a variable and the next are above 0, and small.
use Rattle.std.proofs.Common.{arith}
use Rattle.derivation.proofs.DerivativeExponent.{weight_small}
use Rattle.derivation.proofs.derivative.Variable.with_codes.Goals as goal

pub overflow_add-w : goal.overflow_add-w
overflow_add-w c = let w = weight_small c.args.t.right c.requires in omega arith

pub reciprocal-requires : goal.reciprocal-requires
reciprocal-requires c = (weight_small c.args.t.right c.requires).0

pub overflow_mul-w : goal.overflow_mul-w
overflow_mul-w c = let w = weight_small c.args.t.right c.requires in omega arith

pub reciprocal-requires-2 : goal.reciprocal-requires-2
reciprocal-requires-2 c = let w = weight_small c.args.t.right c.requires in omega arith
