-- `constants` meets its contract: the loop over the components, by the sizes of the setting.
use Rattle.std.proofs.Common.{refl}
use Rattle.series.proofs.Positions.{count-positive}
use Rattle.checks.specs.declared.Shape.TheVariants.{Map}
use Rattle.checks.proofs.InputLaws.{inside}
use Rattle.checks.proofs.shared.constants.Goals as goal

pub constant_check-requires-clause-count_in_bounds : goal.constant_check-requires-clause-count_in_bounds
constant_check-requires-clause-count_in_bounds c =
    let q = c.requires.sized in inside Map _ q refl c.requires.long

pub constant_check-requires-clause-count_nonzero : goal.constant_check-requires-clause-count_nonzero
constant_check-requires-clause-count_nonzero c =
    rw c.requires.sized (count-positive c.args.s.n c.args.s.v)
