use Rattle.monomial.proofs.Bounds.{allowed-sound}
use Rattle.counts.proofs.Counts.{some_where}
use Rattle.std.proofs.Common.{refl}
use Rattle.counts.proofs.Sizes.of.Goals as goal

pub table_sizes-requires : goal.table_sizes-requires
table_sizes-requires c =
    let k = some_where _ _ _ _ c.in_ok-allowed_count.ensures refl in
    allowed-sound c.args.n c.args.v (rw k.0 tt)
