-- `pair_check` meets its contract: `room` decides, or `images` does.
use Rattle.sums.proofs.SumCall.{images-ready}
use Rattle.sums.proofs.sums.pair_check.Goals as goal

pub images-requires : goal.images-requires
images-requires c = let x = c.args in images-ready x.s x.a.now x.b.now x.res c.in_ok-z.ensures
