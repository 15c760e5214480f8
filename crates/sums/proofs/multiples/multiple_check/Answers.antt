-- `multiple_check` meets its contract: `room` decides, or the multiplier, or `images` does.
use Rattle.sums.proofs.MultipleCall.{images-ready}
use Rattle.sums.proofs.multiples.multiple_check.Goals as goal

pub images-requires : goal.images-requires
images-requires c = let x = c.args in images-ready x.s x.c x.a.now x.res c.in_ok-z.ensures
