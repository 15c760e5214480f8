-- `compose` meets its contract: the outer argument is a map.
use Rattle.std.proofs.Common.{◌∙◌}
use Rattle.maps.proofs.OuterCall.{compose_is}
use Rattle.maps.proofs.compose.Goals as goal

pub returns : goal.returns
returns c =
    let x = c.args in c.composed.ensures ∙ compose_is x.s x.table.now x.outer.now x.inner.now x.res.now x.work.now
