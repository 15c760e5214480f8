-- `substitute` meets its contract: the outer argument is a series.
use Rattle.std.proofs.Common.{◌∙◌}
use Rattle.maps.proofs.OuterCall.{substitute_is}
use Rattle.maps.proofs.substitute.Goals as goal

pub returns : goal.returns
returns c =
    let x = c.args in c.composed.ensures ∙ substitute_is x.s x.table.now x.series.now x.map.now x.res.now x.work.now
