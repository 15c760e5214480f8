-- `multiple` meets its contract: where the checks pass, the multiplied entries are the image of the multiple.
use Rattle.sums.proofs.MultipleCall.{core_ready, multiple_finished}
use Rattle.sums.proofs.multiples.multiple.Goals as goal

pub invariant_of-lim : goal.invariant_of-lim
invariant_of-lim c =
    let x = c.args in
    let g = core_ready x.s x.c x.a.now x.res.now c.in_ok-z.ensures c.prime.ensures in
    record { positions = g.count_in; prime = g.prime }

pub multiple-requires : goal.multiple-requires
multiple-requires c =
    let x = c.args in
    let g = core_ready x.s x.c x.a.now x.res.now c.in_ok-z.ensures c.prime.ensures in
    record { c_lt_p = g.factor; count_in_bounds = g.result_in; a_value = g.series }

pub returns : goal.returns
returns c =
    let x = c.args in
    multiple_finished x.s x.c x.a.now x.res.now c.in_ok-z.ensures c.prime.ensures c.multiple.ensures
