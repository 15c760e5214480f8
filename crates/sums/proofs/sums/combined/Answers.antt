-- `combined` meets its contract: where the checks pass, the merged entries are the image of the combination.
use Rattle.sums.proofs.SumCall.{core_ready, combined-finished}
use Rattle.sums.proofs.sums.combined.Goals as goal

pub invariant_of-lim : goal.invariant_of-lim
invariant_of-lim g c =
    let x = c.args in
    let k = core_ready x.s x.a.now x.b.now x.res.now c.in_ok-z.ensures c.prime.ensures in
    record { positions = k.count_in; prime = k.prime }

pub combine-requires : goal.combine-requires
combine-requires g c =
    let x = c.args in
    let k = core_ready x.s x.a.now x.b.now x.res.now c.in_ok-z.ensures c.prime.ensures in
    record {
      callable = rw c.prime.ensures c.requires.callable;
      multiplies = rw c.prime.ensures c.requires.multiplies;
      count_in_bounds = k.result_in;
      a_value = k.first;
      b_value = k.second;
    }

pub returns : goal.returns
returns g c = λ d k.
    let x = c.args in
    combined-finished x.s x.a.now x.b.now x.res.now d c.in_ok-z.ensures c.prime.ensures
    (c.combine.ensures d (rw c.prime.ensures k))
