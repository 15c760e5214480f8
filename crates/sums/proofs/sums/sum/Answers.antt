-- `sum` meets its contract: it is the combination a + b.
use Rattle.std.proofs.Common.{◌∙◌, rules}
use Rattle.sums.proofs.SumCall.{sum_is, by-one}
use Rattle.sums.proofs.sums.sum.Goals as goal

pub combined-requires : goal.combined-requires
combined-requires c =
    record { callable = λ y l h. tt; multiplies = (1, by-one c.args.s _ (λ y z e. search rules)) }

pub returns : goal.returns
returns c =
    let x = c.args in
    c.combined.ensures 1 (by-one x.s _ (λ y z e. search rules)) ∙ sum_is x.s x.a.now x.b.now x.res.now
