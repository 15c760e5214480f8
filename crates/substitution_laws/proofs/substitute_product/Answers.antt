-- `substitute_product` meets its contract: its calls are those of the law, one after another.
use Rattle.checks.specs.Calls.{product_call}
use Rattle.calls.proofs.Steps.{step}
use Rattle.substitution_laws.proofs.Steps.{respect_steps}
use Rattle.substitution_laws.proofs.RespectLaw.{product_law}
use Rattle.substitution_laws.proofs.substitute_product.Goals as goal

pub returns : goal.returns
returns c =
    let x = c.args in
    let e =
    respect_steps x.s x.table.now x.a.now x.f.now (product_call x.s x.table.now) x.b.now
    x.both.now x.whole.now x.first.now x.second.now x.apart.now x.work.now
    (step _ _ c.product.ensures c.is_ok-p.ensures.value)
    (step _ _ c.substitute.ensures c.is_ok-q.ensures.value)
    (step _ _ c.substitute-2.ensures c.is_ok-x.ensures.value)
    (step _ _ c.substitute-3.ensures c.is_ok-y.ensures.value)
    (step _ _ c.product-2.ensures c.is_ok-z.ensures.value) in
    record { work_after = e; whole_after = product_law x.s _ _ _ _ _ _ _ _ _ _ e }
