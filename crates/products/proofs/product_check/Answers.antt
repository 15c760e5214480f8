-- `product_check` meets its contract: `room` decides, or `inputs` does.
use Rattle.products.proofs.ProductCall.{inputs-ready}
use Rattle.products.proofs.product_check.Goals as goal

pub inputs-requires : goal.inputs-requires
inputs-requires c =
    let x = c.args in inputs-ready x.s x.t.now x.a.now x.b.now x.res x.work c.in_ok-z.ensures
