-- `only_before` meets its contract: its calls are those of the law.
use Rattle.calls.proofs.Steps.{step}
use Rattle.inversion_laws.proofs.Steps.{only-before_steps}
use Rattle.inversion_laws.proofs.UndoLaw.{only-before_law}
use Rattle.inversion_laws.proofs.only_before.Goals as goal

pub returns : goal.returns
returns c =
    let x = c.args in
    let d =
    only-before_steps x.s x.table.now x.f.now x.h.now x.e.now x.g.now x.work.now
    (step _ _ c.compose.ensures c.is_ok-before.ensures.value)
    (step _ _ c.invert.ensures c.is_ok-inverted.ensures.value) in
    record { work_after = d; h_value = only-before_law x.s _ _ _ _ _ _ d }
