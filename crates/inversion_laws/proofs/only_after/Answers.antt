-- `only_after` meets its contract: its calls are those of the law.
use Rattle.calls.proofs.Steps.{step}
use Rattle.inversion_laws.proofs.Steps.{only-after_steps}
use Rattle.inversion_laws.proofs.UndoLaw.{only-after_law}
use Rattle.inversion_laws.proofs.only_after.Goals as goal

pub returns : goal.returns
returns c =
    let x = c.args in
    let d =
    only-after_steps x.s x.table.now x.f.now x.h.now x.e.now x.g.now x.work.now
    (step _ _ c.compose.ensures c.is_ok-after.ensures.value)
    (step _ _ c.invert.ensures c.is_ok-inverted.ensures.value) in
    record { work_after = d; h_value = only-after_law x.s _ _ _ _ _ _ d }
