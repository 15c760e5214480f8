-- `undo_before` meets its contract: its calls are those of the law.
use Rattle.calls.proofs.Steps.{step}
use Rattle.inversion_laws.proofs.Steps.{undo_before_steps}
use Rattle.inversion_laws.proofs.UndoLaw.{undo_before_law}
use Rattle.inversion_laws.proofs.undo_before.Goals as goal

pub returns : goal.returns
returns c =
    let x = c.args in
    let e =
    undo_before_steps x.s x.table.now x.f.now x.g.now x.h.now x.work.now
    (step _ _ c.invert.ensures c.is_ok-inverted.ensures.value)
    (step _ _ c.compose.ensures c.is_ok-before.ensures.value) in
    record { work_after = e; h_after = undo_before_law x.s _ _ _ _ _ e }
