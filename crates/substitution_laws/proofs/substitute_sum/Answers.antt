-- `substitute_sum` meets its contract: its calls are those of the law, one after another. A sum takes no work space.
use Rattle.calls.proofs.Steps.{step, step_keeping}
use Rattle.substitution_laws.specs.Laws.{summing}
use Rattle.substitution_laws.proofs.Steps.{respect_steps}
use Rattle.substitution_laws.proofs.RespectLaw.{sum-law}
use Rattle.substitution_laws.proofs.substitute_sum.Goals as goal

pub returns : goal.returns
returns c =
    let x = c.args in
    let e =
    respect_steps x.s x.table.now x.a.now x.f.now (summing x.s) x.b.now
    x.both.now x.whole.now x.first.now x.second.now x.apart.now x.work.now
    (step_keeping _ _ x.work.now c.sum.ensures c.is_ok-p.ensures.value)
    (step _ _ c.substitute.ensures c.is_ok-q.ensures.value)
    (step _ _ c.substitute-2.ensures c.is_ok-t.ensures.value)
    (step _ _ c.substitute-3.ensures c.is_ok-u.ensures.value)
    (step_keeping _ _ c.substitute-3.new.work c.sum-2.ensures c.is_ok-w.ensures.value) in
    record { work_after = e; whole_after = sum-law x.s _ _ _ _ _ _ _ _ _ _ e }
