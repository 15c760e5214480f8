-- `substitute_twice` meets its contract: its calls are those of the law, one after another.
use Rattle.calls.proofs.Steps.{step}
use Rattle.substitution_laws.proofs.Steps.{twice_steps}
use Rattle.substitution_laws.proofs.TwiceLaw.{twice_law}
use Rattle.substitution_laws.proofs.substitute_twice.Goals as goal

pub returns : goal.returns
returns c =
    let x = c.args in
    let e =
    twice_steps x.s x.table.now x.a.now x.f.now x.g.now x.once.now x.twice.now x.both.now x.whole.now x.work.now
    (step _ _ c.substitute.ensures c.is_ok-p.ensures.value)
    (step _ _ c.substitute-2.ensures c.is_ok-q.ensures.value)
    (step _ _ c.compose.ensures c.is_ok-r.ensures.value)
    (step _ _ c.substitute-3.ensures c.is_ok-t.ensures.value) in
    record { work_after = e; twice_after = twice_law x.s _ _ _ _ _ _ _ _ _ e }
