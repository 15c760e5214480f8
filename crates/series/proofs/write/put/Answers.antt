-- A zero coefficient has no entry.
use Rattle.series.proofs.CodeWords.{put-none}
use Rattle.series.proofs.write.put.Goals as goal

pub returns-then-c-eq0-clause-value : goal.returns-then-c-eq0-clause-value
returns-then-c-eq0-clause-value c =
    let s = c.args in (put-none s.at s.q s.c s.res.now c.if-c-eq0.true).0

pub returns-then-c-eq0-clause-res_after : goal.returns-then-c-eq0-clause-res_after
returns-then-c-eq0-clause-res_after c =
    let s = c.args in (put-none s.at s.q s.c s.res.now c.if-c-eq0.true).1
