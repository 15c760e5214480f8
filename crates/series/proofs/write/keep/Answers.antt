-- A coefficient other than 0 has an entry of one word.
use Rattle.std.proofs.Common.{◌≡◌, ◌<◌, length, ap, ◌∙◌, arith, rules, set}
use Rattle.series.proofs.CodeWords.{put-inside, put_one}
use Rattle.series.proofs.write.keep.Goals as goal
use Rattle.series.proofs.write.keep.Goals.{Start}

module _ (call : Start) where
  nonzero : call.args.c ≡ 0 → ⊥
  nonzero e = omega (arith, call.requires.c_nonzero.0)

  -- there is room for it
  inside : call.args.at < length call.args.res.now
  inside =
      let s = call.args in
      put-inside s.at s.q s.c s.res.now nonzero call.requires.c_in_bounds

pub bounds-res-at : goal.bounds-res-at
bounds-res-at c = let l = inside (goal.at.bounds-res-at c).Start in search rules

pub returns-clause-value : goal.returns-clause-value
returns-clause-value c =
    let call = (goal.at.returns-clause-value c).Start in
    let s = call.args in
    (put_one s.at s.q s.c s.res.now (nonzero call) (inside call)).0

pub returns-clause-res_after : goal.returns-clause-res_after
returns-clause-res_after c =
    let call = (goal.at.returns-clause-res_after c).Start in
    let s = call.args in
    ap (λ w. set s.res.now s.at w) c.entry.ensures
    ∙ (put_one s.at s.q s.c s.res.now (nonzero call) (inside call)).1
