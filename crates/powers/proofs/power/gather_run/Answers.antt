use Rattle.std.proofs.Common.{arith, ◌≡◌}
use Rattle.powers.proofs.Gathering.{run_take, run_more}
use Rattle.powers.proofs.power.gather_run.Goals as goal

pub take_sum-e-requires : goal.take_sum-e-requires
take_sum-e-requires c =
    let g = c.requires.7 in
    let l = c.loop-k in
    run_take g l.invariant.0 (l.invariant.1 _ _ _ _ _ _ _ g).1 c.position-q.result
    c.loop-k-test.true c.position-q.ensures.0

pub loop-k-preserved : goal.loop-k-preserved
loop-k-preserved c =
    let l = c.loop-k in
    let t = c.take_sum-e in
    let u = c.loop-k-test.true in (
      omega (arith, l.invariant.0),
      λ n v N lo cut dst w₀ g. (
        omega arith,
        run_more g l.invariant.0 (l.invariant.1 n v N lo cut dst w₀ g).1 c.position-q.result u
            c.position-q.ensures.0 t.result t.new.work t.ensures.0 t.ensures.1,
      ),
    )

pub returns : goal.returns
returns c =
    λ n v N lo cut dst w₀ g.
    let l = c.loop-k in
    let h = l.invariant.1 n v N lo cut dst w₀ g in
    let e : l.k ≡ c.args.to = omega (arith, h.0) in
    rw e at h.1
