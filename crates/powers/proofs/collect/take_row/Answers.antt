use Rattle.std.proofs.Common.{◌∙◌, ap₂, ℕ, ◌+◌, arith, get_or}
use Rattle.product.specs.Rows.{place_with}
use Rattle.powers.proofs.Collecting.{passing_none, passing_codes}
use Rattle.powers.proofs.Collecting.{passing_take, passing_more, passing_done}
use Rattle.powers.proofs.collect.take_row.Goals as goal

pub loop-k-init : goal.loop-k-init
loop-k-init c =
    λ n v N lo cut dst w₀ g. passing_none g

pub spot-j-requires : goal.spot-j-requires
spot-j-requires c =
    let g = c.requires.7 in
    let h = c.loop-k.invariant _ _ _ _ _ _ _ g in
    let k = passing_codes g h c.loop-k-test.true in
    (omega (arith, k.1, c.low.ensures.0), omega (arith, k.2, c.high.ensures.0))

pub take_sum-e-requires : goal.take_sum-e-requires
unfolding place_with
take_sum-e-requires c =
    let a = c.args in
    let g = c.requires.7 in
    let h = c.loop-k.invariant _ _ _ _ _ _ _ g in
    passing_take g h c.loop-k-test.true c.spot-j.result
    (c.spot-j.ensures
    ∙ ap₂ (λ (x y : ℕ). get_or a.t.now (a.h.d1 + x) 0 + get_or a.t.now (a.h.d2 + y) 0)
    c.low.ensures.0 c.high.ensures.0)

pub loop-k-preserved : goal.loop-k-preserved
unfolding place_with
loop-k-preserved c =
    let a = c.args in
    let r = c.take_sum-e in λ n v N lo cut dst w₀ g.
    let h = c.loop-k.invariant n v N lo cut dst w₀ g in
    passing_more g h c.loop-k-test.true c.spot-j.result
    (c.spot-j.ensures
    ∙ ap₂ (λ (x y : ℕ). get_or a.t.now (a.h.d1 + x) 0 + get_or a.t.now (a.h.d2 + y) 0)
    c.low.ensures.0 c.high.ensures.0)
    r.result r.new.work r.ensures.0 r.ensures.1

pub returns : goal.returns
returns c =
    λ n v N lo cut dst w₀ g.
    let h = c.loop-k.invariant n v N lo cut dst w₀ g in
    passing_done g h (omega arith)
