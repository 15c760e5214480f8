use Rattle.std.proofs.Common.{ap₂, ◌∙◌, ℕ, ◌+◌, ◌<◌, add-one, arith, get_or}
use Rattle.product.proofs.Accumulate.{rowed_none, row-turn, row_fits, row-code, row-coefficient}
use Rattle.product.proofs.row.Goals as goal

pub loop-k-init : goal.loop-k-init
loop-k-init c =
    rowed_none _ _ _ _

pub spot-j-requires : goal.spot-j-requires
spot-j-requires c =
    let a = c.args in
    let l = c.loop-k in
    let h : l.k < a.h.lim = c.loop-k-test.true in
    let q = row-code a.t.now a.work.now a.r a.h.d1 a.h.d2 a.c a.cs (a.cs + a.r) a.h.lim a.pairs
    c.requires l.work l.k l.invariant l.k in
    (omega (arith, c.requires.first_in l.k h, q), omega (arith, c.requires.second_in l.k h, q))

pub times-x-requires : goal.times-x-requires
times-x-requires c =
    let a = c.args in
    let l = c.loop-k in
    let h : l.k < a.h.lim = c.loop-k-test.true in
    let q = row-coefficient a.t.now a.work.now a.r a.h.d1 a.h.d2 a.c a.cs (a.cs + a.r) a.h.lim a.pairs
    c.requires l.work l.k l.invariant l.k in
    (c.requires.factor, omega (arith, c.requires.coefficients l.k h, q))

pub add_at-requires : goal.add_at-requires
add_at-requires c =
    let a = c.args in
    let f = row_fits a.t.now a.work.now a.r a.h.d1 a.h.d2 a.c a.cs (a.cs + a.r) a.h.lim a.pairs
    c.requires c.loop-k.work c.loop-k.k c.spot-j.result c.times-x.result
    c.loop-k-test.true c.loop-k.invariant
    (c.spot-j.ensures
    ∙ ap₂ (λ (x y : ℕ). get_or a.t.now (a.h.d1 + x) 0 + get_or a.t.now (a.h.d2 + y) 0)
    c.low.ensures.0 c.high.ensures.0)
    c.times-x.ensures in
    record { j_in_bounds = f.0; x_bound = f.1 }

pub loop-k-preserved : goal.loop-k-preserved
loop-k-preserved c =
    let a = c.args in
    rw add-one (row-turn a.t.now a.work.now a.r a.h.d1 a.h.d2 a.c a.cs (a.cs + a.r) a.h.lim a.pairs
    c.requires c.loop-k.work c.add_at.new.work c.loop-k.k c.spot-j.result c.times-x.result
    c.loop-k-test.true c.loop-k.invariant
    (c.spot-j.ensures
    ∙ ap₂ (λ (x y : ℕ). get_or a.t.now (a.h.d1 + x) 0 + get_or a.t.now (a.h.d2 + y) 0)
    c.low.ensures.0 c.high.ensures.0)
    c.times-x.ensures c.add_at.ensures)
