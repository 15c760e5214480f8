use Rattle.std.proofs.Common.{refl, arith}
use Rattle.powers.proofs.CollectingRows.{rows_none, rows_head, row-asks}
use Rattle.powers.proofs.CollectingRows.{rows_more, rows_few, rows-done}
use Rattle.powers.proofs.collect.collect.Goals as goal

pub loop-i-init : goal.loop-i-init
loop-i-init c =
    λ lo ys g. rows_none g

pub row_head-h-requires : goal.row_head-h-requires
row_head-h-requires c =
    let g = c.requires.2 in
    let h = c.loop-i.invariant _ _ g in
    rows_head g h c.loop-i-test.true _ refl

pub take_row-e-requires : goal.take_row-e-requires
take_row-e-requires c =
    let g = c.requires.2 in
    let h = c.loop-i.invariant _ _ g in
    let r = c.row_head-h in (
      _,
      _,
      _,
      _,
      _,
      _,
      _,
      row-asks g h c.loop-i-test.true _ refl r.result.d1 r.result.d2 r.result.lim
          r.ensures,
    )

pub loop-i-preserved : goal.loop-i-preserved
loop-i-preserved c =
    let r = c.row_head-h in
    let k = c.take_row-e in λ lo ys g.
    let h = c.loop-i.invariant lo ys g in
    let l = c.loop-i-test.true in
    rows_more g h l _ refl r.result.d1 r.result.d2 r.result.lim r.ensures
    (k.ensures _ _ _ _ _ _ _
    (row-asks g h l _ refl r.result.d1 r.result.d2 r.result.lim r.ensures))

pub overflow_sub-work : goal.overflow_sub-work
overflow_sub-work c =
    let g = c.requires.2 in
    let h = c.loop-i.invariant _ _ g in
    omega (arith, g.room.small, rows_few g h)

pub overflow_sub-work-2 : goal.overflow_sub-work-2
overflow_sub-work-2 c =
    let g = c.requires.2 in
    let h = c.loop-i.invariant _ _ g in
    omega (arith, g.room.small, rows_few g h)

pub overflow_cast-work : goal.overflow_cast-work
overflow_cast-work c =
    let g = c.requires.2 in
    let h = c.loop-i.invariant _ _ g in
    omega (arith, g.room.small, rows_few g h)

pub returns : goal.returns
returns c =
    λ lo ys g.
    let h = c.loop-i.invariant lo ys g in
    rows-done g h (omega arith)
