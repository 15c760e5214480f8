use Rattle.std.proofs.Common.{◌≡◌, refl, ap, ◌∙◌, ℕ, ◌+◌, ◌*◌, arith, length, get_or, set, length-set}
use Rattle.builder.specs.Build.{DigitSums}
use Rattle.builder.proofs.BuildRows.{sums_start, sums_le, sums_next}
use Rattle.builder.proofs.digit_sums.Goals as goal
use Rattle.builder.proofs.digit_sums.Goals.{In-loop-c, then-r-b, else-r-b}

-- the sums after a turn
held : (c : In-loop-c)
    → let l = c.loop-c in
    let ds = set l.ds l.c (get_or l.ds l.q 0 + l.r) in
    (length ds ≡ 1331) × DigitSums c.args.b (l.c + 1) ds
held c =
    let l = c.loop-c in
    let a = c.args in (
      length-set l.ds l.c (get_or l.ds l.q 0 + l.r) ∙ l.invariant.3,
      sums_next a.b (omega arith) l.c l.ds l.invariant.4 l.q l.r l.invariant.0 l.invariant.1 l.invariant.2 (omega arith),
    )

pub loop-c-init : goal.loop-c-init
loop-c-init c =
    let p = c.requires in
    (omega arith, omega arith, omega arith, rw p.3 refl, rw p.3 (sums_start c.args.b (omega arith) 1331 (omega arith)))

pub overflow_add-ds : goal.overflow_add-ds
overflow_add-ds c =
    let l = c.loop-c in
    let a = c.args in
    omega (arith, sums_le a.b (omega arith) l.c l.ds l.invariant.4 (omega arith) l.q l.invariant.2)

pub loop-c-preserved : goal.loop-c-preserved
loop-c-preserved c =
    let k = held (goal.at.loop-c-preserved c).In-loop-c in
    let times : ℕ → ℕ = (λ x. x * c.args.b) in
    elim c.if-r-b.branch [
      | then-r-b w ↦ (omega (arith, ap times w.q-is), omega arith, omega arith, k.0, k.1)
      | else-r-b w ↦ (omega (arith, ap times w.q-is), omega arith, omega arith, k.0, k.1)
    ]
