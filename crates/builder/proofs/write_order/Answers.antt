use Rattle.std.proofs.Common.{◌≡◌, refl, sym, ap, ◌∙◌, get_or, ◌+◌, ◌-◌, ◌^◌, arith}
use Rattle.monomial.specs.Count.{half}
use Rattle.builder.proofs.BuildWritten.{advances_none, advances_both}
use Rattle.builder.proofs.BuildOrder.{row_start, row-none, row-all}
use Rattle.builder.proofs.BuildTurns.{rows_bound, Taken, taken, Passed, passed}
use Rattle.builder.proofs.write_order.Goals as goal
use Rattle.builder.proofs.write_order.Goals.{Else-d-s, Then-d-s}

-- the turn's row: one of its codes is taken, or the rest of its rows is passed
hit : (c : Then-d-s)
    → let l = c.loop-x in
    let k = c.args.k.now in
    Taken k.z.n k.z.v c.args.s l.x (get_or k.sums.now l.q 0 + l.r) l.p
hit c =
    let l = c.loop-x in
    let k = c.args.k.now in
    let z = k.z in
    taken z.n z.v z.count k.rows k.sums.now k.prepared c.args.s l.x l.q l.r (get_or k.sums.now l.q 0 + l.r)
    l.p c.requires.1 l.invariant.0 c.loop-x-test.true refl l.invariant.3 c.if-d-s.true

miss : (c : Else-d-s)
    → let l = c.loop-x in
    let k = c.args.k.now in
    Passed k.z.n k.z.v k.rows c.args.s l.x l.q l.r l.p
miss c =
    let l = c.loop-x in
    let k = c.args.k.now in
    let z = k.z in
    passed z.n z.v z.count k.rows k.sums.now k.prepared c.args.s l.x l.q l.r (get_or k.sums.now l.q 0 + l.r)
    l.p c.requires.1 l.invariant.0 c.loop-x-test.true refl l.invariant.3 c.if-d-s.false l.invariant.1

pub loop-x-init : goal.loop-x-init
loop-x-init c =
    let a = c.args in
    let k = a.k.now in
    let w = c.requires in (
      omega arith,
      omega arith,
      omega arith,
      w.2 ∙ sym (row-none k.z.n k.z.v a.s w.1 k.prepared.allowed.v_low),
      advances_none k.z.n k.z.v a.from a.t.now,
    )

pub bounds-k-q : goal.bounds-k-q
bounds-k-q c =
    let k = c.args.k.now in
    omega (arith, k.prepared.sums.size, rows_bound k.z.n k.z.v k.z.count k.rows k.sums.now k.prepared)

pub overflow_mul-x : goal.overflow_mul-x
overflow_mul-x c =
    omega (arith, (hit (goal.at.overflow_mul-x c).Then-d-s).small)

pub overflow_add-x : goal.overflow_add-x
overflow_add-x c =
    omega (arith, (hit (goal.at.overflow_add-x c).Then-d-s).small)

pub overflow_cast-x : goal.overflow_cast-x
overflow_cast-x c =
    omega (arith, (hit (goal.at.overflow_cast-x c).Then-d-s).small)

pub write_position-requires : goal.write_position-requires
write_position-requires c =
    omega (
      arith,
      (hit (goal.at.write_position-requires c).Then-d-s).codes.inside,
      c.args.k.now.prepared.total,
      c.requires.0,
      c.loop-x.auto.t,
    )

pub overflow_add-p : goal.overflow_add-p
overflow_add-p c =
    omega (arith, (hit (goal.at.overflow_add-p c).Then-d-s).codes.inside)

pub loop-x-preserved-then-d-s : goal.loop-x-preserved-then-d-s
loop-x-preserved-then-d-s c =
    let l = c.loop-x in
    let a = c.args in
    let z = a.k.now.z in
    let h = hit (goal.at.loop-x-preserved-then-d-s c).Then-d-s in
    let call = c.write_position in (
      omega arith,
      omega arith,
      omega arith,
      h.next,
      advances_both z.n z.v a.from l.p (l.p + 1) a.t.now l.t call.new.t l.invariant.4
          (call.ensures z.n z.v a.k.now.prepared.total h.codes),
    )

pub loop-x-preserved : goal.loop-x-preserved
loop-x-preserved c =
    let l = c.loop-x in
    let m = miss c in
    (omega arith, omega arith, m.inside, m.next, l.invariant.4)

pub returns : goal.returns
returns c =
    let l = c.loop-x in
    let a = c.args in
    let k = a.k.now in
    let z = k.z in
    let low = k.prepared.allowed.v_low in
    let e : l.x ≡ (z.n + 1) ^ (half z.v - 1) = omega (arith, k.prepared.rows) in
    (l.invariant.3 ∙ ap (row_start z.n z.v a.s) e ∙ row-all z.n z.v a.s c.requires.1 low, l.invariant.4)
