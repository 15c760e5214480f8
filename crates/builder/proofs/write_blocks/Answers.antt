use Rattle.std.proofs.Common.{◌≡◌, refl, sym, ap, ◌∙◌, ◌+◌, ◌-◌, ◌^◌, add-one, arith, get_or}
use Rattle.monomial.specs.Count.{half}
use Rattle.builder.specs.Build.{order_start, block_start}
use Rattle.monomial.proofs.Address.{codes-positive}
use Rattle.builder.proofs.BuildWritten.{advances_none, advances_both}
use Rattle.builder.proofs.BuildBlocks.{block-mono, block-first, block-all}
use Rattle.builder.proofs.BuildTurns.{rows_bound, seconds_bound, second_above, BlockTaken, block-taken, BlockPassed, block-passed}
use Rattle.builder.proofs.write_blocks.Goals as goal
use Rattle.builder.proofs.write_blocks.Goals.{Else-d-n, Then-d-n}

-- the turn's second code: its block is taken, or the rest of its row is passed
hit : (c : Then-d-n)
    → let l = c.loop-y in
    let k = c.args.k.now in
    BlockTaken k.z.n k.z.v l.y l.p (get_or c.args.ends (k.z.n - (get_or k.sums.now l.q 0 + l.r)) 0)
hit c =
    let l = c.loop-y in
    let k = c.args.k.now in
    let z = k.z in
    let d = get_or k.sums.now l.q 0 + l.r in
    block-taken z.n z.v z.count k.rows k.sums.now k.prepared k.seconds l.y l.q l.r k.lengths.1 l.invariant.0 c.loop-y-test.true d l.p refl l.invariant.4
    (get_or c.args.ends (z.n - d) 0) (c.requires.1.end (z.n - d) (omega arith)) c.if-d-n.true

miss : (c : Else-d-n)
    → let l = c.loop-y in
    let k = c.args.k.now in
    BlockPassed k.z.n k.z.v k.seconds l.y l.r l.p
miss c =
    let l = c.loop-y in
    let k = c.args.k.now in
    let z = k.z in
    block-passed z.n z.v z.count k.rows k.sums.now k.prepared k.seconds l.y l.q l.r k.lengths.1 l.invariant.0 c.loop-y-test.true
    (get_or k.sums.now l.q 0 + l.r) l.p refl l.invariant.4 c.if-d-n.false l.invariant.1

pub loop-y-init : goal.loop-y-init
loop-y-init c =
    let k = c.args.k.now in
    let z = k.z in
    let n = z.n in
    let v = z.v in
    let e : get_or c.args.ends n 0 ≡ order_start n v (n + 1) =
    c.requires.1.end n (omega arith) ∙ ap (order_start n v) (sym (add-one n)) in (
      omega arith,
      omega arith,
      omega arith,
      omega (arith, k.lengths.1, codes-positive n (v - half v)),
      e ∙ sym (block-first n v),
      rw e (advances_none n v (order_start n v (n + 1)) c.args.t.now),
    )

pub bounds-k-q : goal.bounds-k-q
bounds-k-q c =
    let l = c.loop-y in
    let k = c.args.k.now in
    let z = k.z in
    omega (
      arith,
      second_above z.n z.v z.count k.rows k.sums.now k.prepared k.seconds l.y l.q l.r k.lengths.1 l.invariant.0 c.loop-y-test.true,
      rows_bound z.n z.v z.count k.rows k.sums.now k.prepared,
    )

pub overflow_cast-y : goal.overflow_cast-y
overflow_cast-y c =
    let l = c.loop-y in
    let k = c.args.k.now in
    omega (arith, c.loop-y-test.true, seconds_bound k.z.n k.z.v k.z.count k.rows k.sums.now k.prepared k.seconds l.y l.q l.r k.lengths.1 l.invariant.0 c.loop-y-test.true)

pub write_block-requires : goal.write_block-requires
write_block-requires c =
    let l = c.loop-y in
    let k = c.args.k.now in
    let z = k.z in
    let h = hit (goal.at.write_block-requires c).Then-d-n in
    omega (
      arith,
      h.inside,
      h.short,
      k.prepared.total,
      c.requires.0,
      l.auto.t,
      l.invariant.4,
      block-mono z.n z.v 1 l.y l.invariant.2,
      block-first z.n z.v,
    )

pub overflow_add-p : goal.overflow_add-p
overflow_add-p c =
    omega (arith, (hit (goal.at.overflow_add-p c).Then-d-n).inside, c.args.k.now.prepared.allowed.few)

pub loop-y-preserved-then-d-n : goal.loop-y-preserved-then-d-n
loop-y-preserved-then-d-n c =
    let l = c.loop-y in
    let k = c.args.k.now in
    let z = k.z in
    let h = hit (goal.at.loop-y-preserved-then-d-n c).Then-d-n in
    let m = get_or c.args.ends (z.n - (get_or k.sums.now l.q 0 + l.r)) 0 in (
      omega (arith, l.invariant.0),
      omega (arith, c.if-d-n.true),
      omega arith,
      omega (arith, c.loop-y-test.true),
      h.next,
      advances_both z.n z.v (order_start z.n z.v (z.n + 1)) l.p (l.p + m) c.args.t.now l.t c.write_block.new.t l.invariant.5
          (c.write_block.ensures z.n z.v k.prepared.total h.codes),
    )

pub overflow_add-y-else-d-n : goal.overflow_add-y-else-d-n
overflow_add-y-else-d-n c =
    let l = c.loop-y in
    let k = c.args.k.now in
    omega (
      arith,
      (miss c).inside,
      seconds_bound k.z.n k.z.v k.z.count k.rows k.sums.now k.prepared k.seconds l.y l.q l.r k.lengths.1 l.invariant.0 c.loop-y-test.true,
    )

pub loop-y-smaller : goal.loop-y-smaller
loop-y-smaller c =
    let l = c.loop-y in
    let k = c.args.k.now in
    let z = k.z in
    omega (arith, second_above z.n z.v z.count k.rows k.sums.now k.prepared k.seconds l.y l.q l.r k.lengths.1 l.invariant.0 c.loop-y-test.true, c.loop-y-test.true)

pub loop-y-preserved : goal.loop-y-preserved
loop-y-preserved c =
    let l = c.loop-y in
    let z = c.args.k.now.z in
    let m = miss c in (
      omega (arith, l.invariant.0),
      omega arith,
      omega (arith, l.invariant.2),
      m.inside,
      m.next,
      l.invariant.5,
    )

pub returns : goal.returns
returns c =
    let l = c.loop-y in
    let k = c.args.k.now in
    let z = k.z in
    let e : l.y ≡ (z.n + 1) ^ (z.v - half z.v) = omega (arith, k.lengths.1, l.invariant.3, c.loop-y-test.false) in
    let p : l.p ≡ z.count = l.invariant.4 ∙ ap (block_start z.n z.v) e ∙ block-all z.n z.v ∙ sym k.prepared.total in
    rw p at l.invariant.5
