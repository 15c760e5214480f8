use Rattle.std.proofs.Common.{◌≡◌, refl, sym, ap, ◌∙◌, subst, List, ℕ, ◌+◌, ◌-◌, ◌*◌, ◌^◌, ◌≤◌, ◌<◌, arith, length, get_or, set}
use Rattle.builder.specs.declared.Codes.{Codes}
use Rattle.counts.specs.declared.Sizes.{Sizes}
use Rattle.monomial.specs.Count.{half, codes}
use Rattle.monomial.specs.Table.{D2}
use Rattle.builder.specs.Build.{Ends, block_start, filled}
use Rattle.monomial.proofs.Bounds.{codes-bound}
use Rattle.builder.proofs.BuildFilled.{filled-again}
use Rattle.builder.proofs.BuildBlocks.{block_none}
use Rattle.builder.proofs.BuildPlaces.{seconds_codes, D2s, D2s-none, D2s-next, D2s-past, D2s-all}
use Rattle.builder.proofs.BuildTurns.{rows_bound, seconds_bound, second_above, BlockTaken, block-taken, BlockPassed, block-passed}
use Rattle.builder.proofs.write_d2.Goals as goal
use Rattle.builder.proofs.write_d2.Goals.{Else-d-n, Then-d-n}

-- the section after it was cleared
cleared : (z : Sizes) (s t : List ℕ) → z.codes ≡ codes z.n z.v → z.count + z.count + z.codes + z.codes ≤ length s
    → length t ≡ length s → t ≡ filled (2 * z.count + z.codes) (λ c. 0) z.codes s
    → (2 * z.count + z.codes + codes z.n z.v ≤ length t)
    × (t ≡ filled (2 * z.count + z.codes) (λ c. 0) (codes z.n z.v) s)
cleared z s t k room same is =
    (omega arith, is ∙ ap (λ (e : ℕ). filled (2 * z.count + z.codes) (λ c. 0) e s) k)

-- the turn's second code: its block is taken, or the rest of its row is passed
taken : (k : Codes) (ends : List ℕ) → Ends k.z.n k.z.v (k.z.n + 1) ends
    → (y q r start : ℕ) → y ≡ q * (k.z.n + 1) + r → y < k.seconds → start ≡ block_start k.z.n k.z.v y
    → get_or k.sums.now q 0 + r ≤ k.z.n
    → BlockTaken k.z.n k.z.v y start (get_or ends (k.z.n - (get_or k.sums.now q 0 + r)) 0)
taken k ends e y q r start yqr below at low =
    let z = k.z in
    let d = get_or k.sums.now q 0 + r in
    block-taken z.n z.v z.count k.rows k.sums.now k.prepared k.seconds y q r k.lengths.1 yqr below d start refl at
    (get_or ends (z.n - d) 0) (e.end (z.n - d) (omega arith)) low

hit : (c : Then-d-n)
    → let l = c.loop-y in
    let k = c.args.k.now in
    BlockTaken k.z.n k.z.v l.y l.start (get_or c.args.ends (k.z.n - (get_or k.sums.now l.q 0 + l.r)) 0)
hit c =
    let l = c.loop-y in
    taken c.args.k.now c.args.ends c.requires.1 l.y l.q l.r l.start l.invariant.0 c.loop-y-test.true l.invariant.3 c.if-d-n.true

miss : (c : Else-d-n)
    → let l = c.loop-y in
    let k = c.args.k.now in
    BlockPassed k.z.n k.z.v k.seconds l.y l.r l.start
miss c =
    let l = c.loop-y in
    let k = c.args.k.now in
    let z = k.z in
    block-passed z.n z.v z.count k.rows k.sums.now k.prepared k.seconds l.y l.q l.r k.lengths.1 l.invariant.0 c.loop-y-test.true
    (get_or k.sums.now l.q 0 + l.r) l.start refl l.invariant.3 c.if-d-n.false l.invariant.1

-- the sizes are small, and the words of a turn are in the section
sized : (k : Codes) → (k.z.count ≤ 8008) × (k.z.codes ≤ 6561)
sized k =
    let a = k.prepared.allowed in
    (omega (arith, k.prepared.total, a.few), omega (arith, k.lengths.0, codes-bound k.z.n k.z.v a))

inside : (k : Codes) (y : ℕ) → y < k.seconds → y < k.z.codes
inside k y l = omega (arith, l, k.lengths.0, k.lengths.1, seconds_codes k.z.n k.z.v k.prepared.allowed.v_low)

pub loop-y-init : goal.loop-y-init
loop-y-init c =
    let k = c.args.k.now in
    let z = k.z in
    let s = c.args.t.now in
    let e = codes z.n z.v in
    let at = 2 * z.count + z.codes in
    let d = cleared z s c.clear.new.t k.lengths.0 c.requires.0 c.clear.auto.t c.clear.ensures in (
      omega arith,
      omega arith,
      omega arith,
      sym (block_none z.n z.v),
      subst (λ (y : List ℕ). y ≡ filled at (D2s z.n z.v 0) e y) (sym d.1)
          (D2s-none z.n z.v at s (omega (arith, k.lengths.0, c.requires.0))),
    )

pub bounds-k-q : goal.bounds-k-q
bounds-k-q c =
    let l = c.loop-y in
    let k = c.args.k.now in
    let z = k.z in
    omega (
      arith,
      second_above z.n z.v z.count k.rows k.sums.now k.prepared k.seconds l.y l.q l.r k.lengths.1 l.invariant.0 c.loop-y-test.true,
      rows_bound z.n z.v z.count k.rows k.sums.now k.prepared,
    )

pub overflow_cast-t : goal.overflow_cast-t
overflow_cast-t c =
    let l = c.loop-y in
    let k = c.args.k.now in
    omega (
      arith,
      (taken k c.args.ends c.requires.1 l.y l.q l.r l.start l.invariant.0 c.loop-y-test.true l.invariant.3 c.if-d-n.true).inside,
      k.prepared.allowed.few,
    )

pub overflow_add-t : goal.overflow_add-t
overflow_add-t c =
    let k = c.args.k.now in
    omega (arith, (sized k).0, (sized k).1, inside k c.loop-y.y c.loop-y-test.true)

pub offset_bounds-t-at : goal.offset_bounds-t-at
offset_bounds-t-at c =
    let k = c.args.k.now in
    omega (arith, (sized k).0, (sized k).1, inside k c.loop-y.y c.loop-y-test.true)

pub bounds-t-at : goal.bounds-t-at
bounds-t-at c =
    omega (arith, inside c.args.k.now c.loop-y.y c.loop-y-test.true, c.requires.0, c.loop-y.auto.t, c.clear.auto.t)

pub overflow_add-start : goal.overflow_add-start
overflow_add-start c = omega (arith, (hit c).inside, c.args.k.now.prepared.allowed.few)

pub loop-y-preserved-then-d-n : goal.loop-y-preserved-then-d-n
loop-y-preserved-then-d-n c =
    let l = c.loop-y in
    let k = c.args.k.now in
    let z = k.z in
    let at = 2 * z.count + z.codes in
    let h = hit c in
    let d = cleared z c.args.t.now c.clear.new.t k.lengths.0 c.requires.0 c.clear.auto.t c.clear.ensures in (
      omega (arith, l.invariant.0),
      omega (arith, c.if-d-n.true),
      omega (arith, c.loop-y-test.true),
      h.next,
      ap (λ (y : List ℕ). set y (at + l.y) l.start) l.invariant.4
          ∙ D2s-next z.n z.v at c.clear.new.t d.0 l.y l.start (omega (arith, k.lengths.0, inside k l.y c.loop-y-test.true)) h.place,
    )

pub overflow_add-y-else-d-n : goal.overflow_add-y-else-d-n
overflow_add-y-else-d-n c =
    let l = c.loop-y in
    let k = c.args.k.now in
    omega (
      arith,
      (miss c).inside,
      seconds_bound k.z.n k.z.v k.z.count k.rows k.sums.now k.prepared k.seconds l.y l.q l.r k.lengths.1 l.invariant.0 c.loop-y-test.true,
    )

pub loop-y-smaller : goal.loop-y-smaller
loop-y-smaller c =
    let l = c.loop-y in
    let k = c.args.k.now in
    let z = k.z in
    omega (arith, second_above z.n z.v z.count k.rows k.sums.now k.prepared k.seconds l.y l.q l.r k.lengths.1 l.invariant.0 c.loop-y-test.true, c.loop-y-test.true)

pub loop-y-preserved : goal.loop-y-preserved
loop-y-preserved c =
    let l = c.loop-y in
    let k = c.args.k.now in
    let z = k.z in
    let at = 2 * z.count + z.codes in
    let m = miss c in
    let d = cleared z c.args.t.now c.clear.new.t k.lengths.0 c.requires.0 c.clear.auto.t c.clear.ensures in (
      omega (arith, l.invariant.0),
      omega arith,
      m.inside,
      m.next,
      l.invariant.4
          ∙ D2s-past z.n z.v at c.clear.new.t d.0 l.y (l.y + (z.n + 1 - l.r)) (omega arith) m.none,
    )

pub returns : goal.returns
returns c =
    let k = c.args.k.now in
    let z = k.z in
    let l = c.loop-y in
    let s = c.args.t.now in
    let at = 2 * z.count + z.codes in
    let e = codes z.n z.v in
    let d = cleared z s c.clear.new.t k.lengths.0 c.requires.0 c.clear.auto.t c.clear.ensures in
    let y : l.y ≡ (z.n + 1) ^ (z.v - half z.v) = omega (arith, k.lengths.1, l.invariant.2, c.loop-y-test.false) in
    let twice : at ≡ z.count + z.count + z.codes = omega arith in
    l.invariant.4
    ∙ ap (λ (y : ℕ). filled at (D2s z.n z.v y) e c.clear.new.t) y
    ∙ D2s-all z.n z.v at c.clear.new.t d.0
    ∙ ap (filled at (D2 z.n z.v) e) d.1
    ∙ filled-again at e s (omega (arith, k.lengths.0, c.requires.0)) (D2 z.n z.v) (λ z. 0)
    ∙ ap (λ (y : ℕ). filled y (D2 z.n z.v) e s) twice
