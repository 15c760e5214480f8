use Rattle.std.proofs.Common.{◌≡◌, refl, sym, ap, ap₂, ◌∙◌, subst, List, ℕ, ◌+◌, ◌*◌, ◌≤◌, ◌<◌, arith, length, get_or, set, length-set}
use Rattle.monomial.specs.Count.{codes}
use Rattle.monomial.specs.Table.{D1}
use Rattle.builder.specs.Build.{C1s, order_start, filled}
use Rattle.builder.proofs.BuildFilled.{get_d_before_filled, filled-again}
use Rattle.builder.proofs.BuildPlaces.{first-bound, first_code, D1s, D1s-none, D1s-next, D1s-all}
use Rattle.builder.proofs.write_d1.Goals as goal
use Rattle.builder.proofs.write_d1.Goals.{In-loop-i}

-- the section after it was cleared
cleared : (n v at e b : ℕ) (s t : List ℕ) → e ≡ codes n v → b ≡ at + at → at + at + e ≤ length s
    → length t ≡ length s → t ≡ filled b (λ z. 0) e s
    → (at + at + codes n v ≤ length t) × (t ≡ filled (at + at) (λ z. 0) (codes n v) s)
cleared n v at e b s t k i room same is =
    (omega arith, is ∙ ap₂ (λ (y z : ℕ). filled y (λ y. 0) z s) i k)

-- the code that a turn reads
found : (c : In-loop-i)
    → let z = c.args.z in get_or c.loop-i.t c.loop-i.i 0 ≡ get_or (C1s z.n z.v) c.loop-i.i 0
found c =
    let a = c.args in
    let z = a.z in
    let w = c.requires in
    let l = c.loop-i in
    let at = z.count + z.count in
    let k = cleared z.n z.v z.count z.codes (2 * z.count) a.t.now c.clear.new.t w.2 (omega arith) w.4 c.clear.auto.t c.clear.ensures in
    let e = codes z.n z.v in
    let below : l.i < at = omega (arith, c.loop-i-test.true, w.1, w.3, first-bound z.n z.v) in
    ap (λ (s : List ℕ). get_or s l.i 0) l.invariant.1
    ∙ get_d_before_filled at e c.clear.new.t k.0 (D1s z.n z.v l.i) l.i below
    ∙ ap (λ (s : List ℕ). get_or s l.i 0) k.1
    ∙ get_d_before_filled at e a.t.now (omega (arith, w.2, w.4)) (λ z. 0) l.i below
    ∙ w.5 l.i c.loop-i-test.true

inside : (c : In-loop-i) → let z = c.args.z in get_or c.loop-i.t c.loop-i.i 0 < codes z.n z.v
inside c =
    let z = c.args.z in
    omega (arith, found c, (first_code z.n z.v c.loop-i.i (omega (arith, c.requires.3, c.loop-i-test.true))).0)

pub loop-i-init : goal.loop-i-init
loop-i-init c =
    let a = c.args in
    let z = a.z in
    let w = c.requires in
    let k = cleared z.n z.v z.count z.codes (2 * z.count) a.t.now c.clear.new.t w.2 (omega arith) w.4 c.clear.auto.t c.clear.ensures in
    let at = z.count + z.count in
    let e = codes z.n z.v in (
      refl,
      subst (λ (s : List ℕ). s ≡ filled at (D1s z.n z.v 0) e s) (sym k.1)
          (D1s-none z.n z.v at a.t.now (omega (arith, w.2, w.4))),
    )

pub overflow_cast-t : goal.overflow_cast-t
overflow_cast-t c =
    let z = c.args.z in
    let w = c.requires in
    omega (arith, c.loop-i-test.true, w.3, first-bound z.n z.v, w.0.few)

pub offset_bounds-t-i : goal.offset_bounds-t-i
offset_bounds-t-i c =
    let z = c.args.z in
    let w = c.requires in
    omega (arith, c.loop-i-test.true, w.3, first-bound z.n z.v, w.0.few)

pub bounds-t-i : goal.bounds-t-i
bounds-t-i c =
    let z = c.args.z in
    let w = c.requires in
    omega (arith, c.loop-i-test.true, w.1, w.3, w.4, first-bound z.n z.v, c.loop-i.auto.t, c.clear.auto.t)

pub bounds-t-at : goal.bounds-t-at
bounds-t-at c =
    let w = (goal.at.bounds-t-at c).In-loop-i in
    omega (arith, inside w, c.requires.2, c.requires.4, c.loop-i.invariant.0, c.clear.auto.t)

pub loop-i-preserved : goal.loop-i-preserved
loop-i-preserved c =
    let a = c.args in
    let z = a.z in
    let w = c.requires in
    let l = c.loop-i in
    let s = c.clear.new.t in
    let at = z.count + z.count in
    let twice : 2 * z.count ≡ at = omega arith in
    let k = cleared z.n z.v z.count z.codes (2 * z.count) a.t.now s w.2 twice w.4 c.clear.auto.t c.clear.ensures in
    let x = get_or l.t l.i 0 in (
      length-set l.t (2 * z.count + x) (l.i + 1) ∙ l.invariant.0,
      ap (λ (y : ℕ). set l.t (y + x) (l.i + 1)) twice
          ∙ ap₂ (λ (y : List ℕ) (x : ℕ). set y (at + x) (l.i + 1)) l.invariant.1 (found (goal.at.loop-i-preserved c).In-loop-i)
          ∙ D1s-next z.n z.v at s k.0 l.i (omega (arith, w.3, c.loop-i-test.true)),
    )

pub returns : goal.returns
returns c =
    let a = c.args in
    let z = a.z in
    let w = c.requires in
    let l = c.loop-i in
    let s = c.clear.new.t in
    let at = z.count + z.count in
    let k = cleared z.n z.v z.count z.codes (2 * z.count) a.t.now s w.2 (omega arith) w.4 c.clear.auto.t c.clear.ensures in
    let e = codes z.n z.v in
    let i : l.i ≡ order_start z.n z.v (z.n + 1) = omega (arith, w.3) in
    l.invariant.1
    ∙ ap (λ (y : ℕ). filled at (D1s z.n z.v y) e s) i
    ∙ D1s-all z.n z.v at s k.0
    ∙ ap (filled at (D1 z.n z.v) e) k.1
    ∙ filled-again at e a.t.now (omega (arith, w.2, w.4)) (D1 z.n z.v) (λ z. 0)
