use Rattle.std.proofs.Common.{ℕ, ◌+◌, ◌*◌, ◌%◌, ◌≡◌, ap, get_or, arith, add-zero}
use Rattle.series.specs.Image.{coefficient}
use Rattle.substitution.proofs.Adding.{Turn, turns-few, turns-all, entry-lent, scaled-none, scaled-all}
use Rattle.substitution.proofs.Adding.{turn_inside, turn-bound, turn-done}
use Rattle.substitution.proofs.accumulate.add_by.Goals as goal
use Rattle.substitution.proofs.accumulate.add_by.Goals.{After-position-q, After-coefficient}

-- once the position of the entry that comes is known
turn : (d : After-position-q) →
    let a = d.args in
    let l = d.loop-w in
    Turn a.res.now a.work.now a.at a.first a.c a.p l.res (a.first + l.w-index)
    d.position-q.result
turn d =
    record {
      asks = d.requires;
      upto = d.loop-w.invariant;
      next = turns-few d.requires d.loop-w-test.true;
      is = rw (entry-lent d.requires _ d.loop-w-test.true) at d.position-q.ensures.0;
    }

-- its coefficient
coefficient_is : (d : After-coefficient) → d.coefficient.result
    ≡ coefficient (get_or d.args.work.now (d.args.at + 1 + (d.args.first + d.loop-w.w-index)) 0)
coefficient_is d = rw (entry-lent d.requires _ d.loop-w-test.true) at d.coefficient.ensures.0

pub loop-w-init : goal.loop-w-init
loop-w-init c =
    rw (add-zero c.args.first) (scaled-none c.requires)

pub bounds-res-q : goal.bounds-res-q
bounds-res-q c = turn_inside (turn (goal.at.bounds-res-q c).After-position-q)

pub overflow_add-res : goal.overflow_add-res
overflow_add-res c =
    let g = goal.at.overflow_add-res c in
    let e = ap (λ (y : ℕ). c.args.c * y) (coefficient_is g.After-coefficient) in
    omega (arith, e, turn-bound (turn g.After-position-q))

pub bounds-res-q-in-loop-w : goal.bounds-res-q-in-loop-w
bounds-res-q-in-loop-w c = turn_inside (turn (goal.at.bounds-res-q-in-loop-w c).After-position-q)

pub loop-w-preserved : goal.loop-w-preserved
loop-w-preserved c =
    let a = c.args in
    let g = goal.at.loop-w-preserved c in
    let r = get_or c.loop-w.res c.position-q.result 0 in
    let next : a.first + c.loop-w.w-index + 1 ≡ a.first + (c.loop-w.w-index + 1) = omega arith in
    rw (← next)
    (turn-done (turn g.After-position-q) _
    (ap (λ (y : ℕ). (r + a.c * y) % a.p) (coefficient_is g.After-coefficient)))

pub returns : goal.returns
returns c =
    scaled-all c.requires (turns-all c.requires c.loop-w-test.false) c.loop-w.invariant
