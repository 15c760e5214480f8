use Rattle.std.proofs.Common.{below_more, ◌≡◌, sym, ◌∙◌, [], ◌∷◌, ℕ, ◌+◌, ◌*◌, arith, get_or}
use Rattle.answer.specs.Refusals.{passed, declined}
use Rattle.series.specs.Image.{position}
use Rattle.faults.proofs.CodeConstants.{constant_of, constants-passed, constants-declined}
use Rattle.faults.proofs.CodeConstants.{constant-here, constant-not_here}
use Rattle.faults.proofs.check.constant_check.Goals as goal
use Rattle.faults.proofs.check.constant_check.Goals.{In-loop-i}

-- ---- where a component is taken up
module _ (c : In-loop-i) where
  abbrev N : ℕ
  N = c.args.count

  abbrev i : ℕ
  i = c.loop-i.i

  abbrev word : ℕ
  word = get_or c.args.map.now (i * (N + 1) + 1) 0

  constant : position word ≡ 1 → constant_of N c.args.map.now i ≡ declined 8 ((i + 1) ∷ [])
  constant =
      let m = c.requires.by_index in
      constant-here N c.args.map.now m.0 m.1 c.args.k
      c.requires.count_nonzero m.2 i c.loop-i-test.true

  no_constant : (position word ≡ 1 → ⊥) → constant_of N c.args.map.now i ≡ passed
  no_constant =
      let m = c.requires.by_index in
      constant-not_here N c.args.map.now m.0 m.1 c.args.k
      c.requires.count_nonzero m.2 i c.loop-i-test.true

pub returns-then-position-eq1 : goal.returns-then-position-eq1
returns-then-position-eq1 c =
    let t = (goal.at.returns-then-position-eq1 c).In-loop-i in
    let d = constant t (sym c.position.ensures.0 ∙ c.if-position-eq1.true) in
    sym (constants-declined (N t) c.args.map.now c.args.k (i t) c.loop-i-test.true
    c.loop-i.invariant d)

pub loop-i-preserved : goal.loop-i-preserved
loop-i-preserved c =
    let t = (goal.at.loop-i-preserved c).In-loop-i in
    let d = no_constant t (λ e. c.if-position-eq1.false (c.position.ensures.0 ∙ e)) in
    below_more _ _ c.loop-i.invariant d

pub returns : goal.returns
returns c =
    let s = c.args in
    sym (constants-passed s.count s.map.now s.k
    (λ j l. c.loop-i.invariant j (omega arith)))
