use Rattle.std.proofs.Common.{◌≡◌, refl, ℕ, ◌+◌, ◌*◌, ◌≤◌, ◌<◌, List, [], ◌∷◌, length, get_or}
use Rattle.std.proofs.Common.{sym, ap, ◌∙◌, arith, below_more}
use Rattle.answer.specs.Refusals.{declined, verdict}
use Rattle.series.specs.Faults.{first_fault}
use Rattle.series.specs.Arguments.{part, argument_check, Given, arguments_check}
use Rattle.series.proofs.Chunks.{parts-none, part_next, parts_more, parts-all}
use Rattle.series.proofs.Series.{first_fault-count}
use Rattle.faults.proofs.CodeArguments.{scan, scan-start, scan_good, scan-faulty, scan-end}
use Rattle.faults.proofs.CodeArguments.{word-inside}
use Rattle.faults.proofs.CodeArguments.{component-passed, component-declined}
use Rattle.faults.proofs.CodeArguments.{argument_passed, argument_declined}
use Rattle.faults.proofs.CodeArguments.{none, argument, argument-next, argument-stop, arguments-end}
use Rattle.faults.proofs.check.image_check.Goals as goal
use Rattle.faults.proofs.check.image_check.Goals.{In-Some}

-- ---- where a component is taken up
module _ (c : In-Some) where
  abbrev N : ℕ
  N = c.args.f.count

  abbrev p : ℕ
  p = c.args.f.p

  abbrev given : List Given
  given = c.args.arguments.now

  abbrev j : ℕ
  j = c.arguments.argument

  abbrev ws : List ℕ
  ws = (argument given j).0.now

  abbrev i : ℕ
  i = c.loop-component.component-iterator.count

  abbrev series : List ℕ
  series = c.in-Some.part.now

  -- the part that comes is the next component
  part_is : series ≡ part N (i * (N + 1)) ws
  part_is =
      let d = c.in-Some.ensures.steps.0.0.1 in
      part_next c.loop-component.invariant.left _ _ d.0 d.1

  more : i < (argument given j).1
  more = omega (arith, c.loop-component.invariant.left.left_is, c.in-Some.ensures.steps.0.1)

  long : length series ≡ N + 1
  long = c.in-Some.ensures.steps.0.0.1.1 ∙ c.loop-component.invariant.left.size_is

  -- its first fault is the first of the call
  faulty : (k : ℕ) → k ≤ N → first_fault p N series ≡ k
      → declined 7 ((j + 1) ∷ (i + 1) ∷ k ∷ []) ≡ arguments_check p N 1 given
  faulty k l e =
      sym
      (c.arguments.invariant.1
      ∙ argument-stop p N (j + 1) given j c.arguments-test.true
      (argument_declined p N (j + 1) ws _ i more c.loop-component.invariant.earlier
      (component-declined p N (j + 1) ws i k (ap (first_fault p N) (sym part_is) ∙ e) l)))

pub loop-component-init : goal.loop-component-init
loop-component-init c =
    let h = c.chunks_exact.ensures in
    let d = c.take-parts.ensures in
    let e = c.enumerate-component-items.ensures in
    rw (c.into_iter-component-iterator.ensures.into_iter_gives, e.count, e.source, d.source)
    record {
      none = c.arguments.invariant.0;
      left = parts-none d.count h.size h.rest;
      earlier = λ x l. absurd (omega arith);
    }

pub loop-k-init : goal.loop-k-init
loop-k-init c =
    let t = (goal.at.loop-k-init c).In-Some in
    (c.loop-component.invariant.none, scan-start (p t) (N t) (series t) (long t) _ refl c.if-f-m.false)

pub loop-k-preserved : goal.loop-k-preserved
loop-k-preserved c =
    let t = (goal.at.loop-k-preserved c).In-Some in
    let k = c.loop-k.k in
    let l : k ≤ N t = omega (arith, c.loop-k-test.true) in
    let m = get_or (series t) 0 0 in
    let good = sym c.word_is_good.ensures ∙ c.if-not-word_is_good.false in (
      c.loop-k.invariant.0,
      ap (λ x. scan (p t) (N t) m (k + 1) x (series t)) c.position-prev.ensures.0
          ∙ sym (scan_good (p t) (N t) (series t) (long t) m k _ l good)
          ∙ c.loop-k.invariant.1,
    )

pub loop-component-preserved : goal.loop-component-preserved
loop-component-preserved c =
    let t = (goal.at.loop-component-preserved c).In-Some in
    let d = c.in-Some.ensures.steps in
    let b = d.0.0.1 in
    let L = c.loop-component.invariant in
    let e =
    ap (first_fault (p t) (N t)) (sym (part_is t))
    ∙ sym c.loop-k.invariant.1
    ∙ scan-end (p t) (N t) (series t) (long t) _ c.loop-k.k _ (omega (arith, c.loop-k-test.false)) in
    rw d.2
    record {
      none = c.loop-k.invariant.0;
      left = parts_more L.left _ _ b.0 b.1 d.0.1 d.0.0.0;
      earlier =
          below_more _ _ L.earlier
          (component-passed (p t) (N t) (j t + 1) (ws t) (i t) _ e (omega (arith, c.loop-k-test.false)));
    }

pub arguments-preserved : goal.arguments-preserved
arguments-preserved c =
    let f = c.args.f in
    let j = c.arguments.argument in
    let xs = c.args.arguments.now in
    let x = argument xs j in
    let L = c.loop-component.invariant in
    let all =
    parts-all L.left
    (λ l. omega (arith, word-inside f.count _ x.1 f.count _ l (omega arith) (c.requires j none c.arguments-test.true)))
    (λ h. (c.in-None.ensures.steps.0 h).1.0) in
    let e : x.1 ≡ c.loop-component.component-iterator.count = omega (arith, all, L.left.left_is) in (
      L.none,
      c.arguments.invariant.1
          ∙ argument-next f.p f.count (j + 1) xs j c.arguments-test.true
          (ap (λ k. argument_check f.p f.count (j + 1) k x.0.now) e
          ∙ argument_passed f.p f.count (j + 1) x.0.now _ L.earlier),
    )

pub returns-after-arguments : goal.returns-after-arguments
returns-after-arguments c =
    let f = c.args.f in
    ap verdict c.arguments.invariant.0
    ∙ sym
    (c.arguments.invariant.1
    ∙ arguments-end f.p f.count (c.arguments.argument + 1) c.args.arguments.now _ c.arguments-test.false)

pub returns-then-f-m : goal.returns-then-f-m
returns-then-f-m c =
    let t = (goal.at.returns-then-f-m c).In-Some in
    rw c.in-Some.ensures.steps.1
    (faulty t 0 (omega arith) (first_fault-count (p t) (N t) (series t) c.if-f-m.true))

pub returns-then-not-word_is_good : goal.returns-then-not-word_is_good
returns-then-not-word_is_good c =
    let t = (goal.at.returns-then-not-word_is_good c).In-Some in
    let k = c.loop-k.k in
    let l : k ≤ N t = omega (arith, c.loop-k-test.true) in
    let bad = sym c.word_is_good.ensures ∙ c.if-not-word_is_good.true in
    rw c.in-Some.ensures.steps.1
    (faulty t k l
    (sym c.loop-k.invariant.1
    ∙ scan-faulty (p t) (N t) (series t) (long t) (get_or (series t) 0 0) k _ l bad))
