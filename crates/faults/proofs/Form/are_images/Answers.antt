use Rattle.std.proofs.Common.{◌≡◌, refl, sym, ap, ◌∙◌, List, ℕ, ◌+◌, ◌-◌, ◌*◌, ◌≤◌, arith, eqb, take, drop, below_more, eqb-true}
use borrow.Author.Tests.{eqb-false}
use Rattle.series.specs.Faults.{first_fault}
use Rattle.series.specs.Arguments.{part}
use Rattle.series.proofs.Series.{first_fault-bound}
use Rattle.faults.proofs.CodeArguments.{component-passed, component-declined}
use Rattle.faults.proofs.CodeArguments.{argument_passed, argument_declined}
use Rattle.faults.proofs.CodeQuick.{passes-yes, passes-no}
use Rattle.faults.proofs.Form.are_images.Goals as goal
use Rattle.faults.proofs.Form.are_images.Goals.{After-is_image}

-- the part that is lent
lent : (N at : ℕ) (ws : List ℕ) → take (at + (N + 1) - at) (drop at ws) ≡ part N at ws
lent N at ws =
    let e : at + (N + 1) - at ≡ N + 1 = omega arith in
    ap (λ (z : ℕ). take z (drop at ws)) e

-- where a component was tested
module _ (c : After-is_image) where
  abbrev N : ℕ
  N = c.args.self.count

  -- component i
  abbrev series : List ℕ
  series = part N (c.loop-i.i * (N + 1)) c.args.words.now

  -- its first fault
  abbrev fault : ℕ
  fault = first_fault c.args.self.p N series

  says : c.is_image.result ≡ eqb fault (N + 1)
  says =
      c.is_image.ensures
      ∙ ap (λ (ws : List ℕ). eqb (first_fault c.args.self.p N ws) (N + 1))
      (lent N (c.loop-i.i * (N + 1)) c.args.words.now)

pub returns-then-not-is_image : goal.returns-then-not-is_image
returns-then-not-is_image c = λ a.
    let t = (goal.at.returns-then-not-is_image c).After-is_image in
    let x = c.args in
    let i = c.loop-i.i in
    let e = sym (says t) ∙ c.if-not-is_image.true in
    let l : fault t ≤ x.self.count =
    omega (
      arith,
      eqb-false (fault t) (x.self.count + 1) e,
      first_fault-bound x.self.p x.self.count (series t),
    ) in
    passes-no
    (argument_declined x.self.p x.self.count a x.words.now x.k i c.loop-i-test.true
    (c.loop-i.invariant a)
    (component-declined x.self.p x.self.count a x.words.now i (fault t) refl l))

pub loop-i-preserved : goal.loop-i-preserved
loop-i-preserved c =
    let t = (goal.at.loop-i-preserved c).After-is_image in
    let x = c.args in
    let e = sym (says t) ∙ c.if-not-is_image.false in
    λ a. below_more _ _ (c.loop-i.invariant a)
    (component-passed x.self.p x.self.count a x.words.now c.loop-i.i _ (eqb-true (fault t) (x.self.count + 1) e) refl)

pub returns : goal.returns
returns c = λ a.
    let x = c.args in
    passes-yes
    (argument_passed x.self.p x.self.count a x.words.now x.k (λ i h. c.loop-i.invariant a i (omega arith)))
