-- `is_image` meets its contract: its tests pass where no word is faulty, and only there.
use Rattle.std.proofs.Common.{sum, refl, sym, ap, ◌∙◌, ◌+◌, arith, ne_eqb, eqb-true, leb-true, leb-false, eqb, get_or}
use Rattle.std.proofs.lemmas.List.{take_rest}
use borrow.Author.Tests.{eqb-false}
use Rattle.series.specs.Faults.{first_fault}
use Rattle.series.proofs.Series.{first_fault-count}
use Rattle.faults.proofs.CodeQuick.{misfits-fault, outside_fault, zeros-decide}
use Rattle.faults.proofs.Form.is_image.Goals as goal
use Rattle.faults.proofs.Form.is_image.Goals.{then-m-self, else-m-self, then-misfits-eq0, else-misfits-eq0}

pub returns-then-position-self : goal.returns-then-position-self
returns-then-position-self c =
    let x = c.args in
    let t = c.if-position-self.true in
    elim c.if-misfits-eq0.branch [
      | then-misfits-eq0 w ↦ elim c.if-m-self.branch [
        | then-m-self v ↦
            ap (λ s. eqb s 0) (c.rest.ensures ∙ ap sum (take_rest x.words.now (get_or x.words.now 0 0 + 1)))
            ∙ zeros-decide x.self.p x.self.count x.words.now c.requires x.self.small _ refl
            v.if-m-self.true (sym v.misfits.ensures ∙ eqb-true _ 0 (sym v.value-is ∙ w.if-misfits-eq0.true))
            (omega (arith, w.position.ensures.0, leb-true w.position.result x.self.count (sym w.value-is ∙ t)))
        | else-m-self v ↦
            let h = leb-true _ _ (sym v.value-is ∙ w.if-misfits-eq0.true) in absurd (omega (arith, v.if-m-self.false))
      ]
      | else-misfits-eq0 w ↦ let e = sym t ∙ w.value-is ∙ w.if-misfits-eq0.false in absurd (cc)
    ]

pub returns-else-position-self : goal.returns-else-position-self
returns-else-position-self c =
    let x = c.args in
    let m = get_or x.words.now 0 0 in
    let t = c.if-position-self.false in
    elim c.if-misfits-eq0.branch [
      | then-misfits-eq0 w ↦ elim c.if-m-self.branch [
        | then-m-self v ↦
            t ∙ outside_fault x.self.p x.self.count x.words.now c.requires x.self.small _ refl v.if-m-self.true
            (omega (arith, w.position.ensures.0, leb-false w.position.result x.self.count (sym w.value-is ∙ t)))
        | else-m-self v ↦
            let h = leb-true _ _ (sym v.value-is ∙ w.if-misfits-eq0.true) in absurd (omega (arith, v.if-m-self.false))
      ]
      | else-misfits-eq0 w ↦ elim c.if-m-self.branch [
        | then-m-self v ↦
            t ∙ misfits-fault x.self.p x.self.count x.words.now c.requires x.self.small _ refl v.if-m-self.true
            (λ e. eqb-false v.misfits.result 0 (sym v.value-is ∙ w.if-misfits-eq0.false) (v.misfits.ensures ∙ e))
        | else-m-self v ↦
            let h = first_fault-count x.self.p x.self.count x.words.now (omega (arith, v.if-m-self.false)) in
            t ∙ sym (ne_eqb (first_fault x.self.p x.self.count x.words.now) (x.self.count + 1) (λ e. omega (arith, h)))
      ]
    ]
