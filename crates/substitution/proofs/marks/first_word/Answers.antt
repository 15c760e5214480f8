-- `first_word` meets its contract: all entries, none, or those too far before the last are below q.
use Rattle.std.proofs.Common.{sym, ap, ◌∙◌, subst, ℕ, ◌+◌, ◌-◌, arith, get_or}
use Rattle.series.specs.Image.{position}
use Rattle.substitution.specs.Marks.{FirstWord}
use Rattle.substitution.proofs.Searching.{all-below, some_below}
use Rattle.substitution.proofs.marks.first_word.Goals as goal

pub returns-then-last-q : goal.returns-then-last-q
returns-then-last-q c =
    let x = c.args in
    let e = c.requires.m_value in
    let l = c.position-last.ensures.0 ∙ ap (λ (z : ℕ). position (get_or x.series.now z 0)) e in
    subst (λ (z : ℕ). FirstWord x.series.now x.q (z + 1)) (sym e)
    (all-below c.requires.ascending_entries x.q (omega (arith, l, c.if-last-q.true)))

pub returns : goal.returns
returns c =
    let x = c.args in
    let e = c.requires.m_value in
    let l = c.position-last.ensures.0 ∙ ap (λ (z : ℕ). position (get_or x.series.now z 0)) e in
    let g = c.position-last.result - x.q in
    subst (λ (z : ℕ). FirstWord x.series.now x.q (z - g)) (sym e)
    (some_below c.requires.ascending_entries x.q g (omega (arith, l, c.if-last-q.false))
    (omega (arith, e, c.if-m-gap.false)))
