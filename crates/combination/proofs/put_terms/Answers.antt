use Rattle.std.proofs.Common.{ℕ, arith}
use Rattle.std.proofs.lemmas.List.{length-take, length-drop}
use Rattle.combination.proofs.CodeMultiple.{multiples_more, multiples_all}
use Rattle.combination.proofs.put_terms.Goals as goal

pub loop-k-preserved : goal.loop-k-preserved
loop-k-preserved g c = λ p d h.
    let a = c.args in
    let r = c.requires in
    multiples_more p d a.from a.words.now r.words_in_bounds.0 r.words_in_bounds.1 a.at c.loop-k.k a.res.now c.loop-k.res
    (goal.F-post g a.term) c.entry.result c.coefficient.result c.term.result r.from_in_bounds
    (omega (arith, length-take {A = ℕ}, length-drop {A = ℕ}))
    (omega (arith, c.entry.ensures, c.position.ensures.0)) c.coefficient.ensures.0 c.term.ensures h
    (c.loop-k.invariant p d h)

pub returns-clause-res_after : goal.returns-clause-res_after
returns-clause-res_after g c = λ p d h.
    let a = c.args in
    let r = c.requires in
    multiples_all p d a.from a.words.now r.words_in_bounds.0 r.words_in_bounds.1 a.at c.loop-k.k a.res.now c.loop-k.res
    (omega (arith, length-take {A = ℕ}, length-drop {A = ℕ})) (c.loop-k.invariant p d h)
