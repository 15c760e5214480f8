-- What filling the part leaves is zeros written over.
use Rattle.std.proofs.Common.{◌≡◌, sym, ap, ◌∙◌, ◌++◌, ℕ, ◌+◌, ◌-◌, arith, length, take, drop, replicate}
use Rattle.std.proofs.Math.ListN.{length-replicate}
use Rattle.std.proofs.lemmas.Grind.{common_steps}
use borrow.Rule.Slice.PartMut.{put_mid}
use Rattle.series.specs.Over.{over}
use Rattle.series.proofs.write.clear.Goals as goal

pub returns : goal.returns
unfolding over
returns c =
    let a = c.args in
    let s = a.s.now in
    let zeros = replicate {A = ℕ} (a.to - a.from) 0 in
    let filled : put_mid a.from (a.to - a.from) s c.fill.new.self ≡ take a.from s ++ (zeros ++ drop a.to s) =
    grind (arith, common_steps) in
    let e : a.from + length zeros ≡ a.to = omega (arith, length-replicate {A = ℕ} (a.to - a.from) 0) in
    filled ∙ ap (λ k. take a.from s ++ (zeros ++ drop k s)) (sym e)
