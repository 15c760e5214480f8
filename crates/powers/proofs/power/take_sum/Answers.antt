-- `take_sum` meets its contract: a sum that is 0 leaves all as it is.
use Rattle.std.proofs.Common.{◌≡◌, ap, ◌∙◌, ℕ, ◌+◌, ◌%◌, arith, length, length-set}
use Rattle.series.specs.Image.{entry_of}
use Rattle.series.specs.Over.{over}
use Rattle.product.specs.Pairs.{sum_at}
use Rattle.product.specs.Rows.{put}
use Rattle.product.proofs.Packing.{entry_of-few}
use Rattle.powers.proofs.Taking.{take_none}
use Rattle.powers.proofs.power.take_sum.Goals as goal

pub returns-then-s-eq0 : goal.returns-then-s-eq0
unfolding sum_at
returns-then-s-eq0 c =
    let s = c in
    let a = s.args in
    take_none a.work.now a.i a.q a.p s.requires (omega arith)

pub put-requires-clause-c_in_bounds : goal.put-requires-clause-c_in_bounds
put-requires-clause-c_in_bounds c =
    omega (arith, entry_of-few c.args.q c.reduce-c.result, length-set {A = ℕ}, c.requires.inside)

pub returns : goal.returns
unfolding sum_at put
returns c =
    let r = c in
    let a = r.args in
    let g = c.put in
    let w = put a.work.now a.q 0 in
    let e : r.reduce-c.result ≡ sum_at a.work.now a.q % a.p =
    r.reduce-c.ensures.0 ∙ ap (λ (x : ℕ). x % a.p) (omega arith) in (
      g.ensures.value ∙ ap (λ (x : ℕ). a.i + length (entry_of a.q x)) e,
      g.ensures.res_after ∙ ap (λ (x : ℕ). over w a.i (entry_of a.q x)) e,
    )
