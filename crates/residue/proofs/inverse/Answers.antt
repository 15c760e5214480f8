use Rattle.std.proofs.Common.{ap, ◌∙◌, ◌*◌, ◌%◌, ◌<◌, mod-eq_of_lt, mod-lt, arith}
use Rattle.residue.proofs.Inverses.{prime_remainder, descent_next}
use Rattle.residue.proofs.inverse.Goals as goal

pub loop-rest-preserved : goal.loop-rest-preserved
loop-rest-preserved c =
    let h = c.requires.prime in
    let a = c.args.a in
    let p = c.args.p in
    let rest = c.loop-rest.rest in
    let w = c.loop-rest.w in
    let inv = c.loop-rest.invariant in
    let falls : p % rest < rest = mod-lt p inv.0 in
    let below : p % rest < p = omega arith in (
      prime_remainder h rest (omega arith) inv.1,
      below,
      c.multiply-w.ensures.1,
      ap (λ x. (x * a) % p) c.multiply-w.ensures.0
          ∙ descent_next p a rest w inv.3
          ∙ mod-eq_of_lt below,
    )
