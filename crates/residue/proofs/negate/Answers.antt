-- In each branch the result and a sum to 0 or to p.
use Rattle.std.proofs.Common.{◌≡◌, ap, ◌∙◌, ◌+◌, ◌-◌, ◌%◌, ◌<◌, arith}
use Rattle.std.proofs.Math.Nat.{mod_self}
use Rattle.residue.proofs.Modular.{negate_value}
use Rattle.residue.proofs.negate.Goals as goal

pub returns-else-a-eq0 : goal.returns-else-a-eq0
returns-else-a-eq0 c =
    let a = c.args.a in
    let p = c.args.p in
    let sum : p - a + a ≡ p = omega arith in
    let below : p - a < p = omega arith in
    (negate_value p a (p - a) below (ap (λ x. x % p) sum ∙ mod_self p), below)
