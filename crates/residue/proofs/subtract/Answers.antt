-- In each branch the result and b sum to a, or to a + p.
use Rattle.std.proofs.Common.{◌≡◌, ap, ◌∙◌, ◌+◌, ◌-◌, ◌%◌, ◌<◌, arith}
use Rattle.std.proofs.Math.Nat.{add-mod_right}
use Rattle.residue.proofs.Modular.{minus_value}
use Rattle.residue.proofs.subtract.Goals as goal

pub returns-then-b-a : goal.returns-then-b-a
returns-then-b-a c =
    let a = c.args.a in
    let b = c.args.b in
    let p = c.args.p in
    let sum : a - b + b ≡ a = omega arith in
    let below : a - b < p = omega arith in
    (minus_value p a b (a - b) below (ap (λ x. x % p) sum), below)

pub returns-else-b-a : goal.returns-else-b-a
returns-else-b-a c =
    let a = c.args.a in
    let b = c.args.b in
    let p = c.args.p in
    let sum : a + p - b + b ≡ a + p = omega arith in
    let below : a + p - b < p = omega arith in
    (minus_value p a b (a + p - b) below (ap (λ x. x % p) sum ∙ add-mod_right a p), below)
