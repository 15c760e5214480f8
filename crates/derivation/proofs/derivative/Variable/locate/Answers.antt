-- The weight of a variable is a power of n + 1 in the code that holds it, and its other code is 0.
use Rattle.std.proofs.Common.{cond, lt-ltb, le-ltb, Bool, sym, ap, ◌∙◌}
use Rattle.monomial.specs.Count.{count, half}
use Rattle.derivation.proofs.DerivativeDigits.{C1-unit_low, C2-unit_low}
use Rattle.derivation.proofs.DerivativeDigits.{C1-unit_high, C2-unit_high}
use Rattle.derivation.proofs.derivative.Variable.locate.Goals as goal

pub with_codes-requires : goal.with_codes-requires
with_codes-requires c =
    let z = c.args.t.z in
    let k = c.args.k in
    let l = rw c.half-h.ensures at c.if-k-h.true in
    record {
      variable = c.requires;
      at_is = sym (ap (λ (b : Bool). cond b 0 (count z.n z.v)) (lt-ltb k (half z.v) l));
      first_is = c.power.ensures.0 ∙ sym (C1-unit_low z.n z.v k l);
      second_is = sym (C2-unit_low z.n z.v k l);
    }

pub with_codes-requires-2 : goal.with_codes-requires-2
with_codes-requires-2 c =
    let t = c.args.t in
    let z = t.z in
    let k = c.args.k in
    let l = rw c.half-h.ensures at c.if-k-h.false in
    record {
      variable = c.requires;
      at_is = t.right.N_is ∙ sym (ap (λ (b : Bool). cond b 0 (count z.n z.v)) (le-ltb k (half z.v) l));
      first_is = sym (C1-unit_high z.n z.v k l);
      second_is = (rw c.half-h.ensures at c.power-2.ensures.0) ∙ sym (C2-unit_high z.n z.v k l);
    }
