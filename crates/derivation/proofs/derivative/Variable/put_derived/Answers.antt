-- Where the exponent is 0 the coefficient is 0 and nothing is written.
use Rattle.std.proofs.Common.{sym, ap, ◌∙◌, ℕ, ◌*◌, ◌%◌, arith, length}
use Rattle.series.specs.Image.{coefficient}
use Rattle.series.proofs.Over.{over_none}
use Rattle.product.proofs.Packing.{entry_of-few}
use Rattle.derivation.proofs.DerivativeSums.{derived_entry-none, derived_entry-is}
use Rattle.derivation.proofs.derivative.Variable.put_derived.Goals as goal

pub returns-then-e-eq0 : goal.returns-then-e-eq0
returns-then-e-eq0 c =
    let a = c.args in
    let z = a.self.t.z in
    let h = c.position-q in
    let zero = sym c.exponent_at-e.ensures.0 ∙ c.if-e-eq0.true in
    let e = derived_entry-none z.n z.v a.self.k a.p a.f a.x h.result h.ensures.0 zero in
    (omega (arith, ap length e), rw e (sym (over_none a.out.now a.j)))

pub put-requires-clause-c_in_bounds : goal.put-requires-clause-c_in_bounds
put-requires-clause-c_in_bounds c =
    omega (arith, entry_of-few c.lowered_at-to.result c.derived_value.result, c.requires.room)

pub returns : goal.returns
returns c =
    let a = c.args in
    let z = a.self.t.z in
    let h = c.position-q in
    let d = c.derived_value in
    let l = c.lowered_at-to in
    let value = d.ensures.0 ∙ ap (λ (e : ℕ). coefficient a.x * e * a.f % a.p) c.exponent_at-e.ensures.0 in
    let is =
    derived_entry-is z.n z.v a.self.k a.p a.f a.x h.result h.ensures.0 l.result d.result
    l.ensures.0 value in
    let r = c.put.ensures in
    rw is (r.value, r.res_after)
