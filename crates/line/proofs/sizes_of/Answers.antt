-- The form decides, and where it passes the ranges do.
use Rattle.std.proofs.Common.{rules, refl, ◌≡◌, Bool, true, false, cond, Some, None, Result, IfOk, [], ◌∷◌}
use Rattle.std.specs.Option.{ok_or}
use Rattle.monomial.specs.Count.{count, codes, Allowed, allowed}
use Rattle.monomial.proofs.Bounds.{allowed-sound}
use Rattle.counts.specs.declared.Sizes.{Sizes}
use Rattle.answer.specs.declared.Refusal.{Refusal}
use Rattle.answer.specs.declared.Refusal.TheVariants.{SettingOutOfRange}
use Rattle.answer.specs.Refusals.{passed, verdict}
use Rattle.answer.specs.Checks.{or_else, unless, setting_check}
use Rattle.line.proofs.sizes_of.Goals as goal

-- the sizes that are there just where a test holds, or refusal 1
abbrev sizes : Bool → Sizes → Result Sizes Refusal
sizes b z = ok_or (cond b (Some z) None) SettingOutOfRange

sizes-check : (b : Bool) (z : Sizes) → verdict (sizes b z) ≡ or_else (unless b 1 (0 ∷ [])) passed
sizes-check true z = refl
sizes-check false z = refl

sizes-ok : (b : Bool) (z : Sizes) (P : Sizes → Type 0) → (b ≡ true → P z) → IfOk (sizes b z) P
sizes-ok true z P h = h refl
sizes-ok false z P h = tt

pub returns-clause-check_value : goal.returns-clause-check_value
unfolding setting_check
returns-clause-check_value c =
    let some : c.args.numbers ≡ Some (c.in_ok-n.n, c.in_ok-n.v) = search rules in
    rw (some, c.ok_or-2.ensures.value, c.of.ensures) (sizes-check (allowed c.in_ok-n.n c.in_ok-n.v) _)

pub returns-clause-sizes : goal.returns-clause-sizes
returns-clause-sizes c =
    let n = c.in_ok-n.n in
    let v = c.in_ok-n.v in
    let P : Sizes → Type 0 = λ z. Allowed z.n z.v × (z.count ≡ count z.n z.v) × (z.codes ≡ codes z.n z.v) in
    rw (c.ok_or-2.ensures.value, c.of.ensures)
    (sizes-ok (allowed n v) _ P (λ e. (allowed-sound n v (rw e tt), refl, refl)))
