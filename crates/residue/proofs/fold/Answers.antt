-- Each fold keeps the residue. The first leaves at most 255 units of 65,536, so the second leaves at
-- most 255 * 255 + 65,535, which is below 2 p.
use Rattle.std.proofs.Common.{◌≡◌, sym, ap, ◌∙◌, ℕ, ◌+◌, ◌-◌, ◌/◌, ◌%◌, ◌≤◌, ◌<◌, mod-eq_of_lt, mul-le-mul, arith}
use Rattle.residue.proofs.Modular.{mod-once, fold_value}
use Rattle.residue.proofs.fold.Goals as goal
use Rattle.residue.proofs.fold.Goals.{After-folded-z}

-- Each fold keeps the residue. The first leaves at most 255 units of 65,536, so the second leaves at
-- most 255 * 255 + 65,535, which is below 2 p.
module _ (c : After-folded-z) where
  abbrev p : ℕ
  p = c.args.p

  abbrev x : ℕ
  x = c.args.x

  abbrev k : ℕ
  k = (65536 - p) % 256

  abbrev y : ℕ
  y = c.folded-y.result

  abbrev z : ℕ
  z = c.folded-z.result

  whole : k + p ≡ 65536
  whole = omega (arith, c.requires)

  keeps : z % p ≡ x % p
  keeps =
      ap (λ (w : ℕ). w % p) c.folded-z.ensures.0
      ∙ fold_value p k y whole
      ∙ ap (λ (w : ℕ). w % p) c.folded-y.ensures.0
      ∙ fold_value p k x whole

  below : z < p + p
  below =
      let u : y / 65536 ≤ 255 = omega (arith, c.folded-y.ensures.1) in
      let v : k ≤ 255 = omega arith in
      omega (arith, mul-le-mul u v, c.folded-z.ensures.0, c.requires)

pub returns-then-z-p : goal.returns-then-z-p
returns-then-z-p c =
    (sym (mod-eq_of_lt c.if-z-p.true) ∙ keeps (goal.at.returns-then-z-p c).After-folded-z, c.if-z-p.true)

pub returns-else-z-p : goal.returns-else-z-p
returns-else-z-p c =
    let l : z (goal.at.returns-else-z-p c).After-folded-z - p (goal.at.returns-else-z-p c).After-folded-z < p (goal.at.returns-else-z-p c).After-folded-z =
    omega (arith, below (goal.at.returns-else-z-p c).After-folded-z, c.if-z-p.false) in
    (mod-once _ _ c.if-z-p.false l ∙ keeps (goal.at.returns-else-z-p c).After-folded-z, l)
