-- What holds of the inputs where checks passed.
use Rattle.std.proofs.Common.{◌≡◌, refl, Bool, true, false, List, [], ◌∷◌, ℕ, ◌≤◌, arith, T, leb, leb→le}
use Rattle.monomial.specs.Count.{Allowed, allowed, words}
use Rattle.monomial.specs.Table.{table_words}
use Rattle.monomial.specs.Difference.{first_difference}
use Rattle.monomial.proofs.Bounds.{allowed-sound}
use Rattle.answer.specs.Refusals.{Verdict, passed, declined}
use Rattle.answer.specs.Checks.{or_else, unless, setting_check, table_check}

-- of two checks that pass together each passes
pub both_pass : (w x : Verdict) → or_else w x ≡ passed → (w ≡ passed) × (x ≡ passed)
both_pass passed x e = (refl, e)
both_pass (declined n at) x e = let z : ◌≡◌ {A = ℕ} 0 1 = cc in absurd (omega arith)

pub unless-passed : (t : Bool) (n : ℕ) (at : List ℕ) → unless t n at ≡ passed → T t
unless-passed true n at e = tt
unless-passed false n at e = let z : ◌≡◌ {A = ℕ} 0 1 = cc in absurd (omega arith)

pub setting_passed : (n v : ℕ) → setting_check n v ≡ passed → Allowed n v
unfolding setting_check
setting_passed n v e = allowed-sound n v (unless-passed (allowed n v) 1 (0 ∷ []) e)

pub table-passed : (n v : ℕ) (t : List ℕ) → table_check n v t ≡ passed → words n v ≤ first_difference (table_words n v) t
unfolding table_check
table-passed n v t e =
    let w = first_difference (table_words n v) t in
    leb→le (words n v) w (unless-passed (leb (words n v) w) _ _ e)
