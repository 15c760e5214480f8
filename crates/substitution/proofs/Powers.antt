-- The first four powers of a base of at most 11, and the number left when the largest power that
-- is at most c is taken from c.
use Rattle.std.proofs.Common.{ℕ, ◌+◌, ◌*◌, ◌^◌, ◌≤◌, ◌<◌, ◌≡◌, sym, ap, ◌∙◌, pow-suc}
use Rattle.substitution.specs.Marks.{Lowered}
use Rattle.substitution.proofs.Shorter.{pow_one, power-unique}

pub pow_two : (b : ℕ) → b ^ 2 ≡ b * b
pow_two b = pow-suc b 1 ∙ ap (λ (x : ℕ). x * b) (pow_one b)

pub pow_three : (b : ℕ) → b ^ 3 ≡ b * b * b
pow_three b = pow-suc b 2 ∙ ap (λ (x : ℕ). x * b) (pow_two b)

-- the power that is taken is the largest
pub lowered_by : (b c r i : ℕ) → 0 < b → b ^ i ≤ c → c < b ^ (i + 1) → r + b ^ i ≡ c
    → Lowered b c r
lowered_by b c r i pos low high e j lj hj =
    ap (λ (k : ℕ). r + b ^ k) (sym (power-unique b c i j pos low high lj hj)) ∙ e
