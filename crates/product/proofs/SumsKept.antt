-- Sums become an image: what is written at or above word 2 (N + 1) leaves the sums as they are.
use Rattle.std.proofs.Common.{◌≡◌, List, ℕ, ◌+◌, ◌*◌, ◌≤◌, ◌<◌, arith, length}
use Rattle.series.specs.Image.{packed}
use Rattle.series.specs.Over.{over}
use Rattle.series.proofs.Over.{over_below}
use Rattle.product.specs.Pairs.{sum_at}
use Rattle.product.proofs.Packing.{Packing}

-- what is written from place a on leaves the sums below it
pub sum_at-over : (w : List ℕ) (a : ℕ) (s : List ℕ) (j : ℕ) → a ≤ length w → 2 * j + 1 < a → sum_at (over w a s) j ≡ sum_at w j
unfolding sum_at
sum_at-over w a s j h l = omega (arith, over_below w a s (2 * j) h (omega arith), over_below w a s (2 * j + 1) h l)

-- a sum is read as it was at the start
pub packing_sum : (w₀ : List ℕ) (f : ℕ → ℕ) (N at : ℕ) (w : List ℕ) (i j : ℕ) → 2 * (N + 1) ≤ at → at + (N + 1) ≤ length w₀
    → Packing w₀ f N at w i j → j < N → sum_at w (j + 1) ≡ sum_at w₀ (j + 1)
packing_sum w₀ f N at w i j apart fits k l =
    rw k.is (sum_at-over w₀ (at + 1) (packed f j) (j + 1) (omega arith) (omega arith))
