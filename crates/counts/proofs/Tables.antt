-- What stands in a slice that begins with a table: the four sections, whose sizes are small.
use Rattle.std.proofs.Common.{List, ℕ, ◌+◌, ◌≤◌, length, arith}
use Rattle.monomial.specs.Count.{half, codes, words}
use Rattle.counts.specs.Tables.{Tabled}
use Rattle.counts.proofs.Counts.{power_small}

pub sections_in : {n v N E : ℕ} {t : List ℕ} → Tabled n v N E t
    → (N + N + E + E ≤ length t) × (N ≤ 8008) × (E ≤ 14641)
unfolding words codes
sections_in {n} {v} r =
    let a = r.right.allowed in (
      omega (arith, r.N_is, r.E_is, r.right.long),
      omega (arith, r.N_is, a.few),
      omega (arith, r.E_is, power_small (n + 1) (half v) (omega (arith, a.n_high)) (omega (arith, a.v_high))),
    )
