-- `gather_run` meets its contract. The invariant: the sums of the positions listed from `from` to k are
-- taken.
use Rattle.std.proofs.Common.{List, ℕ, ◌≤◌}
use Rattle.powers.specs.Gathering.{RunIn, RunGathered}
use Rattle.powers.proofs.power.gather_run.Given as goal

abbrev pub invariant-loop-k : goal.invariant-loop-k
invariant-loop-k l =
    (l.from ≤ l.k)
    × ((n v N lo cut dst : ℕ) (w₀ : List ℕ) → RunIn n v N lo cut l.ps l.from l.to dst l.p w₀ l.initial.work l.i
    → (l.k ≤ l.to) × RunGathered n v N lo cut l.ps l.from l.k dst l.p w₀ l.initial.work l.i l.work l.e)
