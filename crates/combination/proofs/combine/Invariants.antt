-- The invariant: the entries written so far and what the entries that are left give make the whole.
-- Each turn writes the entry at the smaller of the two next positions, or at both where they agree.
use Rattle.std.proofs.Common.{ℕ, ◌+◌, ◌-◌, ◌≤◌, drop}
use Rattle.series.specs.Image.{entries, packed}
use Rattle.combination.specs.Terms.{Multiplies}
use Rattle.combination.proofs.CodeWritten.{Written}
use Rattle.combination.proofs.CodeCombine.{combined}
use Rattle.combination.proofs.combine.Given as goal

abbrev pub invariant-loop-i : goal.invariant-loop-i
invariant-loop-i g l =
    (l.i ≤ l.m) × (l.j ≤ l.n)
    × ((d : ℕ) → Multiplies l.lim.p (goal.F-post g l.term) d
    → Written l.initial.res (packed (combined l.lim.p d (entries l.a) (entries l.b)) l.lim.count)
    (packed (combined l.lim.p d (drop l.i (entries l.a)) (drop l.j (entries l.b))) l.lim.count) l.at l.res)

abbrev pub decreases-loop-i : goal.decreases-loop-i
decreases-loop-i g l =
    l.m + l.n - (l.i + l.j)
