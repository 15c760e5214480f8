-- The invariant: the terms of the first k of the entries are written. Each turn writes one more.
use Rattle.std.proofs.Common.{◌≡◌, ℕ, map, drop}
use Rattle.std.proofs.Math.Seq.{paste}
use Rattle.series.specs.Image.{entries, scaled}
use Rattle.combination.specs.Terms.{AtEntries, Times}
use Rattle.combination.proofs.put_terms.Given as goal

abbrev pub invariant-loop-k : goal.invariant-loop-k
invariant-loop-k g l =
    (p c : ℕ) → AtEntries l.words (Times p c (goal.F-post g l.term))
    → l.res ≡ paste l.initial.res l.at (map (scaled p c) (drop l.from (entries l.words))) l.k
