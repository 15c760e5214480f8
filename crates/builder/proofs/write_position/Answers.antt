-- The two stores take the words with `at` positions written to those with one more.
use Rattle.std.proofs.Common.{sym, subst, ℕ, ◌+◌, set}
use Rattle.builder.specs.Build.{Advances}
use Rattle.builder.proofs.BuildWritten.{advances_next}
use Rattle.builder.proofs.write_position.Goals as goal

pub returns : goal.returns
returns c =
    λ n v e f.
    let a = c.args in
    let s = a.t.now in
    subst (λ (z : ℕ). Advances n v a.at (a.at + 1) s (set (set s a.at a.first) (z + a.at) a.second)) (sym e)
    (advances_next n v a.at a.first a.second s f)
