use Rattle.std.proofs.Common.{◌∙◌, subst, ℕ, ◌+◌, arith}
use Rattle.builder.specs.Build.{Advances}
use Rattle.builder.proofs.BuildWritten.{advances_copy}
use Rattle.builder.proofs.write_block.Goals as goal

pub loop-i-preserved : goal.loop-i-preserved
loop-i-preserved c =
    let l = c.loop-i in
    let a = c.args in
    let call = c.write_position in (
      call.auto.t ∙ l.invariant.0,
      λ n v e f.
          subst (λ (z : ℕ). Advances n v a.from z a.t.now call.new.t) (omega arith)
          (advances_copy n v a.from (a.from + l.i) l.i a.y a.t.now l.t call.new.t (omega arith)
          (l.invariant.1 n v e f) (f l.i c.loop-i-test.true) (call.ensures n v e)),
    )
