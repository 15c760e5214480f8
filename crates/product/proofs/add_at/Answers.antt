use Rattle.std.proofs.Common.{ap, ℕ, ◌+◌}
use Rattle.product.specs.Rows.{put, add_at}
use Rattle.product.proofs.add_at.Goals as goal

pub returns : goal.returns
unfolding put add_at
returns c = ap (λ (s : ℕ). put c.args.work.now c.args.j (s + c.args.x)) c.sum_at.ensures
