use Rattle.std.proofs.Common.{◌≡◌, refl, arith}
use Rattle.growth.proofs.Appends.{part-more, part-behind}
use Rattle.growth.proofs.Appends.{append-asks}
use Rattle.growth.proofs.Growth.append_all.Goals as goal

pub append-e-requires : goal.append-e-requires
append-e-requires c =
    let a = c.requires in
    rw c.list_at.ensures (append-asks a c.loop-k.invariant (omega arith) refl)

pub loop-k-preserved : goal.loop-k-preserved
loop-k-preserved c =
    let a = c.requires in
    part-more a c.loop-k.invariant (omega arith) refl
    (rw c.list_at.ensures at c.append-e.ensures)

pub returns : goal.returns
returns c =
    let l = c.loop-k in
    let e : l.k ≡ c.args.self.now.t.z.v = omega (arith, l.invariant.high) in
    part-behind c.requires (rw e at l.invariant)
