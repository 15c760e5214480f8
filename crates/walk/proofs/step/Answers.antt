-- `step` meets its contract: the multiplication leaves the longer product in the region below, and
-- `add_all` adds its multiples, as `Longer` has them.
use Rattle.std.proofs.Common.{refl}
use Rattle.walk.proofs.Longer.{multiply_asks, add-all_asks}
use Rattle.walk.proofs.Longer.{stepped}
use Rattle.walk.proofs.step.Goals as goal

pub multiply-first-requires : goal.multiply-first-requires
multiply-first-requires c =
    let g = c.requires in
    rw c.list_at.ensures (multiply_asks g.laid g.by_index.3 g.step_in.1 _ refl)

pub add_all-requires : goal.add_all-requires
add_all-requires c =
    let g = c.requires in
    let m = c.multiply-first in
    add-all_asks g.laid g.by_index.3 g.step_in.1 _ refl m.new.work m.result
    (rw c.list_at.ensures at m.ensures) g.by_index_2.1

pub returns : goal.returns
returns c =
    λ ys mark κ Q A P S U.
    let g = c.requires in
    let m = c.multiply-first in
    stepped g.laid P S _ refl m.new.work m.result (rw c.list_at.ensures at m.ensures) U
    c.add_all.ensures
