-- `half` meets its contract: each step is told what it asks by those before, as `Adding` has them.
use Rattle.std.proofs.Common.{refl}
use Rattle.bracket.proofs.Adding.{sort_asks, rows-ask, half-grown}
use Rattle.bracket.proofs.Operands.half.Goals as goal

pub sort-ends-requires : goal.sort-ends-requires
sort-ends-requires c = sort_asks c.requires c.derivative.ensures

pub rows-requires : goal.rows-requires
rows-requires c =
    let e = c.whole.ensures in
    rw (e.0, e.1, e.2, e.3) (rows-ask c.requires c.derivative.ensures c.sort-ends.ensures c.derivative-2.ensures
    c.copy.ensures refl)

pub returns-clause-grown : goal.returns-clause-grown
returns-clause-grown c =
    let e = c.whole.ensures in
    half-grown c.requires c.derivative.ensures c.sort-ends.ensures c.derivative-2.ensures
    c.copy.ensures refl (rw (e.0, e.2, e.3) at c.rows.ensures)
