-- `compress` meets its contract. The invariant: the entries of positions 1 to j are written.
use Rattle.std.proofs.Common.{◌%◌}
use Rattle.product.specs.Pairs.{sum_at}
use Rattle.product.proofs.Packing.{Packing}
use Rattle.product.proofs.compress.Given as goal

abbrev pub invariant-loop-j : goal.invariant-loop-j
invariant-loop-j l =
    Packing l.initial.work (λ q. sum_at l.initial.work q % l.p) l.count l.at l.work l.i l.j
