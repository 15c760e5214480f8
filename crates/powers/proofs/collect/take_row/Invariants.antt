-- `take_row` meets its contract. The invariant: the sums of the first k pairs are taken.
use Rattle.std.proofs.Common.{List, ℕ}
use Rattle.powers.specs.Collecting.{TakeRowIn}
use Rattle.powers.proofs.Collecting.{Passing}
use Rattle.powers.proofs.collect.take_row.Given as goal

abbrev pub invariant-loop-k : goal.invariant-loop-k
invariant-loop-k l =
    (n v N lo cut dst : ℕ) (w₀ : List ℕ)
    → TakeRowIn n v N lo cut dst l.p w₀ l.t l.initial.work l.h.d1 l.h.d2 l.cs l.h.lim l.i
    → Passing n v N lo cut dst l.p w₀ l.t l.h.d1 l.h.d2 l.cs l.h.lim l.i l.initial.work l.work l.e l.k
