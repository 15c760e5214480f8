-- The invariant: the vectors at the positions up to number k of the list are multiplied and listed.
use Rattle.std.proofs.Common.{◌+◌, get_or}
use Rattle.growth.proofs.Orders.{Ordering}
use Rattle.growth.proofs.Growth.append_order.Given as goal

abbrev pub invariant-loop-k : goal.invariant-loop-k
invariant-loop-k l =
    Ordering l.self.t.z.n l.self.t.z.v l.self.t.z.count l.o l.self.p l.self.m l.res l.initial.work l.work l.initial.ends l.ends (get_or l.self.starts.now (l.o + 1) 0) l.k
