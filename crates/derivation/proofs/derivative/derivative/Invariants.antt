-- `derivative` meets its contract. The invariant: what the entries passed give is packed in the
-- result.
use Rattle.derivation.proofs.DerivativeImage.{Deriving}
use Rattle.derivation.proofs.derivative.derivative.Given as goal

abbrev pub invariant-loop-x : goal.invariant-loop-x
invariant-loop-x l =
    Deriving l.t.z.n l.t.z.v l.k l.f l.p l.a l.initial.out l.out l.j l.x-index
