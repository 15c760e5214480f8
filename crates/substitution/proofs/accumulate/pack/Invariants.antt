-- `pack` meets its contract. The invariant: the entries of positions 1 to j are written. They take
-- at most j words, so the word of the next position is still the residue there.
use Rattle.substitution.proofs.Packs.{Packs}
use Rattle.substitution.proofs.accumulate.pack.Given as goal

abbrev pub invariant-loop-j : goal.invariant-loop-j
invariant-loop-j l =
    Packs l.initial.res l.count l.res l.i l.j
