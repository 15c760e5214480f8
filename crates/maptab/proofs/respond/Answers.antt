-- n and v of a sheet are in range: their table has at most 25,992 words, and the builder leaves it.
use Rattle.monomial.proofs.Bounds.{words-bound}
use Rattle.maptab.proofs.respond.Goals as goal

pub build_table-requires : goal.build_table-requires
build_table-requires g c =
    let r = rw c.in-Ok.is at c.requires in
    (r, words-bound c.in-Ok.z.n c.in-Ok.z.v r)
