-- The two codes, one after the other.
use Rattle.std.proofs.Common.{[], ◌∷◌}
use Rattle.text.specs.Text.{spaced}
use Rattle.text.proofs.Rows.{spaced-cons}
use Rattle.text.proofs.Writings.{room-first, room-then, writes_append}
use Rattle.text.proofs.Writer.codes.Goals as goal

pub spaced-requires : goal.spaced-requires
spaced-requires c =
    let a = c.args in
    let room = rw (spaced-cons a.c1 (a.c2 ∷ [])) at c.requires in
    room-first a.self.now.at (spaced (a.c1 ∷ [])) (spaced (a.c2 ∷ [])) room

pub spaced-requires-2 : goal.spaced-requires-2
spaced-requires-2 c =
    let a = c.args in
    room-then (spaced (a.c2 ∷ [])) (rw (spaced-cons a.c1 (a.c2 ∷ [])) at c.requires) c.spaced.ensures

pub returns : goal.returns
returns c =
    let a = c.args in
    rw (spaced-cons a.c1 (a.c2 ∷ []))
    (writes_append (rw (spaced-cons a.c1 (a.c2 ∷ [])) at c.requires) c.spaced.ensures c.spaced-2.ensures)
