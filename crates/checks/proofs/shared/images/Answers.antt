-- `images` meets its contract: the test of one argument or two, by the sizes of the setting.
use Rattle.std.proofs.Common.{◌∙◌, [], ◌∷◌, ℕ, ◌+◌, ◌*◌, ◌≤◌, length}
use Rattle.std.proofs.lemmas.List.Elements.{All-cons, All-nil}
use Rattle.series.specs.Arguments.{Given}
use Rattle.checks.proofs.InputLaws.{inside, first-long, images-one, images-two}
use Rattle.checks.proofs.shared.images.Goals as goal

-- the components of an argument lie inside its words
abbrev Inside : ℕ → Given → Type 0
Inside N x = x.1 * (N + 1) ≤ length x.0.now

pub image_check-requires : goal.image_check-requires
image_check-requires c =
    let g = c.requires in
    let x = c.args in
    let a = inside x.first.0 _ g.sized c.components.ensures (first-long x.s x.first x.second g.long) in
    let b = inside c.in-Some.m _ g.sized c.components-in-Some.ensures (rw c.in-Some.is at g.long).1.0 in
    let y : Given = (c.in-Some.b, c.components-in-Some.result) in
    All-cons (Inside x.z.count) _ (y ∷ []) a (All-cons (Inside x.z.count) y [] b (All-nil (Inside x.z.count)))

pub image_check-requires-in-None : goal.image_check-requires-in-None
image_check-requires-in-None c =
    let g = c.requires in
    let x = c.args in
    let a = inside x.first.0 _ g.sized c.components.ensures (first-long x.s x.first x.second g.long) in
    All-cons (Inside x.z.count) _ [] a (All-nil (Inside x.z.count))

pub returns-in-Some : goal.returns-in-Some
returns-in-Some c =
    let x = c.args in
    let w = c.in-Some in
    let e = c.components.ensures in
    let f = c.components-in-Some.ensures in
    rw w.is
    (c.image_check.ensures
    ∙ images-two x.s c.requires.sized c.prime.ensures x.first.0 w.m x.first.1 w.b e f)

pub returns-in-None : goal.returns-in-None
returns-in-None c =
    let x = c.args in
    rw c.in-None.is
    (c.image_check-in-None.ensures
    ∙ images-one x.s c.requires.sized c.prime.ensures x.first.0 x.first.1 c.components.ensures)
