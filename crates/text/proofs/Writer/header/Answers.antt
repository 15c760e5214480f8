-- Three words with their numbers, then the newline: 64 bytes are room for all of them.
use Rattle.std.proofs.Common.{List, [], ◌∷◌, ◌++◌, ℕ, ◌+◌, ◌≤◌, ◌<◌, arith, length}
use Rattle.text.specs.declared.Writer.{Writer}
use Rattle.text.specs.Decimal.{ascii, decimal}
use Rattle.text.specs.Text.{header_text}
use Rattle.text.specs.Writing.{Room}
use Rattle.text.proofs.Rows.{length-header_text}
use Rattle.text.proofs.Writings.{room-line₁, room-line₂, room-line₃, room-line₄, writes_line}
use Rattle.text.proofs.Writer.header.Goals as goal

-- the three texts, and the room for the line
abbrev Ns : ℕ → List ℕ
Ns n = ascii "n " ++ decimal n

abbrev Vs : ℕ → List ℕ
Vs v = ascii " v " ++ decimal v

abbrev Ks : ℕ → List ℕ
Ks N = ascii " count " ++ decimal N

room : (u : Writer) (n v N : ℕ) → (n < 100) × (v < 100) × (N < 10000) × (u.at + 64 ≤ length u.out.now)
    → Room u (Ns n ++ Vs v ++ Ks N ++ (10 ∷ []))
unfolding header_text ascii
room u n v N h = omega (arith, length-header_text n v N h.0 h.1 h.2)

pub word-requires : goal.word-requires
unfolding ascii
word-requires c =
    let z = c.args.z in
    let u = c.args.self.now in
    room-line₁ u 10 (Ns z.n) (Vs z.v) (Ks z.count) (room u z.n z.v z.count c.requires)

pub word-requires-2 : goal.word-requires-2
unfolding ascii
word-requires-2 c =
    let z = c.args.z in
    let u = c.args.self.now in
    room-line₂ u 10 (Ns z.n) (Vs z.v) (Ks z.count) (room u z.n z.v z.count c.requires) c.word.ensures

pub word-requires-3 : goal.word-requires-3
unfolding ascii
word-requires-3 c =
    let z = c.args.z in
    let u = c.args.self.now in
    room-line₃ u 10 (Ns z.n) (Vs z.v) (Ks z.count) (room u z.n z.v z.count c.requires) c.word.ensures
    c.word-2.ensures

pub byte-requires : goal.byte-requires
unfolding ascii
byte-requires c =
    let z = c.args.z in
    let u = c.args.self.now in
    room-line₄ u 10 (Ns z.n) (Vs z.v) (Ks z.count) (room u z.n z.v z.count c.requires) c.word.ensures
    c.word-2.ensures c.word-3.ensures

pub returns : goal.returns
unfolding header_text ascii
returns c =
    let z = c.args.z in
    let u = c.args.self.now in
    writes_line u 10 (Ns z.n) (Vs z.v) (Ks z.count) (room u z.n z.v z.count c.requires) c.word.ensures
    c.word-2.ensures c.word-3.ensures c.byte.ensures
