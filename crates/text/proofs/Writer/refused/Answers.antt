-- The word with its number, then the newline: 64 bytes are room for both.
use Rattle.std.proofs.Common.{List, [], ◌∷◌, ◌++◌, ℕ, ◌+◌, ◌≤◌, arith, length}
use Rattle.text.specs.declared.Writer.{Writer}
use Rattle.text.specs.Decimal.{ascii, decimal}
use Rattle.text.specs.Text.{refused_text}
use Rattle.text.specs.Writing.{Room}
use Rattle.text.proofs.Rows.{number_low, length-refused_text}
use Rattle.text.proofs.Writings.{room-first, room-then, writes_append}
use Rattle.text.proofs.Writer.refused.Goals as goal

abbrev Ks : ℕ → List ℕ
Ks k = ascii "refused " ++ decimal k

room : (u : Writer) (k : ℕ) → k ≤ 10 → u.at + 64 ≤ length u.out.now → Room u (Ks k ++ (10 ∷ []))
unfolding refused_text ascii
room u k l h = omega (arith, length-refused_text k (omega arith))

pub word-requires : goal.word-requires
unfolding ascii
word-requires c =
    let u = c.args.self.now in
    room-first u.at (Ks c.number.result) (10 ∷ [])
    (room u c.number.result (rw c.number.ensures (number_low c.args.r)) c.requires)

pub byte-requires : goal.byte-requires
unfolding ascii
byte-requires c =
    room-then (10 ∷ []) (room c.args.self.now c.number.result (rw c.number.ensures (number_low c.args.r)) c.requires)
    c.word.ensures

pub returns : goal.returns
unfolding refused_text ascii
returns c =
    rw c.number.ensures at (writes_append
    (room c.args.self.now c.number.result (rw c.number.ensures (number_low c.args.r)) c.requires)
    c.word.ensures c.byte.ensures)
