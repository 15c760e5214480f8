-- Position, exponents and codes, then the newline.
use Rattle.std.proofs.Common.{List, [], ◌∷◌, ℕ}
use Rattle.monomial.specs.Table.{monomial_of}
use Rattle.text.specs.Decimal.{ascii, decimal}
use Rattle.text.specs.Text.{spaced, codes_text}
use Rattle.text.proofs.Writings.{room-line₁, room-line₂, room-line₃, room-line₄, writes_line}
use Rattle.text.proofs.Writer.row.Goals as goal

-- the exponents and the codes of the line
abbrev E : ℕ → ℕ → ℕ → ℕ → List ℕ
E n v x y = spaced (monomial_of n v y x)

abbrev C : ℕ → ℕ → List ℕ
C x y = spaced (x ∷ y ∷ [])

pub decimal-requires : goal.decimal-requires
unfolding codes_text ascii
decimal-requires c =
    let a = c.args in
    room-line₁ a.self.now 10 (decimal a.p) (E a.z.n a.z.v a.c1 a.c2) (C a.c1 a.c2) c.requires.2

pub exponents-requires : goal.exponents-requires
unfolding codes_text ascii
exponents-requires c =
    let a = c.args in (
      c.requires.0,
      c.requires.1,
      room-line₂ a.self.now 10 (decimal a.p) (E a.z.n a.z.v a.c1 a.c2) (C a.c1 a.c2) c.requires.2 c.decimal.ensures,
    )

pub codes-requires : goal.codes-requires
unfolding codes_text ascii
codes-requires c =
    let a = c.args in
    room-line₃ a.self.now 10 (decimal a.p) (E a.z.n a.z.v a.c1 a.c2) (C a.c1 a.c2) c.requires.2 c.decimal.ensures
    c.exponents.ensures

pub byte-requires : goal.byte-requires
unfolding codes_text ascii
byte-requires c =
    let a = c.args in
    room-line₄ a.self.now 10 (decimal a.p) (E a.z.n a.z.v a.c1 a.c2) (C a.c1 a.c2) c.requires.2 c.decimal.ensures
    c.exponents.ensures c.codes.ensures

pub returns : goal.returns
unfolding codes_text ascii
returns c =
    let a = c.args in
    writes_line a.self.now 10 (decimal a.p) (E a.z.n a.z.v a.c1 a.c2) (C a.c1 a.c2) c.requires.2 c.decimal.ensures
    c.exponents.ensures c.codes.ensures c.byte.ensures
