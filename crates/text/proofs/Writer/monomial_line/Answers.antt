-- The table's words at j and N + j are the codes of the monomial, whose digits are its exponents.
use Rattle.std.proofs.Common.{◌≡◌, sym, ap₂, ◌∙◌, List, [], ℕ, ◌+◌, ◌<◌, arith, get_or}
use Rattle.monomial.specs.Table.{monomials}
use Rattle.text.specs.Text.{monomial_text, codes_text, Tabled}
use Rattle.text.proofs.Rows.{line_of_codes}
use Rattle.text.proofs.Tables.{codes-inside, first_code, second-code, length-monomial_text}
use Rattle.text.proofs.Writer.monomial_line.Goals as goal

-- the line, from the codes as they are read
line : {n v N : ℕ} {table : List ℕ} (j : ℕ) → Tabled n v N table → j < N → (x y : ℕ)
    → x ≡ get_or table j 0 → y ≡ get_or table (N + j) 0
    → codes_text n v (j + 1) x y ≡ monomial_text n v (j + 1) (get_or (monomials n v) j [])
line {n} {v} j t h x y e₁ e₂ =
    ap₂ (codes_text n v (j + 1)) (e₁ ∙ first_code t j h) (e₂ ∙ second-code t j h)
    ∙ sym (line_of_codes n v j (omega (arith, t.counted)))

pub bounds-table-j : goal.bounds-table-j
bounds-table-j c = omega (arith, codes-inside c.requires.0)

pub bounds-table-z : goal.bounds-table-z
bounds-table-z c = omega (arith, codes-inside c.requires.0)

pub row-requires : goal.row-requires
row-requires c =
    let a = c.args in
    let t = c.requires.0 in
    let e = line a.j t c.requires.1 _ _ c.from-c1.ensures c.from-c2.ensures in (
      t.ranges.n_high,
      t.ranges.v_high,
      rw e
          (omega (arith, length-monomial_text a.z.n a.z.v t.ranges a.j (omega (arith, t.counted)))),
    )

pub returns : goal.returns
returns c =
    rw (line c.args.j c.requires.0 c.requires.1 _ _ c.from-c1.ensures c.from-c2.ensures) at c.row.ensures
