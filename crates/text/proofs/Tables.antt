-- What the table and the enumeration give for the line of a monomial: its two codes, its length.
use Rattle.std.proofs.Common.{◌≡◌, sym, ap, ◌∙◌, List, [], ◌++◌, ℕ, ◌+◌, ◌-◌, ◌^◌, ◌≤◌, ◌<◌, arith, length, get_or, take, length-take, get_or-take, take_at}
use Rattle.std.proofs.Math.Nat.{pow-le-pow_right}
use Rattle.algebra.specs.Polynomial.{Monomial}
use Rattle.monomial.specs.Count.{count, half, codes, words, Allowed}
use Rattle.monomial.specs.Table.{monomials, table_words, C1, C2}
use Rattle.monomial.proofs.Address.{coded}
use Rattle.monomial.proofs.Bounds.{codes-bound}
use Rattle.monomial.proofs.Places.{length_at, order-at}
use Rattle.monomial.proofs.Size.{length-monomials}
use Rattle.monomial.proofs.Words.{length-table_words, word-C1, word-C2}
use Rattle.text.specs.Text.{monomial_text, Tabled}
use Rattle.text.proofs.Rows.{length-line, line_of_codes}

-- a built table
pub tabled : {n v N : ℕ} {table : List ℕ} (rest : List ℕ) → Allowed n v → N ≡ count n v
    → table ≡ table_words n v ++ rest → Tabled n v N table
tabled {n} {v} rest a c e = record {
  ranges = a;
  counted = c;
  begins =
      ap (take (words n v)) e
      ∙ take_at (table_words n v) rest (words n v) (length-table_words n v);
}

module _ {n v N : ℕ} {table : List ℕ} (t : Tabled n v N table) where
  pub words_inside : words n v ≤ length table
  words_inside =
      let e = sym (length-take (words n v) table) ∙ ap length t.begins ∙ length-table_words n v in
      omega arith

  pub codes-inside : N + N ≤ length table
  unfolding words
  codes-inside = omega (arith, words_inside, t.counted)

  word : (i : ℕ) → i < words n v → get_or table i 0 ≡ get_or (table_words n v) i 0
  word i h = sym (get_or-take (words n v) table i 0 h) ∙ ap (λ (l : List ℕ). get_or l i 0) t.begins

  pub first_code : (j : ℕ) → j < N → get_or table j 0 ≡ C1 n v (get_or (monomials n v) j [])
  unfolding words
  first_code j h = word j (omega (arith, t.counted)) ∙ word-C1 n v j (omega (arith, t.counted))

  pub second-code : (j : ℕ) → j < N → get_or table (N + j) 0 ≡ C2 n v (get_or (monomials n v) j [])
  unfolding words
  second-code j h =
      word (N + j) (omega (arith, t.counted))
      ∙ ap (λ (z : ℕ). get_or (table_words n v) (z + j) 0) t.counted
      ∙ word-C2 n v j (omega (arith, t.counted))

module _ (n v : ℕ) (a : Allowed n v) (j : ℕ) (h : j < count n v) where
  abbrev m : Monomial
  m = get_or (monomials n v) j []

  inside : j < length (monomials n v)
  inside = omega (arith, length-monomials n v)

  -- a line takes at most 64 bytes
  pub length-monomial_text : length (monomial_text n v (j + 1) m) ≤ 64
  unfolding codes
  length-monomial_text =
      let c = coded n v m (length_at n v j inside) (order-at n v j inside) in
      let small = codes-bound n v a in
      let fewer : (n + 1) ^ (v - half v) ≤ (n + 1) ^ half v =
      pow-le-pow_right (omega arith) (omega arith) in
      rw (line_of_codes n v j h)
      (length-line n v (j + 1) (C1 n v m) (C2 n v m) a.n_high a.v_high
      (omega (arith, a.few))
      (omega (arith, c.first, small))
      (omega (arith, c.second, small)))
