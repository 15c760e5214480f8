-- The table from its parts: C1 and C2 of all positions, D1, D2, and what stood beyond them.
use Rattle.std.proofs.Common.{◌≡◌, refl, sym, ap, ap₂, ◌∙◌, List, [], ◌++◌, ℕ, ◌+◌, ◌*◌, arith, length, drop, length-append, take_at, take_all, drop-drop}
use Rattle.std.proofs.Math.Seq.{paste, drop-append-add}
use Rattle.monomial.specs.Enumeration.{tabulate}
use Rattle.monomial.specs.Count.{count, codes, words}
use Rattle.monomial.specs.Table.{D1, D2, table_words}
use Rattle.builder.specs.Build.{C1s, C2s, with_codes, filled}
use Rattle.monomial.proofs.Upto.{length-tabulate}
use Rattle.builder.proofs.BuildWritten.{size1, size2}

-- words that are replaced after a first part
paste_after : (p r x : List ℕ) (at m : ℕ) → length p ≡ at → length x ≡ m → paste (p ++ r) at x m ≡ (p ++ x) ++ drop m r
paste_after p r x at m e k =
    ap₂ (λ (y z : List ℕ). (y ++ z) ++ drop (at + m) (p ++ r)) (take_at p r at e) (take_all m x (omega arith))
    ∙ ap (λ (z : ℕ). (p ++ x) ++ drop (z + m) (p ++ r)) (sym e)
    ∙ ap (λ (z : List ℕ). (p ++ x) ++ z) (drop-append-add p r m)

filled-after : (p r : List ℕ) (g : ℕ → ℕ) (at m : ℕ) → length p ≡ at → filled at g m (p ++ r) ≡ (p ++ tabulate g m) ++ drop m r
unfolding filled
filled-after p r g at m e = paste_after p r (tabulate g m) at m e (length-tabulate g m)

module _ (n v : ℕ) (s : List ℕ) where
  abbrev N : ℕ
  N = count n v

  abbrev E : ℕ
  E = codes n v

  abbrev c : List ℕ
  c = C1s n v ++ C2s n v

  abbrev d1 : List ℕ
  d1 = tabulate (D1 n v) E

  abbrev d2 : List ℕ
  d2 = tabulate (D2 n v) E

  sections : c ++ d1 ++ d2 ≡ table_words n v
  unfolding table_words C1s C2s
  sections = refl

  length-c : length c ≡ N + N
  length-c = length-append (C1s n v) (C2s n v) ∙ omega (arith, size1 n v, size2 n v)

  with_codes-all : with_codes n v N s ≡ c ++ drop N (drop N s)
  unfolding with_codes
  with_codes-all =
      ap (λ (z : List ℕ). paste z N (C2s n v) N) (paste_after [] s (C1s n v) 0 N refl (size1 n v))
      ∙ paste_after (C1s n v) (drop N s) (C2s n v) N N (size1 n v) (size2 n v)

  beyond : drop E (drop E (drop N (drop N s))) ≡ drop (words n v) s
  unfolding words
  beyond =
      let e : N + N + E + E ≡ 2 * N + 2 * E = omega arith in
      ap (λ (z : List ℕ). drop E (drop E z)) (drop-drop N N s)
      ∙ ap (drop E) (drop-drop E (N + N) s)
      ∙ drop-drop E (N + N + E) s
      ∙ ap (λ (z : ℕ). drop z s) e

  pub table-written : filled (N + N + E) (D2 n v) E (filled (N + N) (D1 n v) E (with_codes n v N s)) ≡ table_words n v ++ drop (words n v) s
  table-written =
      let r = drop N (drop N s) in
      ap (λ (z : List ℕ). filled (N + N + E) (D2 n v) E (filled (N + N) (D1 n v) E z)) with_codes-all
      ∙ ap (filled (N + N + E) (D2 n v) E) (filled-after c r (D1 n v) (N + N) E length-c)
      ∙ filled-after (c ++ d1) (drop E r) (D2 n v) (N + N + E) E
      (length-append c d1 ∙ omega (arith, length-c, length-tabulate (D1 n v) E))
      ∙ ap₂ (λ (y z : List ℕ). y ++ z) sections beyond
