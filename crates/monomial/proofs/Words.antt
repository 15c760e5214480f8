-- What each word of the table holds, and how many there are.
use Rattle.std.proofs.Common.{◌≡◌, refl, sym, ap, ◌∙◌, List, [], ◌∷◌, ◌++◌, map, append_assoc, ℕ, zero, suc, ◌+◌, ◌<◌, arith, length, get_or, length-append, get_or-append-add}
use Rattle.std.proofs.Math.ListN.{length-map, get_or-append}
use Rattle.algebra.specs.Polynomial.{Monomial}
use Rattle.monomial.specs.Enumeration.{tabulate}
use Rattle.monomial.specs.Count.{count, codes, words}
use Rattle.monomial.specs.Table.{monomials, C1, C2, D1, D2, table_words}
use Rattle.monomial.proofs.Upto.{length-tabulate, get_d_tabulate}
use Rattle.monomial.proofs.Size.{length-monomials}

-- a map of a list, at an index inside it
pub get_d_map_inside {ℓ} : {A : Type ℓ} (f : A → ℕ) (s : List A) (d : A) (i : ℕ) → i < length s
    → get_or (map f s) i 0 ≡ f (get_or s i d)
get_d_map_inside f [] d i l = absurd (omega arith)
get_d_map_inside f (x ∷ s) d zero l = refl
get_d_map_inside f (x ∷ s) d (suc i) l = get_d_map_inside f s d i (omega arith)

past : (s t : List ℕ) (m i : ℕ) → length s ≡ m → get_or (s ++ t) (m + i) 0 ≡ get_or t i 0
past s t m i e = ap (λ (z : ℕ). get_or (s ++ t) (z + i) 0) (sym e) ∙ get_or-append-add s t i 0

module _ (n v : ℕ) where
  abbrev ms : List Monomial
  ms = monomials n v

  abbrev N : ℕ
  N = count n v

  abbrev E : ℕ
  E = codes n v

  pub length-C1s : length (map (C1 n v) (monomials n v)) ≡ count n v
  length-C1s = length-map ms (C1 n v) ∙ length-monomials n v

  pub length-C2s : length (map (C2 n v) (monomials n v)) ≡ count n v
  length-C2s = length-map ms (C2 n v) ∙ length-monomials n v

  pub length-table_words : length (table_words n v) ≡ words n v
  unfolding table_words words
  length-table_words =
      let c = map (C1 n v) ms ++ map (C2 n v) ms in
      let d = tabulate (D1 n v) E in
      omega (
        arith,
        length-append (c ++ d) (tabulate (D2 n v) E),
        length-append c d,
        length-append (map (C1 n v) ms) (map (C2 n v) ms),
        length-C1s,
        length-C2s,
        length-tabulate (D1 n v) E,
        length-tabulate (D2 n v) E,
      )

  split : table_words n v ≡ map (C1 n v) ms ++ (map (C2 n v) ms ++ (tabulate (D1 n v) E ++ tabulate (D2 n v) E))
  unfolding table_words
  split =
      append_assoc (map (C1 n v) ms ++ map (C2 n v) ms) (tabulate (D1 n v) E) (tabulate (D2 n v) E)
      ∙ append_assoc (map (C1 n v) ms) (map (C2 n v) ms) (tabulate (D1 n v) E ++ tabulate (D2 n v) E)

  pub word-C1 : (i : ℕ) → i < count n v → get_or (table_words n v) i 0 ≡ C1 n v (get_or (monomials n v) i [])
  word-C1 i l =
      ap (λ (z : List ℕ). get_or z i 0) split
      ∙ get_or-append (map (C1 n v) ms) _ 0 i (omega (arith, length-C1s))
      ∙ get_d_map_inside (C1 n v) ms [] i (omega (arith, length-monomials n v))

  pub word-C2 : (i : ℕ) → i < count n v → get_or (table_words n v) (count n v + i) 0 ≡ C2 n v (get_or (monomials n v) i [])
  word-C2 i l =
      ap (λ (z : List ℕ). get_or z (N + i) 0) split
      ∙ past (map (C1 n v) ms) _ N i length-C1s
      ∙ get_or-append (map (C2 n v) ms) _ 0 i (omega (arith, length-C2s))
      ∙ get_d_map_inside (C2 n v) ms [] i (omega (arith, length-monomials n v))

  pub word-D1 : (c : ℕ) → c < codes n v → get_or (table_words n v) (count n v + (count n v + c)) 0 ≡ D1 n v c
  word-D1 c l =
      ap (λ (z : List ℕ). get_or z (N + (N + c)) 0) split
      ∙ past (map (C1 n v) ms) _ N (N + c) length-C1s
      ∙ past (map (C2 n v) ms) _ N c length-C2s
      ∙ get_or-append (tabulate (D1 n v) E) _ 0 c (omega (arith, length-tabulate (D1 n v) E))
      ∙ get_d_tabulate (D1 n v) E c l

  pub word-D2 : (c : ℕ) → c < codes n v
      → get_or (table_words n v) (count n v + (count n v + (codes n v + c))) 0 ≡ D2 n v c
  word-D2 c l =
      ap (λ (z : List ℕ). get_or z (N + (N + (E + c))) 0) split
      ∙ past (map (C1 n v) ms) _ N (N + (E + c)) length-C1s
      ∙ past (map (C2 n v) ms) _ N (E + c) length-C2s
      ∙ past (tabulate (D1 n v) E) _ E c (length-tabulate (D1 n v) E)
      ∙ get_d_tabulate (D2 n v) E c l
