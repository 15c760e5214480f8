-- The row that is left is divided by its first number and filed at that number's column j. The row
-- is 0 in the own columns of the rows filed before: so column j is free, and those columns stay as
-- they are when the row is taken out of the others.
use Rattle.std.proofs.Common.{◌≡◌, sym, ap, ap₂, ◌∙◌, subst, ◌⊎◌, inl, inr, ⊎_elim, List, ℕ, suc, ◌+◌, ◌-◌, ◌*◌, ◌%◌, ◌<◌, ◌≤◌, mod-lt, mul-zero, zero-add, arith, replicate}
use Rattle.std.proofs.Math.Nat.{zero-mod}
use Rattle.std.proofs.Math.Decide.{ℕ_discrete}
use Rattle.linear.specs.Matrix.{Matrix, element, times, at}
use Rattle.linear.specs.Elimination.{Combined, Divided, Filed, Reduced, Table}
use Rattle.linear.proofs.Stores.{row-zeros}
use Rattle.linear.proofs.Times.{times-same, times-combined, times_zero}
use Rattle.linear.proofs.Times.{plus_none, taken_out, still_zero}
use Rattle.linear.proofs.Pivots.{marks_more}

-- s is r times w
module _ (p w : ℕ) (pos : 0 < p) (r s : List ℕ) (scaled : Combined p w (replicate 8 0) r s) where
  scaled_value : (x : ℕ) → x < 8 → at s x ≡ (0 + w * at r x) % p
  scaled_value x l = scaled.value x l ∙ ap (λ z. (z + w * at r x) % p) (row-zeros 8 x)

  scaled-zero : (x : ℕ) → x < 8 → at r x ≡ 0 → at s x ≡ 0
  scaled-zero x l e = scaled_value x l ∙ plus_none p 0 w (at r x) pos e

  scaled-one : (j : ℕ) → j < 8 → (w * at r j) % p ≡ 1 → at s j ≡ 1
  scaled-one j l e = scaled_value j l ∙ ap (λ z. z % p) (zero-add (w * at r j)) ∙ e

module _ (p v i j : ℕ) (pos : 0 < p) (lv : v ≤ 8) (li : i < v) (lj : j < v) (m t k t' k' : Matrix)
    (r o s q : List ℕ)
    (T : Table p v i m t k) (D : Reduced p v i v m t r o) (Q : Divided p j r o s q)
    (F : Filed p v j t t s t') (G : Filed p v j t k q k') where
  open Q use {factor as w, inverse as pivot, row, coefficients}

  s-made : (x : ℕ) → x < v → times p v (at q) m x ≡ at s x
  s-made x l =
      times-combined p v w (at (replicate 8 0)) (at o) (at q) m x
      (λ c lc. coefficients.value c (omega arith))
      ∙ ap₂ (λ a b. (a + w * b) % p)
      (times_zero p v (at (replicate 8 0)) m x (λ c lc. row-zeros 8 c) ∙ sym (row-zeros 8 x))
      (D.made x l)
      ∙ sym (row.value x (omega arith))

  -- the column is free
  free : (x : ℕ) → x < v → element t j x ≡ 0
  free x l = ⊎_elim
      (λ z. z x l)
      (λ own.
      let zero : (w * at r j) % p ≡ 0 =
      ap (λ z. (w * z) % p) (D.clear j lj own.0) ∙ ap (λ z. z % p) (mul-zero w) ∙ zero-mod p in
      absurd (omega arith))
      (T.shape j lj)

  -- the new row is 0 in the own columns of the others, and leaves them alone
  s-zero : (c : ℕ) → c < v → element t c c ≡ 1 → at s c ≡ 0
  s-zero c lc e = scaled-zero p w pos r s row c (omega arith) (D.clear c lc e)

  column : (c : ℕ) → c < v → element t c c ≡ 1 → (d : ℕ) → d < v → (d ≡ j → ⊥)
      → element t' d c ≡ element t d c
  column c lc e d ld n =
      F.others d c ld (omega arith) n
      ∙ plus_none p _ _ _ (T.below_rows d c ld (omega arith)) (s-zero c lc e)

  -- an empty row stays empty
  empty : (c : ℕ) → c < v → (c ≡ j → ⊥) → ((x : ℕ) → x < v → element t c x ≡ 0)
      → (x : ℕ) → x < v → element t' c x ≡ 0
  empty c lc n z x lx = F.others c x lc (omega arith) n ∙ still_zero p _ _ _ (z x lx) (z j lj)

  diagonal : (c : ℕ) → c < v → (c ≡ j → ⊥) → element t' c c ≡ element t c c
  diagonal c lc n = ⊎_elim
      (λ z. empty c lc n z c lc ∙ sym (z c lc))
      (λ own. column c lc own.0 c lc n)
      (T.shape c lc)

  one : element t' j j ≡ 1
  one = F.here j (omega arith) ∙ scaled-one p w pos r s row j (omega arith) pivot

  -- the filed row has column j for its own
  own-column : (d : ℕ) → d < v → (d ≡ j → ⊥) → element t' d j ≡ 0
  own-column d ld n =
      F.others d j ld (omega arith) n
      ∙ taken_out p (element t d j) (at s j) (T.below_rows d j ld (omega arith))
      (scaled-one p w pos r s row j (omega arith) pivot)

  -- a row filed before keeps its own column
  old_column : (c : ℕ) → c < v → element t c c ≡ 1 → ((d : ℕ) → d < v → (d ≡ c → ⊥) → element t d c ≡ 0)
      → (d : ℕ) → d < v → (d ≡ c → ⊥) → element t' d c ≡ 0
  old_column c lc e z d ld n = elim (ℕ_discrete d j) [
    | yes g ↦ rw g (F.here c (omega arith) ∙ s-zero c lc e)
    | no g ↦ column c lc e d ld g ∙ z d ld n
  ]

  -- a fact of every row: of the filed one, and of the others
  each_row : (P : ℕ → Type 0) → P j → ((c : ℕ) → c < v → (c ≡ j → ⊥) → P c) → (c : ℕ) → c < v → P c
  each_row P here others c lc = elim (ℕ_discrete c j) [
    | yes e ↦ subst P (sym e) here
    | no n ↦ others c lc n
  ]

  shape : (c : ℕ) → c < v → ((x : ℕ) → x < v → element t' c x ≡ 0)
      ⊎ ((element t' c c ≡ 1) × ((d : ℕ) → d < v → (d ≡ c → ⊥) → element t' d c ≡ 0))
  shape = each_row _ (inr (one, own-column)) (λ c lc n. ⊎_elim
      (λ z. inl (empty c lc n z))
      (λ own. inr (column c lc own.0 c lc n ∙ own.0, old_column c lc own.0 own.1))
      (T.shape c lc))

  made : (c : ℕ) → c < v → (x : ℕ) → x < v → times p v (element k' c) m x ≡ element t' c x
  made = each_row _
      (λ x lx.
      times-same p v (element k' j) (at q) m x (λ d ld. G.here d (omega arith))
      ∙ s-made x lx
      ∙ sym (F.here x (omega arith)))
      (λ c lc n x lx.
      times-combined p v (p - element t c j) (element k c) (at q) (element k' c) m x
      (λ d ld. G.others c d lc (omega arith) n)
      ∙ ap₂ (λ a b. (a + (p - element t c j) * b) % p) (T.made c x lc lx) (s-made x lx)
      ∙ sym (F.others c x lc (omega arith) n))

  later : (c : ℕ) → c < v → (x : ℕ) → suc i ≤ x → x < 8 → element k' c x ≡ 0
  later = each_row _
      (λ x a lx. G.here x lx ∙ q-zero x a lx)
      (λ c lc n x a lx.
      G.others c x lc lx n
      ∙ plus_none p _ _ _ (T.below_coefficients c x lc lx) (q-zero x a lx)
      ∙ T.later c x lc (omega arith) lx)
    where
      q-zero : (x : ℕ) → suc i ≤ x → x < 8 → at q x ≡ 0
      q-zero x a lx = scaled-zero p w pos o q coefficients x lx (D.later x a lx)

  below_rows : (c : ℕ) → c < v → (x : ℕ) → x < 8 → element t' c x < p
  below_rows = each_row _
      (λ x lx. rw (F.here x lx) (row.below x lx))
      (λ c lc n x lx. rw (F.others c x lc lx n) (mod-lt _ pos))

  below_coefficients : (c : ℕ) → c < v → (x : ℕ) → x < 8 → element k' c x < p
  below_coefficients = each_row _
      (λ x lx. rw (G.here x lx) (coefficients.below x lx))
      (λ c lc n x lx. rw (G.others c x lc lx n) (mod-lt _ pos))

  pub filed_table : Table p v (suc i) m t' k'
  filed_table = record {
    below_rows = λ c x lc. below_rows c lc x;
    below_coefficients = λ c x lc. below_coefficients c lc x;
    made = λ c x lc. made c lc x;
    later = λ c x lc. later c lc x;
    unused = λ c x a. G.unused c x a ∙ T.unused c x a;
    shape = shape;
    count =
        marks_more (λ c. element t c c) (λ c. element t' c c) j 0 v (omega arith) (omega arith)
        (free j lj) one (λ c a l n. diagonal c (omega arith) n)
        ∙ ap suc T.count;
  }
