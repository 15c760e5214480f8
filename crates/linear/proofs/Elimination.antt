-- One row more: why the table stays a table, why a row of which nothing is left shows a singular
-- matrix, and why a full table holds the inverse.
use Rattle.std.proofs.Common.{◌≡◌, refl, sym, ap₂, ◌∙◌, subst, inl, ⊎_elim, List, [], get_or, ℕ, suc, ◌+◌, ◌-◌, ◌*◌, ◌%◌, ◌<◌, ◌≤◌, eq-or-lt_of_le, le_refl, zero-mul, arith}
use Rattle.std.proofs.Math.Decide.{ℕ_discrete, dec_lt}
use Rattle.residue.specs.Modulus.{Prime}
use Rattle.linear.specs.Matrix.{Matrix, element, range, unit, product, identity_matrix}
use Rattle.linear.specs.Matrix.{Held, at}
use Rattle.linear.specs.Determinant.{determinant}
use Rattle.linear.specs.Elimination.{Combined, Reduced, Table}
use Rattle.linear.proofs.Squares.{identity-of_elements, unit-same, unit-other}
use Rattle.linear.proofs.Determinants.{determinant-kernel, unit-below, times-unit}
use Rattle.linear.proofs.Lists.{all-below}
use Rattle.linear.proofs.Times.{sum_over-same, sum-zero, times-same, times-combined}
use Rattle.linear.proofs.Times.{times_zero, plus_none, taken_out}
use Rattle.linear.proofs.Pivots.{marks_full}

-- a column that a row has for its own is 0 in the other rows
alone : {p v i : ℕ} {m t k : Matrix} → Table p v i m t k → (c d : ℕ) → c < v → d < v → (d ≡ c → ⊥)
    → element t c c ≡ 1 → element t d c ≡ 0
alone T c d lc ld n e =
    ⊎_elim (λ z. absurd (omega (arith, z c lc))) (λ o. o.1 d ld n) (T.shape c lc)

-- ---- the first table and the last

pub empty_table : (p v : ℕ) → 0 < p → v ≤ 8 → (m t k : Matrix)
    → ((c x : ℕ) → element t c x ≡ 0) → ((c x : ℕ) → element k c x ≡ 0) → Table p v 0 m t k
empty_table p v pos lv m t k zt zk = record {
  below_rows = λ c x lc lx. omega (arith, zt c x);
  below_coefficients = λ c x lc lx. omega (arith, zk c x);
  made = λ c x lc lx. times_zero p v (element k c) m x (λ d ld. zk c d) ∙ sym (zt c x);
  later = λ c x lc a lx. zk c x;
  unused = λ c x a. zk c x;
  shape = λ c lc. inl (λ x lx. zt c x);
  count =
      sum_over-same (λ c. c < v) (λ c. element t c c) (λ c. 0 * c) (λ c lc. zt c c ∙ sym (zero-mul c))
      (range 0 v) (all-below v)
      ∙ sum-zero (λ c. c) (range 0 v);
}

-- every row was filed: the table is the identity, and its coefficients are a left inverse
pub full_table : {p v : ℕ} {m t k : Matrix} → Table p v v m t k → product p v k m ≡ identity_matrix v
full_table {p} {v} {m} {t} {k} T =
    identity-of_elements p v k m (λ c x lc lx. T.made c x lc lx ∙ is_unit c x lc lx)
  where
    at_most_one : (c : ℕ) → 0 ≤ c → c < 0 + v → element t c c ≤ 1
    at_most_one c a l = ⊎_elim
        (λ z. omega (arith, z c (omega arith)))
        (λ own. omega (arith, own.0))
        (T.shape c (omega arith))

    diagonal : (c : ℕ) → c < v → element t c c ≡ 1
    diagonal c lc =
        marks_full (λ d. element t d d) 0 v at_most_one T.count c (omega arith) (omega arith)

    is_unit : (c x : ℕ) → c < v → x < v → element t c x ≡ unit c x
    is_unit c x lc lx = elim (ℕ_discrete c x) [
      | yes e ↦ subst (λ (y : ℕ). element t c y ≡ 1) e (diagonal c lc) ∙ sym (unit-same c x e)
      | no n ↦ alone T x c lx lc n (diagonal x lx) ∙ sym (unit-other c x n)
    ]

-- the coefficients are held as the matrix is
pub table-held : {p v i : ℕ} {m t k : Matrix} → 0 < p → i ≤ v → Table p v i m t k → Held p v k
table-held {p} {v} {i} {m} {t} {k} pos li T = record {
  residue = λ c x lc lx. elim (dec_lt c v) [
    | yes l ↦ T.below_coefficients c x l lx
    | no l ↦ omega (arith, T.unused c x (omega arith))
  ];
  unused_row = λ c x a lc lx. T.unused c x a;
  unused_column = λ c x a lc lx. elim (dec_lt c v) [
    | yes l ↦ T.later c x l (omega arith) lx
    | no l ↦ T.unused c x (omega arith)
  ];
}

-- ---- a row on its way

module _ {p : ℕ} (h : Prime p) (v i : ℕ) (lv : v ≤ 8) (li : i < v) (m t k : Matrix) where
  pub reduced_start : (r o : List ℕ) → Held p v m → ((x : ℕ) → at r x ≡ element m i x)
      → ((x : ℕ) → x < 8 → at o x ≡ unit i x) → Reduced p v i 0 m t r o
  reduced_start r o held row is_unit = record {
    below_row = λ x l. rw (row x) (held.residue i x (omega arith) l);
    below_coefficients = λ x l. rw (is_unit x l) (unit-below h i x);
    made = λ x l.
        times-same p v (at o) (unit i) m x (λ j lj. is_unit j (omega arith))
        ∙ times-unit h v m i x li (held.residue i x (omega arith) (omega arith))
        ∙ sym (row x);
    own = is_unit i (omega arith) ∙ unit-same i i refl;
    later = λ x g l. is_unit x l ∙ unit-other i x (λ e. omega arith);
    clear = λ c l. absurd (omega arith);
  }

  -- row n of the table taken out
  pub reduced_step : (n : ℕ) (r o r' o' : List ℕ) → n < v → Table p v i m t k
      → Reduced p v i n m t r o
      → Combined p (p - at r n) r (get_or t n []) r' → Combined p (p - at r n) o (get_or k n []) o'
      → Reduced p v i (suc n) m t r' o'
  reduced_step n r o r' o' ln T D row coefficients = record {
    below_row = row.below;
    below_coefficients = coefficients.below;
    made = λ x l.
        times-combined p v g (at o) (element k n) (at o') m x
        (λ j lj. coefficients.value j (omega arith))
        ∙ ap₂ (λ a b. (a + g * b) % p) (D.made x l) (T.made n x ln l)
        ∙ sym (row.value x (omega arith));
    own =
        coefficients.value i (omega arith)
        ∙ plus_none p (at o i) g _ (D.below_coefficients i (omega arith))
        (T.later n i ln (le_refl i) (omega arith))
        ∙ D.own;
    later = λ x a l.
        coefficients.value x l
        ∙ plus_none p (at o x) g _ (D.below_coefficients x l) (T.later n x ln (omega arith) l)
        ∙ D.later x a l;
    clear = λ c l e.
        row.value c (omega arith)
        ∙ ⊎_elim
        (λ (q : c ≡ n).
        subst (λ (z : ℕ). (at r c + (p - at r z) * element t z c) % p ≡ 0) q
        (taken_out p (at r c) (element t c c) (D.below_row c (omega arith)) e))
        (λ (q : c < n).
        plus_none p (at r c) g _ (D.below_row c (omega arith))
        (alone T c n (omega arith) ln (λ s. omega arith) e)
        ∙ D.clear c q e)
        (eq-or-lt_of_le (omega arith));
  }
    where
      g : ℕ
      g = p - at r n

  -- nothing is left of the row: the determinant is 0
  pub nothing_left : (r o : List ℕ) → Reduced p v i v m t r o → ((x : ℕ) → x < v → at r x ≡ 0)
      → determinant p v m ≡ 0
  nothing_left r o D z = determinant-kernel h v (at o) m (λ x l. D.made x l ∙ z x l) i li D.own
