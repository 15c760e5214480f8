-- The monomials with C2 = 0 of one order, row by row of their first codes: a row offers one code where its
-- digit sum is at most the order, and none otherwise.
use Rattle.std.proofs.Common.{◌≡◌, refl, sym, ap, ap₂, ◌∙◌, subst, ◌≢◌, List, [], ◌∷◌, ℕ, zero, suc, ◌+◌, ◌-◌, ◌*◌, ◌^◌, ◌≤◌, ◌<◌, add-zero, zero-mul, pow-suc, mul-le-mul_right, add-one, arith, length, eqb, eqb→eq}
use Rattle.monomial.specs.Enumeration.{upto}
use Rattle.monomial.specs.Count.{half}
use Rattle.monomial.specs.Table.{digit_sum, hit, of_order, monomials, C1, C2}
use Rattle.builder.specs.Build.{C1s, C2s, CodesAt, order_start, block_start}
use Rattle.monomial.proofs.Upto.{length-suc, only-false}
use Rattle.monomial.proofs.Digits.{digit_sum-zero}
use Rattle.monomial.proofs.Blocks.{rank, hit-yes}
use Rattle.monomial.proofs.Address.{order1, order2, address, codes-positive, C1-monomial_of, C2-monomial_of}
use Rattle.monomial.proofs.Size.{length-monomials}
use Rattle.monomial.proofs.Words.{get_d_map_inside}
use Rattle.builder.proofs.BuildRows.{upto_skip, row-sum}

-- ---- the codes with digit sum s, row by row

module _ (b h g s : ℕ) (digits : h ≡ suc g) (low : s < b) where
  hit-none : (c : ℕ) → digit_sum b h c ≢ s → hit b h s c ≡ []
  unfolding hit
  hit-none c ne = only-false (eqb (digit_sum b h c) s) (c ∷ []) (λ t. ne (eqb→eq (digit_sum b h c) s t))

  -- how many of them stand before row x
  abbrev below : ℕ → ℕ
  below x = length (upto (hit b h s) (x * b))

  -- the digit sum of a code in row x
  in_row : (x c : ℕ) → x * b ≤ c → c < x * b + b → digit_sum b h c ≡ digit_sum b g x + (c - x * b)
  in_row x c l k =
      let e : c ≡ x * b + (c - x * b) = omega arith in
      ap₂ (digit_sum b) digits e ∙ row-sum b g x (c - x * b) (omega arith)

  module _ (x : ℕ) (o : digit_sum b g x ≤ s) where
    abbrev c : ℕ
    c = x * b + (s - digit_sum b g x)

    sum_of : digit_sum b h c ≡ s
    sum_of = omega (arith, in_row x c (omega arith) (omega arith))

    up_to_hit : upto (hit b h s) c ≡ upto (hit b h s) (x * b)
    up_to_hit =
        upto_skip (hit b h s) (x * b) (s - digit_sum b g x) (λ i l k.
        hit-none i (λ z. omega (arith, in_row x i l (omega arith))))

    rank-row : rank b h c ≡ length (upto (of_order b h) s) + below x
    rank-row =
        ap (λ (z : ℕ). length (upto (of_order b h) z) + length (upto (hit b h z) c)) sum_of
        ∙ ap (λ (z : List ℕ). length (upto (of_order b h) s) + length z) up_to_hit

    row-hit : below (x + 1) ≡ below x + 1
    row-hit =
        let e : (x + 1) * b ≡ suc c + (b - suc (s - digit_sum b g x)) = omega arith in
        ap (λ (z : ℕ). length (upto (hit b h s) z)) e
        ∙ ap length (upto_skip (hit b h s) (suc c) (b - suc (s - digit_sum b g x)) (λ i l k.
        hit-none i (λ z. omega (arith, in_row x i (omega arith) (omega arith)))))
        ∙ length-suc (hit b h s) c
        ∙ ap₂ (λ (y z : List ℕ). length y + length z) up_to_hit (hit-yes b h s c sum_of)

  row-miss : (x : ℕ) → s < digit_sum b g x → below (x + 1) ≡ below x
  row-miss x o =
      let e : (x + 1) * b ≡ x * b + b = omega arith in
      ap (λ (z : ℕ). length (upto (hit b h s) z)) e
      ∙ ap length (upto_skip (hit b h s) (x * b) b (λ i l k. hit-none i (λ z. omega (arith, in_row x i l k))))

  rows-miss : (x m : ℕ) → ((j : ℕ) → x ≤ j → j < x + m → s < digit_sum b g j) → below (x + m) ≡ below x
  rows-miss x zero o = ap below (add-zero x)
  rows-miss x (suc m) o =
      let e : x + suc m ≡ x + m + 1 = omega arith in
      ap below e
      ∙ row-miss (x + m) (o (x + m) (omega arith) (omega arith))
      ∙ rows-miss x m (λ j l k. o j l (omega arith))

  rows_all : below (b ^ g) ≡ length (of_order b h s)
  unfolding of_order
  rows_all =
      ap (λ (z : ℕ). length (upto (hit b h s) z)) (sym (pow-suc b g) ∙ ap (λ (z : ℕ). b ^ z) (sym digits))

-- ---- their places

module _ (n v : ℕ) where
  -- the codes of a monomial are the words at its index
  pub codes_at : (x y : ℕ) → x < (n + 1) ^ half v → y < (n + 1) ^ (v - half v) → order1 n v x + order2 n v y ≤ n
      → CodesAt n v (block_start n v y + rank (n + 1) (half v) x) x y
  unfolding C1s C2s block_start
  codes_at x y lx ly o =
      let a = address n v x y lx ly o in
      record {
        inside = omega (arith, a.0, length-monomials n v);
        first = sym (get_d_map_inside (C1 n v) (monomials n v) [] _ a.0 ∙ ap (C1 n v) a.1 ∙ C1-monomial_of n v y x lx);
        second = sym (get_d_map_inside (C2 n v) (monomials n v) [] _ a.0 ∙ ap (C2 n v) a.1 ∙ C2-monomial_of n v y x ly);
      }

  pub codes-at_first : (x : ℕ) → x < (n + 1) ^ half v → order1 n v x ≤ n → CodesAt n v (rank (n + 1) (half v) x) x 0
  unfolding block_start upto
  codes-at_first x lx o =
      let f = codes_at x 0 lx (codes-positive n (v - half v)) (omega (arith, digit_sum-zero (n + 1) (v - half v))) in
      let r = rank (n + 1) (half v) x in
      subst (λ (z : ℕ). CodesAt n v z x 0) (omega arith) f

  pub order-none : order_start n v 0 ≡ 0
  unfolding order_start upto
  order-none = refl

  -- the index after the monomials with C2 = 0 that have an order below s, or order s and C1 in a row below x
  unfoldable pub row_start : ℕ → ℕ → ℕ
  row_start s x = order_start n v s + length (upto (hit (n + 1) (half v) s) (x * (n + 1)))

  module _ (s : ℕ) (low : s ≤ n) (vars : 1 ≤ v) where
    abbrev g : ℕ
    g = half v - 1

    pub row-none : row_start s 0 ≡ order_start n v s
    unfolding row_start upto
    row-none = ap (λ (z : ℕ). order_start n v s + length (upto (hit (n + 1) (half v) s) z)) (zero-mul (n + 1)) ∙ omega arith

    pub row_next : (x : ℕ) → digit_sum (n + 1) (half v - 1) x ≤ s → row_start s (x + 1) ≡ row_start s x + 1
    unfolding row_start
    row_next x o = omega (arith, row-hit (n + 1) (half v) g s (omega arith) (omega arith) x o)

    pub row-past : (x m : ℕ) → ((j : ℕ) → x ≤ j → j < x + m → s < digit_sum (n + 1) (half v - 1) j)
        → row_start s (x + m) ≡ row_start s x
    unfolding row_start
    row-past x m o =
        ap (λ (z : ℕ). order_start n v s + z) (rows-miss (n + 1) (half v) g s (omega arith) (omega arith) x m o)

    pub row-all : row_start s ((n + 1) ^ (half v - 1)) ≡ order_start n v (s + 1)
    unfolding row_start order_start
    row-all =
        ap (λ (z : ℕ). order_start n v s + z) (rows_all (n + 1) (half v) g s (omega arith) (omega arith))
        ∙ sym (length-suc (of_order (n + 1) (half v)) s)
        ∙ ap (λ (z : ℕ). length (upto (of_order (n + 1) (half v)) z)) (sym (add-one s))

    -- what stands at that index
    pub row-codes : (x d : ℕ) → x < (n + 1) ^ (half v - 1) → d ≡ digit_sum (n + 1) (half v - 1) x → d ≤ s
        → CodesAt n v (row_start s x) (x * (n + 1) + (s - d)) 0
    unfolding row_start order_start
    row-codes x d l e o =
        let h : half v ≡ suc g = omega arith in
        let b = n + 1 in
        let k : digit_sum b g x ≤ s = omega arith in
        let c = x * b + (s - digit_sum b g x) in
        let up : suc x ≤ b ^ g = l in
        let inside : c < b ^ half v =
        omega (arith, mul-le-mul_right b up, pow-suc b g, ap (λ (z : ℕ). b ^ z) h) in
        let f = codes-at_first c inside (omega (arith, sum_of b (half v) g s h (omega arith) x k)) in
        subst (λ (z : ℕ). CodesAt n v (row_start s x) (x * b + (s - z)) 0) (sym e)
        (subst (λ (z : ℕ). CodesAt n v z c 0) (rank-row b (half v) g s h (omega arith) x k) f)
