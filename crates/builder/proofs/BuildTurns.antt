-- One turn of the loops that go through codes row by row: a code whose digit sum is low enough is taken, and
-- past one whose sum is too large the rest of the row is.
use Rattle.std.proofs.Common.{◌≡◌, sym, ap, ◌∙◌, subst, List, ℕ, suc, ◌+◌, ◌-◌, ◌*◌, ◌^◌, ◌≤◌, ◌<◌, mul-le-mul, arith, get_or}
use Rattle.std.proofs.Math.Nat.{pow-le-pow_right}
use Rattle.monomial.specs.Count.{count, half}
use Rattle.monomial.specs.Table.{digit_sum, D2}
use Rattle.builder.specs.Build.{C1s, CodesAt, Prepared, order_start, block_start}
use Rattle.monomial.proofs.Address.{order2}
use Rattle.monomial.proofs.Places.{D2-none}
use Rattle.counts.proofs.Counts.{power-bound}
use Rattle.builder.proofs.BuildRows.{row-le, row-above, row-order, row-skip}
use Rattle.builder.proofs.BuildOrder.{row_start, row_next, row-past, row-codes}
use Rattle.builder.proofs.BuildBlocks.{order-mono, block-mono, block-next, block-past, block-all, block-codes, D2-start}

-- the code of order s in row x is the next one, and its index is p
pub record Taken (n v s x d p : ℕ) : Type 0 where
  pub codes : CodesAt n v p (x * (n + 1) + (s - d)) 0
  pub next : p + 1 ≡ row_start n v s (x + 1)
  pub small : x * (n + 1) + (s - d) < 14641

-- no row from x to the next multiple of the base has a code of order s
pub record Passed (n v m s x q r p : ℕ) : Type 0 where
  pub inside : x + (n + 1 - r) ≤ m
  pub next : p ≡ row_start n v s (x + (n + 1 - r))
  pub upper : q < m

-- the block of second code y has len monomials, the first of them at index p
pub record BlockTaken (n v y p len : ℕ) : Type 0 where
  pub codes : (i : ℕ) → i < len → CodesAt n v (p + i) (get_or (C1s n v) i 0) y
  pub next : p + len ≡ block_start n v (y + 1)
  pub inside : p + len ≤ count n v
  pub short : len ≤ order_start n v (n + 1)
  pub place : p ≡ D2 n v y

-- no second code from y to the next multiple of the base has a block
pub record BlockPassed (n v e y r p : ℕ) : Type 0 where
  pub inside : y + (n + 1 - r) ≤ e
  pub next : p ≡ block_start n v (y + (n + 1 - r))
  pub none : (c : ℕ) → y ≤ c → c < y + (n + 1 - r) → D2 n v c ≡ 0

module _ (n v N m : ℕ) (ds : List ℕ) (ready : Prepared n v N m ds) where
  abbrev b : ℕ
  b = n + 1

  pub rows_bound : m ≤ 1331
  rows_bound =
      let a = ready.allowed in
      omega (arith, ready.rows, power-bound b (half v - 1) 3 (omega (arith, a.n_high)) (omega (arith, a.v_high)))

  -- ---- the monomials of order s with C2 = 0: row x has the upper digits q and the lowest digit r

  module _ (s x q r d p : ℕ) (low : s ≤ n) (row : x ≡ q * b + r) (within : x < m) (sum : d ≡ get_or ds q 0 + r)
      (at : p ≡ row_start n v s x) where
    above : q < m
    above = omega (arith, row-le b (omega arith) x q r row)

    x_small : x < b ^ (half v - 1)
    x_small = omega (arith, ready.rows)

    pub taken : d ≤ s → Taken n v s x d p
    taken o =
        let a = ready.allowed in
        let e : d ≡ digit_sum b (half v - 1) x =
        sum ∙ sym (row-order b (omega arith) m ds ready.sums (half v - 1) x q r row (omega arith) above x_small) in
        let u : suc x ≤ 1331 = omega (arith, rows_bound) in
        let w : b ≤ 11 = omega (arith, a.n_high) in
        record {
          codes = subst (λ (z : ℕ). CodesAt n v z (x * b + (s - d)) 0) (sym at)
              (row-codes n v s low a.v_low x d x_small e o);
          next = omega (arith, at, row_next n v s low a.v_low x (omega (arith, e)));
          small = omega (arith, mul-le-mul u w);
        }

    pub passed : s < d → r ≤ b → Passed n v m s x q r p
    passed o k =
        let w = row-skip b (omega arith) m ds ready.sums (half v - 1) s x q r (omega arith) row k above x_small (omega arith) in
        record {
          inside = omega (arith, w.0, ready.rows);
          next = at ∙ sym (row-past n v s low ready.allowed.v_low x (b - r) w.1);
          upper = above;
        }

  -- ---- the blocks: the second code y has the upper digits q and the lowest digit r

  module _ (e y q r : ℕ) (seconds : e ≡ b ^ (v - half v)) (row : y ≡ q * b + r) (within : y < e) where
    y_small : y < b ^ (v - half v)
    y_small = omega (arith, seconds)

    pub seconds_bound : e ≤ 14641
    seconds_bound =
        let a = ready.allowed in
        omega (arith, seconds, power-bound b (v - half v) 4 (omega (arith, a.n_high)) (omega (arith, a.v_high)))

    pub second_above : q < m
    second_above =
        let a = ready.allowed in
        let s : suc (half v - 1) ≡ half v = omega (arith, a.v_low) in
        let w : b ^ (v - half v) ≤ b ^ half v = pow-le-pow_right {n = b} (omega arith) (omega arith) in
        omega (arith, row-above b (half v - 1) q r (omega (arith, y_small, ap (λ (z : ℕ). b ^ z) s)), ready.rows)

    module _ (d p : ℕ) (sum : d ≡ get_or ds q 0 + r) (at : p ≡ block_start n v y) where
      pub block-taken : (len : ℕ) → len ≡ order_start n v (suc (n - d)) → d ≤ n → BlockTaken n v y p len
      block-taken len size o =
          let k : d ≡ order2 n v y =
          sum ∙ sym (row-order b (omega arith) m ds ready.sums (v - half v) y q r row (omega arith) second_above y_small) in
          let u : order2 n v y ≤ n = omega arith in
          let z : len ≡ order_start n v (suc (n - order2 n v y)) = size ∙ ap (λ (w : ℕ). order_start n v (suc (n - w))) k in
          record {
            codes = λ i l. subst (λ (w : ℕ). CodesAt n v (w + i) (get_or (C1s n v) i 0) y) (sym at) (block-codes n v y i y_small u (omega arith));
            next = omega (arith, at, block-next n v y u);
            inside = omega (arith, at, block-next n v y u, block-mono n v (y + 1) (b ^ (v - half v)) (omega (arith, y_small)), block-all n v);
            short = omega (arith, order-mono n v (suc (n - order2 n v y)) (n + 1) (omega arith));
            place = at ∙ sym (D2-start n v y y_small u);
          }

      pub block-passed : n < d → r ≤ b → BlockPassed n v e y r p
      block-passed o k =
          let w = row-skip b (omega arith) m ds ready.sums (v - half v) n y q r (omega arith) row k second_above y_small (omega arith) in
          record {
            inside = omega (arith, w.0);
            next = at ∙ sym (block-past n v y (b - r) w.1);
            none = λ c l u. D2-none n v c (λ _ z. omega (arith, w.1 c l u));
          }
