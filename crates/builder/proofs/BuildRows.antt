-- Codes taken row by row. A row holds the codes that have the same digits above the lowest one, so the
-- digit sum goes up by one along it: past the first code whose sum is too large the row has none to offer.
use Rattle.std.proofs.Common.{◌≡◌, sym, ap, ap₂, ◌∙◌, List, [], ◌++◌, append-nil, ℕ, zero, suc, ◌+◌, ◌-◌, ◌*◌, ◌/◌, ◌^◌, ◌≤◌, ◌<◌, add-zero, add-suc, pow-suc, mul-le-mul_left, mul-le-mul_right, div-add-mod', arith, length, get_or, set, replicate, length-set, get_or-set_same, get_or-set_other}
use Rattle.std.proofs.Math.Nat.{pow-zero}
use Rattle.std.proofs.Math.Decide.{dec_lt, ℕ_discrete}
use Rattle.std.proofs.Math.Arith.{digits_div, digits_mod}
use Rattle.std.proofs.Math.ListN.{get_or-replicate, length-replicate}
use Rattle.monomial.specs.Enumeration.{upto}
use Rattle.monomial.specs.Table.{digit_sum}
use Rattle.builder.specs.Build.{DigitSums}
use Rattle.monomial.proofs.Upto.{upto-suc}
use Rattle.monomial.proofs.Digits.{digit_sum-zero}

-- ---- sizes of codes and of digit sums

pub below_power : (b c : ℕ) → 2 ≤ b → c < b ^ c
below_power b zero l = omega (arith, pow-zero b)
below_power b (suc c) l =
    omega (arith, pow-suc b c, mul-le-mul_left (b ^ c) l, below_power b c l)

digit_sum-le : (b h c : ℕ) → 1 ≤ b → digit_sum b h c ≤ c
unfolding digit_sum
digit_sum-le b zero c l = omega arith
digit_sum-le b (suc h) c l =
    omega (arith, digit_sum-le b h (c / b) l, div-add-mod' c b, mul-le-mul_left (c / b) l)

-- ---- parts that are empty add nothing
pub upto_skip {ℓ} : {A : Type ℓ} (f : ℕ → List A) (a m : ℕ) → ((i : ℕ) → a ≤ i → i < a + m → f i ≡ [])
    → upto f (a + m) ≡ upto f a
upto_skip f a zero e = ap (upto f) (add-zero a)
upto_skip f a (suc m) e =
    ap (upto f) (add-suc a m)
    ∙ upto-suc f (a + m)
    ∙ ap₂ ◌++◌ (upto_skip f a m (λ i l k. e i l (omega arith))) (e (a + m) (omega arith) (omega arith))
    ∙ append-nil (upto f a)

module _ (b : ℕ) where
  pub row-sum : (h q r : ℕ) → r < b → digit_sum b (suc h) (q * b + r) ≡ digit_sum b h q + r
  unfolding digit_sum
  row-sum h q r l =
      ap₂ (λ (x y : ℕ). x + digit_sum b h y) (digits_mod q l) (digits_div q l) ∙ omega arith

  -- the digits above the lowest make a code of one digit less
  pub row-above : (h q r : ℕ) → q * b + r < b ^ suc h → q < b ^ h
  row-above h q r l = go (dec_lt q (b ^ h))
    where
      go : Dec (q < b ^ h) → q < b ^ h
      go (yes k) = k
      go (no k) =
          let w : b ^ h ≤ q = omega arith in
          absurd (omega (arith, mul-le-mul_right b w, pow-suc b h))

module _ (b : ℕ) (base : 1 ≤ b) where
  pub row-le : (x q r : ℕ) → x ≡ q * b + r → q ≤ x
  row-le x q r e = omega (arith, mul-le-mul_left q base)

  -- ---- the digit sums that are held

  pub sums_start : (m : ℕ) → 1 ≤ m → DigitSums b 1 (replicate m 0)
  sums_start m l =
      record {
        size = omega (arith, length-replicate {A = ℕ} m 0);
        sum = λ c h k _.
            let z : c ≡ 0 = omega arith in
            get_or-replicate m c 0 0 (omega arith) ∙ sym (ap (digit_sum b h) z ∙ digit_sum-zero b h);
      }

  module _ (e : ℕ) (ds : List ℕ) (sums : DigitSums b e ds) where
    -- the digit sum of a code, from that of its row
    pub row-order : (g x q r : ℕ) → x ≡ q * b + r → r < b → q < e → x < b ^ g → digit_sum b g x ≡ get_or ds q 0 + r
    unfolding digit_sum
    row-order zero x q r i l k m =
        let w : q < b ^ 0 = omega (arith, row-le x q r i) in
        omega (arith, row-le x q r i, pow-zero b, sums.sum q 0 k w)
    row-order (suc g) x q r i l k m =
        let w : q < b ^ g = row-above b g q r (omega arith) in
        ap (digit_sum b (suc g)) i ∙ row-sum b g q r l ∙ ap (λ (z : ℕ). z + r) (sym (sums.sum q g k w))

    -- past a code whose digit sum is above s the whole rest of its row is
    pub row-skip : (g s x q r : ℕ) → s < b → x ≡ q * b + r → r ≤ b → q < e → x < b ^ g → s < get_or ds q 0 + r
        → (x + (b - r) ≤ b ^ g) × ((j : ℕ) → x ≤ j → j < x + (b - r) → s < digit_sum b g j)
    unfolding digit_sum
    row-skip zero s x q r ls i l k m o =
        let w : q < b ^ 0 = omega (arith, row-le x q r i) in
        absurd (omega (arith, row-le x q r i, pow-zero b, sums.sum q 0 k w))
    row-skip (suc g) s x q r ls i l k m o =
        let w : q < b ^ g = row-above b g q r (omega arith) in
        let up : suc q ≤ b ^ g = w in (
          omega (arith, mul-le-mul_right b up, pow-suc b g),
          λ j u z.
              let f : j ≡ q * b + (j - q * b) = omega arith in
              omega (
                arith,
                ap (digit_sum b (suc g)) f,
                row-sum b g q (j - q * b) (omega arith),
                sums.sum q g k w,
              ),
        )

    pub sums_le : 2 ≤ b → (c : ℕ) → c < e → get_or ds c 0 ≤ c
    sums_le l c k = omega (arith, sums.sum c c k (below_power b c l), digit_sum-le b c c base)

    -- the sum of one code more
    pub sums_next : (q r : ℕ) → e ≡ q * b + r → r < b → q < e → e < length ds
        → DigitSums b (e + 1) (set ds e (get_or ds q 0 + r))
    sums_next q r i l k m =
        record {
          size = omega (arith, length-set ds e (get_or ds q 0 + r));
          sum = λ c h u w. go c h u w (ℕ_discrete c e);
        }
      where
        go : (c h : ℕ) → c < e + 1 → c < b ^ h → Dec (c ≡ e) → get_or (set ds e (get_or ds q 0 + r)) c 0 ≡ digit_sum b h c
        go c h u w (yes z) =
            ap (λ (y : ℕ). get_or (set ds e (get_or ds q 0 + r)) y 0) z
            ∙ get_or-set_same ds e (get_or ds q 0 + r) 0 m
            ∙ sym (row-order h c q r (z ∙ i) l k w)
        go c h u w (no z) = get_or-set_other ds e c (get_or ds q 0 + r) 0 z ∙ sums.sum c h (omega arith) w
