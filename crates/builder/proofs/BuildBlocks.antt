-- Where the blocks of equal C2 begin. The block of a second code y is as long as the codes of order at most
-- n less y's digit sum, and has their C1 in the same order: it repeats the beginning of the block of C2 = 0.
use Rattle.std.proofs.Common.{◌≡◌, refl, sym, ap, ◌∙◌, subst, ℕ, suc, ◌+◌, ◌-◌, ◌^◌, ◌≤◌, ◌<◌, add-one, arith, length, get_or}
use Rattle.monomial.specs.Enumeration.{upto}
use Rattle.monomial.specs.Count.{count, half}
use Rattle.monomial.specs.Table.{of_order, block, monomials_of, monomials, D2}
use Rattle.builder.specs.Build.{C1s, CodesAt, order_start, block_start}
use Rattle.monomial.proofs.Upto.{length-suc, upto-mono}
use Rattle.monomial.proofs.Digits.{digit_sum-zero}
use Rattle.monomial.proofs.Blocks.{rank, block_back}
use Rattle.monomial.proofs.Address.{order2, length-monomials_of, monomials_of-high}
use Rattle.monomial.proofs.Places.{D2-low}
use Rattle.monomial.proofs.Size.{length-monomials}
use Rattle.builder.proofs.BuildRows.{upto_skip}
use Rattle.builder.proofs.BuildOrder.{codes_at, codes-at_first}

module _ (n v : ℕ) where
  pub block-length : (r : ℕ) → order_start n v (suc r) ≡ length (block (n + 1) (half v) r)
  unfolding order_start block
  block-length r = refl

  pub order-mono : (s m : ℕ) → s ≤ m → order_start n v s ≤ order_start n v m
  unfolding order_start
  order-mono s m l = upto-mono (of_order (n + 1) (half v)) s m l

  pub block-mono : (y m : ℕ) → y ≤ m → block_start n v y ≤ block_start n v m
  unfolding block_start
  block-mono y m l = upto-mono (monomials_of n v) y m l

  pub block_none : block_start n v 0 ≡ 0
  unfolding block_start upto
  block_none = refl

  pub block-next : (y : ℕ) → order2 n v y ≤ n
      → block_start n v (y + 1) ≡ block_start n v y + order_start n v (suc (n - order2 n v y))
  unfolding block_start
  block-next y o =
      ap (λ (z : ℕ). length (upto (monomials_of n v) z)) (add-one y)
      ∙ length-suc (monomials_of n v) y
      ∙ ap (λ (z : ℕ). block_start n v y + z) (length-monomials_of n v y o ∙ sym (block-length (n - order2 n v y)))

  pub block-past : (y m : ℕ) → ((j : ℕ) → y ≤ j → j < y + m → n < order2 n v j) → block_start n v (y + m) ≡ block_start n v y
  unfolding block_start
  block-past y m o =
      ap length (upto_skip (monomials_of n v) y m (λ j l k. monomials_of-high n v j (o j l k)))

  pub block-all : block_start n v ((n + 1) ^ (v - half v)) ≡ count n v
  unfolding block_start monomials
  block-all = length-monomials n v

  pub block-first : block_start n v 1 ≡ order_start n v (n + 1)
  block-first =
      let z = digit_sum-zero (n + 1) (v - half v) in
      let e : suc (n - order2 n v 0) ≡ n + 1 = omega arith in
      ap (block_start n v) (omega arith)
      ∙ block-next 0 (omega arith)
      ∙ omega (arith, block_none, ap (order_start n v) e)

  pub block-codes : (y i : ℕ) → y < (n + 1) ^ (v - half v) → order2 n v y ≤ n → i < order_start n v (suc (n - order2 n v y))
      → CodesAt n v (block_start n v y + i) (get_or (C1s n v) i 0) y
  block-codes y i ly o l =
      let b = n + 1 in
      let q = block_back b (half v) (n - order2 n v y) i (omega (arith, block-length (n - order2 n v y))) in
      let x = q.0 in
      let f = codes_at n v x y q.1 ly (omega (arith, q.2)) in
      let g = codes-at_first n v x q.1 (omega (arith, q.2)) in
      subst (λ (z : ℕ). CodesAt n v (block_start n v y + z) (get_or (C1s n v) z 0) y) (sym q.3)
      (subst (λ (z : ℕ). CodesAt n v (block_start n v y + rank b (half v) x) z y) g.first f)

  -- D2 is where a block begins
  pub D2-start : (y : ℕ) → y < (n + 1) ^ (v - half v) → order2 n v y ≤ n → D2 n v y ≡ block_start n v y
  unfolding block_start
  D2-start y l o = D2-low n v y l o
