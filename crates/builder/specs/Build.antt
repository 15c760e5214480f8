-- What the functions of the builder hand on to each other (01, 'The monomial table'; 002, section 3).
--
-- C1s n v, C2s n v        the words of the sections C1 and C2: one for each position, from 1
-- with_codes n v j s      the words s with C1 and C2 of the positions 1 to j in place, all others as in s
-- CodesAt n v i x y       x and y are C1 and C2 of the position after the first i
-- Advances n v i j s t    where s has the positions 1 to i written, t has those from 1 to j written
-- filled at g e s         the words s with g 0, g 1, .. up to g (e - 1) in place from word `at` on
-- DigitSums b e ds        ds holds the digit sum, in base b, of each code below e
-- Prepared n v N m ds     N is the number of monomials, m the number of codes of h - 1 digits; ds holds their
--                         digit sums
-- order_start n v s       how many monomials with C2 = 0 have an order below s
-- Ends n v m ends         ends holds, for each order s below m, how many with C2 = 0 have order at most s
-- block_start n v y       how many monomials have C2 below y
use Rattle.std.specs.Prelude.{◌≡◌, List, map, ℕ, suc, ◌+◌, ◌-◌, ◌^◌, ◌≤◌, ◌<◌, length, get_or}
use Rattle.std.proofs.Math.Seq.{paste}
use Rattle.monomial.specs.Enumeration.{upto, tabulate}
use Rattle.monomial.specs.Count.{count, half, Allowed}
use Rattle.monomial.specs.Table.{digit_sum, of_order, monomials_of, monomials, C1, C2}

unfoldable pub C1s : ℕ → ℕ → List ℕ
C1s n v = map (C1 n v) (monomials n v)

unfoldable pub C2s : ℕ → ℕ → List ℕ
C2s n v = map (C2 n v) (monomials n v)

unfoldable pub with_codes : ℕ → ℕ → ℕ → List ℕ → List ℕ
with_codes n v j s = paste (paste s 0 (C1s n v) j) (count n v) (C2s n v) j

pub record CodesAt (n v i x y : ℕ) : Type 0 where
  pub inside : i < count n v
  pub first : x ≡ get_or (C1s n v) i 0
  pub second : y ≡ get_or (C2s n v) i 0

pub record Advances (n v i j : ℕ) (s t : List ℕ) : Type 0 where
  pub advances : (old : List ℕ) → count n v + count n v ≤ length old → s ≡ with_codes n v i old → t ≡ with_codes n v j old

unfoldable pub filled : ℕ → (ℕ → ℕ) → ℕ → List ℕ → List ℕ
filled at g e s = paste s at (tabulate g e) e

pub record DigitSums (b e : ℕ) (ds : List ℕ) : Type 0 where
  pub size : e ≤ length ds
  pub sum : (c h : ℕ) → c < e → c < b ^ h → get_or ds c 0 ≡ digit_sum b h c

pub record Prepared (n v N m : ℕ) (ds : List ℕ) : Type 0 where
  pub allowed : Allowed n v
  pub total : N ≡ count n v
  pub rows : m ≡ (n + 1) ^ (half v - 1)
  pub sums : DigitSums (n + 1) m ds

unfoldable pub order_start : ℕ → ℕ → ℕ → ℕ
order_start n v s = length (upto (of_order (n + 1) (half v)) s)

pub record Ends (n v m : ℕ) (ends : List ℕ) : Type 0 where
  pub size : length ends ≡ 11
  pub end : (s : ℕ) → s < m → get_or ends s 0 ≡ order_start n v (suc s)

unfoldable pub block_start : ℕ → ℕ → ℕ → ℕ
block_start n v y = length (upto (monomials_of n v) y)
