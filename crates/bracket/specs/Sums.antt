-- The bracket is a sum of products of derivatives (01, "The operations"): for each pair of
-- variables two of them, its halves, of which the second has the factor p - 1. All are added up in
-- one set of 64-bit sums, which become an image once, at the end. The work space has the regions of
-- the product core: the sums, the first factor at word 2 (N + 1), the second listed at word
-- 3 (N + 1), the result at word 5 (N + 1), the orders at word 6 (N + 1). N = count n v,
-- E = codes n v.
--
-- Factors n v N E p t a b     a right table and two series
-- Summing n v N E t result w s
--                             orders and sums stand in the work space w; s pairs were added, of
--                             which each gave less than 2^32; the result has room for a derivative
-- HalfIn ..                   what the product of two derivatives asks: variables i and j, a factor
--                             f, and sums that leave room
-- PairIn ..                   what both halves of pair k ask
-- PairsIn ..                  what all pairs ask: sums that are zero
-- Grown n v N p P w w' s s' m the sums of w have grown by the coefficients of P modulo p, in m
--                             products; s pairs were added before, s' are now; words from
--                             5 (N + 1) on are as before
-- Summed n v N p P w w'       the sums of w' are the coefficients of P modulo p; words from
--                             5 (N + 1) on are as before
-- derivative_in n v N p f i P r
--                             words r with f times the derivative of P in variable i at their
--                             beginning
-- left_after n v N p k P r    what k pairs leave in the result, where r stood: the first factor of the
--                             last half, which is p - 1 times a derivative of the first series P
use Rattle.std.specs.Prelude.{◌≡◌, List, ◌++◌, ℕ, zero, suc, ◌+◌, ◌-◌, ◌*◌, ◌/◌, ◌%◌, ◌≤◌, ◌<◌, length, get_or, drop}
use Rattle.algebra.specs.Polynomial.{Polynomial, coefficient_of, scale, derivative}
use Rattle.monomial.specs.Count.{count, codes}
use Rattle.series.specs.Image.{monomial_at, image}
use Rattle.product.specs.Pairs.{sum_at}
use Rattle.counts.specs.Tables.{Right}
use Rattle.product.specs.Regions.{Ready}
use Rattle.product.specs.Core.{SeriesIn}

pub record Factors (n v N E p : ℕ) (t a b : List ℕ) : Type 0 where
  pub right : Right n v t
  pub N_is : N ≡ count n v
  pub E_is : E ≡ codes n v
  pub modulus_low : 1 < p
  pub modulus_high : p ≤ 65536
  pub first : SeriesIn p N a
  pub second : SeriesIn p N b

pub record Summing (n v N E : ℕ) (t result w : List ℕ) (s : ℕ) : Type 0 where
  pub ready : Ready n v N E (6 * (N + 1)) t w
  pub bound : (j : ℕ) → j < N + 1 → sum_at w j ≤ s * 4294967296
  pub result_in : N + 1 ≤ length result

-- 2,147,483,648 pairs leave room for 64-bit sums, and 64,128,064 = 8,008² are the most of a product
pub record HalfIn (n v N E p i j f : ℕ) (t a b result w : List ℕ) (s : ℕ) : Type 0 where
  pub factors : Factors n v N E p t a b
  pub summing : Summing n v N E t result w s
  pub room : s + 64128064 ≤ 2147483648
  pub first_variable : i < v
  pub second_variable : j < v
  pub factor : f < p

pub record PairIn (n v N E p k : ℕ) (t a b result w : List ℕ) (s : ℕ) : Type 0 where
  pub factors : Factors n v N E p t a b
  pub summing : Summing n v N E t result w s
  pub room : s + 2 * 64128064 ≤ 2147483648
  pub pair : k < v / 2

pub record PairsIn (n v N E p : ℕ) (t a b result w : List ℕ) : Type 0 where
  pub factors : Factors n v N E p t a b
  pub summing : Summing n v N E t result w 0

pub record Grown (n v N p : ℕ) (P : Polynomial) (w w' : List ℕ) (s s' m : ℕ) : Type 0 where
  pub size : length w' ≡ length w
  pub kept : (i : ℕ) → 5 * (N + 1) ≤ i → get_or w' i 0 ≡ get_or w i 0
  pub sums : (j : ℕ) → 1 ≤ j → j ≤ N
      → sum_at w' j % p ≡ (sum_at w j + coefficient_of (monomial_at n v j) P) % p
  pub bound : (j : ℕ) → j < N + 1 → sum_at w' j ≤ s' * 4294967296
  pub few : s' ≤ s + m * 64128064

pub record Summed (n v N p : ℕ) (P : Polynomial) (w w' : List ℕ) : Type 0 where
  pub size : length w' ≡ length w
  pub kept : (i : ℕ) → 5 * (N + 1) ≤ i → get_or w' i 0 ≡ get_or w i 0
  pub sums : (j : ℕ) → 1 ≤ j → j ≤ N → sum_at w' j % p ≡ coefficient_of (monomial_at n v j) P % p

abbrev pub derivative_in : ℕ → ℕ → ℕ → ℕ → ℕ → ℕ → Polynomial → List ℕ → List ℕ
derivative_in n v N p f i P r = image p n v (scale f (derivative i P)) ++ drop (N + 1) r

abbrev pub left_after : ℕ → ℕ → ℕ → ℕ → ℕ → Polynomial → List ℕ → List ℕ
left_after n v N p zero P r = r
left_after n v N p (suc k) P r = derivative_in n v N p (p - 1) (2 * k + 1) P r
