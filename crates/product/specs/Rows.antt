-- One row of pairs, word by word: what the innermost loop reads and writes.
--
-- put w p s              the words w with the 64-bit sum at place p being s
-- add_at w p x           the words w with x added to the sum at place p
-- place_with t w d1 d2 cs k  the place to which listed entry k leads: its codes stand at word cs + k of w, and
--                        those of the row's entry lead to words d1 and d2 of the table t
-- value_with w c co k    c times the coefficient of listed entry k, at word co + k
-- RowIn ..               what a row asks: lists inside the work space and apart from the sums, codes that lead
--                        into the table, sums that leave room
-- HeadIn ..              what reading the head of the row of the entry x asks: a table, the orders of the positions
--                        at word os, and the numbers of listed entries up to each order
-- Rowed r place value k w w'
--                        after k entries of a row: the sum at each place has grown by the values that lead
--                        there, and words from 2r on are as before
use Rattle.std.specs.Prelude.{◌≡◌, List, ℕ, ◌+◌, ◌*◌, ◌/◌, ◌%◌, ◌≤◌, ◌<◌, eqb, length, get_or, set, drop}
use Rattle.algebra.specs.Sum.{sum_to}
use Rattle.algebra.specs.Polynomial.{indicator}
use Rattle.series.specs.Image.{position}
use Rattle.product.specs.Pairs.{sum_at}

-- the words with the sum at place p being s
unfoldable pub put : List ℕ → ℕ → ℕ → List ℕ
put w p s = set (set w (2 * p) (s % 4294967296)) (2 * p + 1) (s / 4294967296)

-- x is added at place p
unfoldable pub add_at : List ℕ → ℕ → ℕ → List ℕ
add_at w p x = put w p (sum_at w p + x)

-- the place to which entry k of the second factor leads: its codes stand at word cs + k, the first below 65,536 times the second
unfoldable pub place_with : List ℕ → List ℕ → ℕ → ℕ → ℕ → ℕ → ℕ
place_with t w d1 d2 cs k = get_or t (d1 + get_or w (cs + k) 0 % 65536) 0 + get_or t (d2 + get_or w (cs + k) 0 / 65536) 0

-- the product of c with the coefficient of entry k, which stands at word co + k
unfoldable pub value_with : List ℕ → ℕ → ℕ → ℕ → ℕ
value_with w c co k = c * get_or w (co + k) 0

pub record RowIn (t w : List ℕ) (r d1 d2 c cs co lim pairs : ℕ) : Type 0 where
  pub codes_apart : 2 * r ≤ cs
  pub coefficients_apart : 2 * r ≤ co
  pub codes_in : cs + lim ≤ length w
  pub coefficients_in : co + lim ≤ length w
  pub first_in : (k : ℕ) → k < lim → d1 + get_or w (cs + k) 0 % 65536 < length t
  pub second_in : (k : ℕ) → k < lim → d2 + get_or w (cs + k) 0 / 65536 < length t
  pub inside : (k : ℕ) → k < lim → place_with t w d1 d2 cs k < r
  pub factor : c ≤ 65535
  pub coefficients : (k : ℕ) → k < lim → get_or w (co + k) 0 ≤ 65535
  pub sums : (j : ℕ) → j < r → sum_at w j ≤ pairs * 4294967296
  pub few : pairs + lim ≤ 2147483648

pub record HeadIn (N E cut os : ℕ) (t w ends : List ℕ) (x : ℕ) : Type 0 where
  pub low : 1 ≤ position x
  pub high : position x ≤ N
  pub few : N ≤ 8008
  pub few_codes : E ≤ 6561
  pub table_here : N + N + E + E ≤ length t
  pub orders_in : os + (N + 1) ≤ length w
  pub order_in : get_or w (os + position x) 0 ≤ cut
  pub ends_in : cut < length ends

-- after a row: at each place below r the sum has grown by the values that lead there; words from 2r on are as before
pub record Rowed (r : ℕ) (place value : ℕ → ℕ) (k : ℕ) (w w' : List ℕ) : Type 0 where
  pub size : length w' ≡ length w
  pub rest : drop (2 * r) w' ≡ drop (2 * r) w
  pub sums : (j : ℕ) → sum_at w' j ≡ sum_at w j + sum_to (λ i. value i * indicator (eqb (place i) j)) k
