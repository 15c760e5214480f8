-- One coefficient, and the coefficients at one position, put behind lists.
--
-- Glossary
--   codes_at_position t N q   the two codes of position q in one word, by the table t
--   AppendIn ..               what listing one coefficient asks: a position and room for one entry more
--   One t N cs m q c w w' r   the coefficient c is number m of the list at word cs, unless it is 0
--   AllIn ..                  what listing the coefficients y at position q asks
use Rattle.std.specs.Prelude.{◌≡◌, List, ℕ, ◌+◌, ◌-◌, ◌*◌, ◌≤◌, ◌<◌, length, get_or, set}
use Rattle.linear.specs.Matrix.{at}
use Rattle.counts.specs.Tables.{Tabled}
use Rattle.walk.specs.Walking.{row}
use Rattle.growth.specs.Appending.{size_of}

abbrev pub codes_at_position : List ℕ → ℕ → ℕ → ℕ
codes_at_position t N q = get_or t (q - 1) 0 + get_or t (N + (q - 1)) 0 * 65536

pub record AppendIn (N cs m q : ℕ) (t w : List ℕ) : Type 0 where
  pub low : 1 ≤ q
  pub high : q ≤ N
  pub few : N ≤ 8008
  pub table : N + N ≤ length t
  pub room : m ≤ N
  pub inside : cs + (N + 1) + (N + 1) ≤ length w

pub record One (t : List ℕ) (N cs m q c : ℕ) (w w' : List ℕ) (r : ℕ) : Type 0 where
  pub none : c ≡ 0 → (r ≡ m) × (w' ≡ w)
  pub some : 0 < c → (r ≡ m + 1) × (w' ≡ set (set w (cs + m) (codes_at_position t N q)) (cs + (N + 1) + m) c)

pub record AllIn (n v N E o q : ℕ) (t w : List ℕ) (ends : List (List ℕ)) (y : List ℕ) : Type 0 where
  pub table : Tabled n v N E t
  pub low : 1 ≤ q
  pub high : q ≤ N
  pub order_high : o ≤ n
  pub rows_in : v ≤ length ends
  pub ends_in : (k : ℕ) → k < v → n < length (row ends k)
  pub room : (k : ℕ) → k < v → size_of ends k o ≤ N
  pub inside : (2 * v + 2) * (N + 1) ≤ length w
  pub small : (k : ℕ) → k < v → at y k < 65536
