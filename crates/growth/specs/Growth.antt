-- The inverse of a map while it grows by one order a turn: its components stand listed by order in the
-- work slice, so that the terms of a new order are put behind the others.
--
-- Glossary
--   entries_of f es            the entries of the coefficients that f gives to the positions of es; none
--                              where f gives 0
--   positions_of_order n v N o  the positions of order o, as entries
--   Lists n v N o w ends ys    component k is listed and has the entries ys k, all of an order below o and
--                              no more than there are positions of such an order
--   GrowIn ..                  what growing by order o asks: the positions by order, the matrix m, parts ws
--                              of residues by position, and lists of the orders below
--   Grown ..                   what it leaves: behind the entries of component k those of order o of row k
--                              of m times the vectors of ws; words but for the lists' are as before
use Rattle.std.specs.Prelude.{◌≡◌, List, [], ◌∷◌, ◌++◌, ℕ, suc, ◌+◌, ◌*◌, ◌%◌, ◌≤◌, ◌<◌, eqb, length, get_or}
use Rattle.linear.specs.Matrix.{Matrix, element}
use Rattle.series.specs.Image.{position, entry_of}
use Rattle.product.specs.Pairs.{order_of, pick, by_order}
use Rattle.product.specs.Regions.{Listed, Outside}
use Rattle.counts.specs.Tables.{Tabled}
use Rattle.powers.specs.Powers.{places, Ordered}
use Rattle.walk.specs.Walking.{list_at, row}
use Rattle.turn.specs.Vectors.{dot, word_at}

unfoldable pub entries_of : (ℕ → ℕ) → List ℕ → List ℕ
entries_of f [] = []
entries_of f (w ∷ es) = entry_of (position w) (f (position w)) ++ entries_of f es

abbrev pub positions_of_order : ℕ → ℕ → ℕ → ℕ → List ℕ
positions_of_order n v N o = pick (λ w. eqb (order_of n v w) o) (places N)

pub record Lists (n v N o : ℕ) (w : List ℕ) (ends : List (List ℕ)) (ys : ℕ → List ℕ) : Type 0 where
  pub listed : (k : ℕ) → k < v → Listed n v N (ys k) (list_at N k) w (row ends k)
  pub below : (k i : ℕ) → k < v → i < length (ys k) → order_of n v (get_or (ys k) i 0) < o
  pub few : (k : ℕ) → k < v → length (ys k) ≤ length (by_order n v (places N) o)

pub record GrowIn (n v N E p o ps : ℕ) (m : Matrix) (t ws w : List ℕ) (ends : List (List ℕ)) (starts : List ℕ)
    : Type 0 where
  pub table : Tabled n v N E t
  pub order_high : o ≤ n
  pub modulus_low : 0 < p
  pub modulus_high : p ≤ 65536
  pub residue : (i j : ℕ) → i < 8 → j < 8 → element m i j < p
  pub parts_in : v * (N + 1) ≤ length ws
  pub words : (q j : ℕ) → 1 ≤ q → q ≤ N → j < v → word_at N ws q j < p
  pub ordered : Ordered n v N ps w starts
  pub behind : (2 * v + 2) * (N + 1) ≤ ps
  pub ends_in : length ends ≡ 8
  pub lists : (ys : ℕ → List ℕ) × Lists n v N o w ends ys

pub record Grown (n v N p o : ℕ) (m : Matrix) (ws w w' : List ℕ) (ends ends' : List (List ℕ)) : Type 0 where
  pub outside : Outside w w' (2 * (N + 1)) ((2 * v + 2) * (N + 1))
  pub ends_in : length ends' ≡ 8
  pub lists : (ys : ℕ → List ℕ) → Lists n v N o w ends ys
      → Lists n v N (suc o) w' ends'
      (λ k. ys k ++ entries_of (λ q. dot v (element m k) (word_at N ws q) % p) (positions_of_order n v N o))
