-- The walk over beginnings, as words of one work slice w (substitution, `walk`, is what it computes).
-- Regions of r = N + 1 words: the sums of a multiplication at word 0, two of them, all 0 between
-- products; the listed inner components, two each; the orders of the positions; the marks, with the
-- positions by order in the upper halves of their words; and below word `at` the products of one
-- letter more, two letters more and so on, each r words lower than the one before.
--
-- Glossary
--   lower_half x           the lower half of the word x
--   list_at N k            the word at which inner component k is listed
--   row ends k             the numbers of entries of inner component k up to each order
--   inner n v ys           the inner map whose components have the entries ys
--   Source p n v N lo cut w at P
--                          entries stand at word `at` of w, in any order of positions, none of an
--                          order below lo or above `cut`, and agree with P up to that order
--   Planned s w ys mark κ  what a walk is told: the plan s fits its table; w and the plan's `ends` and
--                          `starts` hold the orders, the listed components ys, which have no constants, the
--                          marks and the positions by order; the monomials to be entered, where
--                          `mark` holds, are those whose mark and the cut have a sum of 11 or more
--                          (substitution, `Marks`); κ i is the coefficient that outer series i has
--                          at a monomial, and 0 below the order `least`
--   Node s w q at left m Q position q is that of the monomial m, which `left` letters separate from
--                          the order of the cut, and its product Q stands at word `at`, with room
--                          for `left` longer ones below
--   Sums s res A           part i of res holds the sums A i by position, at the orders that are wanted
--   Kept s at w w'         the words of w that a walk from word `at` does not change; clean sums stay
--                          clean
--   Walked s ys mark κ l m Q left at A w w' res res'
--                          what a walk leaves: part i of res' holds A i and the walk
use Rattle.std.specs.Prelude.{◌≡◌, Bool, List, [], map, ℕ, suc, ◌+◌, ◌*◌, ◌%◌, ◌≤◌, ◌<◌, leb, length, get_or, drop}
use Rattle.algebra.specs.Polynomial.{Monomial, Polynomial, order, indicator, add}
use Rattle.algebra.specs.Substitution.{Map}
use Rattle.algebra.specs.Agreement.{Agree, Within}
use Rattle.series.specs.Image.{position, entries, coefficient_at, component, monomial_at, term_of}
use Rattle.powers.specs.Powers.{Clean, Ordered}
use Rattle.product.specs.Pairs.{order_of}
use Rattle.product.specs.Regions.{Ready, Listed, source_entries}
use Rattle.substitution.specs.Walk.{walk}
use Rattle.substitution.specs.Marks.{AscendingEntries}
use Rattle.substitution.specs.Levels.{Cut, Holds}
use Rattle.walk.specs.declared.Plan.{Plan}

-- the lower half of a word
abbrev pub lower_half : ℕ → ℕ
lower_half x = x % 65536

abbrev pub list_at : ℕ → ℕ → ℕ
list_at N k = (k + 1) * (2 * (N + 1))

abbrev pub row : List (List ℕ) → ℕ → List ℕ
row ends k = get_or ends k []

abbrev pub inner : ℕ → ℕ → (ℕ → List ℕ) → Map
inner n v ys k = map (term_of n v) (ys k)

pub record Source (p n v N lo cut : ℕ) (w : List ℕ) (at : ℕ) (P : Polynomial) : Type 0 where
  pub inside : at + 1 + get_or w at 0 ≤ length w
  pub few : get_or w at 0 ≤ N
  pub low : (i : ℕ) → i < get_or w at 0 → 1 ≤ position (get_or w (at + 1 + i) 0)
  pub high : (i : ℕ) → i < get_or w at 0 → position (get_or w (at + 1 + i) 0) ≤ N
  pub least : (i : ℕ) → i < get_or w at 0 → lo ≤ order_of n v (get_or w (at + 1 + i) 0)
  pub order : (i : ℕ) → i < get_or w at 0 → order_of n v (get_or w (at + 1 + i) 0) ≤ cut
  pub agrees : Agree p (suc cut) (map (term_of n v) (source_entries w at (get_or w at 0))) P

pub record Planned (s : Plan) (w : List ℕ) (ys : ℕ → List ℕ)
    (mark : Monomial → Bool) (κ : ℕ → Monomial → ℕ) : Type 0 where
  pub cut_is : Cut s.p s.t.z.n s.t.z.v s.t.z.count s.cut
  pub wanted_low : s.wanted ≤ s.cut
  pub ready : Ready s.t.z.n s.t.z.v s.t.z.count s.t.z.codes s.columns.orders s.t.words.now w
  pub listed : (k : ℕ) → k < s.t.z.v
      → Listed s.t.z.n s.t.z.v s.t.z.count (ys k) (list_at s.t.z.count k) w (row s.ends.now k)
  pub origin : (k : ℕ) → k < s.t.z.v → get_or (row s.ends.now k) 0 0 ≡ 0
  pub within : (k : ℕ) → k < s.t.z.v → Within s.t.z.v (inner s.t.z.n s.t.z.v ys k)
  pub ordered : Ordered s.t.z.n s.t.z.v s.t.z.count s.columns.marks w s.starts.now
  pub clean : Clean s.t.z.count w
  pub marked : (q : ℕ) → 1 ≤ q → q ≤ s.t.z.count
      → leb 11 (lower_half (get_or w (s.columns.marks + q) 0) + s.cut) ≡ mark (monomial_at s.t.z.n s.t.z.v q)
  pub few : s.components ≤ 8
  pub outer_in : s.components * (s.t.z.count + 1) ≤ length s.outer.now
  pub ascending : (i : ℕ) → i < s.components → AscendingEntries (component s.t.z.n s.t.z.v i s.outer.now)
  pub reduced : (i q : ℕ) → i < s.components
      → coefficient_at (entries (component s.t.z.n s.t.z.v i s.outer.now)) q < s.p
  pub coefficient : (i q : ℕ) → i < s.components → 1 ≤ q → q ≤ s.t.z.count
      → κ i (monomial_at s.t.z.n s.t.z.v q)
      ≡ coefficient_at (entries (component s.t.z.n s.t.z.v i s.outer.now)) q
      * indicator (leb s.least (order (monomial_at s.t.z.n s.t.z.v q)))

-- the words from 2 (N + 1) to here are never changed: lists, orders and marks
abbrev pub bottom : Plan → ℕ
bottom s = (2 * s.t.z.v + 4) * (s.t.z.count + 1)

pub record Laid (s : Plan) : Type 0 where
  pub orders_in : s.columns.orders + (s.t.z.count + 1) ≤ bottom s
  pub marks_low : 2 * (s.t.z.count + 1) ≤ s.columns.marks
  pub marks_in : s.columns.marks + (s.t.z.count + 1) ≤ bottom s

pub record Node (s : Plan) (w : List ℕ) (q at left : ℕ) (m : Monomial) (Q : Polynomial) : Type 0 where
  pub low : 1 ≤ q
  pub high : q ≤ s.t.z.count
  pub monomial : monomial_at s.t.z.n s.t.z.v q ≡ m
  pub letters : order m + left ≡ s.cut
  pub source : Source s.p s.t.z.n s.t.z.v s.t.z.count (order m) s.cut w at Q
  pub within : Within s.t.z.v Q
  pub room : bottom s + left * (s.t.z.count + 1) ≤ at

pub record Sums (s : Plan) (res : List ℕ) (A : ℕ → Polynomial) : Type 0 where
  pub inside : s.components * (s.t.z.count + 1) ≤ length res
  pub holds : (i : ℕ) → i < s.components
      → Holds s.p s.t.z.n s.t.z.v s.t.z.count s.wanted s.cut (component s.t.z.n s.t.z.v i res) (A i)

pub record Kept (s : Plan) (at : ℕ) (w w' : List ℕ) : Type 0 where
  pub size : length w' ≡ length w
  pub fixed : (j : ℕ) → 2 * (s.t.z.count + 1) ≤ j → j < bottom s → get_or w' j 0 ≡ get_or w j 0
  pub above : (j : ℕ) → at ≤ j → get_or w' j 0 ≡ get_or w j 0
  pub clean : Clean s.t.z.count w → Clean s.t.z.count w'

pub record Walked (s : Plan) (ys : ℕ → List ℕ) (mark : Monomial → Bool) (κ : ℕ → Monomial → ℕ)
    (l : ℕ) (m : Monomial) (Q : Polynomial) (left at : ℕ) (A : ℕ → Polynomial)
    (w w' res res' : List ℕ) : Type 0 where
  pub kept : Kept s at w w'
  pub sums : Sums s res' (λ i. add (A i) (walk (κ i) mark (inner s.t.z.n s.t.z.v ys) s.t.z.v left l m Q))
  pub size : length res' ≡ length res
  pub rest : drop (s.components * (s.t.z.count + 1)) res' ≡ drop (s.components * (s.t.z.count + 1)) res
