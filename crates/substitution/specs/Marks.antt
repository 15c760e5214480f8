-- What the marks of beginnings ask and leave. A monomial is known by its position; N = count n v.
--
-- Glossary
--   Lowered b c r         r is c less the largest power of b that is at most c
--   Outer n v N c ws      the words ws begin with c series of N + 1 words each, with entries at
--                         positions 1 to N (01, "Layout of what is lent")
--   outer_terms n v c ws  the terms of these c series
--   OrdersAt n v N os ms w
--                         word os + q is the order of the monomial at position q; these words lie
--                         below the marks, which begin at ms
--   Marks n v N P ms w    word ms + q marks the monomial at position q: 0 where it is no beginning
--                         of a monomial of P, and else 11 less the least order of one that begins
--                         so. Said by a sum: 11 ≤ mark + b where a monomial of P of order at most
--                         b begins so, for each b up to 10, the largest order. The constant's mark
--                         is 11
--   Marked n v N P ms w w'
--                         the same, but only beginnings of one letter or more count: the constant
--                         is not marked; all other words are those of w
--   Climbs n v N ms x w w'
--                         the monomial of the entry x and its beginnings are marked too
--   MarksSeries n v N ms es w w'
--                         the same for each of the entries es
--   AscendingEntries ws   the entries of the series ws have ascending positions
--   FirstWord ws q k      the entries of ws before word k have positions below q; k is at most q + 1
use Rattle.std.specs.Prelude.{◌≡◌, List, [], ◌∷◌, map, ℕ, ◌+◌, ◌^◌, ◌≤◌, ◌<◌, leb, length, get_or}
use Rattle.algebra.specs.Polynomial.{Polynomial, order, add}
use Rattle.series.specs.Image.{position, component, polynomial, monomial_at, term_of}
use Rattle.product.specs.Regions.{Outside}
use Rattle.product.specs.List.{Checked}
use Rattle.substitution.specs.Walk.{begun, beginning, low_terms, all_terms}

abbrev pub Lowered : ℕ → ℕ → ℕ → Type 0
Lowered b c r = (j : ℕ) → b ^ j ≤ c → c < b ^ (j + 1) → r + b ^ j ≡ c

pub record Outer (n v N c : ℕ) (ws : List ℕ) : Type 0 where
  pub each : (i : ℕ) → i < c → Checked N (component n v i ws)

unfoldable pub outer_terms : ℕ → ℕ → ℕ → List ℕ → Polynomial
outer_terms n v c ws = all_terms c (λ i. polynomial n v (component n v i ws))

pub record OrdersAt (n v N os ms : ℕ) (w : List ℕ) : Type 0 where
  pub apart : os + (N + 1) ≤ ms
  pub orders : (q : ℕ) → 1 ≤ q → q ≤ N → get_or w (os + q) 0 ≡ order (monomial_at n v q)

pub record Marks (n v N : ℕ) (P : Polynomial) (ms : ℕ) (w : List ℕ) : Type 0 where
  pub inside : ms + N < length w
  pub constant : get_or w (ms + 1) 0 ≡ 11
  pub high : (q : ℕ) → 1 ≤ q → q ≤ N → get_or w (ms + q) 0 ≤ 11
  pub mark : (b q : ℕ) → b ≤ 10 → 2 ≤ q → q ≤ N
      → leb 11 (get_or w (ms + q) 0 + b) ≡ begun (low_terms b P) (monomial_at n v q)

-- from any marks in w to marks in w', with no other word changed
pub record Climbs (n v N ms x : ℕ) (w w' : List ℕ) : Type 0 where
  pub marks : (P : Polynomial) → Marks n v N P ms w
      → Marks n v N (add P (term_of n v x ∷ [])) ms w'
  pub outside : Outside w w' (ms + 1) (ms + N + 1)

pub record MarksSeries (n v N ms : ℕ) (es w w' : List ℕ) : Type 0 where
  pub marks : (P : Polynomial) → Marks n v N P ms w
      → Marks n v N (add P (map (term_of n v) es)) ms w'
  pub outside : Outside w w' (ms + 1) (ms + N + 1)

pub record Marked (n v N : ℕ) (P : Polynomial) (ms : ℕ) (w w' : List ℕ) : Type 0 where
  pub high : (q : ℕ) → 1 ≤ q → q ≤ N → get_or w' (ms + q) 0 ≤ 11
  pub mark : (b q : ℕ) → b ≤ 10 → 1 ≤ q → q ≤ N
      → leb 11 (get_or w' (ms + q) 0 + b) ≡ beginning (low_terms b P) (monomial_at n v q)
  pub outside : Outside w w' (ms + 1) (ms + N + 1)

pub record AscendingEntries (ws : List ℕ) : Type 0 where
  pub long : get_or ws 0 0 < length ws
  pub ascending : (i j : ℕ) → 1 ≤ i → i < j → j ≤ get_or ws 0 0
      → position (get_or ws i 0) < position (get_or ws j 0)

pub record FirstWord (ws : List ℕ) (q k : ℕ) : Type 0 where
  pub low : 1 ≤ k
  pub high : k ≤ get_or ws 0 0 + 1
  pub near : k ≤ q + 1
  pub below : (j : ℕ) → 1 ≤ j → j < k → position (get_or ws j 0) < q
