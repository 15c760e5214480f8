-- One step of the walk: a product one letter longer, and its multiples added to the sums.
--
-- Glossary
--   weight_at s w q i        what outer series i has at position q: its coefficient, and 0 where the
--                            order that w holds for q is below `least`
--   AddAllIn s w res q at first
--                            what adding asks: a product at word `at`, whose first entries are not wanted,
--                            and sums in the parts of res
--   AddedAll s w q at res res'
--                            part i has grown by weight_at i times the product; the words after the
--                            parts are as before
--   StepIn s w k lo q at Q   what a step asks of its numbers: variable k, the order lo and the
--                            position q of the longer monomial, and the product Q of the shorter
--                            one at word `at`, with room below it
--   Stepped s ys κ k lo q at Q A w w' res res'
--                            what a step leaves: the longer product just below word `at`, and its
--                            multiples added to the sums A
use Rattle.std.specs.Prelude.{◌≡◌, List, ℕ, ◌+◌, ◌*◌, ◌-◌, ◌≤◌, ◌<◌, leb, length, get_or, drop}
use Rattle.algebra.specs.Polynomial.{Monomial, Polynomial, indicator, add, scale, mul}
use Rattle.algebra.specs.Agreement.{Within}
use Rattle.series.specs.Image.{entries, coefficient_at, component, monomial_at}
use Rattle.product.specs.Pairs.{order_of}
use Rattle.substitution.specs.Marks.{AscendingEntries}
use Rattle.substitution.specs.Levels.{Cut, Level}
use Rattle.walk.specs.declared.Plan.{Plan}
use Rattle.walk.specs.Walking.{inner, bottom, Source, Sums, Kept}

abbrev pub weight_at : Plan → List ℕ → ℕ → ℕ → ℕ
weight_at s w q i =
    coefficient_at (entries (component s.t.z.n s.t.z.v i s.outer.now)) q
    * indicator (leb s.least (get_or w (s.columns.orders + q) 0))

pub record AddAllIn (s : Plan) (w res : List ℕ) (q at first : ℕ) : Type 0 where
  pub cut_is : Cut s.p s.t.z.n s.t.z.v s.t.z.count s.cut
  pub order_in : s.columns.orders + q < length w
  pub outer_in : s.components * (s.t.z.count + 1) ≤ length s.outer.now
  pub ascending : (i : ℕ) → i < s.components
      → AscendingEntries (component s.t.z.n s.t.z.v i s.outer.now)
  pub reduced : (i : ℕ) → i < s.components
      → coefficient_at (entries (component s.t.z.n s.t.z.v i s.outer.now)) q < s.p
  pub product : (lo : ℕ) × (P : Polynomial) × Level s.p s.t.z.n s.t.z.v s.t.z.count lo s.cut w at P
  pub sums : (A : ℕ → Polynomial) × Sums s res A
  pub few : first ≤ get_or w at 0
  pub early : (i : ℕ) → i < first → order_of s.t.z.n s.t.z.v (get_or w (at + 1 + i) 0) < s.wanted

pub record AddedAll (s : Plan) (w : List ℕ) (q at : ℕ) (res res' : List ℕ) : Type 0 where
  pub sums : (lo : ℕ) (P : Polynomial) (A : ℕ → Polynomial)
      → Level s.p s.t.z.n s.t.z.v s.t.z.count lo s.cut w at P → Sums s res A
      → Sums s res' (λ i. add (A i) (scale (weight_at s w q i) P))
  pub size : length res' ≡ length res
  pub rest : drop (s.components * (s.t.z.count + 1)) res' ≡ drop (s.components * (s.t.z.count + 1)) res

pub record StepIn (s : Plan) (w : List ℕ) (k lo q at : ℕ) (Q : Polynomial) : Type 0 where
  pub variable : k < s.t.z.v
  pub low : 1 ≤ q
  pub high : q ≤ s.t.z.count
  pub source : Source s.p s.t.z.n s.t.z.v s.t.z.count (lo - 1) s.cut w at Q
  pub least : lo ≤ s.cut
  pub within : Within s.t.z.v Q
  pub room : bottom s + (s.t.z.count + 1) ≤ at

pub record Stepped (s : Plan) (ys : ℕ → List ℕ) (κ : ℕ → Monomial → ℕ) (k lo q at : ℕ)
    (Q : Polynomial) (A : ℕ → Polynomial) (w w' res res' : List ℕ) : Type 0 where
  pub kept : Kept s at w w'
  pub source : Source s.p s.t.z.n s.t.z.v s.t.z.count lo s.cut w' (at - (s.t.z.count + 1))
      (mul Q (inner s.t.z.n s.t.z.v ys k))
  pub sums : Sums s res'
      (λ i.
      add (A i) (scale (κ i (monomial_at s.t.z.n s.t.z.v q)) (mul Q (inner s.t.z.n s.t.z.v ys k))))
  pub size : length res' ≡ length res
  pub rest : drop (s.components * (s.t.z.count + 1)) res' ≡ drop (s.components * (s.t.z.count + 1)) res
