-- Sums turned into entries: the entries of a product of a walk, made from the sums of its pairs.
--
-- Glossary
--   entry_at w q p          the entry of the sum at place q modulo p; none where that is 0
--   TakeIn w i q p          what making it at word i asks
--   Possible n v N lo cut q q is a position of an order from lo to `cut`
--   Room N dst p w          what making entries from word dst + 1 on asks of the words w
--   Drawn n v N lo cut dst p w₀ w i
--                           entries stand from word dst + 1 up to word i, at possible positions; what is
--                           gone from a sum of w₀ is the coefficient of the entries there, modulo p;
--                           words from 2 (N + 1) on are those of w₀ but for the entries'
--   Made n v N lo cut dst p w w'
--                           the same when it is finished, with the number of the entries at word dst
--   listed_at w ps k        the position that is listed as number k, from 0
--   RunIn ..                what making entries of the positions listed from `from` to `to`, from word i
--                           on, asks: entries drawn so far, and room
--   RunGathered ..          what it leaves: entries up to word r, each at such a position, and no sum at
--                           these positions
--   GatherIn ..             what making entries of the positions listed from `from` over `mid` to `to` asks
--   Gathered ..             what it leaves: entries, the first r at positions listed before `mid`, and no
--                           sum at these positions
use Rattle.std.specs.Prelude.{◌≡◌, List, ℕ, ◌+◌, ◌-◌, ◌*◌, ◌%◌, ◌≤◌, ◌<◌, length, get_or, drop}
use Rattle.algebra.specs.Polynomial.{order}
use Rattle.series.specs.Image.{position, entries, entry_of, coefficient_at, monomial_at}
use Rattle.product.specs.Pairs.{sum_at}
use Rattle.product.specs.Regions.{source_entries}

abbrev pub entry_at : List ℕ → ℕ → ℕ → List ℕ
entry_at w q p = entry_of q (sum_at w q % p)

pub record TakeIn (w : List ℕ) (i q p : ℕ) : Type 0 where
  pub apart : 2 * q + 1 < i
  pub inside : i < length w
  pub small : q < 65536
  pub modulus_low : 0 < p
  pub modulus_high : p ≤ 65536

pub record Possible (n v N lo cut q : ℕ) : Type 0 where
  pub low : 1 ≤ q
  pub high : q ≤ N
  pub least : lo ≤ order (monomial_at n v q)
  pub most : order (monomial_at n v q) ≤ cut

pub record Room (N dst p : ℕ) (w : List ℕ) : Type 0 where
  pub small : N < 65536
  pub apart : 2 * (N + 1) ≤ dst
  pub inside : dst + (N + 1) ≤ length w
  pub modulus_low : 0 < p
  pub modulus_high : p ≤ 65536

pub record Drawn (n v N lo cut dst p : ℕ) (w₀ w : List ℕ) (i : ℕ) : Type 0 where
  pub size : length w ≡ length w₀
  pub begun : dst + 1 ≤ i
  pub entry : (j : ℕ) → dst + 1 + j < i → Possible n v N lo cut (position (get_or w (dst + 1 + j) 0))
  pub less : (q : ℕ) → q ≤ N → sum_at w q ≤ sum_at w₀ q
  pub gone : (q : ℕ) → q ≤ N
      → coefficient_at (source_entries w dst (i - dst - 1)) q + sum_at w q % p ≡ sum_at w₀ q % p
  pub before : (x : ℕ) → 2 * (N + 1) ≤ x → x ≤ dst → get_or w x 0 ≡ get_or w₀ x 0
  pub after : (x : ℕ) → dst + (N + 1) ≤ x → get_or w x 0 ≡ get_or w₀ x 0

pub record Made (n v N lo cut dst p : ℕ) (w w' : List ℕ) : Type 0 where
  pub size : length w' ≡ length w
  pub few : get_or w' dst 0 ≤ N
  pub entry : (i : ℕ) → i < get_or w' dst 0
      → Possible n v N lo cut (position (get_or w' (dst + 1 + i) 0))
  pub less : (q : ℕ) → q ≤ N → sum_at w' q ≤ sum_at w q
  pub gone : (q : ℕ) → q ≤ N
      → coefficient_at (entries (drop dst w')) q + sum_at w' q % p ≡ sum_at w q % p
  pub before : (i : ℕ) → 2 * (N + 1) ≤ i → i < dst → get_or w' i 0 ≡ get_or w i 0
  pub after : (i : ℕ) → dst + (N + 1) ≤ i → get_or w' i 0 ≡ get_or w i 0

-- ---- the listed positions

abbrev pub listed_at : List ℕ → ℕ → ℕ → ℕ
listed_at w ps k = position (get_or w (ps + 1 + k) 0)

pub record RunIn (n v N lo cut ps from to dst p : ℕ) (w₀ w : List ℕ) (i : ℕ) : Type 0 where
  pub room : Room N dst p w₀
  pub drawn : Drawn n v N lo cut dst p w₀ w i
  pub ascends : from ≤ to
  pub many : to ≤ N
  pub few : i + to ≤ dst + 1 + N + from
  pub apart : 2 * (N + 1) ≤ ps
  pub below : ps + (N + 1) ≤ dst
  pub place : (k : ℕ) → from ≤ k → k < to → Possible n v N lo cut (listed_at w ps k)

pub record RunGathered (n v N lo cut ps from to dst p : ℕ) (w₀ w : List ℕ) (i : ℕ) (w' : List ℕ)
    (r : ℕ) : Type 0 where
  pub drawn : Drawn n v N lo cut dst p w₀ w' r
  pub more : i ≤ r
  pub few : r + from ≤ i + to
  pub origin : (j : ℕ) → i ≤ j → j < r
      → (k : ℕ) × (from ≤ k) × (k < to) × (position (get_or w' j 0) ≡ listed_at w ps k)
  pub taken : (k : ℕ) → from ≤ k → k < to → sum_at w' (listed_at w ps k) ≡ 0
  pub less : (q : ℕ) → q ≤ N → sum_at w' q ≤ sum_at w q
  pub kept : (x : ℕ) → 2 * (N + 1) ≤ x → x < i → get_or w' x 0 ≡ get_or w x 0

pub record GatherIn (n v N lo cut ps from mid to dst p : ℕ) (w : List ℕ) : Type 0 where
  pub room : Room N dst p w
  pub low : from ≤ mid
  pub high : mid ≤ to
  pub many : to ≤ N
  pub apart : 2 * (N + 1) ≤ ps
  pub below : ps + (N + 1) ≤ dst
  pub place : (k : ℕ) → from ≤ k → k < to → Possible n v N lo cut (listed_at w ps k)

pub record Gathered (n v N lo cut ps from mid to dst p : ℕ) (w w' : List ℕ) (r : ℕ) : Type 0 where
  pub made : Made n v N lo cut dst p w w'
  pub taken : (k : ℕ) → from ≤ k → k < to → sum_at w' (listed_at w ps k) ≡ 0
  pub few : r ≤ get_or w' dst 0
  pub early : (j : ℕ) → j < r
      → (k : ℕ) × (from ≤ k) × (k < mid) × (position (get_or w' (dst + 1 + j) 0) ≡ listed_at w ps k)
