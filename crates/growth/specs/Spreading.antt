-- A listed map, made parts by position.
--
-- Glossary
--   listed_place N E t w cs j  the position to which the codes at word cs + j lead by the table t: D1 at the
--                              first plus D2 at the second
--   listed_sum N E t w cs m q  the sum of those of the first m coefficients of the list at word cs whose
--                              codes lead to position q
--   AddListedIn ..             what adding a list asks: codes that lead to positions, and residues in the
--                              list and in the part
--   AddedListed .. part part'  word q of the part has grown by the list's coefficients at q, modulo p
--   SpreadIn ..                what spreading asks: v lists of residues, and room for v parts in ws
--   Spread n v N p w ends ws ws'
--                              word q of part k is the coefficient of the listed component k at position q;
--                              words behind the parts are as before
use Rattle.std.specs.Prelude.{◌≡◌, List, ℕ, suc, ◌+◌, ◌*◌, ◌/◌, ◌%◌, ◌≤◌, ◌<◌, eqb, length, get_or, drop}
use Rattle.algebra.specs.Sum.{sum_to}
use Rattle.algebra.specs.Polynomial.{indicator}
use Rattle.series.specs.Image.{coefficient, coefficient_at}
use Rattle.product.specs.Rows.{place_with}
use Rattle.counts.specs.Tables.{Tabled}
use Rattle.turn.specs.Vectors.{word_at}
use Rattle.growth.specs.Growth.{Lists}

abbrev pub listed_place : ℕ → ℕ → List ℕ → List ℕ → ℕ → ℕ → ℕ
listed_place N E t w cs j = place_with t w (N + N) (N + N + E) cs j

unfoldable pub listed_sum : ℕ → ℕ → List ℕ → List ℕ → ℕ → ℕ → ℕ → ℕ
listed_sum N E t w cs m q =
    sum_to (λ j. get_or w (cs + (N + 1) + j) 0 * indicator (eqb (listed_place N E t w cs j) q)) m

pub record AddListedIn (N E cs m p : ℕ) (t w part : List ℕ) : Type 0 where
  pub modulus_high : p < 65536
  pub size : length part ≡ N + 1
  pub few : m ≤ N
  pub inside : cs + (N + 1) + (N + 1) ≤ length w
  pub first_code : (j : ℕ) → j < m → get_or w (cs + j) 0 % 65536 < E
  pub second_code : (j : ℕ) → j < m → get_or w (cs + j) 0 / 65536 < E
  pub place_in : (j : ℕ) → j < m → listed_place N E t w cs j ≤ N
  pub factor : (j : ℕ) → j < m → get_or w (cs + (N + 1) + j) 0 < p
  pub residue : (q : ℕ) → q ≤ N → get_or part q 0 < p

pub record AddedListed (N E cs m p : ℕ) (t w part part' : List ℕ) : Type 0 where
  pub size : length part' ≡ length part
  pub word : (q : ℕ) → q ≤ N → get_or part' q 0 ≡ (get_or part q 0 + listed_sum N E t w cs m q) % p

pub record SpreadIn (n v N E p : ℕ) (t w : List ℕ) (ends : List (List ℕ)) (ws : List ℕ) : Type 0 where
  pub table : Tabled n v N E t
  pub modulus_low : 0 < p
  pub modulus_high : p < 65536
  pub parts_in : v * (N + 1) ≤ length ws
  pub lists : (ys : ℕ → List ℕ) × Lists n v N (suc n) w ends ys
      × ((k j : ℕ) → k < v → j < length (ys k) → coefficient (get_or (ys k) j 0) < p)

pub record Spread (n v N p : ℕ) (w : List ℕ) (ends : List (List ℕ)) (ws ws' : List ℕ) : Type 0 where
  pub size : length ws' ≡ length ws
  pub rest : drop (v * (N + 1)) ws' ≡ drop (v * (N + 1)) ws
  pub word : (ys : ℕ → List ℕ) → Lists n v N (suc n) w ends ys
      → ((k j : ℕ) → k < v → j < length (ys k) → coefficient (get_or (ys k) j 0) < p)
      → (k q : ℕ) → k < v → 1 ≤ q → q ≤ N → word_at N ws' q k ≡ coefficient_at (ys k) q % p
