-- A map kept by position: v parts of N + 1 words each, word q of part j being the coefficient of
-- component j at position q. The words at one position, one of each part, are a vector.
--
-- Glossary
--   dot v a x                  the sum of a j times x j over j below v
--   word_at N ws q j           word q of part j
--   Vectors p n v N wanted cut ws H
--                              part j of ws holds the coefficients of component j of H by position,
--                              from order `wanted` to order `cut`, for each j below v
--   Gathered N v q ws x        x is the vector at position q
--   Applied p v m x y          y is the matrix m times x, modulo p
--   Negated p m r              r is minus the matrix m, modulo p
--   CombineIn p n v N m ws     residues in the matrix m, and parts that hold a map
use Rattle.std.specs.Prelude.{◌≡◌, List, ℕ, ◌+◌, ◌*◌, ◌-◌, ◌%◌, ◌≤◌, ◌<◌, get_or}
use Rattle.algebra.specs.Sum.{sum_over}
use Rattle.algebra.specs.Substitution.{Map}
use Rattle.linear.specs.Matrix.{Matrix, element, range, at}
use Rattle.monomial.specs.Count.{count, Allowed}
use Rattle.series.specs.Image.{component}
use Rattle.substitution.specs.Levels.{Holds}

unfoldable pub dot : ℕ → (ℕ → ℕ) → (ℕ → ℕ) → ℕ
dot v a x = sum_over (range 0 v) (λ j. a j * x j)

abbrev pub word_at : ℕ → List ℕ → ℕ → ℕ → ℕ
word_at N ws q j = get_or ws (j * (N + 1) + q) 0

pub record Vectors (p n v N wanted cut : ℕ) (ws : List ℕ) (H : Map) : Type 0 where
  pub each : (j : ℕ) → j < v → Holds p n v N wanted cut (component n v j ws) (H j)

pub record Gathered (N v q : ℕ) (ws x : List ℕ) : Type 0 where
  pub word : (j : ℕ) → j < v → at x j ≡ word_at N ws q j

pub record Applied (p v : ℕ) (m : Matrix) (x y : List ℕ) : Type 0 where
  pub row : (i : ℕ) → i < v → at y i ≡ dot v (element m i) (at x) % p

pub record Negated (p : ℕ) (m r : Matrix) : Type 0 where
  pub negative : (i j : ℕ) → i < 8 → j < 8 → element r i j ≡ ((p - 1) * element m i j) % p
  pub residue : (i j : ℕ) → i < 8 → j < 8 → element r i j < p

pub record CombineIn (p n v N : ℕ) (m : Matrix) (ws : List ℕ) : Type 0 where
  pub allowed : Allowed n v
  pub N_is : N ≡ count n v
  pub modulus_low : 0 < p
  pub modulus_high : p ≤ 65536
  pub residue : (i j : ℕ) → i < 8 → j < 8 → element m i j < p
  pub held : (wanted : ℕ) × (cut : ℕ) × (H : Map) × Vectors p n v N wanted cut ws H
