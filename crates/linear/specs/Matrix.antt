-- Glossary (01, 'The operations': the linear part of a map)
--   Matrix            rows of numbers; of a v by v matrix the first v rows and columns count
--   element m i j     the number in row i and column j, both counted from 0
--   range a n         the n numbers a, a + 1, ..
--   at r x            the number at place x of a row, counted from 0
--   times p v a m j   column j of the row a times the matrix m, modulo p
--   square v f        the v by v matrix with f i j in row i and column j
--   product p v m n   the product of two matrices, modulo p
--   unit i j          1 where i is j, and 0 elsewhere
--   identity_matrix v  the identity matrix
--   Inverse p v m n   n is the inverse of m modulo p, on both sides
--   Held p v m        m is held as 01 says: eight rows of eight residues, unused places zero
use Rattle.std.specs.Prelude.{◌≡◌, cond, List, [], ◌∷◌, map, ℕ, zero, suc, ◌*◌, ◌%◌, ◌<◌, ◌≤◌, eqb, get_or}
use Rattle.algebra.specs.Sum.{sum_over}

abbrev pub Matrix : Type 0
Matrix = List (List ℕ)

abbrev pub element : Matrix → ℕ → ℕ → ℕ
element m i j = get_or (get_or m i []) j 0

unfoldable pub range : ℕ → ℕ → List ℕ
range a zero = []
range a (suc n) = a ∷ range (suc a) n

abbrev pub at : List ℕ → ℕ → ℕ
at r x = get_or r x 0

unfoldable pub times : ℕ → ℕ → (ℕ → ℕ) → Matrix → ℕ → ℕ
times p v a m j = sum_over (range 0 v) (λ k. a k * element m k j) % p

unfoldable pub square : ℕ → (ℕ → ℕ → ℕ) → Matrix
square v f = map (λ i. map (f i) (range 0 v)) (range 0 v)

unfoldable pub product : ℕ → ℕ → Matrix → Matrix → Matrix
product p v m n = square v (λ i j. times p v (element m i) n j)

abbrev pub unit : ℕ → ℕ → ℕ
unit i j = cond (eqb i j) 1 0

unfoldable pub identity_matrix : ℕ → Matrix
identity_matrix v = square v unit

pub record Inverse (p v : ℕ) (m n : Matrix) : Type 0 where
  pub left : product p v n m ≡ identity_matrix v
  pub right : product p v m n ≡ identity_matrix v

pub record Held (p v : ℕ) (m : Matrix) : Type 0 where
  pub residue : (i j : ℕ) → i < 8 → j < 8 → element m i j < p
  pub unused_row : (i j : ℕ) → v ≤ i → i < 8 → j < 8 → element m i j ≡ 0
  pub unused_column : (i j : ℕ) → v ≤ j → i < 8 → j < 8 → element m i j ≡ 0
