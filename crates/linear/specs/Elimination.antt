-- Glossary: what the private functions of the elimination promise. Nothing public cites it.
--   Below p r               each number of a row of eight is below p
--   Combined p g r s o      o is r with g times s added, modulo p
--   Divided p j r k s l     s and l are r and k divided by the number at place j of r, modulo p
--   FirstNonzero r v o      o is the first place below v at which r is not 0, None if there is none
--   Filed p v j f t s o     o is t with s filed as row j, and s taken out of each other row as
--                           often as the number of f in that row and column j says
--   Reduced p v i n m t r k r is row i of m, less multiples of the rows of t before n; k says how
--                           often each row of m stands in r
--   Table p v i m t k       t is the table after i rows of m: row c is empty, or it has 1 in column
--                           c and the other rows have 0 there. k says how often each row of m
--                           stands in each row of t
use Rattle.std.specs.Prelude.{◌≡◌, ◌⊎◌, Option, Some, None, List, ℕ, ◌+◌, ◌-◌, ◌*◌, ◌%◌, ◌<◌, ◌≤◌, replicate}
use Rattle.algebra.specs.Sum.{sum_over}
use Rattle.linear.specs.Matrix.{Matrix, element, range, times, at}

abbrev pub Below : ℕ → List ℕ → Type 0
Below p r = (x : ℕ) → x < 8 → at r x < p

pub record Combined (p g : ℕ) (r s o : List ℕ) : Type 0 where
  pub value : (x : ℕ) → x < 8 → at o x ≡ (at r x + g * at s x) % p
  pub below : Below p o

pub record Divided (p j : ℕ) (r k s l : List ℕ) : Type 0 where
  pub factor : ℕ
  pub inverse : (factor * at r j) % p ≡ 1
  pub row : Combined p factor (replicate 8 0) r s
  pub coefficients : Combined p factor (replicate 8 0) k l

abbrev pub FirstNonzero : List ℕ → ℕ → Option ℕ → Type 0
FirstNonzero r v None = (x : ℕ) → x < v → at r x ≡ 0
FirstNonzero r v (Some j) = (j < v) × ((x : ℕ) → x < j → at r x ≡ 0) × (at r j ≡ 0 → ⊥)

pub record Filed (p v j : ℕ) (f t : Matrix) (s : List ℕ) (o : Matrix) : Type 0 where
  pub here : (x : ℕ) → x < 8 → element o j x ≡ at s x
  pub others : (c x : ℕ) → c < v → x < 8 → (c ≡ j → ⊥)
      → element o c x ≡ (element t c x + (p - element f c j) * at s x) % p
  pub unused : (c x : ℕ) → v ≤ c → element o c x ≡ element t c x

pub record Reduced (p v i n : ℕ) (m t : Matrix) (r k : List ℕ) : Type 0 where
  pub below_row : Below p r
  pub below_coefficients : Below p k
  pub made : (x : ℕ) → x < v → times p v (at k) m x ≡ at r x
  pub own : at k i ≡ 1
  pub later : (x : ℕ) → i < x → x < 8 → at k x ≡ 0
  pub clear : (c : ℕ) → c < n → element t c c ≡ 1 → at r c ≡ 0

pub record Table (p v i : ℕ) (m t k : Matrix) : Type 0 where
  pub below_rows : (c x : ℕ) → c < v → x < 8 → element t c x < p
  pub below_coefficients : (c x : ℕ) → c < v → x < 8 → element k c x < p
  pub made : (c x : ℕ) → c < v → x < v → times p v (element k c) m x ≡ element t c x
  pub later : (c x : ℕ) → c < v → i ≤ x → x < 8 → element k c x ≡ 0
  pub unused : (c x : ℕ) → v ≤ c → element k c x ≡ 0
  pub shape : (c : ℕ) → c < v → ((x : ℕ) → x < v → element t c x ≡ 0)
      ⊎ ((element t c c ≡ 1) × ((d : ℕ) → d < v → (d ≡ c → ⊥) → element t d c ≡ 0))
  pub count : sum_over (range 0 v) (λ c. element t c c) ≡ i
