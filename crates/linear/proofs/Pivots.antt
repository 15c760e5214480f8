-- Counting: i rows are filed in i different columns, so v rows fill a table of v columns.
use Rattle.std.proofs.Common.{◌≡◌, ⊎_elim, ℕ, zero, suc, ◌+◌, ◌<◌, ◌≤◌, eq-or-lt_of_le, arith}
use Rattle.algebra.specs.Sum.{sum_over}
use Rattle.linear.specs.Matrix.{range}
use Rattle.linear.proofs.Lists.{all-range}
use Rattle.linear.proofs.Times.{sum_over-same}

-- f is 0 or 1 at each of the n numbers from a on
abbrev Marks : (ℕ → ℕ) → ℕ → ℕ → Type 0
Marks f a n = (c : ℕ) → a ≤ c → c < a + n → f c ≤ 1

marks_rest : (f : ℕ → ℕ) (a n : ℕ) → Marks f a (suc n) → Marks f (suc a) n
marks_rest f a n h c p q = h c (omega arith) (omega arith)

at_most : (f : ℕ → ℕ) (a n : ℕ) → Marks f a n → sum_over (range a n) f ≤ n
unfolding sum_over range
at_most f a zero h = omega arith
at_most f a (suc n) h =
    omega (arith, h a (omega arith) (omega arith), at_most f (suc a) n (marks_rest f a n h))

-- n marks fill n columns
pub marks_full : (f : ℕ → ℕ) (a n : ℕ) → Marks f a n → sum_over (range a n) f ≡ n
    → (c : ℕ) → a ≤ c → c < a + n → f c ≡ 1
unfolding sum_over range
marks_full f a zero h e c p q = absurd (omega arith)
marks_full f a (suc n) h e c p q =
    let rest = at_most f (suc a) n (marks_rest f a n h) in
    let first = h a (omega arith) (omega arith) in
    ⊎_elim
    (λ (g : a ≡ c). rw (← g) (omega arith))
    (λ (g : a < c). marks_full f (suc a) n (marks_rest f a n h) (omega arith) c g (omega arith))
    (eq-or-lt_of_le p)

-- one mark more
pub marks_more : (f g : ℕ → ℕ) (j a n : ℕ) → a ≤ j → j < a + n → f j ≡ 0 → g j ≡ 1
    → ((c : ℕ) → a ≤ c → c < a + n → (c ≡ j → ⊥) → g c ≡ f c)
    → sum_over (range a n) g ≡ suc (sum_over (range a n) f)
unfolding sum_over range
marks_more f g j a zero p q fj gj h = absurd (omega arith)
marks_more f g j a (suc n) p q fj gj h = ⊎_elim
    (λ (e : a ≡ j).
    let f₀ : f a ≡ 0 = rw e fj in
    let g₀ : g a ≡ 1 = rw e gj in
    let rest : sum_over (range (suc a) n) g ≡ sum_over (range (suc a) n) f =
    sum_over-same (λ c. (suc a ≤ c) × (c < suc a + n)) g f
    (λ c l. h c (omega arith) (omega arith) (λ u. omega arith))
    (range (suc a) n) (all-range _ (suc a) n (λ c s t. (s, t))) in
    omega arith)
    (λ (l : a < j).
    omega (
      arith,
      h a (omega arith) (omega arith) (λ u. omega arith),
      marks_more f g j (suc a) n l (omega arith) fj gj
          (λ c s t u. h c (omega arith) (omega arith) u),
    ))
    (eq-or-lt_of_le p)
