-- A polynomial as the list of its coefficients, in the order of a list of monomials: the
-- coefficient at the ith monomial is the ith number, because no monomial is there twice.
use Rattle.std.proofs.Common.{ℕ, zero, suc, ◌*◌, ◌<◌, ◌≡◌, refl, sym, ap, ◌∙◌, List, [], ◌∷◌, arith, T, length, get_or}
use mathlib.Core.List.Memᴰ
use mathlib.Core.List.{Memᴰ}
use Rattle.algebra.specs.Sum.{sum_over}
use Rattle.algebra.specs.Polynomial.{Monomial, Polynomial, same, indicator, weigh}
use Rattle.algebra.specs.Polynomial.{coefficient_of}
use Rattle.algebra.specs.Agreement.{Within}
use Rattle.algebra.specs.Distinct.{Distinct}
use Rattle.algebra.proofs.Booleans.{indicator-yes, indicator-no}
use Rattle.algebra.proofs.Trim.{same-eq, same_refl, same-sym}

unfoldable pub table : List Monomial → List ℕ → Polynomial
table [] cs = []
table (m ∷ s) [] = []
table (m ∷ s) (c ∷ cs) = record { coefficient = c; exponents = m } ∷ table s cs

pub get_d_member : (s : List Monomial) (i : ℕ) → i < length s → Memᴰ (get_or s i []) s
get_d_member [] i h = absurd (omega arith)
get_d_member (m ∷ s) zero h = Memᴰ.head refl
get_d_member (m ∷ s) (suc i) h = Memᴰ.tail (get_d_member s i (omega arith))

pub member-index : (s : List Monomial) (m : Monomial) → Memᴰ m s
    → (i : ℕ) × (i < length s) × (get_or s i [] ≡ m)
member-index (d ∷ s) m (Memᴰ.head e) = (0, omega arith, sym e)
member-index (d ∷ s) m (Memᴰ.tail u) =
    let t = member-index s m u in
    (suc t.0, omega (arith, t.1), t.2)
member-index [] m x' = elim x' [ ]

coefficient-none : (m : Monomial) (s : List Monomial) (cs : List ℕ)
    → ((d : Monomial) → Memᴰ d s → T (same m d) → ⊥) → coefficient_of m (table s cs) ≡ 0
unfolding coefficient_of weigh sum_over table
coefficient-none m [] cs h = refl
coefficient-none m (d ∷ s) [] h = refl
coefficient-none m (d ∷ s) (c ∷ cs) h =
    let z : indicator (same m d) ≡ 0 = indicator-no (same m d) (h d (Memᴰ.head refl)) in
    omega (arith, coefficient-none m s cs (λ e u. h e (Memᴰ.tail u)), ap (c *◌) z)

module _ (v : ℕ) where
  abbrev Sized : List Monomial → Type 0
  Sized s = (m : Monomial) → Memᴰ m s → length m ≡ v

  -- no later monomial is the first one
  other : (m : Monomial) (s : List Monomial) → Sized (m ∷ s) → Distinct (m ∷ s)
      → (e : Monomial) → Memᴰ e s → T (same m e) → ⊥
  other m s w d e u t =
      let l : length m ≡ length e = w m (Memᴰ.head refl) ∙ sym (w e (Memᴰ.tail u)) in
      d.0 (Memᴰ.cast (same-eq m e l t) u)

  pub coefficient-at : (s : List Monomial)
      → ((m : Monomial) → Memᴰ m s → length m ≡ v) → Distinct s
      → (cs : List ℕ) (i : ℕ) → i < length s
      → coefficient_of (get_or s i []) (table s cs) ≡ get_or cs i 0
  unfolding coefficient_of weigh sum_over table
  coefficient-at [] w d cs i h = absurd (omega arith)
  coefficient-at (m ∷ s) w d [] i h = refl
  coefficient-at (m ∷ s) w d (c ∷ cs) zero h =
      let o : indicator (same m m) ≡ 1 = indicator-yes (same m m) (same_refl m) in
      omega (arith, coefficient-none m s cs (other m s w d), ap (c *◌) o)
  coefficient-at (m ∷ s) w d (c ∷ cs) (suc i) h =
      let e : Monomial = get_or s i [] in
      let z : indicator (same e m) ≡ 0 =
      indicator-no (same e m)
      (λ t. other m s w d e (get_d_member s i (omega arith)) (same-sym e m t)) in
      omega (
        arith,
        coefficient-at s (λ k q. w k (Memᴰ.tail q)) d.1 cs i (omega arith),
        ap (c *◌) z,
      )

  pub within_table : (s : List Monomial) → ((m : Monomial) → Memᴰ m s → length m ≡ v)
      → (cs : List ℕ) → Within v (table s cs)
  unfolding table
  within_table [] h cs = tt
  within_table (m ∷ s) h [] = tt
  within_table (m ∷ s) h (c ∷ cs) = (
    omega (arith, h m (Memᴰ.head refl)),
    within_table s (λ d u. h d (Memᴰ.tail u)) cs,
  )
