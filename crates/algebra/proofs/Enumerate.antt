-- Lists that have each monomial of v variables and of order at most n exactly once, and one such
-- list: each exponent of the first variable, then the monomials of the rest with what is left of
-- the order.
use Rattle.std.proofs.Common.{ℕ, zero, suc, ◌-◌, ◌≤◌, ◌<◌, ◌≡◌, refl, ap, ◌⊎◌, inl, inr, List, [], ◌∷◌, ◌++◌, map, eq-or-lt_of_le, arith, length}
use mathlib.Core.List.Memᴰ
use mathlib.Core.List.{Memᴰ}
use Rattle.std.proofs.Math.Nat.{sub-zero}
use Rattle.algebra.specs.Polynomial.{Monomial, order, exponent}
use Rattle.algebra.specs.Distinct.{Distinct}

-- ---- lists without repetition

module _ {A : Type 0} where
  pub distinct_append : (s u : List A) → Distinct s → Distinct u
      → ((x : A) → Memᴰ x s → Memᴰ x u → ⊥) → Distinct (s ++ u)
  distinct_append [] u c d h = d
  distinct_append (x ∷ s) u c d h = (
    (λ q. go (Memᴰ.append_cases s q)),
    distinct_append s u c.1 d (λ y a b. h y (Memᴰ.tail a) b),
  )
    where
      go : Memᴰ x s ⊎ Memᴰ x u → ⊥
      go (inl a) = c.0 a
      go (inr b) = h x (Memᴰ.head refl) b

pub distinct_prefix : (x : ℕ) (s : List Monomial) → Distinct s → Distinct (map (λ m. x ∷ m) s)
distinct_prefix x [] d = tt
distinct_prefix x (m ∷ s) d = (
  (λ h.
      let t = Memᴰ.of_map (λ e. x ∷ e) s h in
      let q : m ≡ t.0 = cc t.2 in
      d.0 (Memᴰ.cast q t.1)),
  distinct_prefix x s d.1,
)

-- ---- each monomial once

pub record Enumerates (v n : ℕ) (s : List Monomial) : Type 0 where
  pub sized : (m : Monomial) → Memᴰ m s → length m ≡ v
  pub low : (m : Monomial) → Memᴰ m s → order m ≤ n
  pub once : Distinct s
  pub all : (m : Monomial) → length m ≡ v → order m ≤ n → Memᴰ m s

-- each of the exponents k, k − 1 .. 0, before the monomials that `rest` gives for what is left
unfoldable pub prefixes : ℕ → (ℕ → List Monomial) → ℕ → List Monomial
prefixes zero rest left = map (λ m. 0 ∷ m) (rest left)
prefixes (suc k) rest left =
    map (λ m. suc k ∷ m) (rest (left - suc k)) ++ prefixes k rest left

-- the monomials of v variables and of order at most n
unfoldable pub all_monomials : ℕ → ℕ → List Monomial
all_monomials zero n = [] ∷ []
all_monomials (suc v) n = prefixes n (λ l. all_monomials v l) n

-- ---- every monomial is there

prefix_member : (k : ℕ) (rest : ℕ → List Monomial) (left x : ℕ) (e : Monomial) → x ≤ k
    → Memᴰ e (rest (left - x)) → Memᴰ (x ∷ e) (prefixes k rest left)
unfolding prefixes
prefix_member zero rest left zero e h m = Memᴰ.map (λ d. 0 ∷ d) (rw sub-zero at m)
prefix_member zero rest left (suc x) e h m = absurd (omega arith)
prefix_member (suc k) rest left x e h m =
    go (eq-or-lt_of_le h) (λ l. prefix_member k rest left x e l m)
  where
    first : List Monomial
    first = map (λ d. suc k ∷ d) (rest (left - suc k))

    go : (x ≡ suc k) ⊎ (x < suc k)
        → (x ≤ k → Memᴰ (x ∷ e) (prefixes k rest left))
        → Memᴰ (x ∷ e) (first ++ prefixes k rest left)
    go (inl q) f =
        Memᴰ.append_left _
        (Memᴰ.cast (ap (λ (z : ℕ). z ∷ e) q) (Memᴰ.map (λ d. suc k ∷ d) (rw q at m)))
    go (inr l) f = Memᴰ.append_right first (f (omega arith))

pub complete : (v n : ℕ) (e : Monomial) → length e ≡ v → order e ≤ n
    → Memᴰ e (all_monomials v n)
unfolding all_monomials order
complete zero n [] h l = Memᴰ.head refl
complete zero n (x ∷ e) h l = absurd (omega arith)
complete (suc v) n [] h l = absurd (omega arith)
complete (suc v) n (x ∷ e) h l =
    prefix_member n (λ r. all_monomials v r) n x e (omega arith)
    (complete v (n - x) e (omega arith) (omega arith))

-- ---- nothing else is there

abbrev Sized : ℕ → (ℕ → List Monomial) → Type 0
Sized v rest = (r : ℕ) (d : Monomial) → Memᴰ d (rest r) → (length d ≡ v) × (order d ≤ r)

prefix_sized : (v k : ℕ) (rest : ℕ → List Monomial) (left : ℕ) → k ≤ left → Sized v rest
    → (e : Monomial) → Memᴰ e (prefixes k rest left)
    → (length e ≡ suc v) × (order e ≤ left) × (exponent 0 e ≤ k)
unfolding prefixes order exponent
prefix_sized v zero rest left l h e m =
    let t = Memᴰ.of_map (λ d. 0 ∷ d) (rest left) m in
    let s : (length t.0 ≡ v) × (order t.0 ≤ left) = h left t.0 t.1 in (
      omega (arith, ap length t.2),
      omega (arith, ap order t.2),
      omega (arith, ap (exponent 0) t.2),
    )
prefix_sized v (suc k) rest left l h e m =
    go (Memᴰ.append_cases first m) (λ u. prefix_sized v k rest left (omega arith) h e u)
  where
    first : List Monomial
    first = map (λ d. suc k ∷ d) (rest (left - suc k))

    go : Memᴰ e first ⊎ Memᴰ e (prefixes k rest left)
        → (Memᴰ e (prefixes k rest left)
        → (length e ≡ suc v) × (order e ≤ left) × (exponent 0 e ≤ k))
        → (length e ≡ suc v) × (order e ≤ left) × (exponent 0 e ≤ suc k)
    go (inl u) f =
        let r : ℕ = left - suc k in
        let t = Memᴰ.of_map (λ d. suc k ∷ d) (rest r) u in
        let s : (length t.0 ≡ v) × (order t.0 ≤ r) = h r t.0 t.1 in (
          omega (arith, ap length t.2),
          omega (arith, ap order t.2),
          omega (arith, ap (exponent 0) t.2),
        )
    go (inr u) f =
        let s : (length e ≡ suc v) × (order e ≤ left) × (exponent 0 e ≤ k) = f u in
        (s.0, s.1, omega arith)

pub member-sized : (v n : ℕ) (e : Monomial) → Memᴰ e (all_monomials v n)
    → (length e ≡ v) × (order e ≤ n)
unfolding all_monomials order
member-sized zero n [] m = (refl, omega arith)
member-sized zero n (x ∷ e) m = absurd (omega (arith, ap length (Memᴰ.eq_of_singleton m)))
member-sized (suc v) n e m =
    let t = prefix_sized v n (λ r. all_monomials v r) n (omega arith) (member-sized v) e m in
    (t.0, t.1)

-- ---- nothing is there twice

distinct_prefixes : (v k : ℕ) (rest : ℕ → List Monomial) (left : ℕ) → k ≤ left → Sized v rest
    → ((r : ℕ) → Distinct (rest r)) → Distinct (prefixes k rest left)
unfolding prefixes exponent
distinct_prefixes v zero rest left l h d = distinct_prefix 0 (rest left) (d left)
distinct_prefixes v (suc k) rest left l h d =
    distinct_append (map (λ m. suc k ∷ m) (rest (left - suc k))) (prefixes k rest left)
    (distinct_prefix (suc k) (rest (left - suc k)) (d (left - suc k)))
    (distinct_prefixes v k rest left (omega arith) h d)
    (λ m a b.
    let t = Memᴰ.of_map (λ e. suc k ∷ e) (rest (left - suc k)) a in
    omega (arith, ap (exponent 0) t.2, (prefix_sized v k rest left (omega arith) h m b).2))

pub distinct : (v n : ℕ) → Distinct (all_monomials v n)
unfolding all_monomials
distinct zero n = (λ m. Memᴰ.not-nil m, tt)
distinct (suc v) n =
    distinct_prefixes v n (λ r. all_monomials v r) n (omega arith) (member-sized v)
    (λ r. distinct v r)

pub all_monomials-enumerates : (v n : ℕ) → Enumerates v n (all_monomials v n)
all_monomials-enumerates v n =
    record {
      sized = λ m u. (member-sized v n m u).0;
      low = λ m u. (member-sized v n m u).1;
      once = distinct v n;
      all = complete v n;
    }
