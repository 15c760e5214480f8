-- Lists of columns: ranges, what holds of every member, and a member taken out of its list.
use Rattle.std.proofs.Common.{◌≡◌, refl, ap, ap₂, ◌∙◌, List, [], ◌∷◌, ◌++◌, map, ℕ, zero, suc, ◌+◌, ◌-◌, ◌<◌, ◌≤◌, arith, length, length-append}
use mathlib.Core.List.{Memᴰ}
use Rattle.linear.specs.Matrix.{range}
use Rattle.linear.specs.Columns.{All}

pub all_append : {A : Type 0} (P : A → Type 0) (xs ys : List A)
    → All P xs → All P ys → All P (xs ++ ys)
all_append P [] ys a b = b
all_append P (x ∷ xs) ys a b = (a.0, all_append P xs ys a.1 b)

pub all_map : {A B : Type 0} (P : A → Type 0) (Q : B → Type 0) (f : A → B)
    → ((x : A) → P x → Q (f x)) → (xs : List A) → All P xs → All Q (map f xs)
all_map P Q f h [] a = tt
all_map P Q f h (x ∷ xs) a = (h x a.0, all_map P Q f h xs a.1)

pub all-weaken : {A : Type 0} (P Q : A → Type 0) → ((x : A) → P x → Q x)
    → (xs : List A) → All P xs → All Q xs
all-weaken P Q h [] a = tt
all-weaken P Q h (x ∷ xs) a = (h x a.0, all-weaken P Q h xs a.1)

pub all_both : {A : Type 0} (P Q : A → Type 0) (xs : List A) → All P xs → All Q xs
    → All (λ x. P x × Q x) xs
all_both P Q [] a b = tt
all_both P Q (x ∷ xs) a b = ((a.0, b.0), all_both P Q xs a.1 b.1)

-- x is no member where it differs from each
pub no_member : {A : Type 0} {x : A} (xs : List A) → All (λ y. x ≡ y → ⊥) xs → Memᴰ x xs → ⊥
no_member (y ∷ xs) a (Memᴰ.head e) = a.0 e
no_member (y ∷ xs) a (Memᴰ.tail m) = no_member xs a.1 m
no_member {A = A} [] a x3 = elim x3 [ ]

pub member-none : {A : Type 0} {x : A} (xs : List A) → (Memᴰ x xs → ⊥)
    → All (λ y. x ≡ y → ⊥) xs
member-none [] h = tt
member-none (y ∷ xs) h =
    ((λ e. h (Memᴰ.head e)), member-none xs (λ m. h (Memᴰ.tail m)))

-- a member in the middle, and the others
pub all_middle : {A : Type 0} (P : A → Type 0) (pre : List A) (x : A) (post : List A)
    → All P (pre ++ x ∷ post) → P x × All P (pre ++ post)
all_middle P [] x post a = a
all_middle P (y ∷ pre) x post a =
    let b = all_middle P pre x post a.1 in (b.0, (a.0, b.1))

pub length-middle : {A : Type 0} (pre : List A) (x : A) (post : List A) (n : ℕ)
    → length (pre ++ x ∷ post) ≡ suc n → length (pre ++ post) ≡ n
length-middle pre x post n l = omega (arith, length-append pre post, simp length-append at l)

-- ---- ranges

pub length-range : (a n : ℕ) → length (range a n) ≡ n
unfolding range
length-range a zero = refl
length-range a (suc n) = ap suc (length-range (suc a) n)

pub all-range : (P : ℕ → Type 0) (a n : ℕ) → ((k : ℕ) → a ≤ k → k < a + n → P k) → All P (range a n)
unfolding range
all-range P a zero h = tt
all-range P a (suc n) h = (
  h a (omega arith) (omega arith),
  all-range P (suc a) n (λ k p q. h k (omega arith) (omega arith)),
)

pub all-below : (v : ℕ) → All (λ k. k < v) (range 0 v)
all-below v = all-range (λ k. k < v) 0 v (λ k p q. omega arith)

-- a member of a range, with what stands before it and after it
pub range_split : (a n i : ℕ) → i < n
    → range a n ≡ range a i ++ (a + i) ∷ range (suc (a + i)) (n - suc i)
unfolding range
range_split a zero i h = absurd (omega arith)
range_split a (suc n) zero h =
    let e : a ≡ a + 0 = omega arith in
    let f : n ≡ suc n - 1 = omega arith in
    ap₂ (λ (x y : ℕ). x ∷ range (suc x) y) e f
range_split a (suc n) (suc i) h =
    let e : suc a + i ≡ a + suc i = omega arith in
    let f : n - suc i ≡ suc n - suc (suc i) = omega arith in
    ap (λ (l : List ℕ). a ∷ l)
    (range_split (suc a) n i (omega arith)
    ∙ ap₂ (λ (x y : ℕ). range (suc a) i ++ x ∷ range (suc x) y) e f)

pub range_at : (v i : ℕ) → i < v → range 0 v ≡ range 0 i ++ i ∷ range (suc i) (v - suc i)
range_at v i h =
    let e : 0 + i ≡ i = omega arith in
    range_split 0 v i h ∙ ap (λ (x : ℕ). range 0 i ++ x ∷ range (suc x) (v - suc i)) e
