-- Laws of finite sums: by induction on the list, with linear arithmetic at each step.
use Rattle.std.proofs.Common.{ℕ, suc, ◌+◌, ◌*◌, ◌<◌, zero, ◌≡◌, refl, sym, ap, ap₂, ◌∙◌, List, [], ◌∷◌, ◌++◌, map, add_assoc, zero-add, mul-zero, add-zero, add-suc, suc-mul, zero-mul, arith, length, get_or, ◌≢◌}
use Rattle.std.proofs.Math.Decide.{ℕ_discrete}
use Rattle.algebra.specs.Sum.{sum_over, sum_to}

module _ {A : Type 0} where
  pub sum-nil : (f : A → ℕ) → sum_over [] f ≡ 0
  unfolding sum_over
  sum-nil f = refl

  pub sum-cons : (x : A) (xs : List A) (f : A → ℕ) → sum_over (x ∷ xs) f ≡ f x + sum_over xs f
  unfolding sum_over
  sum-cons x xs f = refl

  pub sum-append : (xs ys : List A) (f : A → ℕ)
      → sum_over (xs ++ ys) f ≡ sum_over xs f + sum_over ys f
  unfolding sum_over
  sum-append [] ys f = sym (zero-add _)
  sum-append (x ∷ xs) ys f = rw (sum-append xs ys f, add_assoc)

  pub sum-cong : (xs : List A) {f g : A → ℕ} → ((x : A) → f x ≡ g x)
      → sum_over xs f ≡ sum_over xs g
  unfolding sum_over
  sum-cong [] h = refl
  sum-cong (x ∷ xs) h = ap₂ ◌+◌ (h x) (sum-cong xs h)

  pub sum-zero : (xs : List A) {f : A → ℕ} → ((x : A) → f x ≡ 0) → sum_over xs f ≡ 0
  unfolding sum_over
  sum-zero [] h = refl
  sum-zero (x ∷ xs) h = omega (arith, h x, sum-zero xs h)

  pub sum-add : (xs : List A) (f g : A → ℕ)
      → sum_over xs (λ x. f x + g x) ≡ sum_over xs f + sum_over xs g
  unfolding sum_over
  sum-add [] f g = refl
  sum-add (x ∷ xs) f g = omega (arith, sum-add xs f g)

  pub sum-scale : (c : ℕ) (xs : List A) (f : A → ℕ)
      → sum_over xs (λ x. c * f x) ≡ c * sum_over xs f
  unfolding sum_over
  sum-scale c [] f = sym (mul-zero c)
  sum-scale c (x ∷ xs) f = omega (arith, sum-scale c xs f)

module _ {A B : Type 0} where
  pub sum-map : (g : A → B) (xs : List A) (f : B → ℕ)
      → sum_over (map g xs) f ≡ sum_over xs (λ x. f (g x))
  unfolding sum_over
  sum-map g [] f = refl
  sum-map g (x ∷ xs) f = ap (f (g x) +◌) (sum-map g xs f)

  pub sum-swap : (xs : List A) (ys : List B) (f : A → B → ℕ)
      → sum_over xs (λ x. sum_over ys (f x)) ≡ sum_over ys (λ y. sum_over xs (λ x. f x y))
  unfolding sum_over
  sum-swap [] ys f = sym (sum-zero ys (λ y. refl))
  sum-swap (x ∷ xs) ys f =
      rw (sum-swap xs ys f) (sym (sum-add ys (f x) (λ y. sum_over xs (λ z. f z y))))

-- every part is 0, by index
pub sum-none : (xs : List ℕ) (f : ℕ → ℕ) → ((i : ℕ) → i < length xs → f (get_or xs i 0) ≡ 0)
    → sum_over xs f ≡ 0
unfolding sum_over
sum-none [] f h = refl
sum-none (x ∷ xs) f h =
    omega (arith, h 0 (omega arith), sum-none xs f (λ i l. h (suc i) (omega arith)))

-- ---- f 0 + f 1 + .. + f (m - 1)

pub sum_to-ext : (f g : ℕ → ℕ) (m : ℕ) → ((i : ℕ) → i < m → f i ≡ g i) → sum_to f m ≡ sum_to g m
unfolding sum_to
sum_to-ext f g zero e = refl
sum_to-ext f g (suc m) e = ap₂ (λ (x y : ℕ). x + y) (sum_to-ext f g m (λ i l. e i (omega arith))) (e m (omega arith))

pub sum_to-add : (f g : ℕ → ℕ) (m : ℕ) → sum_to (λ i. f i + g i) m ≡ sum_to f m + sum_to g m
unfolding sum_to
sum_to-add f g zero = refl
sum_to-add f g (suc m) = omega (arith, sum_to-add f g m)

pub sum_to-zero : (f : ℕ → ℕ) (m : ℕ) → ((i : ℕ) → i < m → f i ≡ 0) → sum_to f m ≡ 0
unfolding sum_to
sum_to-zero f zero e = refl
sum_to-zero f (suc m) e = omega (arith, sum_to-zero f m (λ i l. e i (omega arith)), e m (omega arith))

pub sum_to-single : (f : ℕ → ℕ) (m j : ℕ) → j < m → ((i : ℕ) → i < m → i ≢ j → f i ≡ 0) → sum_to f m ≡ f j
unfolding sum_to
sum_to-single f zero j l e = absurd (omega arith)
sum_to-single f (suc m) j l e = go (λ k. sum_to-single f m j k (λ i q ne. e i (omega arith) ne)) (ℕ_discrete j m)
  where
    go : (j < m → sum_to f m ≡ f j) → Dec (j ≡ m) → sum_to f m + f m ≡ f j
    go ih (yes q) = omega (arith, sum_to-zero f m (λ i k. e i (omega arith) (omega arith)), ap f q)
    go ih (no q) = omega (arith, ih (omega arith), e m (omega arith) (omega arith))

pub sum_to-plus : (f : ℕ → ℕ) (m k : ℕ) → sum_to f (m + k) ≡ sum_to f m + sum_to (λ i. f (m + i)) k
unfolding sum_to
sum_to-plus f m zero = ap (sum_to f) (add-zero m) ∙ omega arith
sum_to-plus f m (suc k) = ap (sum_to f) (add-suc m k) ∙ omega (arith, sum_to-plus f m k)

-- a sum_to over m rows of a
pub sum_to-grid : (f : ℕ → ℕ) (m a : ℕ) → sum_to f (m * a) ≡ sum_to (λ q. sum_to (λ r. f (q * a + r)) a) m
unfolding sum_to
sum_to-grid f zero a = ap (sum_to f) (zero-mul a)
sum_to-grid f (suc m) a =
    ap (sum_to f) (suc-mul m a) ∙ sum_to-plus f (m * a) a ∙ ap (λ (x : ℕ). x + sum_to (λ r. f (m * a + r)) a) (sum_to-grid f m a)
