-- Commutative rings and finite sums in them. Minus one is a named constant and the opposite of a is
-- minus ⊗ a, so that all that is said of a ring are equations, which `simp` can use.
use Rattle.std.proofs.Common.{◌≡◌, refl, sym, ap, ap₂, ◌∙◌, List, [], ◌∷◌, ◌++◌, ℕ, zero, suc, ◌+◌, suc-add}
use Rattle.std.proofs.Math.Nat.{zero-add as ℕ-zero-add}
use Rattle.linear.specs.Columns.{All}

pub record Ring : Type 1 where
  infixl 65 ◌⊕◌
  infixl 70 ◌⊗◌
  pub R : Type 0
  pub ◌⊕◌ : R → R → R
  pub ◌⊗◌ : R → R → R
  pub 𝟘 : R
  pub 𝟙 : R
  pub minus : R
  pub add_comm : (a b : R) → a ⊕ b ≡ b ⊕ a
  pub add_assoc : (a b c : R) → (a ⊕ b) ⊕ c ≡ a ⊕ (b ⊕ c)
  pub zero-add : (a : R) → 𝟘 ⊕ a ≡ a
  pub mul_comm : (a b : R) → a ⊗ b ≡ b ⊗ a
  pub mul_assoc : (a b c : R) → (a ⊗ b) ⊗ c ≡ a ⊗ (b ⊗ c)
  pub one-mul : (a : R) → 𝟙 ⊗ a ≡ a
  pub zero-mul : (a : R) → 𝟘 ⊗ a ≡ 𝟘
  pub mul-add : (a b c : R) → a ⊗ (b ⊕ c) ≡ a ⊗ b ⊕ a ⊗ c
  pub one_minus : 𝟙 ⊕ minus ≡ 𝟘

module _ (𝓡 : Ring) where
  open 𝓡 use {R, ◌⊕◌, ◌⊗◌, 𝟘, 𝟙, minus, add_comm, add_assoc, zero-add}
  open 𝓡 use {mul_comm, mul_assoc, one-mul, zero-mul, mul-add, one_minus}

  infixl 65 ◌⊕◌
  infixl 70 ◌⊗◌
  pub add_left_comm : (a b c : R) → a ⊕ (b ⊕ c) ≡ b ⊕ (a ⊕ c)
  add_left_comm a b c =
      sym (add_assoc a b c) ∙ ap (λ x. x ⊕ c) (add_comm a b) ∙ add_assoc b a c

  pub mul_left_comm : (a b c : R) → a ⊗ (b ⊗ c) ≡ b ⊗ (a ⊗ c)
  mul_left_comm a b c =
      sym (mul_assoc a b c) ∙ ap (λ x. x ⊗ c) (mul_comm a b) ∙ mul_assoc b a c

  pub add-zero : (a : R) → a ⊕ 𝟘 ≡ a
  add-zero a = add_comm a 𝟘 ∙ zero-add a

  pub mul-zero : (a : R) → a ⊗ 𝟘 ≡ 𝟘
  mul-zero a = mul_comm a 𝟘 ∙ zero-mul a

  pub mul-one : (a : R) → a ⊗ 𝟙 ≡ a
  mul-one a = mul_comm a 𝟙 ∙ one-mul a

  pub add-mul : (a b c : R) → (a ⊕ b) ⊗ c ≡ a ⊗ c ⊕ b ⊗ c
  add-mul a b c = mul_comm (a ⊕ b) c ∙ mul-add c a b ∙ ap₂ ◌⊕◌ (mul_comm c a) (mul_comm c b)

  -- ---- opposites

  pub add-opposite : (a : R) → a ⊕ minus ⊗ a ≡ 𝟘
  add-opposite a =
      ap (λ x. x ⊕ minus ⊗ a) (sym (one-mul a))
      ∙ sym (add-mul 𝟙 minus a)
      ∙ ap (λ x. x ⊗ a) one_minus
      ∙ zero-mul a

  pub add-opposite_add : (a b : R) → a ⊕ (minus ⊗ a ⊕ b) ≡ b
  add-opposite_add a b =
      sym (add_assoc a (minus ⊗ a) b) ∙ ap (λ x. x ⊕ b) (add-opposite a) ∙ zero-add b

  -- two elements whose difference is 0 are equal
  pub equal-of_difference : (a b : R) → a ⊕ minus ⊗ b ≡ 𝟘 → a ≡ b
  equal-of_difference a b e =
      sym (add-zero a)
      ∙ ap (λ x. a ⊕ x) (sym (add-opposite b) ∙ add_comm b (minus ⊗ b))
      ∙ sym (add_assoc a (minus ⊗ b) b)
      ∙ ap (λ x. x ⊕ b) e
      ∙ zero-add b

  pub minus_minus : (a : R) → minus ⊗ (minus ⊗ a) ≡ a
  minus_minus a =
      equal-of_difference (minus ⊗ (minus ⊗ a)) a (add_comm _ _ ∙ add-opposite (minus ⊗ a))

  -- ---- minus one to the power n

  unfoldable pub sign : ℕ → R
  sign zero = 𝟙
  sign (suc n) = minus ⊗ sign n

  pub sign_zero : (a : R) → sign 0 ⊗ a ≡ a
  unfolding sign
  sign_zero a = one-mul a

  pub sign-suc : (n : ℕ) → sign (suc n) ≡ minus ⊗ sign n
  unfolding sign
  sign-suc n = refl

  pub sign-suc_suc : (n : ℕ) → sign (suc (suc n)) ≡ sign n
  unfolding sign
  sign-suc_suc n = minus_minus (sign n)

  pub sign-add : (m n : ℕ) → sign (m + n) ≡ sign m ⊗ sign n
  unfolding sign
  sign-add zero n = ap sign (ℕ-zero-add n) ∙ sym (one-mul _)
  sign-add (suc m) n =
      ap sign (suc-add m n) ∙ ap (λ x. minus ⊗ x) (sign-add m n) ∙ sym (mul_assoc _ _ _)

  pub sign-sign : (n : ℕ) (a : R) → sign n ⊗ (sign n ⊗ a) ≡ a
  unfolding sign
  sign-sign zero a = simp one-mul
  sign-sign (suc n) a =
      simp (mul_assoc, mul_left_comm (sign n) minus)
      (ap (λ x. minus ⊗ (minus ⊗ x)) (sign-sign n a) ∙ minus_minus a)

  -- ---- sums over the members of a list

  unfoldable pub sum : {A : Type 0} → List A → (A → R) → R
  sum [] f = 𝟘
  sum (x ∷ xs) f = f x ⊕ sum xs f

  pub sum-nil : {A : Type 0} (f : A → R) → sum [] f ≡ 𝟘
  unfolding sum
  sum-nil f = refl

  pub sum-cons : {A : Type 0} (x : A) (xs : List A) (f : A → R) → sum (x ∷ xs) f ≡ f x ⊕ sum xs f
  unfolding sum
  sum-cons x xs f = refl

  pub sum-append : {A : Type 0} (xs ys : List A) (f : A → R)
      → sum (xs ++ ys) f ≡ sum xs f ⊕ sum ys f
  unfolding sum
  sum-append [] ys f = sym (zero-add _)
  sum-append (x ∷ xs) ys f = ap (λ z. f x ⊕ z) (sum-append xs ys f) ∙ sym (add_assoc _ _ _)

  pub sum-add : {A : Type 0} (f g : A → R) (xs : List A)
      → sum xs (λ x. f x ⊕ g x) ≡ sum xs f ⊕ sum xs g
  sum-add f g [] = simp (sum-nil, zero-add)
  sum-add f g (x ∷ xs) = simp (sum-cons, sum-add f g xs, add_assoc, add_left_comm)

  pub sum-mul : {A : Type 0} (a : R) (f : A → R) (xs : List A)
      → sum xs (λ x. a ⊗ f x) ≡ a ⊗ sum xs f
  sum-mul a f [] = simp (sum-nil, mul-zero)
  sum-mul a f (x ∷ xs) = simp (sum-cons, sum-mul a f xs, mul-add)

  pub sum-zero : {A : Type 0} (xs : List A) → sum xs (λ x. 𝟘) ≡ 𝟘
  sum-zero [] = sum-nil (λ x. 𝟘)
  sum-zero (x ∷ xs) = simp (sum-cons, sum-zero xs, zero-add)

  -- terms that agree at each member
  pub sum-on : {A : Type 0} (P : A → Type 0) (f g : A → R) → ((x : A) → P x → f x ≡ g x)
      → (xs : List A) → All P xs → sum xs f ≡ sum xs g
  unfolding sum
  sum-on P f g h [] a = refl
  sum-on P f g h (x ∷ xs) a = ap₂ ◌⊕◌ (h x a.0) (sum-on P f g h xs a.1)

  -- ---- rows put together

  -- the sum of the rows B k, for k of ks, each times a k
  abbrev pub combination : (ℕ → R) → (ℕ → ℕ → R) → List ℕ → ℕ → R
  combination a B ks c = sum ks (λ k. a k ⊗ B k c)

  -- one of the rows taken to the front
  pub combination-middle : (a : ℕ → R) (B : ℕ → ℕ → R)
      (pre : List ℕ) (k : ℕ) (post : List ℕ) (c : ℕ)
      → combination a B (pre ++ k ∷ post) c ≡ a k ⊗ B k c ⊕ combination a B (pre ++ post) c
  unfolding sum
  combination-middle a B [] k post c = refl
  combination-middle a B (j ∷ pre) k post c =
      ap (λ x. a j ⊗ B j c ⊕ x) (combination-middle a B pre k post c) ∙ add_left_comm _ _ _

  -- a combination of combinations
  pub combination-assoc : (a : ℕ → R) (M L : ℕ → ℕ → R) (js ks : List ℕ) (c : ℕ)
      → combination (combination a M js) L ks c ≡ combination a (λ j. combination (M j) L ks) js c
  combination-assoc a M L [] ks c = simp (sum-nil, zero-mul) (sum-zero ks)
  combination-assoc a M L (j ∷ js) ks c =
      simp (sum-cons, add-mul, mul_assoc)
      (sum-add (λ k. a j ⊗ (M j k ⊗ L k c)) (λ k. combination a M js k ⊗ L k c) ks
      ∙ ap₂ ◌⊕◌ (sum-mul (a j) (λ k. M j k ⊗ L k c) ks) (combination-assoc a M L js ks c))
