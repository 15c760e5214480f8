-- The identity matrix, and matrices with an inverse. An inverse M on one side of L is one on the
-- other: L takes the rows by which L M differs from the identity to 0, and a matrix whose
-- determinant divides 1 takes only 0 to 0.
use Rattle.std.proofs.Common.{◌≡◌, refl, sym, ap, ap₂, ◌∙◌, Bool, cond, ⊎_elim, List, ℕ, zero, suc, ◌+◌, ◌<◌, ◌≤◌, eq-or-lt_of_le, arith, eqb, eq-eqb, ne_eqb}
use Rattle.std.proofs.Math.Decide.{ℕ_discrete}
use Rattle.linear.specs.Matrix.{range}
use Rattle.linear.proofs.Lists.{all-below}
use Rattle.linear.proofs.Ring as G
use Rattle.linear.proofs.Ring.{Ring}
use Rattle.linear.proofs.Expansion as E
use Rattle.linear.proofs.Multiplicative.{prod, det-product, det-kernel}

module _ (𝓡 : Ring) where
  open 𝓡 use {R, ◌⊕◌, ◌⊗◌, 𝟘, 𝟙, minus, zero-add}
  open 𝓡 use {mul_comm, mul_assoc, one-mul, zero-mul}

  infixl 65 ◌⊕◌
  infixl 70 ◌⊗◌
  -- ---- the identity matrix

  unfoldable pub δ : ℕ → ℕ → R
  δ i j = cond (eqb i j) 𝟙 𝟘

  pub δ-same : (i : ℕ) → δ i i ≡ 𝟙
  unfolding δ
  δ-same i = ap (λ (b : Bool). cond b 𝟙 𝟘) (eq-eqb i i refl)

  pub δ-other : (i j : ℕ) → (i ≡ j → ⊥) → δ i j ≡ 𝟘
  unfolding δ
  δ-other i j h = ap (λ (b : Bool). cond b 𝟙 𝟘) (ne_eqb i j h)

  pub δ-sym : (i j : ℕ) → δ i j ≡ δ j i
  δ-sym i j = elim (ℕ_discrete i j) [
    | yes e ↦ ap₂ δ e (sym e)
    | no n ↦ δ-other i j n ∙ sym (δ-other j i (λ e. n (sym e)))
  ]

  -- no column of the range is the row's own
  expand-δ_off : (k a n : ℕ) → k < a → (f : List ℕ → R) → E.expand 𝓡 (δ k) f (range a n) ≡ 𝟘
  unfolding range
  expand-δ_off k a zero h f = E.expand-nil 𝓡 (δ k) f
  expand-δ_off k a (suc n) h f =
      simp (
        E.expand-cons 𝓡,
        δ-other k a (omega arith),
        expand-δ_off k (suc a) n (omega arith),
        zero-mul,
        G.mul-zero 𝓡,
        zero-add,
      )

  minor-δ : (a n : ℕ) → E.minor 𝓡 δ (range a n) (range a n) ≡ 𝟙
  unfolding range E.minor
  minor-δ a zero = refl
  minor-δ a (suc n) =
      E.expand-cons 𝓡 (δ a) (E.minor 𝓡 δ (range (suc a) n)) a (range (suc a) n)
      ∙ simp (
        δ-same,
        minor-δ (suc a) n,
        expand-δ_off a (suc a) n (omega arith),
        G.mul-zero 𝓡,
        one-mul,
        G.add-zero 𝓡,
      )

  pub det-δ : (v : ℕ) → E.det 𝓡 v δ ≡ 𝟙
  det-δ v = minor-δ 0 v

  -- a sum that a row of the identity matrix weighs
  sum-δ_off : (i a n : ℕ) → i < a → (f : ℕ → R) → G.sum 𝓡 (range a n) (λ k. δ i k ⊗ f k) ≡ 𝟘
  unfolding range
  sum-δ_off i a zero h f = G.sum-nil 𝓡 (λ k. δ i k ⊗ f k)
  sum-δ_off i a (suc n) h f =
      simp (
        G.sum-cons 𝓡,
        δ-other i a (omega arith),
        sum-δ_off i (suc a) n (omega arith) f,
        zero-mul,
        zero-add,
      )

  sum-δ_range : (i a n : ℕ) → a ≤ i → i < a + n → (f : ℕ → R)
      → G.sum 𝓡 (range a n) (λ k. δ i k ⊗ f k) ≡ f i
  unfolding range
  sum-δ_range i a zero h l f = absurd (omega arith)
  sum-δ_range i a (suc n) h l f =
      G.sum-cons 𝓡 a (range (suc a) n) (λ k. δ i k ⊗ f k)
      ∙ ⊎_elim
      (λ e.
      rw e (simp (δ-same, one-mul, sum-δ_off i (suc i) n (omega arith) f, G.add-zero 𝓡)))
      (λ g.
      simp (
        δ-other i a (omega arith),
        sum-δ_range i (suc a) n g (omega arith) f,
        zero-mul,
        zero-add,
      ))
      (eq-or-lt_of_le h)

  pub sum-δ : (v i : ℕ) → i < v → (f : ℕ → R) → G.sum 𝓡 (range 0 v) (λ k. δ i k ⊗ f k) ≡ f i
  sum-δ v i l f = sum-δ_range i 0 v (omega arith) (omega arith) f

  -- the same, the identity matrix on the right
  pub sum-δ_right : (v c : ℕ) → c < v → (f : ℕ → R)
      → G.sum 𝓡 (range 0 v) (λ k. f k ⊗ δ k c) ≡ f c
  sum-δ_right v c l f =
      G.sum-on 𝓡 (λ k. k < v) (λ k. f k ⊗ δ k c) (λ k. δ c k ⊗ f k)
      (λ k lk. mul_comm (f k) (δ k c) ∙ ap (λ x. x ⊗ f k) (δ-sym k c)) (range 0 v) (all-below v)
      ∙ sum-δ v c l f

  -- ---- inverses

  -- M times L is the identity, at the first v rows and columns
  abbrev pub Inv : ℕ → (ℕ → ℕ → R) → (ℕ → ℕ → R) → Type 0
  Inv v M L = (i c : ℕ) → i < v → c < v → prod 𝓡 M L (range 0 v) i c ≡ δ i c

  -- a left inverse and a right inverse are equal
  pub inverse-unique : (v : ℕ) (M L N : ℕ → ℕ → R) → Inv v M L → Inv v L N
      → (i c : ℕ) → i < v → c < v → M i c ≡ N i c
  inverse-unique v M L N h k i c li lc =
      sym (sum-δ_right v c lc (M i))
      ∙ G.sum-on 𝓡 (λ j. j < v) (λ j. M i j ⊗ δ j c) (λ j. M i j ⊗ prod 𝓡 L N (range 0 v) j c)
      (λ j lj. ap (λ x. M i j ⊗ x) (sym (k j c lj lc))) (range 0 v) (all-below v)
      ∙ sym (G.combination-assoc 𝓡 (M i) L N (range 0 v) (range 0 v) c)
      ∙ G.sum-on 𝓡 (λ j. j < v) (λ j. prod 𝓡 M L (range 0 v) i j ⊗ N j c) (λ j. δ i j ⊗ N j c)
      (λ j lj. ap (λ x. x ⊗ N j c) (h i j li lj)) (range 0 v) (all-below v)
      ∙ sum-δ v i li (λ j. N j c)

  pub det-inverse : (v : ℕ) (M L : ℕ → ℕ → R) → Inv v M L → E.det 𝓡 v M ⊗ E.det 𝓡 v L ≡ 𝟙
  det-inverse v M L h =
      sym (det-product 𝓡 v M L)
      ∙ E.minor-on 𝓡 (λ c. c < v) (prod 𝓡 M L (range 0 v)) δ h (range 0 v) (all-below v)
      (range 0 v) (all-below v)
      ∙ det-δ v

  -- a row of coefficients that takes L to 0 is 0, where L has a left inverse
  kernel_zero : (v : ℕ) (M L : ℕ → ℕ → R) → Inv v M L → (y : ℕ → R)
      → ((c : ℕ) → c < v → G.combination 𝓡 y L (range 0 v) c ≡ 𝟘) → (k : ℕ) → k < v → y k ≡ 𝟘
  kernel_zero v M L h y zero_row k l =
      sym (G.mul-one 𝓡 (y k))
      ∙ ap (λ x. y k ⊗ x) (sym (det-inverse v M L h))
      ∙ G.mul_left_comm 𝓡 (y k) (E.det 𝓡 v M) (E.det 𝓡 v L)
      ∙ ap (λ x. E.det 𝓡 v M ⊗ x) (det-kernel 𝓡 v y L zero_row k l)
      ∙ G.mul-zero 𝓡 (E.det 𝓡 v M)

  -- an inverse on one side is one on the other
  pub inverse-other_side : (v : ℕ) (M L : ℕ → ℕ → R) → Inv v M L → Inv v L M
  inverse-other_side v M L h i k li lk =
      G.equal-of_difference 𝓡 (prod 𝓡 L M ks i k) (δ i k) (kernel_zero v M L h y zero_row k lk)
    where
      ks : List ℕ
      ks = range 0 v

      -- row i of L M, less row i of the identity
      y : ℕ → R
      y j = prod 𝓡 L M ks i j ⊕ minus ⊗ δ i j

      -- L M L is L
      whole : (c : ℕ) → c < v → G.sum 𝓡 ks (λ j. prod 𝓡 L M ks i j ⊗ L j c) ≡ L i c
      whole c lc =
          G.combination-assoc 𝓡 (L i) M L ks ks c
          ∙ G.sum-on 𝓡 (λ j. j < v) (λ j. L i j ⊗ prod 𝓡 M L ks j c) (λ j. L i j ⊗ δ j c)
          (λ j lj. ap (λ x. L i j ⊗ x) (h j c lj lc)) ks (all-below v)
          ∙ sum-δ_right v c lc (L i)

      zero_row : (c : ℕ) → c < v → G.combination 𝓡 y L ks c ≡ 𝟘
      zero_row c lc =
          simp (G.add-mul 𝓡, mul_assoc)
          (G.sum-add 𝓡 (λ j. prod 𝓡 L M ks i j ⊗ L j c) (λ j. minus ⊗ (δ i j ⊗ L j c)) ks
          ∙ ap₂ ◌⊕◌
          (whole c lc)
          (G.sum-mul 𝓡 minus (λ j. δ i j ⊗ L j c) ks
          ∙ ap (λ x. minus ⊗ x) (sum-δ v i li (λ j. L j c)))
          ∙ G.add-opposite 𝓡 (L i c))
