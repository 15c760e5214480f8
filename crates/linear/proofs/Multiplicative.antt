-- The determinant of a product is the product of the determinants, and the kernel law. Each row of
-- the product is a combination of rows of B. Expanded by one of these rows, the other rows may do
-- without it, since a row that stands twice gives 0; so the rows of B are used up one by one.
use Rattle.std.proofs.Common.{◌≡◌, refl, sym, ap, ap₂, ◌∙◌, List, [], ◌∷◌, ◌++◌, append_assoc, ℕ, suc, ◌-◌, ◌<◌, arith, length, length-append}
use Rattle.std.proofs.Math.Path.{fun_ext}
use Rattle.linear.specs.Matrix.{range}
use Rattle.linear.proofs.Lists.{length-middle, all-below, range_at}
use Rattle.linear.proofs.Ring as G
use Rattle.linear.proofs.Ring.{Ring}
use Rattle.linear.proofs.Expansion as E

module _ (𝓡 : Ring) where
  open 𝓡 use {R, ◌⊕◌, ◌⊗◌, 𝟘, 𝟙, minus, zero-add}
  open 𝓡 use {mul_comm, mul_assoc, one-mul, zero-mul, mul-add}

  infixl 65 ◌⊕◌
  infixl 70 ◌⊗◌
  -- A times B, where the columns of A and the rows of B are those of ks
  abbrev pub prod : (ℕ → ℕ → R) → (ℕ → ℕ → R) → List ℕ → ℕ → ℕ → R
  prod A B ks i c = G.combination 𝓡 (A i) B ks c

  -- with the row B k in front, the others may do without it
  without_row : (A B : ℕ → ℕ → R) (pre : List ℕ) (k : ℕ) (post is cs : List ℕ)
      → E.expand 𝓡 (B k) (E.minor 𝓡 (prod A B (pre ++ k ∷ post)) is) cs
      ≡ E.expand 𝓡 (B k) (E.minor 𝓡 (prod A B (pre ++ post)) is) cs
  unfolding E.minor
  without_row A B pre k post [] cs = refl
  without_row A B pre k post (i ∷ is) cs =
      ap (λ (r : ℕ → R). E.expand 𝓡 (B k) (E.expand 𝓡 r with_k) cs)
      (fun_ext (G.combination-middle 𝓡 (A i) B pre k post))
      ∙ E.expand-same 𝓡 (B k)
      (λ t.
      E.row-add 𝓡 (λ c. A i k ⊗ B k c) rest with_k t
      ∙ ap (λ x. x ⊕ E.expand 𝓡 rest with_k t) (E.row-mul 𝓡 (A i k) (B k) with_k t))
      cs
      ∙ E.expand-add 𝓡 (B k) (λ t. A i k ⊗ E.expand 𝓡 (B k) with_k t) (E.expand 𝓡 rest with_k) cs
      ∙ ap (λ x. x ⊕ E.expand 𝓡 (B k) (E.expand 𝓡 rest with_k) cs) gone
      ∙ zero-add _
      ∙ E.exchanged_rows 𝓡 (B k) rest with_k cs
      ∙ ap (λ x. minus ⊗ x) (E.expand-same 𝓡 rest (without_row A B pre k post is) cs)
      ∙ sym (E.exchanged_rows 𝓡 (B k) rest without_k cs)
    where
      rest : ℕ → R
      rest = G.combination 𝓡 (A i) B (pre ++ post)

      with_k : List ℕ → R
      with_k = E.minor 𝓡 (prod A B (pre ++ k ∷ post)) is

      without_k : List ℕ → R
      without_k = E.minor 𝓡 (prod A B (pre ++ post)) is

      gone : E.expand 𝓡 (B k) (λ t. A i k ⊗ E.expand 𝓡 (B k) with_k t) cs ≡ 𝟘
      gone =
          E.expand-mul 𝓡 (B k) (A i k) (E.expand 𝓡 (B k) with_k) cs
          ∙ ap (λ x. A i k ⊗ x) (E.repeated_row 𝓡 (B k) with_k cs)
          ∙ G.mul-zero 𝓡 _

  -- the rows ks, of all the rows pre ++ ks, taken one by one for the first place
  first_rows : (A B : ℕ → ℕ → R) (is cs : List ℕ) (a : ℕ → R)
      → ((ts : List ℕ) → length ts ≡ length is → (t : List ℕ)
      → E.minor 𝓡 (prod A B ts) is t ≡ E.minor 𝓡 A is ts ⊗ E.minor 𝓡 B ts t)
      → (pre ks : List ℕ) → length (pre ++ ks) ≡ suc (length is)
      → G.sum 𝓡 ks (λ k. a k ⊗ E.expand 𝓡 (B k) (E.minor 𝓡 (prod A B (pre ++ ks)) is) cs)
      ≡ G.sign 𝓡 (length pre)
      ⊗ (E.expand 𝓡 a (λ u. E.minor 𝓡 A is (pre ++ u)) ks ⊗ E.minor 𝓡 B (pre ++ ks) cs)
  first_rows A B is cs a ih pre [] l =
      G.sum-nil 𝓡 {A = ℕ} _
      ∙ sym
      (ap (λ x. G.sign 𝓡 (length pre) ⊗ (x ⊗ E.minor 𝓡 B (pre ++ []) cs)) (E.expand-nil 𝓡 a _)
      ∙ simp (zero-mul, G.mul-zero 𝓡))
  first_rows A B is cs a ih pre (k ∷ ks) l =
      G.sum-cons 𝓡 k ks _
      ∙ ap₂ ◌⊕◌
      (ap (λ x. a k ⊗ x)
      (without_row A B pre k ks is cs
      ∙ E.expand-same 𝓡 (B k) (ih (pre ++ ks) (length-middle pre k ks (length is) l)) cs
      ∙ E.expand-mul 𝓡 (B k) (E.minor 𝓡 A is (pre ++ ks)) (E.minor 𝓡 B (pre ++ ks)) cs
      ∙ ap (λ x. E.minor 𝓡 A is (pre ++ ks) ⊗ x) (E.row_moved 𝓡 B pre k ks cs)))
      (simp (append_assoc, longer) at
      (first_rows A B is cs a ih (pre ++ k ∷ []) ks (ap length (append_assoc pre (k ∷ []) ks) ∙ l)))
      ∙ simp (E.expand-cons 𝓡, mul-add, G.add-mul 𝓡, mul_assoc, G.mul_left_comm 𝓡, mul_comm)
    where
      longer : G.sign 𝓡 (length (pre ++ k ∷ [])) ≡ minus ⊗ G.sign 𝓡 (length pre)
      longer = ap (G.sign 𝓡) (length-append pre (k ∷ []) ∙ omega arith) ∙ G.sign-suc 𝓡 (length pre)

  pub minor-product : (A B : ℕ → ℕ → R) (is ks : List ℕ) → length ks ≡ length is → (cs : List ℕ)
      → E.minor 𝓡 (prod A B ks) is cs ≡ E.minor 𝓡 A is ks ⊗ E.minor 𝓡 B ks cs
  unfolding E.minor
  minor-product A B [] [] l cs = sym (one-mul 𝟙)
  minor-product A B [] (k ∷ ks) l cs = absurd (omega arith)
  minor-product A B (i ∷ is) ks l cs =
      E.row-combination 𝓡 (A i) B ks (E.minor 𝓡 (prod A B ks) is) cs
      ∙ first_rows A B is cs (A i) (λ ts e t. minor-product A B is ts e t) [] ks l
      ∙ G.sign_zero 𝓡 _

  -- the determinant of a product
  pub det-product : (v : ℕ) (A B : ℕ → ℕ → R)
      → E.det 𝓡 v (prod A B (range 0 v)) ≡ E.det 𝓡 v A ⊗ E.det 𝓡 v B
  det-product v A B = minor-product A B (range 0 v) (range 0 v) refl (range 0 v)

  -- ---- the kernel law

  rows-among : (y : ℕ → R) (L : ℕ → ℕ → R) (pre ks cs : List ℕ)
      → G.sum 𝓡 ks (λ k. y k ⊗ E.expand 𝓡 (L k) (E.minor 𝓡 L (pre ++ ks)) cs) ≡ 𝟘
  rows-among y L pre [] cs = G.sum-nil 𝓡 {A = ℕ} _
  rows-among y L pre (k ∷ ks) cs =
      G.sum-cons 𝓡 k ks _
      ∙ ap₂ ◌⊕◌
      (ap (λ x. y k ⊗ x) (E.row-among 𝓡 L pre k ks cs) ∙ G.mul-zero 𝓡 _)
      (simp append_assoc at (rows-among y L (pre ++ k ∷ []) ks cs))
      ∙ zero-add 𝟘

  -- the row k in front of the others may be replaced by any combination that takes it y k times
  minor-kernel : (y : ℕ → R) (L : ℕ → ℕ → R) (pre : List ℕ) (k : ℕ) (post cs : List ℕ)
      → ((f : List ℕ → R) → E.expand 𝓡 (G.combination 𝓡 y L (pre ++ k ∷ post)) f cs ≡ 𝟘)
      → y k ⊗ E.minor 𝓡 L (pre ++ k ∷ post) cs ≡ 𝟘
  minor-kernel y L pre k post cs h =
      ap (λ x. y k ⊗ x)
      (sym (G.sign-sign 𝓡 (length pre) _)
      ∙ ap (λ x. G.sign 𝓡 (length pre) ⊗ x) (sym (E.row_moved 𝓡 L pre k post cs)))
      ∙ G.mul_left_comm 𝓡 _ _ _
      ∙ ap (λ x. G.sign 𝓡 (length pre) ⊗ x)
      (sym (G.add-zero 𝓡 _)
      ∙ ap₂ ◌⊕◌
      (sym (E.row-mul 𝓡 (y k) (L k) others cs))
      (sym (rows-among y L [] (pre ++ post) cs)
      ∙ sym (E.row-combination 𝓡 y L (pre ++ post) others cs))
      ∙ sym (E.row-add 𝓡 (λ c. y k ⊗ L k c) (G.combination 𝓡 y L (pre ++ post)) others cs)
      ∙ ap (λ (r : ℕ → R). E.expand 𝓡 r others cs)
      (sym (fun_ext (G.combination-middle 𝓡 y L pre k post)))
      ∙ h others)
      ∙ G.mul-zero 𝓡 _
    where
      others : List ℕ → R
      others = E.minor 𝓡 L (pre ++ post)

  -- rows put together to 0: each coefficient times the determinant is 0
  pub det-kernel : (v : ℕ) (y : ℕ → R) (L : ℕ → ℕ → R)
      → ((c : ℕ) → c < v → G.combination 𝓡 y L (range 0 v) c ≡ 𝟘)
      → (k : ℕ) → k < v → y k ⊗ E.det 𝓡 v L ≡ 𝟘
  det-kernel v y L h k l =
      ap (λ (ks : List ℕ). y k ⊗ E.minor 𝓡 L ks (range 0 v)) (range_at v k l)
      ∙ minor-kernel y L (range 0 k) k (range (suc k) (v - suc k)) (range 0 v)
      (λ f.
      ap (λ (ks : List ℕ). E.expand 𝓡 (G.combination 𝓡 y L ks) f (range 0 v))
      (sym (range_at v k l))
      ∙ E.expand-on 𝓡 (λ c. c < v) (G.combination 𝓡 y L (range 0 v)) (λ c. 𝟘) f f h
      (λ t b. refl) (range 0 v) (all-below v)
      ∙ E.row_zero 𝓡 f (range 0 v))
