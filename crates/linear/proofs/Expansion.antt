-- The determinant over a commutative ring, expanded row by row. `expand r f cs` takes one of the
-- columns cs for the row r in every way, and f of the columns that are left, with a minus for each
-- column passed over. It is linear in r and in f, and two rows exchanged give the opposite: from
-- these follow all laws of determinants.
use Rattle.std.proofs.Common.{◌≡◌, refl, sym, ap, ap₂, ◌∙◌, List, [], ◌∷◌, ◌++◌, ℕ, length}
use Rattle.std.proofs.Math.Path.{fun_ext}
use Rattle.linear.specs.Matrix.{range}
use Rattle.linear.specs.Columns.{All}
use Rattle.linear.proofs.Ring as G
use Rattle.linear.proofs.Ring.{Ring}

module _ (𝓡 : Ring) where
  open 𝓡 use {R, ◌⊕◌, ◌⊗◌, 𝟘, 𝟙, minus, add_comm, add_assoc, zero-add}
  open 𝓡 use {mul_comm, mul_assoc, one-mul, zero-mul, mul-add}

  infixl 65 ◌⊕◌
  infixl 70 ◌⊗◌
  unfoldable pub expand : (ℕ → R) → (List ℕ → R) → List ℕ → R
  expand r f [] = 𝟘
  expand r f (c ∷ cs) = r c ⊗ f cs ⊕ minus ⊗ expand r (λ t. f (c ∷ t)) cs

  pub expand-nil : (r : ℕ → R) (f : List ℕ → R) → expand r f [] ≡ 𝟘
  unfolding expand
  expand-nil r f = refl

  pub expand-cons : (r : ℕ → R) (f : List ℕ → R) (c : ℕ) (cs : List ℕ)
      → expand r f (c ∷ cs) ≡ r c ⊗ f cs ⊕ minus ⊗ expand r (λ t. f (c ∷ t)) cs
  unfolding expand
  expand-cons r f c cs = refl

  -- ---- linear in what is left

  pub expand-add : (r : ℕ → R) (f g : List ℕ → R) (cs : List ℕ)
      → expand r (λ t. f t ⊕ g t) cs ≡ expand r f cs ⊕ expand r g cs
  expand-add r f g [] = simp (expand-nil, zero-add)
  expand-add r f g (c ∷ cs) =
      simp (
        expand-cons,
        expand-add r (λ t. f (c ∷ t)) (λ t. g (c ∷ t)) cs,
        mul-add,
        add_assoc,
        G.add_left_comm 𝓡,
      )

  pub expand-mul : (r : ℕ → R) (a : R) (f : List ℕ → R) (cs : List ℕ)
      → expand r (λ t. a ⊗ f t) cs ≡ a ⊗ expand r f cs
  expand-mul r a f [] = simp (expand-nil, G.mul-zero 𝓡)
  expand-mul r a f (c ∷ cs) =
      simp (
        expand-cons,
        expand-mul r a (λ t. f (c ∷ t)) cs,
        mul-add,
        G.mul_left_comm 𝓡,
      )

  pub expand-zero : (r : ℕ → R) (cs : List ℕ) → expand r (λ t. 𝟘) cs ≡ 𝟘
  expand-zero r [] = expand-nil r (λ t. 𝟘)
  expand-zero r (c ∷ cs) = simp (expand-cons, expand-zero r cs, G.mul-zero 𝓡, zero-add)

  pub expand-same : (r : ℕ → R) {f g : List ℕ → R} → ((t : List ℕ) → f t ≡ g t)
      → (cs : List ℕ) → expand r f cs ≡ expand r g cs
  expand-same r h cs = ap (λ (k : List ℕ → R). expand r k cs) (fun_ext h)

  -- ---- linear in the row

  pub row-add : (r s : ℕ → R) (f : List ℕ → R) (cs : List ℕ)
      → expand (λ c. r c ⊕ s c) f cs ≡ expand r f cs ⊕ expand s f cs
  row-add r s f [] = simp (expand-nil, zero-add)
  row-add r s f (c ∷ cs) =
      simp (
        expand-cons,
        row-add r s (λ t. f (c ∷ t)) cs,
        mul-add,
        G.add-mul 𝓡,
        add_assoc,
        G.add_left_comm 𝓡,
      )

  pub row-mul : (a : R) (r : ℕ → R) (f : List ℕ → R) (cs : List ℕ)
      → expand (λ c. a ⊗ r c) f cs ≡ a ⊗ expand r f cs
  row-mul a r f [] = simp (expand-nil, G.mul-zero 𝓡)
  row-mul a r f (c ∷ cs) =
      simp (
        expand-cons,
        row-mul a r (λ t. f (c ∷ t)) cs,
        mul-add,
        mul_assoc,
        G.mul_left_comm 𝓡,
      )

  pub row_zero : (f : List ℕ → R) (cs : List ℕ) → expand (λ c. 𝟘) f cs ≡ 𝟘
  row_zero f [] = expand-nil (λ c. 𝟘) f
  row_zero f (c ∷ cs) =
      simp (expand-cons, row_zero (λ t. f (c ∷ t)) cs, zero-mul, G.mul-zero 𝓡, zero-add)

  pub row-combination : (a : ℕ → R) (B : ℕ → ℕ → R) (ks : List ℕ) (f : List ℕ → R) (cs : List ℕ)
      → expand (G.combination 𝓡 a B ks) f cs ≡ G.sum 𝓡 ks (λ k. a k ⊗ expand (B k) f cs)
  unfolding G.sum
  row-combination a B [] f cs = row_zero f cs
  row-combination a B (k ∷ ks) f cs =
      row-add (λ c. a k ⊗ B k c) (G.combination 𝓡 a B ks) f cs
      ∙ ap₂ ◌⊕◌ (row-mul (a k) (B k) f cs) (row-combination a B ks f cs)

  -- ---- two rows

  -- two expansions, one column taken off
  expand-expand : (r s : ℕ → R) (f : List ℕ → R) (c : ℕ) (cs : List ℕ)
      → expand r (expand s f) (c ∷ cs)
      ≡ r c ⊗ expand s f cs
      ⊕ (minus ⊗ (s c ⊗ expand r f cs) ⊕ expand r (expand s (λ t. f (c ∷ t))) cs)
  expand-expand r s f c cs =
      expand-cons r (expand s f) c cs
      ∙ ap (λ x. r c ⊗ expand s f cs ⊕ minus ⊗ x)
      (expand-same r (λ t. expand-cons s f c t) cs
      ∙ expand-add r (λ t. s c ⊗ f t) (λ t. minus ⊗ expand s g t) cs
      ∙ ap₂ ◌⊕◌ (expand-mul r (s c) f cs) (expand-mul r minus (expand s g) cs))
      ∙ ap (λ x. r c ⊗ expand s f cs ⊕ x)
      (mul-add minus (s c ⊗ expand r f cs) (minus ⊗ expand r (expand s g) cs)
      ∙ ap (λ x. minus ⊗ (s c ⊗ expand r f cs) ⊕ x) (G.minus_minus 𝓡 (expand r (expand s g) cs)))
    where
      g : List ℕ → R
      g t = f (c ∷ t)

  -- a row twice gives 0
  pub repeated_row : (r : ℕ → R) (f : List ℕ → R) (cs : List ℕ) → expand r (expand r f) cs ≡ 𝟘
  repeated_row r f [] = expand-nil r (expand r f)
  repeated_row r f (c ∷ cs) =
      expand-expand r r f c cs
      ∙ G.add-opposite_add 𝓡 (r c ⊗ expand r f cs) (expand r (expand r (λ t. f (c ∷ t))) cs)
      ∙ repeated_row r (λ t. f (c ∷ t)) cs

  -- two rows exchanged give the opposite
  pub exchanged_rows : (r s : ℕ → R) (f : List ℕ → R) (cs : List ℕ)
      → expand r (expand s f) cs ≡ minus ⊗ expand s (expand r f) cs
  exchanged_rows r s f [] = simp (expand-nil, G.mul-zero 𝓡)
  exchanged_rows r s f (c ∷ cs) =
      simp (
        expand-expand,
        exchanged_rows r s (λ t. f (c ∷ t)) cs,
        mul-add,
        G.minus_minus 𝓡,
        add_comm,
        G.add_left_comm 𝓡,
      )

  -- ---- determinants

  -- the determinant of the rows ks of A at the columns cs
  unfoldable pub minor : (ℕ → ℕ → R) → List ℕ → List ℕ → R
  minor A [] cs = 𝟙
  minor A (k ∷ ks) cs = expand (A k) (minor A ks) cs

  -- of the first v rows and columns
  abbrev pub det : ℕ → (ℕ → ℕ → R) → R
  det v A = minor A (range 0 v) (range 0 v)

  -- a row brought to its place
  pub row_moved : (B : ℕ → ℕ → R) (pre : List ℕ) (k : ℕ) (ks cs : List ℕ)
      → expand (B k) (minor B (pre ++ ks)) cs ≡ G.sign 𝓡 (length pre) ⊗ minor B (pre ++ k ∷ ks) cs
  unfolding minor
  row_moved B [] k ks cs = sym (G.sign_zero 𝓡 _)
  row_moved B (j ∷ pre) k ks cs =
      exchanged_rows (B k) (B j) (minor B (pre ++ ks)) cs
      ∙ ap (λ x. minus ⊗ x)
      (expand-same (B j) (row_moved B pre k ks) cs
      ∙ expand-mul (B j) (G.sign 𝓡 (length pre)) (minor B (pre ++ k ∷ ks)) cs)
      ∙ sym (mul_assoc _ _ _)
      ∙ ap (λ x. x ⊗ minor B (j ∷ pre ++ k ∷ ks) cs) (sym (G.sign-suc 𝓡 (length pre)))

  -- a row that stands among the others too gives 0
  pub row-among : (B : ℕ → ℕ → R) (pre : List ℕ) (k : ℕ) (post cs : List ℕ)
      → expand (B k) (minor B (pre ++ k ∷ post)) cs ≡ 𝟘
  unfolding minor
  row-among B [] k post cs = repeated_row (B k) (minor B post) cs
  row-among B (j ∷ pre) k post cs =
      exchanged_rows (B k) (B j) (minor B (pre ++ k ∷ post)) cs
      ∙ ap (λ x. minus ⊗ x) (expand-same (B j) (row-among B pre k post) cs ∙ expand-zero (B j) cs)
      ∙ G.mul-zero 𝓡 minus

  -- ---- only the rows and columns that stand in the lists count

  pub expand-on : (P : ℕ → Type 0) (r s : ℕ → R) (f g : List ℕ → R)
      → ((c : ℕ) → P c → r c ≡ s c) → ((t : List ℕ) → All P t → f t ≡ g t)
      → (cs : List ℕ) → All P cs → expand r f cs ≡ expand s g cs
  expand-on P r s f g hr hf [] a = expand-nil r f ∙ sym (expand-nil s g)
  expand-on P r s f g hr hf (c ∷ cs) a =
      expand-cons r f c cs
      ∙ ap₂ ◌⊕◌
      (ap₂ ◌⊗◌ (hr c a.0) (hf cs a.1))
      (ap (λ x. minus ⊗ x)
      (expand-on P r s (λ t. f (c ∷ t)) (λ t. g (c ∷ t)) hr (λ t b. hf (c ∷ t) (a.0, b))
      cs a.1))
      ∙ sym (expand-cons s g c cs)

  pub minor-on : (P : ℕ → Type 0) (A B : ℕ → ℕ → R) → ((i c : ℕ) → P i → P c → A i c ≡ B i c)
      → (is : List ℕ) → All P is → (cs : List ℕ) → All P cs → minor A is cs ≡ minor B is cs
  unfolding minor
  minor-on P A B h [] ai cs all = refl
  minor-on P A B h (i ∷ is) ai cs all =
      expand-on P (A i) (B i) (minor A is) (minor B is)
      (λ c pc. h i c ai.0 pc)
      (minor-on P A B h is ai.1)
      cs all
