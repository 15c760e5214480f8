-- A matrix whose determinant has an inverse d has an inverse: its cofactors times d. A cofactor is
-- the determinant with one row replaced by a row of the identity. With row k of L in the place of
-- row i it is the determinant of L where k is i, and 0 elsewhere, since row k then stands twice.
use Rattle.std.proofs.Common.{◌≡◌, refl, sym, ap, ◌∙◌, List, ◌∷◌, ◌++◌, append_assoc, ℕ, suc, ◌+◌, ◌-◌, ◌<◌, ◌≤◌, arith}
use Rattle.std.proofs.Math.Path.{fun_ext}
use Rattle.std.proofs.Math.Decide.{ℕ_discrete, dec_le}
use Rattle.linear.specs.Matrix.{range}
use Rattle.linear.proofs.Lists.{all-below, range_at, range_split, length-range}
use Rattle.linear.proofs.Ring as G
use Rattle.linear.proofs.Ring.{Ring}
use Rattle.linear.proofs.Expansion as E
use Rattle.linear.proofs.Invertible.{δ, δ-same, δ-other, sum-δ_right, Inv}

-- a member of a range that starts above 0
range-from : (a n k : ℕ) → a ≤ k → k < a + n
    → range a n ≡ range a (k - a) ++ k ∷ range (suc k) (n - suc (k - a))
range-from a n k h l =
    let e : a + (k - a) ≡ k = omega arith in
    range_split a n (k - a) (omega arith)
    ∙ ap (λ (x : ℕ). range a (k - a) ++ x ∷ range (suc x) (n - suc (k - a))) e

module _ (𝓡 : Ring) where
  open 𝓡 use {R, ◌⊕◌, ◌⊗◌, 𝟘, 𝟙, mul_assoc}

  infixl 65 ◌⊕◌
  infixl 70 ◌⊗◌
  -- the rows but i
  abbrev others : ℕ → ℕ → List ℕ
  others v i = range 0 i ++ range (suc i) (v - suc i)

  -- the row a before the rows of L but i
  abbrev before : ℕ → (ℕ → ℕ → R) → ℕ → (ℕ → R) → R
  before v L i a = E.expand 𝓡 a (E.minor 𝓡 L (others v i)) (range 0 v)

  before-own : (v : ℕ) (L : ℕ → ℕ → R) (i : ℕ) → i < v
      → before v L i (L i) ≡ G.sign 𝓡 i ⊗ E.det 𝓡 v L
  before-own v L i h =
      E.row_moved 𝓡 L (range 0 i) i (range (suc i) (v - suc i)) (range 0 v)
      ∙ ap
      (λ (n : ℕ).
      G.sign 𝓡 n ⊗ E.minor 𝓡 L (range 0 i ++ i ∷ range (suc i) (v - suc i)) (range 0 v))
      (length-range 0 i)
      ∙ ap (λ (ks : List ℕ). G.sign 𝓡 i ⊗ E.minor 𝓡 L ks (range 0 v)) (sym (range_at v i h))

  -- row k among the rows of a list
  before-among : (v : ℕ) (L : ℕ → ℕ → R) (k : ℕ) (ks pre post : List ℕ) → ks ≡ pre ++ k ∷ post
      → E.expand 𝓡 (L k) (E.minor 𝓡 L ks) (range 0 v) ≡ 𝟘
  before-among v L k ks pre post e =
      ap (λ (l : List ℕ). E.expand 𝓡 (L k) (E.minor 𝓡 L l) (range 0 v)) e
      ∙ E.row-among 𝓡 L pre k post (range 0 v)

  before-other : (v : ℕ) (L : ℕ → ℕ → R) (i k : ℕ) → i < v → k < v → (k ≡ i → ⊥)
      → before v L i (L k) ≡ 𝟘
  before-other v L i k h l n = elim (dec_le (suc k) i) [
    | yes q ↦
        before-among v L k (others v i) (range 0 k) (range (suc k) (i - suc k) ++ after)
        (ap (λ (x : List ℕ). x ++ after) (range_at i k q) ∙ simp append_assoc)
    | no q ↦
        before-among v L k (others v i) (range 0 i ++ range (suc i) (k - suc i))
        (range (suc k) (v - suc i - suc (k - suc i)))
        (ap (λ (x : List ℕ). range 0 i ++ x)
        (range-from (suc i) (v - suc i) k (omega arith) (omega arith))
        ∙ sym (append_assoc (range 0 i) (range (suc i) (k - suc i)) _))
  ]
    where
      after : List ℕ
      after = range (suc i) (v - suc i)

  -- a row is a combination of the rows of the identity
  before-sum : (v : ℕ) (L : ℕ → ℕ → R) (i : ℕ) (a : ℕ → R)
      → G.sum 𝓡 (range 0 v) (λ c. a c ⊗ before v L i (δ 𝓡 c)) ≡ before v L i a
  before-sum v L i a =
      sym (E.row-combination 𝓡 a (δ 𝓡) (range 0 v) (E.minor 𝓡 L (others v i)) (range 0 v))
      ∙ E.expand-on 𝓡 (λ c. c < v) (G.combination 𝓡 a (δ 𝓡) (range 0 v)) a
      (E.minor 𝓡 L (others v i)) (E.minor 𝓡 L (others v i))
      (λ c lc. sum-δ_right 𝓡 v c lc a) (λ t b. refl) (range 0 v) (all-below v)

  -- the cofactors times d
  unfoldable pub adjugate : ℕ → (ℕ → ℕ → R) → R → ℕ → ℕ → R
  adjugate v L d c i = (d ⊗ G.sign 𝓡 i) ⊗ before v L i (δ 𝓡 c)

  pub adjugate-inverse : (v : ℕ) (L : ℕ → ℕ → R) (d : R) → d ⊗ E.det 𝓡 v L ≡ 𝟙
      → Inv 𝓡 v L (adjugate v L d)
  unfolding adjugate
  adjugate-inverse v L d h k i lk li =
      ap (G.sum 𝓡 (range 0 v)) (fun_ext (λ c. G.mul_left_comm 𝓡 (L k c) f (before v L i (δ 𝓡 c))))
      ∙ G.sum-mul 𝓡 f (λ c. L k c ⊗ before v L i (δ 𝓡 c)) (range 0 v)
      ∙ ap (λ x. f ⊗ x) (before-sum v L i (L k))
      ∙ value (ℕ_discrete k i)
    where
      f : R
      f = d ⊗ G.sign 𝓡 i

      own : f ⊗ before v L i (L i) ≡ 𝟙
      own =
          ap (λ x. f ⊗ x) (before-own v L i li)
          ∙ mul_assoc _ _ _
          ∙ ap (λ x. d ⊗ x) (G.sign-sign 𝓡 i (E.det 𝓡 v L))
          ∙ h

      value : Dec (k ≡ i) → f ⊗ before v L i (L k) ≡ δ 𝓡 k i
      value (yes e) = rw e (own ∙ sym (δ-same 𝓡 i))
      value (no n) =
          ap (λ x. f ⊗ x) (before-other v L i k li lk n)
          ∙ G.mul-zero 𝓡 f
          ∙ sym (δ-other 𝓡 k i n)
