-- The laws of 01's determinant and of matrices modulo a prime p. `res` takes numbers to the ring of
-- residues, where the laws hold, and two numbers below p with the same residue are equal.
use Rattle.std.proofs.Common.{◌≡◌, sym, ap, ap₂, ◌∙◌, Bool, true, false, cond, List, [], ◌∷◌, ℕ, zero, suc, ◌-◌, ◌*◌, ◌%◌, ◌<◌, mod-lt, arith, eqb}
use Rattle.std.proofs.Math.Path.{fun_ext}
use Rattle.std.proofs.Math.Decide.{dec_lt}
use Rattle.residue.specs.Modulus.{Prime}
use Rattle.residue.proofs.Modular.{residue-unique}
use Rattle.residue.proofs.Inverses.{prime_positive}
use Rattle.linear.specs.Matrix.{Matrix, element, range, times, square, product, unit}
use Rattle.linear.specs.Matrix.{identity_matrix, Inverse, Held}
use Rattle.linear.specs.Determinant.{choices, exchanges, taken, signed, determinant}
use Rattle.linear.proofs.Lists.{all-below}
use Rattle.linear.proofs.Squares.{square-element, identity_matrix-element, product-element}
use Rattle.linear.proofs.Squares.{identity-of_elements, elements_of_identity, product-same}
use Rattle.linear.proofs.Ring as G
use Rattle.linear.proofs.Ring.{Ring}
use Rattle.linear.proofs.Residues as F
use Rattle.linear.proofs.Expansion as E
use Rattle.linear.proofs.Multiplicative.{prod, det-product, det-kernel}
use Rattle.linear.proofs.Invertible as S
use Rattle.linear.proofs.Choices as C
use Rattle.linear.proofs.Adjugate.{adjugate, adjugate-inverse}

module _ {p : ℕ} (h : Prime p) where
  abbrev pos : 0 < p
  pos = prime_positive h

  abbrev 𝓡 : Ring
  𝓡 = F.Residues p pos

  abbrev res : ℕ → 𝓡.R
  res = F.res p pos

  open 𝓡 use {R, ◌⊕◌, ◌⊗◌, 𝟘, 𝟙, minus, one-mul}

  infixl 65 ◌⊕◌
  infixl 70 ◌⊗◌
  -- the residues of a matrix's entries
  abbrev rows : Matrix → ℕ → ℕ → R
  rows m i j = res (element m i j)

  -- ---- from numbers to residues

  res-times : (v : ℕ) (a : ℕ → ℕ) (m : Matrix) (j : ℕ)
      → res (times p v a m j) ≡ G.combination 𝓡 (λ k. res (a k)) (rows m) (range 0 v) j
  unfolding times
  res-times v a m j =
      F.res-mod p pos _
      ∙ F.res-sum p pos (range 0 v) (λ k. a k * element m k j)
      ∙ simp (F.res-mul p pos)

  res-unit : (i j : ℕ) → res (unit i j) ≡ S.δ 𝓡 i j
  unfolding S.δ
  res-unit i j = go (eqb i j)
    where
      go : (b : Bool) → res (cond b 1 0) ≡ cond b 𝟙 𝟘
      go true = F.res_one p pos
      go false = F.res-zero p pos

  res-signed : (n x : ℕ) → res (signed p n x) ≡ G.sign 𝓡 n ⊗ res x
  unfolding signed
  res-signed zero x = sym (G.sign_zero 𝓡 (res x))
  res-signed (suc zero) x =
      F.res-minus p pos x
      ∙ ap (λ y. y ⊗ res x) (sym (G.sign-suc 𝓡 0 ∙ ap (λ y. minus ⊗ y) one ∙ G.mul-one 𝓡 minus))
    where
      one : G.sign 𝓡 0 ≡ 𝟙
      one = sym (G.mul-one 𝓡 (G.sign 𝓡 0)) ∙ G.sign_zero 𝓡 𝟙
  res-signed (suc (suc n)) x =
      ap (λ (k : ℕ). res (cond (eqb k 1) ((p - 1) * x) x)) (two_more n)
      ∙ res-signed n x
      ∙ ap (λ y. y ⊗ res x) (sym (G.sign-suc_suc 𝓡 n))
    where
      two_more : (n : ℕ) → suc (suc n) % 2 ≡ n % 2
      two_more n = omega arith

  res-taken : (m : Matrix) (i : ℕ) (q : List ℕ) → res (taken m i q) ≡ C.term 𝓡 (rows m) i q
  unfolding taken C.term
  res-taken m i [] = F.res_one p pos
  res-taken m i (c ∷ q) =
      F.res-mul p pos (element m i c) (taken m (suc i) q)
      ∙ ap (λ x. res (element m i c) ⊗ x) (res-taken m (suc i) q)

  res-determinant : (v : ℕ) (m : Matrix) → res (determinant p v m) ≡ E.det 𝓡 v (rows m)
  unfolding determinant
  res-determinant v m =
      F.res-mod p pos _
      ∙ F.res-sum p pos (choices v (range 0 v)) (λ q. signed p (exchanges q) (taken m 0 q))
      ∙ ap (G.sum 𝓡 (choices v (range 0 v)))
      (fun_ext (λ q.
      res-signed (exchanges q) (taken m 0 q)
      ∙ ap (λ x. G.sign 𝓡 (exchanges q) ⊗ x) (res-taken m 0 q)))
      ∙ C.choices-det 𝓡 v (rows m)

  -- ---- and back

  pub times_below : (v : ℕ) (a : ℕ → ℕ) (m : Matrix) (j : ℕ) → times p v a m j < p
  unfolding times
  times_below v a m j = mod-lt _ pos

  pub unit-below : (i j : ℕ) → unit i j < p
  unit-below i j = go (eqb i j)
    where
      go : (b : Bool) → cond b 1 0 < p
      go true = h.above_one
      go false = pos

  pub determinant-below : (v : ℕ) (m : Matrix) → determinant p v m < p
  unfolding determinant
  determinant-below v m = mod-lt _ pos

  -- two numbers below p with the same residue
  same : {a b : ℕ} → a < p → b < p → res a ≡ res b → a ≡ b
  same {a} {b} la lb e = residue-unique p la lb (F.equal-res p pos a b e)

  res-zero : {a : ℕ} → a < p → res a ≡ 𝟘 → a ≡ 0
  res-zero la e = same la pos (e ∙ sym (F.res-zero p pos))

  zero-res : {a : ℕ} → a ≡ 0 → res a ≡ 𝟘
  zero-res e = ap res e ∙ F.res-zero p pos

  -- a row of the identity times a matrix is a row of the matrix
  pub times-unit : (v : ℕ) (m : Matrix) (i j : ℕ) → i < v → element m i j < p
      → times p v (unit i) m j ≡ element m i j
  times-unit v m i j li below =
      same (times_below v (unit i) m j) below
      (res-times v (unit i) m j
      ∙ ap (G.sum 𝓡 (range 0 v)) (fun_ext (λ k. ap (λ x. x ⊗ rows m k j) (res-unit i k)))
      ∙ S.sum-δ 𝓡 v i li (λ k. rows m k j))

  -- the product of two matrices, as a product of their residues
  product-inverse : (v : ℕ) (m n : Matrix) → product p v m n ≡ identity_matrix v
      → S.Inv 𝓡 v (rows m) (rows n)
  product-inverse v m n e i c li lc =
      sym (res-times v (element m i) n c)
      ∙ ap res (elements_of_identity p v m n e i c li lc)
      ∙ res-unit i c

  inverse-product : (v : ℕ) (m n : Matrix) → S.Inv 𝓡 v (rows m) (rows n)
      → product p v m n ≡ identity_matrix v
  inverse-product v m n e =
      identity-of_elements p v m n
      (λ i c li lc.
      same (times_below v (element m i) n c) (unit-below i c)
      (res-times v (element m i) n c ∙ e i c li lc ∙ sym (res-unit i c)))

  -- ---- laws of the determinant

  pub determinant-identity : (v : ℕ) → determinant p v (identity_matrix v) ≡ 1
  determinant-identity v =
      same (determinant-below v (identity_matrix v)) h.above_one
      (res-determinant v (identity_matrix v)
      ∙ E.minor-on 𝓡 (λ c. c < v) (rows (identity_matrix v)) (S.δ 𝓡)
      (λ i c li lc. ap res (identity_matrix-element v i c li lc) ∙ res-unit i c)
      (range 0 v) (all-below v) (range 0 v) (all-below v)
      ∙ S.det-δ 𝓡 v
      ∙ sym (F.res_one p pos))

  pub determinant-product : (v : ℕ) (m n : Matrix)
      → determinant p v (product p v m n) ≡ (determinant p v m * determinant p v n) % p
  determinant-product v m n =
      same (determinant-below v (product p v m n)) (mod-lt _ pos)
      (res-determinant v (product p v m n)
      ∙ E.minor-on 𝓡 (λ c. c < v) (rows (product p v m n)) (prod 𝓡 (rows m) (rows n) (range 0 v))
      (λ i c li lc. ap res (product-element p v m n i c li lc) ∙ res-times v (element m i) n c)
      (range 0 v) (all-below v) (range 0 v) (all-below v)
      ∙ det-product 𝓡 v (rows m) (rows n)
      ∙ ap₂ ◌⊗◌ (sym (res-determinant v m)) (sym (res-determinant v n))
      ∙ sym (F.res-mul p pos (determinant p v m) (determinant p v n))
      ∙ sym (F.res-mod p pos _))

  -- ---- only the residues of the entries count

  pub determinant-congruent : (v : ℕ) (m n : Matrix)
      → ((i j : ℕ) → i < v → j < v → element m i j % p ≡ element n i j % p)
      → determinant p v m ≡ determinant p v n
  determinant-congruent v m n e =
      same (determinant-below v m) (determinant-below v n)
      (res-determinant v m
      ∙ E.minor-on 𝓡 (λ c. c < v) (rows m) (rows n)
      (λ i c li lc. F.res-equal p pos _ _ (e i c li lc))
      (range 0 v) (all-below v) (range 0 v) (all-below v)
      ∙ sym (res-determinant v n))

  pub times-congruent : (v : ℕ) (a b : ℕ → ℕ) (m n : Matrix) (j : ℕ)
      → ((k : ℕ) → k < v → a k % p ≡ b k % p)
      → ((k : ℕ) → k < v → element m k j % p ≡ element n k j % p)
      → times p v a m j ≡ times p v b n j
  times-congruent v a b m n j e f =
      same (times_below v a m j) (times_below v b n j)
      (res-times v a m j
      ∙ G.sum-on 𝓡 (λ k. k < v) (λ k. res (a k) ⊗ rows m k j) (λ k. res (b k) ⊗ rows n k j)
      (λ k l. ap₂ ◌⊗◌ (F.res-equal p pos _ _ (e k l)) (F.res-equal p pos _ _ (f k l)))
      (range 0 v) (all-below v)
      ∙ sym (res-times v b n j))

  pub product-congruent : (v : ℕ) (m n m' n' : Matrix)
      → ((i j : ℕ) → i < v → j < v → element m i j % p ≡ element m' i j % p)
      → ((i j : ℕ) → i < v → j < v → element n i j % p ≡ element n' i j % p)
      → product p v m n ≡ product p v m' n'
  product-congruent v m n m' n' e f =
      product-same p v m n m' n'
      (λ i j li lj.
      times-congruent v (element m i) (element m' i) n n' j (λ k l. e i k li l) (λ k l. f k j l lj))

  -- ---- kernels

  -- the kernel law: rows put together to 0, one of them once, make the determinant 0
  pub determinant-kernel : (v : ℕ) (y : ℕ → ℕ) (m : Matrix)
      → ((x : ℕ) → x < v → times p v y m x ≡ 0)
      → (k : ℕ) → k < v → y k ≡ 1 → determinant p v m ≡ 0
  determinant-kernel v y m z k l e =
      res-zero (determinant-below v m)
      (res-determinant v m
      ∙ sym (one-mul _)
      ∙ ap (λ x. x ⊗ E.det 𝓡 v (rows m)) (sym (ap res e ∙ F.res_one p pos))
      ∙ det-kernel 𝓡 v (λ j. res (y j)) (rows m)
      (λ c lc. sym (res-times v y m c) ∙ zero-res (z c lc)) k l)

  -- ---- inverses

  -- an inverse on one side is one on the other
  pub inverse-other_side : (v : ℕ) (m n : Matrix) → product p v m n ≡ identity_matrix v
      → product p v n m ≡ identity_matrix v
  inverse-other_side v m n e =
      inverse-product v n m (S.inverse-other_side 𝓡 v (rows m) (rows n) (product-inverse v m n e))

  pub inverse-of_left : (v : ℕ) (m n : Matrix) → product p v n m ≡ identity_matrix v → Inverse p v m n
  inverse-of_left v m n e = record { left = e; right = inverse-other_side v n m e }

  -- a matrix whose determinant is 0 has no inverse, on either side
  pub no_left_inverse : (v : ℕ) (m n : Matrix) → determinant p v m ≡ 0
      → product p v n m ≡ identity_matrix v → ⊥
  no_left_inverse v m n z e =
      F.one_not_zero p pos h
      (sym (S.det-inverse 𝓡 v (rows n) (rows m) (product-inverse v n m e))
      ∙ ap (λ x. E.det 𝓡 v (rows n) ⊗ x) (sym (res-determinant v m) ∙ zero-res z)
      ∙ G.mul-zero 𝓡 _)

  pub no_right_inverse : (v : ℕ) (m n : Matrix) → determinant p v m ≡ 0
      → product p v m n ≡ identity_matrix v → ⊥
  no_right_inverse v m n z e = no_left_inverse v m n z (inverse-other_side v m n e)

  -- a left inverse and a right inverse have the same residues
  pub inverse-unique : (v : ℕ) (m n k : Matrix)
      → product p v n m ≡ identity_matrix v → product p v m k ≡ identity_matrix v
      → (i j : ℕ) → i < v → j < v → element n i j % p ≡ element k i j % p
  inverse-unique v m n k e f i j li lj =
      F.equal-res p pos _ _
      (S.inverse-unique 𝓡 v (rows n) (rows m) (rows k)
      (product-inverse v n m e) (product-inverse v m k f) i j li lj)

  -- matrices that are held as 01 says have one inverse
  pub inverse-held : (v : ℕ) (m n k : Matrix) → Inverse p v m n → Inverse p v m k
      → Held p v n → Held p v k → (i j : ℕ) → i < 8 → j < 8 → element n i j ≡ element k i j
  inverse-held v m n k N K hn hk i j li lj = elim (dec_lt i v) [
    | no q ↦ hn.unused_row i j (omega arith) li lj ∙ sym (hk.unused_row i j (omega arith) li lj)
    | yes q ↦ elim (dec_lt j v) [
      | no r ↦
          hn.unused_column i j (omega arith) li lj
          ∙ sym (hk.unused_column i j (omega arith) li lj)
      | yes r ↦
          residue-unique p (hn.residue i j li lj) (hk.residue i j li lj)
          (inverse-unique v m n k N.left K.right i j q r)
    ]
  ]

  -- a matrix whose determinant is not 0 has an inverse: its adjugate, divided by the determinant
  pub inverse-exists : (v : ℕ) (m : Matrix) → (determinant p v m ≡ 0 → ⊥)
      → (n : Matrix) × Inverse p v m n
  inverse-exists v m z =
      (n, inverse-of_left v m n (inverse-other_side v m n (inverse-product v m n inv)))
    where
      d : (c : R) × (c ⊗ E.det 𝓡 v (rows m) ≡ 𝟙)
      d =
          F.inverse p pos h (E.det 𝓡 v (rows m))
          (λ e. z (res-zero (determinant-below v m) (res-determinant v m ∙ e)))

      A : ℕ → ℕ → R
      A = adjugate 𝓡 v (rows m) d.0

      f : ℕ → ℕ → ℕ
      f i j = F.representative p pos (A i j)

      n : Matrix
      n = square v f

      inv : S.Inv 𝓡 v (rows m) (rows n)
      inv i c li lc =
          G.sum-on 𝓡 (λ k. k < v) (λ k. rows m i k ⊗ rows n k c) (λ k. rows m i k ⊗ A k c)
          (λ k lk.
          ap (λ x. rows m i k ⊗ x)
          (ap res (square-element v f k c lk lc) ∙ F.res-representative p pos (A k c)))
          (range 0 v) (all-below v)
          ∙ adjugate-inverse 𝓡 v (rows m) d.0 d.1 i c li lc
