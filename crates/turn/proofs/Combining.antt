-- A matrix times the vector at a position, the coefficients of all components there, is the vector of the
-- coefficients of the components combined as its rows say.
use Rattle.std.proofs.Common.{◌≡◌, refl, sym, ap, ◌∙◌, List, ℕ, ◌+◌, ◌*◌, ◌%◌, ◌≤◌, ◌<◌, add-one, mul_comm, arith, leb}
use Rattle.std.proofs.Math.Nat.{mod-mod}
use Rattle.algebra.specs.Polynomial.{order, indicator, coefficient_of}
use Rattle.algebra.specs.Substitution.{Map}
use Rattle.algebra.proofs.Sums.{sum-scale}
use Rattle.algebra.proofs.Modulo.{mod-cong, mod-*}
use Rattle.linear.specs.Matrix.{Matrix, element, range}
use Rattle.series.specs.Image.{monomial_at}
use Rattle.inversion.specs.Turn.{combination}
use Rattle.inversion.proofs.Sums.{below, below_suc, below-zero, below-cong, below-mod}
use Rattle.inversion.proofs.Combination.{coefficient-combination}
use Rattle.turn.specs.Vectors.{dot, word_at, Vectors, CombineIn}
use Rattle.turn.proofs.PartWords.{component-word}

-- ---- sums of products

pub dot-none : (a x : ℕ → ℕ) → dot 0 a x ≡ 0
unfolding dot
dot-none a x = below-zero (λ j. a j * x j)

pub dot-more : (v : ℕ) (a x : ℕ → ℕ) → dot (v + 1) a x ≡ dot v a x + a v * x v
unfolding dot
dot-more v a x =
    ap (λ (k : ℕ). below k (λ j. a j * x j)) (add-one v) ∙ below_suc v (λ j. a j * x j)

pub dot-cong : (v : ℕ) (a x y : ℕ → ℕ) → ((j : ℕ) → j < v → x j ≡ y j) → dot v a x ≡ dot v a y
unfolding dot
dot-cong v a x y h = below-cong v _ _ (λ j l. ap (λ (z : ℕ). a j * z) (h j l))

-- ---- what is asked

module _ {p n v N : ℕ} {m : Matrix} {ws : List ℕ} (I : CombineIn p n v N m ws) where
  pub word_below : (q j : ℕ) → 1 ≤ q → q ≤ N → j < v → word_at N ws q j < p
  word_below q j a h l =
      rw (sym (component-word n v N I.N_is ws j q h)) ((I.held.3.each j l).small q a h)

  -- a row of m times the vector at a position is the coefficient of the combination there
  pub combines : (wanted cut : ℕ) (H : Map) → Vectors p n v N wanted cut ws H → (i r : ℕ) → 1 ≤ r
      → r ≤ N → wanted ≤ order (monomial_at n v r)
      → dot v (element m i) (word_at N ws r) % p
      ≡ coefficient_of (monomial_at n v r) (combination v (element m i) H)
      * indicator (leb (order (monomial_at n v r)) cut)
      % p
  combines wanted cut H P i r a h o = unfold dot in
      let d = monomial_at n v r in
      let b = indicator (leb (order d) cut) in
      below-mod p v _ (λ j. b * (element m i j * coefficient_of d (H j)))
      (λ j l.
      mod-* p (element m i j) (element m i j) (word_at N ws r j) (coefficient_of d (H j) * b) refl
      (mod-cong p
      (sym (component-word n v N I.N_is ws j r h) ∙ (P.each j l).residue r a h o)
      ∙ mod-mod _ p)
      ∙ mod-cong p (regroup (element m i j) (coefficient_of d (H j)) b))
      ∙ mod-cong p
      (sum-scale b (range 0 v) (λ j. element m i j * coefficient_of d (H j))
      ∙ ap (λ (z : ℕ). b * z) (sym (coefficient-combination d v (element m i) H))
      ∙ mul_comm b _)
    where
      regroup : (x y z : ℕ) → x * (y * z) ≡ z * (x * y)
      regroup x y z = omega arith
