-- Sums over the numbers below v, modulo p. A matrix times its inverse gives every column back: the
-- two sums are exchanged, and what is left of the inner one is a row of the identity matrix.
use Rattle.std.proofs.Common.{◌≡◌, refl, sym, ap, ap₂, ◌∙◌, List, [], ◌∷◌, ℕ, zero, suc, ◌+◌, ◌-◌, ◌*◌, ◌%◌, ◌<◌, add-zero, mul_comm, zero-mul, arith}
use Rattle.std.proofs.Math.Nat.{mod-mod}
use Rattle.std.proofs.Math.Decide.{dec_lt}
use Rattle.algebra.specs.Sum.{sum_over}
use Rattle.algebra.proofs.Sums.{sum-append, sum-cong, sum-scale, sum-swap}
use Rattle.algebra.proofs.Modulo.{mod-cong, mod-+, mod-*}
use Rattle.linear.specs.Matrix.{Matrix, element, range, times, product, unit, identity_matrix}
use Rattle.linear.specs.Columns.{All}
use Rattle.linear.proofs.Lists.{all-below, range_at}
use Rattle.linear.proofs.Squares.{unit-same, unit-other, elements_of_identity}

-- ---- sums over lists

module _ {A : Type 0} (P : A → Type 0) where
  sum-on : (f g : A → ℕ) → ((x : A) → P x → f x ≡ g x) → (xs : List A) → All P xs
      → sum_over xs f ≡ sum_over xs g
  unfolding sum_over
  sum-on f g h [] a = refl
  sum-on f g h (x ∷ xs) a = ap₂ ◌+◌ (h x a.0) (sum-on f g h xs a.1)

  sum-none : (f : A → ℕ) → ((x : A) → P x → f x ≡ 0) → (xs : List A) → All P xs
      → sum_over xs f ≡ 0
  unfolding sum_over
  sum-none f h [] a = refl
  sum-none f h (x ∷ xs) a = omega (arith, h x a.0, sum-none f h xs a.1)

  sum-mod_on : (p : ℕ) (f g : A → ℕ) → ((x : A) → P x → f x % p ≡ g x % p) → (xs : List A)
      → All P xs → sum_over xs f % p ≡ sum_over xs g % p
  unfolding sum_over
  sum-mod_on p f g h [] a = refl
  sum-mod_on p f g h (x ∷ xs) a =
      mod-+ p _ _ _ _ (h x a.0) (sum-mod_on p f g h xs a.1)

-- ---- sums below v

abbrev pub below : ℕ → (ℕ → ℕ) → ℕ
below v f = sum_over (range 0 v) f

pub below-cong : (v : ℕ) (f g : ℕ → ℕ) → ((j : ℕ) → j < v → f j ≡ g j) → below v f ≡ below v g
below-cong v f g h = sum-on (λ j. j < v) f g h (range 0 v) (all-below v)

pub below-mod : (p v : ℕ) (f g : ℕ → ℕ) → ((j : ℕ) → j < v → f j % p ≡ g j % p)
    → below v f % p ≡ below v g % p
below-mod p v f g h = sum-mod_on (λ j. j < v) p f g h (range 0 v) (all-below v)

pub below_none : (v : ℕ) (f : ℕ → ℕ) → ((j : ℕ) → j < v → f j ≡ 0) → below v f ≡ 0
below_none v f h = sum-none (λ j. j < v) f h (range 0 v) (all-below v)

pub below-zero : (f : ℕ → ℕ) → below 0 f ≡ 0
unfolding sum_over range
below-zero f = refl

pub below_suc : (v : ℕ) (f : ℕ → ℕ) → below (suc v) f ≡ below v f + f v
below_suc v f =
    let z : suc v - suc v ≡ 0 = omega arith in
    ap (λ (r : List ℕ). sum_over r f) (range_at (suc v) v (omega arith))
    ∙ sum-append (range 0 v) _ f
    ∙ ap (λ (k : ℕ). below v f + sum_over (v ∷ range (suc v) k) f) z
    ∙ ap (λ (s : ℕ). below v f + s) (unfold sum_over range in add-zero (f v))

-- a row of the identity matrix takes out one number
pub below-unit : (v i : ℕ) (w : ℕ → ℕ) → i < v → below v (λ k. unit i k * w k) ≡ w i
below-unit zero i w l = absurd (omega arith)
below-unit (suc v) i w l = below_suc v (λ k. unit i k * w k) ∙ go (dec_lt i v) (below-unit v i w)
  where
    last : (x : ℕ) → unit i v ≡ x → unit i v * w v ≡ x * w v
    last x e = ap (λ (y : ℕ). y * w v) e

    go : Dec (i < v) → (i < v → below v (λ k. unit i k * w k) ≡ w i)
        → below v (λ k. unit i k * w k) + unit i v * w v ≡ w i
    go (yes k) ih = omega (arith, ih k, last 0 (unit-other i v (λ e. omega arith)))
    go (no k) ih =
        let e : i ≡ v = omega arith in
        let none = below_none v (λ k. unit i k * w k)
        (λ j m. ap (λ (y : ℕ). y * w j) (unit-other i j (λ q. omega arith)) ∙ zero-mul (w j)) in
        omega (arith, none, last 1 (unit-same i v e), ap w e)

-- ---- matrices

pub times_below : (p v : ℕ) (a : ℕ → ℕ) (m : Matrix) (j : ℕ)
    → times p v a m j ≡ below v (λ k. a k * element m k j) % p
unfolding times
times_below p v a m j = refl

pub undone : (p v : ℕ) (m n : Matrix) → product p v m n ≡ identity_matrix v
    → (w : ℕ → ℕ) (i : ℕ) → i < v
    → below v (λ j. element m i j * below v (λ k. element n j k * w k)) % p ≡ w i % p
undone p v m n e w i l =
    mod-cong p
    (sum-cong (range 0 v) (λ j. sym (sum-scale (element m i j) (range 0 v) _))
    ∙ sum-swap (range 0 v) (range 0 v) (λ j k. element m i j * (element n j k * w k))
    ∙ sum-cong (range 0 v) (λ k. column k))
    ∙ below-mod p v (λ k. w k * below v (λ j. element m i j * element n j k)) (λ k. unit i k * w k)
    (λ k lk.
    mod-* p (w k) (w k) _ _ refl (row k lk) ∙ mod-cong p (mul_comm (w k) _))
    ∙ mod-cong p (below-unit v i w l)
  where
    regroup : (a b c : ℕ) → a * (b * c) ≡ c * (a * b)
    regroup a b c = omega arith

    column : (k : ℕ) → below v (λ j. element m i j * (element n j k * w k))
        ≡ w k * below v (λ j. element m i j * element n j k)
    column k =
        sum-cong (range 0 v) (λ j. regroup (element m i j) (element n j k) (w k))
        ∙ sum-scale (w k) (range 0 v) _

    row : (k : ℕ) → k < v → below v (λ j. element m i j * element n j k) % p ≡ unit i k % p
    row k lk =
        sym (mod-mod _ p)
        ∙ mod-cong p
        (sym (times_below p v (element m i) n k) ∙ elements_of_identity p v m n e i k l lk)
