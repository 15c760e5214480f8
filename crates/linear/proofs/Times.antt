-- `times` is linear in its row, and what becomes of one number when a multiple of another is added.
use Rattle.std.proofs.Common.{◌≡◌, refl, sym, ap, ap₂, ◌∙◌, List, [], ◌∷◌, ℕ, ◌+◌, ◌-◌, ◌*◌, ◌%◌, ◌<◌, mod-eq_of_lt, add-zero, mul-one, mul-zero, zero-add, arith}
use Rattle.std.proofs.Math.Nat.{add-mod, add-mod-mod, mod_self, mul-mod_right, zero-mod}
use Rattle.std.proofs.Math.Nat.{sub-zero}
use Rattle.algebra.specs.Sum.{sum_over}
use Rattle.residue.proofs.Modular.{mod-mul, mul-mod}
use Rattle.linear.specs.Matrix.{Matrix, element, range, times}
use Rattle.linear.specs.Columns.{All}
use Rattle.linear.proofs.Lists.{all-below}

-- ---- sums

pub sum_over-same : {A : Type 0} (P : A → Type 0) (f g : A → ℕ) → ((x : A) → P x → f x ≡ g x)
    → (xs : List A) → All P xs → sum_over xs f ≡ sum_over xs g
unfolding sum_over
sum_over-same P f g h [] a = refl
sum_over-same P f g h (x ∷ xs) a = ap₂ ◌+◌ (h x a.0) (sum_over-same P f g h xs a.1)

-- a sum weighed by a combination of two rows
sum-combined : (p g : ℕ) (a b f : ℕ → ℕ) (ks : List ℕ)
    → sum_over ks (λ k. (a k + g * b k) % p * f k) % p
    ≡ (sum_over ks (λ k. a k * f k) + g * sum_over ks (λ k. b k * f k)) % p
unfolding sum_over
sum-combined p g a b f [] = ap (λ x. (0 + x) % p) (sym (mul-zero g))
sum-combined p g a b f (k ∷ ks) =
    add-mod ((a k + g * b k) % p * f k) _ p
    ∙ ap₂ (λ x y. (x + y) % p) (mod-mul (a k + g * b k) (f k) p) (sum-combined p g a b f ks)
    ∙ sym (add-mod ((a k + g * b k) * f k) (s + g * t) p)
    ∙ ap (λ x. x % p) (regroup (a k) (b k) (f k) s t)
  where
    s : ℕ
    s = sum_over ks (λ j. a j * f j)

    t : ℕ
    t = sum_over ks (λ j. b j * f j)

    regroup : (x y z s t : ℕ) → (x + g * y) * z + (s + g * t) ≡ x * z + s + g * (y * z + t)
    regroup x y z s t = omega arith

pub times-same : (p v : ℕ) (a b : ℕ → ℕ) (m : Matrix) (x : ℕ) → ((k : ℕ) → k < v → a k ≡ b k)
    → times p v a m x ≡ times p v b m x
unfolding times
times-same p v a b m x h =
    ap (λ y. y % p)
    (sum_over-same (λ k. k < v) (λ k. a k * element m k x) (λ k. b k * element m k x)
    (λ k l. ap (λ y. y * element m k x) (h k l)) (range 0 v) (all-below v))

pub times-combined : (p v g : ℕ) (a b o : ℕ → ℕ) (m : Matrix) (x : ℕ)
    → ((k : ℕ) → k < v → o k ≡ (a k + g * b k) % p)
    → times p v o m x ≡ (times p v a m x + g * times p v b m x) % p
times-combined p v g a b o m x h =
    times-same p v o (λ k. (a k + g * b k) % p) m x h
    ∙ (unfold times in
    sum-combined p g a b (λ k. element m k x) (range 0 v)
    ∙ add-mod _ _ p
    ∙ ap (λ y. (times p v a m x + y) % p) (sym (mul-mod g _ p))
    ∙ add-mod-mod _ _ p)

pub sum-zero : (f : ℕ → ℕ) (ks : List ℕ) → sum_over ks (λ k. 0 * f k) ≡ 0
unfolding sum_over
sum-zero f [] = refl
sum-zero f (k ∷ ks) = omega (arith, sum-zero f ks)

pub times_zero : (p v : ℕ) (a : ℕ → ℕ) (m : Matrix) (x : ℕ) → ((k : ℕ) → k < v → a k ≡ 0)
    → times p v a m x ≡ 0
times_zero p v a m x h =
    times-same p v a (λ k. 0) m x h
    ∙ (unfold times in ap (λ y. y % p) (sum-zero (λ k. element m k x) (range 0 v)) ∙ zero-mod p)

-- ---- one number of a combination

-- nothing is added
pub plus_none : (p x g y : ℕ) → x < p → y ≡ 0 → (x + g * y) % p ≡ x
plus_none p x g y below e =
    ap (λ z. (x + g * z) % p) e
    ∙ ap (λ z. (x + z) % p) (mul-zero g)
    ∙ ap (λ z. z % p) (add-zero x)
    ∙ mod-eq_of_lt below

-- x is taken out
pub taken_out : (p x y : ℕ) → x < p → y ≡ 1 → (x + (p - x) * y) % p ≡ 0
taken_out p x y below e =
    ap (λ z. (x + (p - x) * z) % p) e
    ∙ ap (λ z. (x + z) % p) (mul-one (p - x))
    ∙ ap (λ z. z % p) (let whole : x + (p - x) ≡ p = omega arith in whole)
    ∙ mod_self p

-- 0 times is taken out of 0
pub still_zero : (p x y z : ℕ) → x ≡ 0 → y ≡ 0 → (x + (p - y) * z) % p ≡ 0
still_zero p x y z e f =
    ap₂ (λ a b. (a + (p - b) * z) % p) e f
    ∙ ap (λ a. (0 + a * z) % p) (sub-zero p)
    ∙ ap (λ a. a % p) (zero-add (p * z))
    ∙ mul-mod_right p z
