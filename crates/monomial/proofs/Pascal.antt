-- Pascal's rule, and that it counts (n + v)! / (n! v!): the number of monomials with one variable more and
-- one order more is the sum of the two that have one of these less.
use Rattle.std.proofs.Common.{◌≡◌, refl, sym, ap, ◌∙◌, ℕ, zero, suc, ◌+◌, ◌*◌, ◌/◌, ◌<◌, zero-add, add-zero, add-suc, suc-add, mul-pos, arith}
use Rattle.std.proofs.Math.Nat.{eq_of_mul-eq-mul_right, div-eq_of_eq-mul_left}
use Rattle.algebra.specs.Sum.{sum_to}
use Rattle.monomial.specs.Count.{factorial}

-- how many monomials of order at most r there are in h variables, by Pascal's rule
unfoldable pub pascal : ℕ → ℕ → ℕ
pascal zero r = 1
pascal (suc h) r = sum_to (pascal h) (suc r)

pascal-zero : (h : ℕ) → pascal h 0 ≡ 1
unfolding pascal sum_to
pascal-zero zero = refl
pascal-zero (suc h) = zero-add (pascal h 0) ∙ pascal-zero h

pascal-suc : (h r : ℕ) → pascal (suc h) (suc r) ≡ pascal (suc h) r + pascal h (suc r)
unfolding pascal sum_to
pascal-suc h r = refl

factorial-suc : (n : ℕ) → factorial (suc n) ≡ suc n * factorial n
unfolding factorial
factorial-suc n = refl

-- one step: W is the factorial below
factorial-step : (v n a c f g W : ℕ) → a * (suc v * f * g) ≡ W → c * (f * (suc n * g)) ≡ W →
    (a + c) * (suc v * f * (suc n * g)) ≡ (suc n + suc v) * W
factorial-step v n a c f g W p q = omega (arith, ap (λ (z : ℕ). suc n * z) p, ap (λ (z : ℕ). suc v * z) q)

pub pascal-factorial : (v n : ℕ) → pascal v n * (factorial v * factorial n) ≡ factorial (n + v)
unfolding factorial pascal
pascal-factorial zero n = omega (arith, ap factorial (add-zero n))
pascal-factorial (suc v) n = go (pascal-factorial v) n
  where
    go : ((r : ℕ) → pascal v r * (factorial v * factorial r) ≡ factorial (r + v)) → (m : ℕ) → pascal (suc v) m * (factorial (suc v) * factorial m) ≡ factorial (m + suc v)
    go ih zero = omega (arith, ap (λ (z : ℕ). z * (suc v * factorial v)) (pascal-zero (suc v)), ap factorial (zero-add (suc v)))
    go ih (suc m) =
        let e : suc m + v ≡ m + suc v = omega arith in
        ap (λ (z : ℕ). z * (factorial (suc v) * factorial (suc m))) (pascal-suc v m)
        ∙ factorial-step v m (pascal (suc v) m) (pascal v (suc m)) (factorial v) (factorial m) (factorial (m + suc v)) (go ih m)
        (ih (suc m) ∙ ap factorial e)
        ∙ ap (λ (z : ℕ). z * factorial (m + suc v)) (suc-add m (suc v))
        ∙ ap factorial (sym (suc-add m (suc v)))

pub factorial-positive : (n : ℕ) → zero < factorial n
unfolding factorial
factorial-positive zero = omega arith
factorial-positive (suc n) = omega (arith, factorial-positive n)

pub pascal-next : (v n : ℕ) → pascal (suc v) n * suc v ≡ pascal v n * (n + suc v)
unfolding factorial
pascal-next v n =
    eq_of_mul-eq-mul_right (factorial v * factorial n) (mul-pos (factorial-positive v) (factorial-positive n)) _ _
    (omega (arith, pascal-factorial (suc v) n, ap (λ (z : ℕ). z * (n + suc v)) (pascal-factorial v n), ap factorial (add-suc n v)))

pub pascal-is : (v n : ℕ) → pascal v n ≡ factorial (n + v) / (factorial n * factorial v)
pascal-is v n = sym (div-eq_of_eq-mul_left (mul-pos (factorial-positive n) (factorial-positive v)) (omega (arith, pascal-factorial v n)))
