-- Trial division decides whether a number is prime: a divisor above the square root has a cofactor
-- below it. So the modulus is prime, by 255 computed remainders, and none of the numbers between it
-- and 65,536 is.
use Rattle.std.proofs.Common.{◌≡◌, refl, sym, ap, ◌∙◌, Bool, true, not, ◌&&◌, true≢false, ⊎_elim, ℕ, zero, suc, ◌+◌, ◌*◌, ◌/◌, ◌%◌, ◌<◌, ◌≤◌, eq-or-lt_of_le, mul-le-mul, arith, ltb, lit<, ltb-true, lt-ltb}
use Rattle.std.proofs.Math.Bool.{and-eq-true_iff}
use Rattle.std.proofs.Math.Nat.{mod-add-div', mul-mod_right}
use Rattle.std.proofs.Math.Decide.{dec_le}
use borrow.Author.Tests.{not-true}
use Rattle.residue.specs.Modulus.{Prime, modulus}
use Rattle.residue.proofs.Inverses.{prime_remainder}

-- ---- the test

-- none of 2, .., n + 1 divides p
unfoldable pub trial : ℕ → ℕ → Bool
trial p zero = true
trial p (suc n) = ltb 0 (p % (n + 2)) && trial p n

-- what was tried does not divide
tried : (p n : ℕ) → trial p n ≡ true → (a : ℕ) → 1 < a → a < n + 2 → 0 < p % a
unfolding trial
tried p zero t a above below = absurd (omega arith)
tried p (suc n) t a above below =
    let both = (and-eq-true_iff (ltb 0 (p % (n + 2))) (trial p n)).0 t in
    ⊎_elim
    (λ (e : a ≡ n + 2). rw e (ltb-true 0 (p % (n + 2)) both.0))
    (λ (l : a < n + 2). tried p n both.1 a above l)
    (eq-or-lt_of_le (omega arith))

-- a divisor from the bound on has a cofactor below it
cofactor : (p n a q : ℕ) → p < (n + 2) * (n + 2) → trial p n ≡ true → n + 2 ≤ a → a < p
    → q * a ≡ p → ⊥
cofactor p n a zero root t bound below e = omega arith
cofactor p n a (suc zero) root t bound below e = omega arith
cofactor p n a (suc (suc q)) root t bound below e = elim (dec_le (n + 2) (suc (suc q))) [
  | yes l ↦ omega (arith, mul-le-mul l bound)
  | no l ↦ omega (
    arith,
    tried p n t (suc (suc q)) (omega arith) (omega arith),
    ap (λ x. x % suc (suc q)) (sym e) ∙ mul-mod_right (suc (suc q)) a,
  )
]

-- trial division up to the square root proves a prime
pub trial-prime : (p n : ℕ) → 1 < p → p < (n + 2) * (n + 2) → trial p n ≡ true → Prime p
trial-prime p n one root t = record { above_one = one; no_divisor = none }
  where
    none : (a : ℕ) → 1 < a → a < p → p % a ≡ 0 → ⊥
    none a above below e = elim (dec_le (n + 2) a) [
      | no l ↦ omega (arith, tried p n t a above (omega arith))
      | yes l ↦ cofactor p n a (p / a) root t l below (omega (arith, mod-add-div' p a))
    ]

-- a prime passes every trial
pub prime_trial : {p : ℕ} → Prime p → (n : ℕ) → n + 1 < p → trial p n ≡ true
unfolding trial
prime_trial h zero below = refl
prime_trial {p} h (suc n) below =
    (and-eq-true_iff (ltb 0 (p % (n + 2))) (trial p n)).1 (
      lt-ltb 0 (p % (n + 2)) (prime_remainder h (n + 2) (omega arith) (omega arith)),
      prime_trial h n (omega arith),
    )

-- ---- the modulus

pub modulus-large : 65520 < modulus
unfolding modulus
modulus-large = lit< tt

pub modulus-small : modulus < 65536
unfolding modulus
modulus-small = lit< tt

pub modulus-prime : Prime modulus
unfolding modulus trial
modulus-prime = trial-prime modulus 255 (lit< tt) (lit< tt) refl

-- each of the n numbers from lo on has a divisor up to 19
composites : ℕ → ℕ → Bool
composites lo zero = true
composites lo (suc n) = not (trial lo 18) && composites (suc lo) n

not-prime : (lo n : ℕ) → 19 < lo → composites lo n ≡ true → (q : ℕ) → lo ≤ q → q < lo + n
    → Prime q → ⊥
unfolding composites
not-prime lo zero big t q from below h = omega arith
not-prime lo (suc n) big t q from below h =
    let both = (and-eq-true_iff (not (trial lo 18)) (composites (suc lo) n)).0 t in
    ⊎_elim
    (λ (e : lo ≡ q).
    let passed : trial lo 18 ≡ true = rw e (prime_trial h 18 (omega arith)) in
    true≢false (sym passed ∙ not-true (trial lo 18) both.0))
    (λ (l : lo < q). not-prime (suc lo) n (omega arith) both.1 q l (omega arith) h)
    (eq-or-lt_of_le from)

-- 'the largest prime below 65,536'
pub modulus-largest : (q : ℕ) → modulus < q → q < 65536 → Prime q → ⊥
unfolding modulus composites trial
modulus-largest q above below h = not-prime (suc modulus) 14 (lit< tt) refl q above below h
