-- An exponent is a digit of one of the two codes. A quotient is a product with a reciprocal: what
-- rounding 2^32 / d up adds is too little, even 65,535 times over, to reach the next quotient.
use Rattle.std.proofs.Common.{◌≡◌, refl, sym, ap, ◌∙◌, [], ◌∷◌, ◌++◌, ℕ, zero, suc, ◌+◌, ◌-◌, ◌*◌, ◌/◌, ◌%◌, ◌^◌, ◌≤◌, ◌<◌, div-add-mod', div-one, lt_of_mul-lt-mul_right, mod-lt, mul-le-mul, mul-le-mul_left, mul-le-mul_right, pow-suc, add-one, arith, length, take, drop, drop_of_length-le, take_all}
use Rattle.std.proofs.Math.Nat.{div-div-eq-div-mul, div-eq_of_lt-le}
use Rattle.std.proofs.Math.Nat.{pow-succ'}
use Rattle.std.proofs.Math.Nat.{pow-zero}
use Rattle.algebra.specs.Polynomial.{Monomial, exponent, order}
use Rattle.algebra.specs.Substitution.{unit_of}
use Rattle.algebra.proofs.Monomials.{length-unit}
use Rattle.monomial.specs.Count.{half}
use Rattle.monomial.specs.Table.{digits, code, monomial_of, C1, C2}
use Rattle.monomial.proofs.Digits.{length_digits}
use Rattle.monomial.proofs.Address.{coded}
use Rattle.derivation.specs.Derivative.{reciprocal}

-- ---- quotients

pub reciprocal-quotient : (c d : ℕ) → c < 65536 → 0 < d → d ≤ 65536
    → c * reciprocal d / 4294967296 ≡ c / d
unfolding reciprocal
reciprocal-quotient c d lc pd ld = div-eq_of_lt-le 4294967296 low high
  where
    q : ℕ
    q = c / d

    s : ℕ
    s = 4294967296 / d

    whole : s * d + 4294967296 % d ≡ 4294967296
    whole = div-add-mod' 4294967296 d

    part : 4294967296 % d < d
    part = mod-lt 4294967296 pd

    own : q * d + c % d ≡ c
    own = div-add-mod' c d

    less : c % d < d
    less = mod-lt c pd

    low : q * 4294967296 ≤ c * (s + 1)
    low =
        omega (
          arith,
          mul-le-mul_left {m = 4294967296} {n = (s + 1) * d} q (omega (arith, whole, part)),
          mul-le-mul_right {m = q * d} {n = c} (s + 1) (omega (arith, own)),
        )

    high : c * (s + 1) < (q + 1) * 4294967296
    high =
        lt_of_mul-lt-mul_right d
        (omega (
          arith,
          mul-le-mul_left {m = (s + 1) * d} {n = 4294967296 + d} c (omega (arith, whole)),
          mul-le-mul {n₁ = c} {m₁ = d} {n₂ = 65535} {m₂ = 65536} (omega arith) ld,
          own,
          less,
        ))

-- ---- powers

pub power-step : (b j : ℕ) → b ^ j * b ≡ b ^ (j + 1)
power-step b j = sym (pow-suc b j) ∙ ap (λ (z : ℕ). b ^ z) (sym (add-one j))

-- ---- the exponents of a list of digits

exponent-digits : (b h i c : ℕ) → i < h → exponent i (digits b h c) ≡ c / b ^ i % b
unfolding exponent digits
exponent-digits b zero i c l = absurd (omega arith)
exponent-digits b (suc h) zero c l =
    sym (ap (λ (z : ℕ). c / z % b) (pow-zero b) ∙ ap (λ (z : ℕ). z % b) (div-one c))
exponent-digits b (suc h) (suc i) c l =
    let e : c / b / b ^ i ≡ c / b ^ suc i =
    div-div-eq-div-mul c b (b ^ i) ∙ ap (λ (z : ℕ). c / z) (sym (pow-succ' b i)) in
    exponent-digits b h i (c / b) (omega arith) ∙ ap (λ (z : ℕ). z % b) e

exponent-low : (i : ℕ) (s u : Monomial) → i < length s → exponent i (s ++ u) ≡ exponent i s
unfolding exponent
exponent-low i [] u l = absurd (omega arith)
exponent-low zero (x ∷ s) u l = refl
exponent-low (suc i) (x ∷ s) u l = exponent-low i s u (omega arith)

exponent-high : (i : ℕ) (s u : Monomial) → exponent (length s + i) (s ++ u) ≡ exponent i u
unfolding exponent
exponent-high i [] u = ap (λ (z : ℕ). exponent z u) (omega arith)
exponent-high i (x ∷ s) u =
    let e : suc (length s) + i ≡ suc (length s + i) = omega arith in
    ap (λ (z : ℕ). exponent z (x ∷ (s ++ u))) e ∙ exponent-high i s u

module _ (n v k : ℕ) (m : Monomial) (long : length m ≡ v) (low : order m ≤ n) where
  abbrev first : Monomial
  first = digits (n + 1) (half v) (C1 n v m)

  abbrev second : Monomial
  second = digits (n + 1) (v - half v) (C2 n v m)

  -- the monomial from its codes
  is : m ≡ first ++ second
  unfolding monomial_of
  is = sym (coded n v m long low).again

  size : length first ≡ half v
  size = length_digits (n + 1) (half v) (C1 n v m)

  pub exponent-first : k < half v → exponent k m ≡ C1 n v m / (n + 1) ^ k % (n + 1)
  exponent-first h =
      ap (exponent k) is
      ∙ exponent-low k first second (omega (arith, size))
      ∙ exponent-digits (n + 1) (half v) k (C1 n v m) h

  pub exponent-second : half v ≤ k → k < v
      → exponent k m ≡ C2 n v m / (n + 1) ^ (k - half v) % (n + 1)
  exponent-second h l =
      let e : k ≡ length first + (k - half v) = omega (arith, size) in
      ap (exponent k) is
      ∙ ap (λ (z : ℕ). exponent z (first ++ second)) e
      ∙ exponent-high (k - half v) first second
      ∙ exponent-digits (n + 1) (v - half v) (k - half v) (C2 n v m) (omega arith)

-- ---- the codes of a variable

code-unit : (b i : ℕ) → code b (unit_of i) ≡ b ^ i
unfolding code unit_of
code-unit b zero = omega (arith, pow-zero b)
code-unit b (suc i) = omega (arith, ap (λ (z : ℕ). z * b) (code-unit b i), pow-succ' b i)

code-take_unit : (b h i : ℕ) → h ≤ i → code b (take h (unit_of i)) ≡ 0
unfolding code unit_of
code-take_unit b zero i l = refl
code-take_unit b (suc h) zero l = absurd (omega arith)
code-take_unit b (suc h) (suc i) l =
    omega (arith, ap (λ (z : ℕ). z * b) (code-take_unit b h i (omega arith)))

drop-unit : (h i : ℕ) → drop h (unit_of (h + i)) ≡ unit_of i
unfolding unit_of
drop-unit zero i =
    let e : zero + i ≡ i = omega arith in
    ap unit_of e
drop-unit (suc h) i =
    let e : suc h + i ≡ suc (h + i) = omega arith in
    ap (λ (z : ℕ). drop (suc h) (unit_of z)) e ∙ drop-unit h i

module _ (n v k : ℕ) where
  pub C1-unit_low : k < half v → C1 n v (unit_of k) ≡ (n + 1) ^ k
  unfolding C1
  C1-unit_low l =
      ap (code (n + 1)) (take_all (half v) (unit_of k) (omega (arith, length-unit k)))
      ∙ code-unit (n + 1) k

  pub C2-unit_low : k < half v → C2 n v (unit_of k) ≡ 0
  unfolding C2 code
  C2-unit_low l =
      ap (code (n + 1))
      (drop_of_length-le (unit_of k) {i = half v} (omega (arith, length-unit k)))

  pub C1-unit_high : half v ≤ k → C1 n v (unit_of k) ≡ 0
  unfolding C1
  C1-unit_high l = code-take_unit (n + 1) (half v) k l

  pub C2-unit_high : half v ≤ k → C2 n v (unit_of k) ≡ (n + 1) ^ (k - half v)
  unfolding C2
  C2-unit_high l =
      let e : k ≡ half v + (k - half v) = omega arith in
      ap (λ (z : ℕ). code (n + 1) (drop (half v) (unit_of z))) e
      ∙ ap (code (n + 1)) (drop-unit (half v) (k - half v))
      ∙ code-unit (n + 1) (k - half v)
