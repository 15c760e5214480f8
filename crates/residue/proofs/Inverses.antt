-- Modulo a prime p every number but 0 has exactly one inverse below p, and a product is 0 only
-- where a factor is. p % a is -(p / a) times a and smaller than a, so the descent from a to p % a
-- reaches 1, and its factors make up the inverse.
use Rattle.std.proofs.Common.{◌≡◌, refl, sym, ap, ◌∙◌, ◌⊎◌, inl, inr, ⊎_elim, ℕ, zero, suc, ◌+◌, ◌-◌, ◌*◌, ◌/◌, ◌%◌, ◌<◌, ◌≤◌, div-le_self, eq-or-lt_of_le, eq-zero-or-pos, mul_assoc, mul_comm, one-mul, mod-eq_of_lt, mod-lt, arith}
use Rattle.std.proofs.Math.Nat.{add-mul-mod_self_right, mod-add-div', zero-mod}
use Rattle.residue.specs.Modulus.{Prime}
use Rattle.residue.proofs.Modular.{mod-mul, mul-mod, mul-congruent}
use Rattle.residue.proofs.Modular.{mul-zero_congruent, residue-unique}

pub prime_positive : {p : ℕ} → Prime p → 0 < p
prime_positive h = omega (arith, h.above_one)

-- 65,536 is even
pub prime_small : {p : ℕ} → Prime p → p ≤ 65536 → p < 65536
prime_small {p} h l =
    ⊎_elim
    (λ e. absurd (h.no_divisor 2 (omega arith) (omega arith) (ap (λ (x : ℕ). x % 2) e)))
    (λ k. k)
    (eq-or-lt_of_le l)

-- a number between 1 and a prime leaves a remainder
pub prime_remainder : {p : ℕ} → Prime p → (a : ℕ) → 1 < a → a < p → 0 < p % a
prime_remainder {p} h a one below =
    ⊎_elim (λ e. absurd (h.no_divisor a one below e)) (λ l. l) (eq-zero-or-pos (p % a))

-- ---- one step of the descent

pub descent : (p a : ℕ) → ((p - p / a) * a) % p ≡ (p % a) % p
descent p a =
    sym (add-mul-mod_self_right ((p - p / a) * a) 1 p)
    ∙ ap (λ x. x % p) (count (p - p / a) (p / a) (p % a) whole (mod-add-div' p a))
    ∙ add-mul-mod_self_right (p % a) a p
  where
    whole : p - p / a + p / a ≡ p
    whole = omega (arith, div-le_self p a)

    count : (k q r : ℕ) → k + q ≡ p → r + q * a ≡ p → k * a + 1 * p ≡ r + a * p
    count k q r e f = let g : (k + q) * a ≡ p * a = ap (λ x. x * a) e in omega arith

-- where w times n is a, the next w times n is the next a
pub descent_next : (p n a w : ℕ) → (w * n) % p ≡ a
    → ((w * (p - p / a)) % p * n) % p ≡ (p % a) % p
descent_next p n a w h =
    mod-mul (w * q) n p
    ∙ ap (λ x. x % p) (turn w q n)
    ∙ sym (mul-mod q (w * n) p)
    ∙ ap (λ x. (q * x) % p) h
    ∙ descent p a
  where
    q : ℕ
    q = p - p / a

    turn : (w q n : ℕ) → (w * q) * n ≡ q * (w * n)
    turn w q n = omega arith

-- ---- inverses

-- b times c undoes a where b undoes what c makes of a
compose : (p a b c d : ℕ) → (c * a) % p ≡ d % p → (b * d) % p ≡ 1 → ((b * c) * a) % p ≡ 1
compose p a b c d e f =
    ap (λ x. x % p) (mul_assoc b c a) ∙ mul-congruent p b b (c * a) d refl e ∙ f

-- the descent, of which `steps` bounds the length
inverse-below : {p : ℕ} → Prime p → (steps a : ℕ) → a ≤ steps → 0 < a → a < p
    → (w : ℕ) × ((w * a) % p ≡ 1)
inverse-below {p} h zero a le pos below = absurd (omega arith)
inverse-below {p} h (suc steps) a le pos below = ⊎_elim
    (λ (e : 1 ≡ a). (1, ap (λ x. (1 * x) % p) (sym e) ∙ mod-eq_of_lt h.above_one))
    (λ (g : 1 < a).
    let falls : p % a < a = mod-lt p pos in
    let left = prime_remainder h a g below in
    let w = inverse-below h steps (p % a) (omega arith) left (omega arith) in
    (w.0 * (p - p / a), compose p a w.0 (p - p / a) (p % a) (descent p a) w.1))
    (eq-or-lt_of_le pos)

pub inverse-exists : {p : ℕ} → Prime p → (a : ℕ) → 0 < a % p
    → (w : ℕ) × (w < p) × ((w * a) % p ≡ 1)
inverse-exists {p} h a pos =
    let positive = prime_positive h in
    let w = inverse-below h (a % p) (a % p) (omega arith) pos (mod-lt a positive) in
    (w.0 % p, mod-lt w.0 positive, mod-mul w.0 a p ∙ sym (mul-mod w.0 a p) ∙ w.1)

-- a factor that is not 0 may be cancelled
pub mul-cancel : {p : ℕ} → Prime p → (c a b : ℕ) → 0 < c % p → (c * a) % p ≡ (c * b) % p
    → a % p ≡ b % p
mul-cancel {p} h c a b pos e =
    sym (undone a) ∙ mul-congruent p w.0 w.0 (c * a) (c * b) refl e ∙ undone b
  where
    w : (w : ℕ) × (w < p) × ((w * c) % p ≡ 1)
    w = inverse-exists h c pos

    undone : (x : ℕ) → (w.0 * (c * x)) % p ≡ x % p
    undone x =
        ap (λ y. y % p) (sym (mul_assoc w.0 c x))
        ∙ sym (mod-mul (w.0 * c) x p)
        ∙ ap (λ y. (y * x) % p) w.2
        ∙ ap (λ y. y % p) (one-mul x)

pub inverse-unique : {p : ℕ} → Prime p → (a w u : ℕ) → w < p → u < p
    → (w * a) % p ≡ 1 → (u * a) % p ≡ 1 → w ≡ u
inverse-unique {p} h a w u lw lu e f =
    residue-unique p lw lu (mul-cancel h a w u pos (turned w e ∙ sym (turned u f)))
  where
    turned : (x : ℕ) → (x * a) % p ≡ 1 → (a * x) % p ≡ 1
    turned x g = ap (λ y. y % p) (mul_comm a x) ∙ g

    pos : 0 < a % p
    pos = ⊎_elim
        (λ z. absurd (omega (arith, mul-zero_congruent p w a z)))
        (λ l. l)
        (eq-zero-or-pos (a % p))

pub no_zero_divisors : {p : ℕ} → Prime p → (a b : ℕ) → (a * b) % p ≡ 0
    → (a % p ≡ 0) ⊎ (b % p ≡ 0)
no_zero_divisors {p} h a b e = ⊎_elim
    inl
    (λ l. inr (mul-cancel h a b 0 l (e ∙ sym (mul-zero_congruent p a 0 (zero-mod p))) ∙ zero-mod p))
    (eq-zero-or-pos (a % p))
