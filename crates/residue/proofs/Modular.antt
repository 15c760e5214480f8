-- Laws of remainders, for any modulus m. A factor or a summand may be replaced by its remainder,
-- since the difference is a multiple of m. Minus a is (m - 1) * a, since m * a leaves nothing.
use Rattle.std.proofs.Common.{◌≡◌, refl, sym, ap, ap₂, ◌∙◌, ℕ, suc, ◌+◌, ◌-◌, ◌*◌, ◌/◌, ◌%◌, ◌<◌, ◌≤◌, add_comm, mul_comm, mul-zero, zero-add, mod-eq_of_lt, arith}
use Rattle.std.proofs.Math.Nat.{add-mod, add-mul-mod_self_right, mod-add-div'}
use Rattle.std.proofs.Math.Nat.{mod-eq-sub-mod, mul-mod_left, zero-mod}

-- ---- products

pub mod-mul : (a b m : ℕ) → (a % m * b) % m ≡ (a * b) % m
mod-mul a b m =
    sym (add-mul-mod_self_right (a % m * b) (a / m * b) m)
    ∙ ap (λ x. x % m) (regroup (a % m) (a / m) ∙ ap (λ x. x * b) (mod-add-div' a m))
  where
    regroup : (r q : ℕ) → r * b + (q * b) * m ≡ (r + q * m) * b
    regroup r q = omega arith

pub mul-mod : (a b m : ℕ) → (a * (b % m)) % m ≡ (a * b) % m
mul-mod a b m =
    ap (λ x. x % m) (mul_comm a (b % m)) ∙ mod-mul b a m ∙ ap (λ x. x % m) (mul_comm b a)

pub mod-mul_mod : (a b m : ℕ) → (a % m * (b % m)) % m ≡ (a * b) % m
mod-mul_mod a b m = mod-mul a (b % m) m ∙ mul-mod a b m

-- ---- numbers that agree modulo m

pub add-congruent : (m a b c d : ℕ) → a % m ≡ b % m → c % m ≡ d % m → (a + c) % m ≡ (b + d) % m
add-congruent m a b c d e f =
    add-mod a c m ∙ ap₂ (λ x y. (x + y) % m) e f ∙ sym (add-mod b d m)

pub mul-congruent : (m a b c d : ℕ) → a % m ≡ b % m → c % m ≡ d % m → (a * c) % m ≡ (b * d) % m
mul-congruent m a b c d e f =
    sym (mod-mul_mod a c m) ∙ ap₂ (λ x y. (x * y) % m) e f ∙ mod-mul_mod b d m

-- what is 0 modulo m stays 0 with any factor
pub mul-zero_congruent : (m a b : ℕ) → b % m ≡ 0 → (a * b) % m ≡ 0
mul-zero_congruent m a b e =
    sym (mul-mod a b m) ∙ ap (λ x. (a * x) % m) e ∙ ap (λ x. x % m) (mul-zero a) ∙ zero-mod m

-- two residues that agree modulo m are equal
pub residue-unique : (m : ℕ) {a b : ℕ} → a < m → b < m → a % m ≡ b % m → a ≡ b
residue-unique m la lb e = sym (mod-eq_of_lt la) ∙ e ∙ mod-eq_of_lt lb

-- ---- differences

-- c less c, before the remainder is taken
minus_whole : (m c : ℕ) → 0 < m → c + (m - 1) * c ≡ c * m
minus_whole m c h = count (m - 1) (omega arith)
  where
    count : (k : ℕ) → suc k ≡ m → c + k * c ≡ c * m
    count k e = let g : c * suc k ≡ c * m = ap (λ x. c * x) e in omega arith

-- a less a is 0
pub minus_self : (m a : ℕ) → 0 < m → (a + (m - 1) * a) % m ≡ 0
minus_self m a h = ap (λ x. x % m) (minus_whole m a h) ∙ mul-mod_left a m

-- c added and taken away again
pub add-minus : (m a c : ℕ) → 0 < m → (a + c + (m - 1) * c) % m ≡ a % m
add-minus m a c h =
    ap (λ x. x % m) (group a c ((m - 1) * c) ∙ ap (λ x. a + x) (minus_whole m c h))
    ∙ add-mul-mod_self_right a c m
  where
    group : (x y z : ℕ) → x + y + z ≡ x + (y + z)
    group x y z = omega arith

-- a summand may be cancelled
pub add-cancel : (m a b c : ℕ) → 0 < m → (a + c) % m ≡ (b + c) % m → a % m ≡ b % m
add-cancel m a b c h e =
    sym (add-minus m a c h)
    ∙ add-congruent m (a + c) (b + c) ((m - 1) * c) ((m - 1) * c) e refl
    ∙ add-minus m b c h

-- minus minus a is a
pub minus_minus : (m a : ℕ) → 0 < m → ((m - 1) * ((m - 1) * a)) % m ≡ a % m
minus_minus m a h =
    add-cancel m ((m - 1) * b) a b h
    (ap (λ x. x % m) (add_comm _ b) ∙ minus_self m b h ∙ sym (minus_self m a h))
  where
    b : ℕ
    b = (m - 1) * a

-- a difference is 0 between numbers that agree modulo m, and only there
pub difference-zero : (m a b : ℕ) → 0 < m → (a + (m - 1) * b) % m ≡ 0 → a % m ≡ b % m
difference-zero m a b h e = add-cancel m a b ((m - 1) * b) h (e ∙ sym (minus_self m b h))

pub zero-difference : (m a b : ℕ) → 0 < m → a % m ≡ b % m → (a + (m - 1) * b) % m ≡ 0
zero-difference m a b h e =
    add-congruent m a b ((m - 1) * b) ((m - 1) * b) e refl ∙ minus_self m b h

-- ---- how the functions reduce without a division

-- a number below 2 m
pub mod-once : (m s : ℕ) → m ≤ s → s - m < m → s - m ≡ s % m
mod-once m s from below = sym (mod-eq_of_lt below) ∙ sym (mod-eq-sub-mod from)

-- 65,536 is k modulo p, so each unit of the upper half counts k
pub fold_value : (p k x : ℕ) → k + p ≡ 65536 → (x / 65536 * k + x % 65536) % p ≡ x % p
fold_value p k x e =
    sym (add-mul-mod_self_right (x / 65536 * k + x % 65536) (x / 65536) p)
    ∙ ap (λ y. y % p)
    (regroup (x / 65536) (x % 65536)
    ∙ ap (λ y. x % 65536 + x / 65536 * y) e
    ∙ mod-add-div' x 65536)
  where
    regroup : (q r : ℕ) → q * k + r + q * p ≡ r + q * (k + p)
    regroup q r = omega arith

-- r is a less b where r and b sum to a
pub minus_value : (m a b r : ℕ) → r < m → (r + b) % m ≡ a % m → r ≡ (a + (m - 1) * b) % m
minus_value m a b r below e =
    sym (mod-eq_of_lt below)
    ∙ sym (add-minus m r b (omega arith))
    ∙ add-congruent m (r + b) a ((m - 1) * b) ((m - 1) * b) e refl

-- r is minus b where r and b sum to 0
pub negate_value : (m b r : ℕ) → r < m → (r + b) % m ≡ 0 → r ≡ ((m - 1) * b) % m
negate_value m b r below e =
    minus_value m 0 b r below (e ∙ sym (zero-mod m)) ∙ ap (λ x. x % m) (zero-add ((m - 1) * b))
