-- Decimal numerals: one digit below 10, and otherwise the numeral of x / 10 and the last digit.
-- The bound on the steps of `decimal_in` does not matter once it reaches x.
use Rattle.std.proofs.Common.{lt-ltb, le-ltb, ◌≡◌, refl, [], ◌∷◌, ◌++◌, ℕ, zero, suc, ◌+◌, ◌/◌, ◌%◌, ◌^◌, ◌≤◌, ◌<◌, pow-suc, div-lt_iff_lt-mul, arith, length, length-append}
use Rattle.std.proofs.Math.Decide.{dec_lt}
use Rattle.text.specs.Decimal.{decimal_in, decimal}

-- a number is below 10 or not
by_ten {ℓ} : {P : Type ℓ} (x : ℕ) → (x < 10 → P) → (10 ≤ x → P) → P
by_ten x f g = elim (dec_lt x 10) [ yes h ↦ f h | no h ↦ g (omega arith) ]

decimal_in-small : (k x : ℕ) → x < 10 → decimal_in k x ≡ (48 + x) ∷ []
unfolding decimal_in
decimal_in-small zero x h = refl
decimal_in-small (suc k) x h = rw (lt-ltb x 10 h)

decimal_in-large : (k x : ℕ) → 10 ≤ x
    → decimal_in (suc k) x ≡ decimal_in k (x / 10) ++ ((48 + x % 10) ∷ [])
unfolding decimal_in
decimal_in-large k x h = rw (le-ltb x 10 h)

decimal_in-enough : (k l x : ℕ) → x ≤ k → x ≤ l → decimal_in k x ≡ decimal_in l x
decimal_in-enough zero l x p q =
    rw (decimal_in-small zero x (omega arith), decimal_in-small l x (omega arith))
decimal_in-enough (suc k) zero x p q =
    rw (decimal_in-small (suc k) x (omega arith), decimal_in-small zero x (omega arith))
decimal_in-enough (suc k) (suc l) x p q =
    let below = decimal_in-enough k l (x / 10) in
    by_ten x
    (λ h. rw (decimal_in-small (suc k) x h, decimal_in-small (suc l) x h))
    (λ h. rw (decimal_in-large k x h, decimal_in-large l x h, below (omega arith) (omega arith)))

pub decimal-small : (x : ℕ) → x < 10 → decimal x ≡ (48 + x) ∷ []
unfolding decimal
decimal-small x h = decimal_in-small x x h

pub decimal-large : (x : ℕ) → 10 ≤ x → decimal x ≡ decimal (x / 10) ++ ((48 + x % 10) ∷ [])
unfolding decimal
decimal-large zero h = absurd (omega arith)
decimal-large (suc k) h =
    let x = suc k / 10 in
    rw (decimal_in-large k (suc k) h, decimal_in-enough k x x (omega arith) (omega arith))

pub length-decimal_large : (x : ℕ) → 10 ≤ x → length (decimal x) ≡ length (decimal (x / 10)) + 1
length-decimal_large x h = rw (decimal-large x h, length-append)

-- a number below 10 ^ k has at most k digits
pub length-decimal : (k x : ℕ) → x < 10 ^ suc k → length (decimal x) ≤ suc k
length-decimal zero x h = rw (decimal-small x (omega arith)) (omega arith)
length-decimal (suc k) x h =
    let shorter = length-decimal k (x / 10) in
    by_ten x
    (λ s. rw (decimal-small x s) (omega arith))
    (λ l. rw (decimal-large x l, length-append)
    (omega (arith, shorter ((div-lt_iff_lt-mul (omega arith)).1 (rw pow-suc at h)))))
