-- The residue of top / bottom is top times the inverse of bottom; and a fraction whose denominator times the
-- residue gives its numerator has that residue.
use Rattle.std.proofs.Common.{◌≡◌, sym, ap, ◌∙◌, Bool, true, false, ℕ, ◌+◌, ◌-◌, ◌*◌, ◌%◌, ◌<◌, mul_assoc, mul-one, arith}
use Rattle.std.proofs.Math.Nat.{mod-mod, mod_self}
use Rattle.residue.proofs.Modular.{mod-mul, mul-mod, negate_value}
use Rattle.optics.specs.Number.{plus_or_minus, Ratio}

-- q is t w, where t is top and w the inverse of b, which is bottom
module _
    (p top bottom w : ℕ)
    {t b q : ℕ}
    (is-t : t ≡ top % p)
    (is_b : b ≡ bottom % p)
    (is-w : (w * b) % p ≡ 1)
    (is-q : q ≡ (t * w) % p)
  where
    inverse : (w * bottom) % p ≡ 1
    inverse = sym (mul-mod w bottom p) ∙ rw is_b at is-w

    quotient : (q * bottom) % p ≡ top % p
    quotient =
        ap (λ z. (z * bottom) % p) (rw is-t at is-q)
        ∙ mod-mul (top % p * w) bottom p
        ∙ ap (λ z. z % p) (mul_assoc (top % p) w bottom)
        ∙ sym (mul-mod (top % p) (w * bottom) p)
        ∙ ap (λ z. (top % p * z) % p) inverse
        ∙ ap (λ z. z % p) (mul-one (top % p))
        ∙ mod-mod top p

    pub plain_ratio : (negative : Bool) → negative ≡ false → Ratio p q top bottom negative
    unfolding Ratio plus_or_minus
    plain_ratio negative s = rw s quotient

    pub minus_ratio : (negative : Bool) → negative ≡ true → (r : ℕ) → r ≡ ((p - 1) * q) % p
        → Ratio p r top bottom negative
    unfolding Ratio plus_or_minus
    minus_ratio negative s r e =
        rw s
        (ap (λ z. (z * bottom) % p) e
        ∙ mod-mul ((p - 1) * q) bottom p
        ∙ ap (λ z. z % p) (mul_assoc (p - 1) q bottom)
        ∙ sym (mul-mod (p - 1) (q * bottom) p)
        ∙ ap (λ z. ((p - 1) * z) % p) quotient
        ∙ mul-mod (p - 1) top p)

-- m is the denominator times the residue of c
module _
    (p c bottom : ℕ)
    {x m : ℕ}
    (is_x : x ≡ c % p)
    (is_m : m ≡ (x * bottom) % p)
  where
    numerator : m ≡ (c * bottom) % p
    numerator = rw is_x at is_m ∙ mod-mul c bottom p

    pub plain_shown : Ratio p c m bottom false
    unfolding Ratio plus_or_minus
    plain_shown = sym (ap (λ z. z % p) numerator ∙ mod-mod (c * bottom) p)

    pub minus_shown : m < p → Ratio p c (p - m) bottom true
    unfolding Ratio plus_or_minus
    minus_shown l =
        let whole : m + (p - m) ≡ p = omega arith in
        sym numerator ∙ negate_value p (p - m) m l (ap (λ z. z % p) whole ∙ mod_self p)

pub whole_shown : (p c x : ℕ) → x ≡ c % p → Ratio p c x 1 false
unfolding Ratio plus_or_minus
whole_shown p c x e = ap (λ z. z % p) (mul-one c) ∙ sym (ap (λ z. z % p) e ∙ mod-mod c p)
