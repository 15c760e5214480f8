-- Polynomials with natural coefficients, and the operations on series of 01 without their cut at
-- order n and without their reduction modulo p: `Agreement` says what is left after both.
-- The modulus p, the order n and the number of variables are any; x1 is the variable 0, x2 the
-- variable 1, and so on.
--
-- Glossary
--   Monomial            the exponents of x1, x2, ..; those left out at the end are 0
--   Term                a coefficient and a monomial
--   Polynomial          a list of terms, whose sum it is; 01, "Series and their counting"
--   a ⊕ b               the product of two monomials: exponents add; 002 (7)
--   order m             the sum of the exponents of m; 01, "Series and their counting"
--   exponent i m        the exponent of variable i in m
--   trim m              m with no 0 at its end; trim_cons is one step of it
--   equal a b           a and b are the same list of exponents
--   same a b            a and b are the same monomial
--   indicator b         1 where the test b holds, and else 0
--   weigh P φ           the sum over the terms of P of coefficient times φ(monomial)
--   coefficient_of m P  the coefficient of m in P: all terms of that monomial together
--   constant c, one     the polynomials c and 1
--   add P Q             the sum; 01, "The operations"
--   scale c P           the multiple by the number c; 01, "The operations"
--   difference p P Q    P less Q modulo p: p − 1 times Q is added; 01, "The operations"
--   times_term s t      the product of two terms
--   mul P Q             the product: all pairs of terms; 002 (5)
--   power P k           the product of k factors P
--   add_below h F       the sum of the polynomials F 0, F 1, .., F (h − 1)
--   lower i m           m with the exponent of variable i made one less
--   derivative i P      the derivative in variable i; 01, "The operations"
--   pair_bracket p i j  what the pair of variables i and j gives to the bracket
--   bracket p h P Q     the bracket over the first h pairs of variables; 01, "The operations"
use Rattle.std.specs.Prelude.{ℕ, zero, suc, ◌+◌, ◌*◌, ◌-◌, pred, Bool, true, false, ◌&&◌, List, [], ◌∷◌, ◌++◌, map, eqb}
use Rattle.algebra.specs.Sum.{sum_over}

abbrev pub Monomial : Type 0
Monomial = List ℕ

pub record Term : Type 0 where
  pub coefficient : ℕ
  pub exponents : Monomial

abbrev pub Polynomial : Type 0
Polynomial = List Term

-- ---- monomials

infixl 65 ◌⊕◌
unfoldable pub ◌⊕◌ : Monomial → Monomial → Monomial
[] ⊕ b = b
(x ∷ a) ⊕ [] = x ∷ a
(x ∷ a) ⊕ (y ∷ b) = (x + y) ∷ (a ⊕ b)

unfoldable pub order : Monomial → ℕ
order [] = 0
order (x ∷ a) = x + order a

unfoldable pub exponent : ℕ → Monomial → ℕ
exponent i [] = 0
exponent zero (x ∷ a) = x
exponent (suc i) (x ∷ a) = exponent i a

-- x followed by the trimmed monomial a, trimmed
unfoldable pub trim_cons : ℕ → Monomial → Monomial
trim_cons zero [] = []
trim_cons (suc x) [] = suc x ∷ []
trim_cons x (y ∷ a) = x ∷ y ∷ a

unfoldable pub trim : Monomial → Monomial
trim [] = []
trim (x ∷ a) = trim_cons x (trim a)

unfoldable pub equal : Monomial → Monomial → Bool
equal [] [] = true
equal [] (y ∷ b) = false
equal (x ∷ a) [] = false
equal (x ∷ a) (y ∷ b) = eqb x y && equal a b

unfoldable pub same : Monomial → Monomial → Bool
same a b = equal (trim a) (trim b)

-- ---- coefficients

unfoldable pub indicator : Bool → ℕ
indicator true = 1
indicator false = 0

unfoldable pub weigh : Polynomial → (Monomial → ℕ) → ℕ
weigh P φ = sum_over P (λ t. t.coefficient * φ t.exponents)

unfoldable pub coefficient_of : Monomial → Polynomial → ℕ
coefficient_of m P = weigh P (λ e. indicator (same m e))

-- ---- sum and product

unfoldable pub constant : ℕ → Polynomial
constant c = record { coefficient = c; exponents = [] } ∷ []

abbrev pub one : Polynomial
one = constant 1

abbrev pub add : Polynomial → Polynomial → Polynomial
add P Q = P ++ Q

unfoldable pub scale : ℕ → Polynomial → Polynomial
scale c P = map (λ t. record { coefficient = c * t.coefficient; exponents = t.exponents }) P

unfoldable pub difference : ℕ → Polynomial → Polynomial → Polynomial
difference p P Q = add P (scale (p - 1) Q)

unfoldable pub times_term : Term → Term → Term
times_term s t =
    record {
      coefficient = s.coefficient * t.coefficient;
      exponents = s.exponents ⊕ t.exponents;
    }

unfoldable pub mul : Polynomial → Polynomial → Polynomial
mul [] Q = []
mul (t ∷ P) Q = add (map (times_term t) Q) (mul P Q)

unfoldable pub power : Polynomial → ℕ → Polynomial
power P zero = one
power P (suc k) = mul P (power P k)

unfoldable pub add_below : ℕ → (ℕ → Polynomial) → Polynomial
add_below zero F = []
add_below (suc h) F = add (add_below h F) (F h)

-- ---- derivative and bracket

unfoldable pub lower : ℕ → Monomial → Monomial
lower i [] = []
lower zero (x ∷ a) = pred x ∷ a
lower (suc i) (x ∷ a) = x ∷ lower i a

unfoldable pub derivative : ℕ → Polynomial → Polynomial
derivative i P =
    map
    (λ t.
    record {
      coefficient = t.coefficient * exponent i t.exponents;
      exponents = lower i t.exponents;
    })
    P

-- one pair of the bracket: variable i is the odd one, variable j the even one
unfoldable pub pair_bracket : ℕ → ℕ → ℕ → Polynomial → Polynomial → Polynomial
pair_bracket p i j P Q =
    difference p (mul (derivative i P) (derivative j Q)) (mul (derivative j P) (derivative i Q))

-- pair k is that of the variables 2k and 2k + 1: the first is (x1, x2), the second (x3, x4)
unfoldable pub bracket : ℕ → ℕ → Polynomial → Polynomial → Polynomial
bracket p h P Q = add_below h (λ k. pair_bracket p (2 * k) (2 * k + 1) P Q)
