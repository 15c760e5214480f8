-- When two polynomials are the same series: the same modulo p, after the cut at an order.
--
-- Glossary
--   Same p n P Q      equal coefficients modulo p at every monomial of order at most n: the same
--                     series of order n; this is the form to read
--   Test p k φ        a weight of monomials that vanishes modulo p from order k on
--   Agree p k P Q     equal modulo p at every such weight: the same up to order k − 1; this is the
--                     form that proofs use, and `Agree p (n + 1)` is `Same p n`
--   AgreeMap p k f g  the components agree one by one
--   FromOrder p k P   no term of order below k, modulo p
--   OriginFixing p f  no component has a constant entry, modulo p; 01, "The operations"
--   Within v P        no monomial of P has more than v exponents
--   UpTo n P          no monomial of P is of order above n
--   P ≐ Q             exactly the same polynomial: every weight of monomials weighs both the same
use Rattle.std.specs.Prelude.{ℕ, ◌%◌, ◌≤◌, ◌≡◌, [], ◌∷◌, length}
use Rattle.algebra.specs.Polynomial.{Monomial, Polynomial, order, trim, weigh, coefficient_of}
use Rattle.algebra.specs.Substitution.{Map}

pub record Same (p n : ℕ) (P Q : Polynomial) : Type 0 where
  pub at_low : (m : Monomial) → order m ≤ n → coefficient_of m P % p ≡ coefficient_of m Q % p

infix 40 ◌≐◌
abbrev pub ◌≐◌ : Polynomial → Polynomial → Type 0
P ≐ Q = weigh P ≡ weigh Q

pub record Test (p k : ℕ) (φ : Monomial → ℕ) : Type 0 where
  pub trimmed : (m : Monomial) → φ (trim m) ≡ φ m
  pub high : (m : Monomial) → k ≤ order m → φ m % p ≡ 0 % p

pub record Agree (p k : ℕ) (P Q : Polynomial) : Type 0 where
  pub tested : (φ : Monomial → ℕ) → Test p k φ → weigh P φ % p ≡ weigh Q φ % p

abbrev pub AgreeMap : ℕ → ℕ → Map → Map → Type 0
AgreeMap p k f g = (i : ℕ) → Agree p k (f i) (g i)

abbrev pub FromOrder : ℕ → ℕ → Polynomial → Type 0
FromOrder p k P = Agree p k P []

abbrev pub OriginFixing : ℕ → Map → Type 0
OriginFixing p f = (i : ℕ) → FromOrder p 1 (f i)

abbrev pub Within : ℕ → Polynomial → Type 0
Within v [] = Unit {0}
Within v (t ∷ P) = (length t.exponents ≤ v) × Within v P

abbrev pub UpTo : ℕ → Polynomial → Type 0
UpTo n [] = Unit {0}
UpTo n (t ∷ P) = (order t.exponents ≤ n) × UpTo n P
