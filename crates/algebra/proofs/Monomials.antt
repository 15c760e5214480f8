-- Laws of monomials: by induction on the lists of exponents.
use Rattle.std.proofs.Common.{ℕ, zero, suc, ◌+◌, ◌*◌, ◌≤◌, ◌<◌, ◌≡◌, refl, sym, ap, ap₂, [], ◌∷◌, add_assoc, add_comm, add-zero, zero-add, mul_comm, arith, length}
use Rattle.std.proofs.Math.Nat.{suc_inj}
use Rattle.algebra.specs.Polynomial.{Monomial, ◌⊕◌, order, exponent, lower}
use Rattle.algebra.specs.Substitution.{unit_of}

-- ---- the product

pub ⊕-zero : (a : Monomial) → a ⊕ [] ≡ a
unfolding ◌⊕◌
⊕-zero [] = refl
⊕-zero (x ∷ a) = refl

pub zero-⊕ : (a : Monomial) → [] ⊕ a ≡ a
unfolding ◌⊕◌
zero-⊕ a = refl

pub ⊕-comm : (a b : Monomial) → a ⊕ b ≡ b ⊕ a
unfolding ◌⊕◌
⊕-comm [] b = sym (⊕-zero b)
⊕-comm (x ∷ a) [] = refl
⊕-comm (x ∷ a) (y ∷ b) = ap₂ ◌∷◌ (add_comm x y) (⊕-comm a b)

pub ⊕-assoc : (a b c : Monomial) → a ⊕ b ⊕ c ≡ a ⊕ (b ⊕ c)
unfolding ◌⊕◌
⊕-assoc [] b c = refl
⊕-assoc (x ∷ a) [] c = refl
⊕-assoc (x ∷ a) (y ∷ b) [] = refl
⊕-assoc (x ∷ a) (y ∷ b) (z ∷ c) = ap₂ ◌∷◌ (add_assoc x y z) (⊕-assoc a b c)

pub order-⊕ : (a b : Monomial) → order (a ⊕ b) ≡ order a + order b
unfolding ◌⊕◌ order
order-⊕ [] b = sym (zero-add _)
order-⊕ (x ∷ a) [] = sym (add-zero _)
order-⊕ (x ∷ a) (y ∷ b) = omega (arith, order-⊕ a b)

pub exponent-⊕ : (i : ℕ) (a b : Monomial) → exponent i (a ⊕ b) ≡ exponent i a + exponent i b
unfolding exponent ◌⊕◌
exponent-⊕ i [] b = sym (zero-add _)
exponent-⊕ i (x ∷ a) [] = sym (add-zero _)
exponent-⊕ zero (x ∷ a) (y ∷ b) = refl
exponent-⊕ (suc i) (x ∷ a) (y ∷ b) = exponent-⊕ i a b

pub length-⊕ : (v : ℕ) (a b : Monomial) → length a ≤ v → length b ≤ v → length (a ⊕ b) ≤ v
unfolding ◌⊕◌
length-⊕ v [] b g h = h
length-⊕ v (x ∷ a) [] g h = g
length-⊕ zero (x ∷ a) (y ∷ b) g h = absurd (omega arith)
length-⊕ (suc v) (x ∷ a) (y ∷ b) g h =
    omega (arith, length-⊕ v a b (omega arith) (omega arith))

-- as many exponents, and the same ones
pub exponents_eq : (a b : Monomial) → length a ≡ length b
    → ((i : ℕ) → exponent i a ≡ exponent i b) → a ≡ b
unfolding exponent
exponents_eq [] [] l h = refl
exponents_eq [] (y ∷ b) l h = absurd (omega arith)
exponents_eq (x ∷ a) [] l h = absurd (omega arith)
exponents_eq (x ∷ a) (y ∷ b) l h =
    ap₂ ◌∷◌ (h 0) (exponents_eq a b (suc_inj l) (λ i. h (suc i)))

-- ---- one exponent made less

pub order-lower : (i : ℕ) (a : Monomial) → 0 < exponent i a → suc (order (lower i a)) ≡ order a
unfolding order exponent lower
order-lower i [] h = absurd (omega arith)
order-lower zero (x ∷ a) h = omega arith
order-lower (suc i) (x ∷ a) h = omega (arith, order-lower i a h)

pub length-lower : (i : ℕ) (a : Monomial) → length (lower i a) ≡ length a
unfolding lower
length-lower i [] = refl
length-lower zero (x ∷ a) = refl
length-lower (suc i) (x ∷ a) = ap suc (length-lower i a)

pub lower-⊕ : (i : ℕ) (a b : Monomial) → 0 < exponent i a → lower i (a ⊕ b) ≡ lower i a ⊕ b
unfolding exponent lower ◌⊕◌
lower-⊕ i [] b h = absurd (omega arith)
lower-⊕ zero (x ∷ a) [] h = refl
lower-⊕ (suc i) (x ∷ a) [] h = refl
lower-⊕ zero (x ∷ a) (y ∷ b) h = ap (λ (z : ℕ). z ∷ (a ⊕ b)) (omega arith)
lower-⊕ (suc i) (x ∷ a) (y ∷ b) h = ap (λ (c : Monomial). (x + y) ∷ c) (lower-⊕ i a b h)

pub lower-lower : (i j : ℕ) (a : Monomial) → lower i (lower j a) ≡ lower j (lower i a)
unfolding lower
lower-lower i j [] = refl
lower-lower zero zero (x ∷ a) = refl
lower-lower zero (suc j) (x ∷ a) = refl
lower-lower (suc i) zero (x ∷ a) = refl
lower-lower (suc i) (suc j) (x ∷ a) = ap (λ (c : Monomial). x ∷ c) (lower-lower i j a)

-- the factor of a second derivative does not depend on which variable goes first
pub exponent-lower : (i j : ℕ) (a : Monomial)
    → exponent i a * exponent j (lower i a) ≡ exponent j a * exponent i (lower j a)
unfolding exponent lower
exponent-lower i j [] = refl
exponent-lower zero zero (x ∷ a) = refl
exponent-lower zero (suc j) (x ∷ a) = mul_comm _ _
exponent-lower (suc i) zero (x ∷ a) = mul_comm _ _
exponent-lower (suc i) (suc j) (x ∷ a) = exponent-lower i j a

-- ---- a variable alone

pub order-unit : (i : ℕ) → order (unit_of i) ≡ 1
unfolding order unit_of
order-unit zero = refl
order-unit (suc i) = omega (arith, order-unit i)

pub length-unit : (i : ℕ) → length (unit_of i) ≡ suc i
unfolding unit_of
length-unit zero = refl
length-unit (suc i) = ap suc (length-unit i)

pub unit-inj : (i j : ℕ) → unit_of i ≡ unit_of j → i ≡ j
unfolding unit_of
unit-inj zero zero e = refl
unit-inj zero (suc j) e = cc
unit-inj (suc i) zero e = cc
unit-inj (suc i) (suc j) e = ap suc (unit-inj i j (cc))
