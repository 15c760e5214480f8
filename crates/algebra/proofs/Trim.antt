-- Exponents that are left out at the end are 0: what depends on the monomial alone is the same
-- before and after `trim`.
use Rattle.std.proofs.Common.{ℕ, zero, suc, pred, ◌+◌, ◌≤◌, ◌≡◌, refl, sym, ap, ap₂, ◌∙◌, [], ◌∷◌, add-zero, arith, T, eqb, eqb→eq, length}
use Rattle.std.proofs.Math.Dec.{eqb_refl}
use Rattle.algebra.specs.Polynomial.{Monomial, ◌⊕◌, order, exponent, trim_cons, trim, equal}
use Rattle.algebra.specs.Polynomial.{same, lower}
use Rattle.algebra.specs.Substitution.{unit_of}
use Rattle.algebra.proofs.Booleans.{and_intro, and_left, and_right}
use Rattle.algebra.proofs.Monomials.{⊕-zero, exponents_eq}

-- ---- trim

trim-trim_cons : (x : ℕ) (c : Monomial) → trim (trim_cons x c) ≡ trim_cons x (trim c)
unfolding trim trim_cons
trim-trim_cons zero [] = refl
trim-trim_cons (suc x) [] = refl
trim-trim_cons x (y ∷ c) = refl

pub trim-trim : (a : Monomial) → trim (trim a) ≡ trim a
unfolding trim
trim-trim [] = refl
trim-trim (x ∷ a) = rw (trim-trim_cons, trim-trim a)

order-trim_cons : (x : ℕ) (c : Monomial) → order (trim_cons x c) ≡ x + order c
unfolding order trim_cons
order-trim_cons zero [] = refl
order-trim_cons (suc x) [] = refl
order-trim_cons x (y ∷ c) = refl

pub order-trim : (a : Monomial) → order (trim a) ≡ order a
unfolding order trim
order-trim [] = refl
order-trim (x ∷ a) = rw (order-trim_cons, order-trim a)

exponent-trim_cons : (i x : ℕ) (c : Monomial) → exponent i (trim_cons x c) ≡ exponent i (x ∷ c)
unfolding exponent trim_cons
exponent-trim_cons zero zero [] = refl
exponent-trim_cons (suc i) zero [] = refl
exponent-trim_cons i (suc x) [] = refl
exponent-trim_cons i x (y ∷ c) = refl

pub exponent-trim : (i : ℕ) (a : Monomial) → exponent i (trim a) ≡ exponent i a
unfolding exponent trim
exponent-trim i [] = refl
exponent-trim zero (x ∷ a) = exponent-trim_cons zero x (trim a)
exponent-trim (suc i) (x ∷ a) = exponent-trim_cons (suc i) x (trim a) ∙ exponent-trim i a

trim-⊕-cons : (x y : ℕ) (a c : Monomial)
    → trim ((x ∷ a) ⊕ trim_cons y c) ≡ trim_cons (x + y) (trim (a ⊕ c))
unfolding trim trim_cons ◌⊕◌
trim-⊕-cons x zero a [] = rw (add-zero, ⊕-zero)
trim-⊕-cons x (suc y) a [] = refl
trim-⊕-cons x y a (z ∷ c) = refl

pub trim-⊕ : (a b : Monomial) → trim (a ⊕ trim b) ≡ trim (a ⊕ b)
unfolding trim ◌⊕◌
trim-⊕ [] b = trim-trim b
trim-⊕ (x ∷ a) [] = refl
trim-⊕ (x ∷ a) (y ∷ b) = rw (trim-⊕-cons, trim-⊕ a b)

trim-lower_zero : (x : ℕ) (c : Monomial)
    → trim (lower zero (trim_cons x c)) ≡ trim_cons (pred x) (trim c)
unfolding trim trim_cons lower
trim-lower_zero zero [] = refl
trim-lower_zero (suc x) [] = refl
trim-lower_zero x (y ∷ c) = refl

trim-lower_suc : (i x : ℕ) (c : Monomial)
    → trim (lower (suc i) (trim_cons x c)) ≡ trim_cons x (trim (lower i c))
unfolding trim trim_cons lower
trim-lower_suc i zero [] = refl
trim-lower_suc i (suc x) [] = refl
trim-lower_suc i x (y ∷ c) = refl

pub trim-lower : (i : ℕ) (a : Monomial) → trim (lower i (trim a)) ≡ trim (lower i a)
unfolding trim lower
trim-lower i [] = refl
trim-lower zero (x ∷ a) =
    trim-lower_zero x (trim a) ∙ ap (trim_cons (pred x)) (trim-trim a)
trim-lower (suc i) (x ∷ a) =
    trim-lower_suc i x (trim a) ∙ ap (trim_cons x) (trim-lower i a)

pub trim-order_zero : (m : Monomial) → order m ≤ 0 → trim m ≡ []
unfolding order trim trim_cons
trim-order_zero [] h = refl
trim-order_zero (zero ∷ m) h = rw (trim-order_zero m (omega arith))
trim-order_zero (suc x ∷ m) h = absurd (omega arith)

pub trim-unit : (i : ℕ) → trim (unit_of i) ≡ unit_of i
unfolding trim trim_cons unit_of
trim-unit zero = refl
trim-unit (suc zero) = refl
trim-unit (suc (suc i)) = rw (trim-unit (suc i))

-- ---- the same monomial

pub equal-refl : (a : Monomial) → T (equal a a)
unfolding equal
equal-refl [] = tt
equal-refl (x ∷ a) = and_intro (eqb x x) (equal a a) (eqb_refl x) (equal-refl a)

pub equal_to_eq : (a b : Monomial) → T (equal a b) → a ≡ b
unfolding equal
equal_to_eq [] [] t = refl
equal_to_eq (x ∷ a) (y ∷ b) t =
    ap₂ ◌∷◌ (eqb→eq x y (and_left (eqb x y) _ t)) (equal_to_eq a b (and_right (eqb x y) _ t))
equal_to_eq [] (y ∷ b) t = elim t [ ]
equal_to_eq (x ∷ a) [] t = elim t [ ]

pub same_to_trim : (a b : Monomial) → T (same a b) → trim a ≡ trim b
unfolding same
same_to_trim a b t = equal_to_eq (trim a) (trim b) t

pub trim_to_same : (a b : Monomial) → trim a ≡ trim b → T (same a b)
unfolding same
trim_to_same a b e = rw e (equal-refl (trim b))

pub same_refl : (a : Monomial) → T (same a a)
same_refl a = trim_to_same a a refl

pub same-sym : (a b : Monomial) → T (same a b) → T (same b a)
same-sym a b t = trim_to_same b a (sym (same_to_trim a b t))

pub same-order : (a b : Monomial) → T (same a b) → order a ≡ order b
same-order a b t = cc (order-trim a, order-trim b, same_to_trim a b t)

pub same-eq : (a b : Monomial) → length a ≡ length b → T (same a b) → a ≡ b
same-eq a b l t =
    exponents_eq a b l (λ i. cc (exponent-trim i a, exponent-trim i b, same_to_trim a b t))
