-- Codes and their digits: a code of exponents whose order is below the base has those exponents as its
-- digits, and the code of a product is the sum of the codes, since a code is a weighted sum (002, 9 and 12).
use Rattle.std.proofs.Common.{◌≡◌, refl, sym, ap, ap₂, ◌∙◌, List, [], ◌∷◌, ◌++◌, ℕ, zero, suc, ◌+◌, ◌*◌, ◌/◌, ◌%◌, ◌^◌, ◌<◌, pow-suc, zero-add, div-add-mod', div-lt_iff_lt-mul, arith, length, take, drop}
use Rattle.std.proofs.Math.Nat.{pow-zero, zero-mod, zero-div}
use Rattle.std.proofs.Math.Arith.{digits_div, digits_mod, digits_lt}
use Rattle.algebra.specs.Polynomial.{Monomial, order, ◌⊕◌}
use Rattle.algebra.proofs.Monomials.{⊕-zero}
use Rattle.monomial.specs.Table.{digits, digit_sum, code}

pub length_digits : (b h c : ℕ) → length (digits b h c) ≡ h
unfolding digits
length_digits b zero c = refl
length_digits b (suc h) c = ap suc (length_digits b h (c / b))

pub order-digits : (b h c : ℕ) → order (digits b h c) ≡ digit_sum b h c
unfolding digits order digit_sum
order-digits b zero c = refl
order-digits b (suc h) c = ap (λ (z : ℕ). c % b + z) (order-digits b h (c / b))

pub digit_sum-zero : (b h : ℕ) → digit_sum b h 0 ≡ 0
unfolding digit_sum
digit_sum-zero b zero = refl
digit_sum-zero b (suc h) =
    ap₂ (λ (x y : ℕ). x + digit_sum b h y) (zero-mod b) (zero-div b) ∙ omega (arith, digit_sum-zero b h)

pub digit_sum-suc : (b h c : ℕ) → digit_sum b (suc h) c ≡ c % b + digit_sum b h (c / b)
unfolding digit_sum
digit_sum-suc b h c = refl

pub order-append : (s t : Monomial) → order (s ++ t) ≡ order s + order t
unfolding order
order-append [] t = omega arith
order-append (i ∷ s) t = omega (arith, order-append s t)

-- the code of exponents, its digit sum and its size
pub code-order : (b : ℕ) (es : Monomial) → order es < b
    → (digit_sum b (length es) (code b es) ≡ order es) × (code b es < b ^ length es)
unfolding code order digit_sum
code-order b [] l = (refl, omega (arith, pow-zero b))
code-order b (i ∷ es) l =
    let ih = code-order b es (omega arith) in
    let li : i < b = omega arith in
    let sum : ℕ → ℕ → ℕ = λ x y. x + digit_sum b (length es) y in (
      ap₂ sum (digits_mod (code b es) li) (digits_div (code b es) li) ∙ omega (arith, ih.0),
      rw pow-suc (digits_lt ih.1 li),
    )

pub digits-code : (b : ℕ) (es : Monomial) → order es < b → digits b (length es) (code b es) ≡ es
unfolding digits code order
digits-code b [] l = refl
digits-code b (i ∷ es) l =
    let li : i < b = omega arith in
    ap₂ (λ (x y : ℕ). x ∷ digits b (length es) y) (digits_mod (code b es) li) (digits_div (code b es) li)
    ∙ ap (λ (z : List ℕ). i ∷ z) (digits-code b es (omega arith))

pub code-digits : (b h c : ℕ) → zero < b → c < b ^ h → code b (digits b h c) ≡ c
unfolding digits code
code-digits b zero c p l = omega (arith, pow-zero b)
code-digits b (suc h) c p l =
    ap (λ (z : ℕ). z * b + c % b) (code-digits b h (c / b) p ((div-lt_iff_lt-mul p).1 (rw pow-suc at l)))
    ∙ div-add-mod' c b

-- a code is a weighted sum of the exponents, so codes add where exponents do
pub code-⊕ : (b : ℕ) (s t : Monomial) → code b (s ⊕ t) ≡ code b s + code b t
unfolding code ◌⊕◌
code-⊕ b [] t = sym (zero-add (code b t))
code-⊕ b (x ∷ s) [] = omega arith
code-⊕ b (x ∷ s) (y ∷ t) = omega (arith, ap (λ (z : ℕ). z * b) (code-⊕ b s t))

pub take-⊕ : (h : ℕ) (s t : Monomial) → take h (s ⊕ t) ≡ take h s ⊕ take h t
unfolding ◌⊕◌
take-⊕ zero s t = refl
take-⊕ (suc h) [] t = refl
take-⊕ (suc h) (x ∷ s) [] = refl
take-⊕ (suc h) (x ∷ s) (y ∷ t) = ap (λ (z : List ℕ). (x + y) ∷ z) (take-⊕ h s t)

pub drop-⊕ : (h : ℕ) (s t : Monomial) → drop h (s ⊕ t) ≡ drop h s ⊕ drop h t
unfolding ◌⊕◌
drop-⊕ zero s t = refl
drop-⊕ (suc h) [] t = refl
drop-⊕ (suc h) (x ∷ s) [] = sym (⊕-zero (drop h s))
drop-⊕ (suc h) (x ∷ s) (y ∷ t) = drop-⊕ h s t

pub length-⊕ : (s t : Monomial) → length s ≡ length t → length (s ⊕ t) ≡ length t
unfolding ◌⊕◌
length-⊕ [] t e = refl
length-⊕ (x ∷ s) [] e = absurd (omega arith)
length-⊕ (x ∷ s) (y ∷ t) e = ap suc (length-⊕ s t (omega arith))
