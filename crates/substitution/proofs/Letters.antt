-- A monomial and its letters say the same, up to exponents 0 at the end: the exponent of a
-- variable is how often its letter occurs. A monomial times a variable that none of its variables
-- comes after has that letter more at its end.
use Rattle.std.proofs.Common.{ℕ, zero, suc, ◌+◌, ◌≤◌, ◌<◌, ◌≡◌, refl, sym, ap, ap₂, ◌∙◌, List, [], ◌∷◌, ◌++◌, append_assoc, append-nil, add-zero, zero-add, suc-add, arith, T, eqb, length, length-append, eq-eqb, ne_eqb}
use Rattle.algebra.specs.Polynomial.{Monomial, ◌⊕◌, order, exponent, trim, trim_cons, same}
use Rattle.algebra.specs.Polynomial.{indicator}
use Rattle.algebra.specs.Substitution.{unit_of}
use Rattle.algebra.proofs.Monomials.{⊕-zero, exponent-⊕}
use Rattle.algebra.proofs.Trim.{same_to_trim, trim_to_same}
use Rattle.substitution.specs.Walk.{again, letters_from, letters}

-- no variable of m comes after variable l
pub record EndsBy (l : ℕ) (m : Monomial) : Type 0 where
  pub after : (i : ℕ) → l < i → exponent i m ≡ 0

pub ends_later : {l k : ℕ} {m : Monomial} → l ≤ k → EndsBy l m → EndsBy k m
ends_later h e = record { after = λ i u. e.after i (omega arith) }

-- ---- a monomial of order 0

pub exponent-none : (m : Monomial) → order m ≡ 0 → (i : ℕ) → exponent i m ≡ 0
unfolding order exponent
exponent-none [] h i = refl
exponent-none (x ∷ m) h zero = omega arith
exponent-none (x ∷ m) h (suc i) = exponent-none m (omega arith) i

pub letters-none : (i : ℕ) (m : Monomial) → ((j : ℕ) → exponent j m ≡ 0) → letters_from i m ≡ []
unfolding letters_from exponent again
letters-none i [] h = refl
letters-none i (x ∷ m) h =
    ap₂ (λ (y : ℕ) (u : List ℕ). again y i ++ u) (h 0) (letters-none (suc i) m (λ j. h (suc j)))

pub letters-origin : (m : Monomial) → order m ≡ 0 → letters m ≡ []
letters-origin m h = letters-none 0 m (exponent-none m h)

pub ends_origin : (l : ℕ) (m : Monomial) → order m ≡ 0 → EndsBy l m
ends_origin l m h = record { after = λ i u. exponent-none m h i }

-- ---- one letter more, at the end

letters-unit : (i k : ℕ) → letters_from i (unit_of k) ≡ (i + k) ∷ []
unfolding letters_from unit_of again
letters-unit i zero = ap (λ (x : ℕ). x ∷ []) (sym (add-zero i))
letters-unit i (suc k) = letters-unit (suc i) k ∙ ap (λ (x : ℕ). x ∷ []) (omega arith)

again-more : (x i : ℕ) → again (x + 1) i ≡ again x i ++ i ∷ []
unfolding again
again-more zero i = refl
again-more (suc x) i =
    ap (λ (z : ℕ). again z i) (suc-add x 1) ∙ ap (λ (u : List ℕ). i ∷ u) (again-more x i)

snoc-from : (i : ℕ) (m : Monomial) (k : ℕ) → EndsBy k m
    → letters_from i (m ⊕ unit_of k) ≡ letters_from i m ++ (i + k) ∷ []
unfolding letters_from unit_of ◌⊕◌ exponent
snoc-from i [] k e = letters-unit i k
snoc-from i (x ∷ m) zero e =
    let z : letters_from (suc i) m ≡ [] =
    letters-none (suc i) m (λ j. e.after (suc j) (omega arith)) in
    ap₂ (λ (u w : List ℕ). u ++ w) (again-more x i)
    (ap (letters_from (suc i)) (⊕-zero m) ∙ z)
    ∙ append-nil _
    ∙ ap₂ (λ (u : List ℕ) (y : ℕ). u ++ y ∷ []) (sym (append-nil (again x i))) (sym (add-zero i))
    ∙ ap (λ (u : List ℕ). (again x i ++ u) ++ (i + 0) ∷ []) (sym z)
snoc-from i (x ∷ m) (suc k) e =
    ap₂ (λ (z : ℕ) (u : List ℕ). again z i ++ u) (add-zero x)
    (snoc-from (suc i) m k (record { after = λ j u. e.after (suc j) (omega arith) }))
    ∙ sym (append_assoc (again x i) (letters_from (suc i) m) ((suc i + k) ∷ []))
    ∙ ap (λ (z : ℕ). (again x i ++ letters_from (suc i) m) ++ z ∷ []) (omega arith)

pub letters-snoc : (m : Monomial) (k : ℕ) → EndsBy k m
    → letters (m ⊕ unit_of k) ≡ letters m ++ k ∷ []
letters-snoc m k e =
    snoc-from 0 m k e ∙ ap (λ (z : ℕ). letters m ++ z ∷ []) (zero-add k)

exponent-unit : (k i : ℕ) → k < i → exponent i (unit_of k) ≡ 0
unfolding exponent unit_of
exponent-unit zero zero h = absurd (omega arith)
exponent-unit zero (suc i) h = refl
exponent-unit (suc k) zero h = refl
exponent-unit (suc k) (suc i) h = exponent-unit k i (omega arith)

pub ends_snoc : (m : Monomial) (k : ℕ) → EndsBy k m → EndsBy k (m ⊕ unit_of k)
ends_snoc m k e = record {
  after = λ i h. exponent-⊕ i m (unit_of k) ∙ omega (arith, e.after i h, exponent-unit k i h);
}

-- ---- as many letters as the order

length-again : (x i : ℕ) → length (again x i) ≡ x
unfolding again
length-again zero i = refl
length-again (suc x) i = ap suc (length-again x i)

pub length-letters : (i : ℕ) (m : Monomial) → length (letters_from i m) ≡ order m
unfolding letters_from order
length-letters i [] = refl
length-letters i (x ∷ m) =
    length-append (again x i) (letters_from (suc i) m)
    ∙ omega (arith, length-again x i, length-letters (suc i) m)

-- ---- the letters say the monomial

occurs : ℕ → List ℕ → ℕ
occurs i [] = 0
occurs i (j ∷ u) = indicator (eqb i j) + occurs i u

occurs_append : (i : ℕ) (u w : List ℕ) → occurs i (u ++ w) ≡ occurs i u + occurs i w
unfolding occurs
occurs_append i [] w = sym (zero-add _)
occurs_append i (j ∷ u) w = omega (arith, occurs_append i u w)

occurs_same : (x i : ℕ) → occurs i (again x i) ≡ x
unfolding occurs again indicator
occurs_same zero i = refl
occurs_same (suc x) i = rw (eq-eqb i i refl) (omega (arith, occurs_same x i))

occurs_other : (x i j : ℕ) → (i ≡ j → ⊥) → occurs i (again x j) ≡ 0
unfolding occurs again indicator
occurs_other zero i j n = refl
occurs_other (suc x) i j n = rw (ne_eqb i j n) (omega (arith, occurs_other x i j n))

occurs_earlier : (i j : ℕ) (m : Monomial) → i < j → occurs i (letters_from j m) ≡ 0
unfolding letters_from occurs
occurs_earlier i j [] l = refl
occurs_earlier i j (x ∷ m) l =
    occurs_append i (again x j) (letters_from (suc j) m)
    ∙ omega (arith, occurs_other x i j (omega arith), occurs_earlier i (suc j) m (omega arith))

occurs_letters : (i j : ℕ) (m : Monomial) → occurs (j + i) (letters_from j m) ≡ exponent i m
unfolding letters_from exponent occurs
occurs_letters i j [] = refl
occurs_letters zero j (x ∷ m) =
    ap (λ (z : ℕ). occurs z (again x j ++ letters_from (suc j) m)) (add-zero j)
    ∙ occurs_append j (again x j) (letters_from (suc j) m)
    ∙ omega (arith, occurs_same x j, occurs_earlier j (suc j) m (omega arith))
occurs_letters (suc i) j (x ∷ m) =
    let q : j + suc i ≡ suc j + i = omega arith in
    occurs_append (j + suc i) (again x j) (letters_from (suc j) m)
    ∙ ap₂ ◌+◌ (occurs_other x (j + suc i) j (λ r. omega arith))
    (ap (λ (z : ℕ). occurs z (letters_from (suc j) m)) q ∙ occurs_letters i (suc j) m)
    ∙ zero-add _

exponents_trim : (a b : Monomial) → ((i : ℕ) → exponent i a ≡ exponent i b) → trim a ≡ trim b
unfolding exponent trim trim_cons
exponents_trim [] [] h = refl
exponents_trim [] (y ∷ b) h = ap₂ trim_cons (h 0) (exponents_trim [] b (λ i. h (suc i)))
exponents_trim (x ∷ a) [] h = ap₂ trim_cons (h 0) (exponents_trim a [] (λ i. h (suc i)))
exponents_trim (x ∷ a) (y ∷ b) h = ap₂ trim_cons (h 0) (exponents_trim a b (λ i. h (suc i)))

pub letters-same : (a b : Monomial) → letters a ≡ letters b → T (same a b)
letters-same a b e =
    trim_to_same a b
    (exponents_trim a b
    (λ i. sym (occurs_letters i 0 a) ∙ ap (occurs (0 + i)) e ∙ occurs_letters i 0 b))

letters-trim_cons : (i x : ℕ) (c : Monomial)
    → letters_from i (trim_cons x c) ≡ again x i ++ letters_from (suc i) c
unfolding letters_from trim_cons again
letters-trim_cons i zero [] = refl
letters-trim_cons i (suc x) [] = refl
letters-trim_cons i x (y ∷ c) = refl

pub letters-trim : (i : ℕ) (a : Monomial) → letters_from i (trim a) ≡ letters_from i a
unfolding letters_from trim
letters-trim i [] = refl
letters-trim i (x ∷ a) =
    letters-trim_cons i x (trim a)
    ∙ ap (λ (u : List ℕ). again x i ++ u) (letters-trim (suc i) a)

pub same-letters : (a b : Monomial) → T (same a b) → letters a ≡ letters b
same-letters a b t =
    sym (letters-trim 0 a) ∙ ap letters (same_to_trim a b t) ∙ letters-trim 0 b
