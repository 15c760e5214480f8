-- The definitions computed on 01's samples, and on settings so small that all maps can be listed.
use Rattle.std.proofs.Common.{◌≡◌, refl, Bool, true, false, List, [], ◌∷◌, ℕ, ◌≤◌, arith, T, length}
use Rattle.algebra.specs.Sum.{sum_over}
use Rattle.algebra.specs.Polynomial.{◌⊕◌, order, trim_cons, trim, equal, same, indicator, weigh}
use Rattle.algebra.specs.Polynomial.{coefficient_of, constant, scale, times_term, mul, power}
use Rattle.algebra.specs.Polynomial.{difference, add_below}
use Rattle.algebra.specs.Substitution.{monomial_product, extend, substitute, compose, unit_of}
use Rattle.algebra.specs.Substitution.{variable, identity}
use Rattle.algebra.specs.Check.{agrees_map}
use Rattle.algebra.proofs.Coefficients.{same_to_agree}
use Rattle.algebra.proofs.Sound.{agrees_map_to_same}
use Rattle.residue.specs.Modulus.{modulus}
use Rattle.residue.proofs.Inverses.{prime_positive}
use Rattle.residue.proofs.Primality.{modulus-small, modulus-prime}
use Rattle.linear.specs.Matrix.{Matrix, range, square}
use Rattle.linear.specs.Determinant.{determinant, signed, taken, exchanges, below, choices}
use Rattle.linear.specs.Determinant.{each_first}
use Rattle.monomial.specs.Count.{count, factorial}
use Rattle.monomial.specs.Enumeration.{upto, only}
use Rattle.monomial.specs.Table.{digits, digit_sum, hit, of_order, block, monomial_of, monomials_of}
use Rattle.monomial.specs.Table.{monomials}
use Rattle.answer.specs.Refusals.{passed, declined}
use Rattle.series.specs.Arguments.{map_check, constant_check, argument_check, constants_check}
use Rattle.series.specs.Image.{entries, monomial_at, term_of, polynomial, component, map_of, entry_of}
use Rattle.series.specs.Image.{packed, image_of, image, map_image}
use Rattle.series.specs.Faults.{entry_is_good, word_is_good, fault_from, first_fault, series_check}
use Rattle.series.specs.Faults.{any_is_one, has_constant}
use Rattle.inversion.specs.Linear.{linear_part, determinant_of, singular_check}
use Rattle.inversion.specs.Undoing.{IsIdentity, UndoesAfter, UndoesBefore, composed}
use Rattle.inversion.specs.Undoing.{undoes_after, undoes_before}
use Rattle.inversion.specs.Inverse.{each, lists, series_with, map_with, fixing_maps, those}
use Rattle.inversion.specs.Inverse.{undoing_after, undoing_before, inverse}
use Rattle.inversion.specs.Turn.{combination, linear_map, turn}
use Rattle.inversion.proofs.Words.{checked_fixing, undoes_before-is}
use Rattle.inversion.proofs.Counting.{inverse-image, none_undo}

abbrev p : ℕ
p = 65521

-- opens every definition between words and numbers
unfoldable computing : Bool
unfolding sum_over ◌⊕◌ order trim_cons trim equal same indicator weigh coefficient_of constant scale times_term
    mul power difference add_below monomial_product extend substitute compose unit_of variable range square
    determinant signed taken exchanges below choices each_first modulus count factorial upto only digits
    digit_sum hit of_order block monomial_of monomials_of monomials entries monomial_at term_of polynomial
    component map_of entry_of packed image_of image map_image argument_check series_check first_fault fault_from
    word_is_good entry_is_good constants_check has_constant any_is_one linear_part determinant_of singular_check
    composed undoes_after undoes_before
computing = true

-- opens the lists of maps as well
unfoldable listing : Bool
unfolding computing each lists series_with map_with fixing_maps those undoing_after undoing_before
    inverse
listing = true

-- ---- linear parts

-- (256x1 + 14x2, x1 + 256x2)
abbrev regular : List ℕ
regular =
    2 ∷ 131328 ∷ 262158 ∷ 0 ∷ 0 ∷ 0 ∷ 0
    ∷ 2 ∷ 131073 ∷ 262400 ∷ 0 ∷ 0 ∷ 0 ∷ 0 ∷ []

-- (256x1 + 15x2, x1 + 256x2)
abbrev singular : List ℕ
singular =
    2 ∷ 131328 ∷ 262159 ∷ 0 ∷ 0 ∷ 0 ∷ 0
    ∷ 2 ∷ 131073 ∷ 262400 ∷ 0 ∷ 0 ∷ 0 ∷ 0 ∷ []

abbrev unused : List ℕ
unused = 0 ∷ 0 ∷ 0 ∷ 0 ∷ 0 ∷ 0 ∷ 0 ∷ 0 ∷ []

regular-part : linear_part p 2 (map_of 2 2 regular)
    ≡ (256 ∷ 14 ∷ 0 ∷ 0 ∷ 0 ∷ 0 ∷ 0 ∷ 0 ∷ [])
    ∷ (1 ∷ 256 ∷ 0 ∷ 0 ∷ 0 ∷ 0 ∷ 0 ∷ 0 ∷ [])
    ∷ unused ∷ unused ∷ unused ∷ unused ∷ unused ∷ unused ∷ []
unfolding computing
regular-part = refl

-- its determinant is 65,522, which is 1
regular-determinant : determinant_of p 2 (map_of 2 2 regular) ≡ 1
unfolding computing
regular-determinant = refl

regular-passes : singular_check p 2 2 regular ≡ passed
unfolding computing
regular-passes = refl

-- its determinant is 65,521: refused 9
singular-declined : singular_check p 2 2 singular ≡ declined 9 (0 ∷ [])
unfolding computing
singular-declined = refl

-- ---- undoing maps

-- n 2, v 1: 2x + 3x² and 32,761x + 24,570x²
abbrev f₁ : List ℕ
f₁ = 2 ∷ 131074 ∷ 196611 ∷ 0 ∷ []

abbrev g₁ : List ℕ
g₁ = 2 ∷ 163833 ∷ 221178 ∷ 0 ∷ []

undone_after_one_variable : undoes_after p 2 1 f₁ g₁ ≡ true
unfolding computing
undone_after_one_variable = refl

undone_before_one_variable : undoes_before p 2 1 f₁ g₁ ≡ true
unfolding computing
undone_before_one_variable = refl

-- n 2, v 2: (x1 + x2², x2) and (x1 + 65,520x2², x2)
abbrev f₂ : List ℕ
f₂ = 2 ∷ 131073 ∷ 393217 ∷ 0 ∷ 0 ∷ 0 ∷ 0 ∷ 1 ∷ 262145 ∷ 0 ∷ 0 ∷ 0 ∷ 0 ∷ 0 ∷ []

abbrev g₂ : List ℕ
g₂ = 2 ∷ 131073 ∷ 458736 ∷ 0 ∷ 0 ∷ 0 ∷ 0 ∷ 1 ∷ 262145 ∷ 0 ∷ 0 ∷ 0 ∷ 0 ∷ 0 ∷ []

undone_after_two_variables : undoes_after p 2 2 f₂ g₂ ≡ true
unfolding computing
undone_after_two_variables = refl

undone_before_two_variables : undoes_before p 2 2 f₂ g₂ ≡ true
unfolding computing
undone_before_two_variables = refl

-- only maps with a constant tell the two sides apart: with 1 + x + x² inner and 65,519 + 3x +
-- 65,520x² outer the composition is x, with the two exchanged it has the constant 3
abbrev f₃ : List ℕ
f₃ = 3 ∷ 65537 ∷ 131073 ∷ 196609 ∷ []

abbrev g₃ : List ℕ
g₃ = 3 ∷ 131055 ∷ 131075 ∷ 262128 ∷ []

after-has_f_inner : undoes_after p 2 1 f₃ g₃ ≡ true
unfolding computing
after-has_f_inner = refl

before-has_f_outer : undoes_before p 2 1 f₃ g₃ ≡ false
unfolding computing
before-has_f_outer = refl

identity-outer_inner : IsIdentity p 2 1 (compose (map_of 2 1 g₃) (map_of 2 1 f₃))
unfolding computing agrees_map
identity-outer_inner = record {
  component = λ i l.
      same_to_agree p 2 (agrees_map_to_same p 2 1 (compose (map_of 2 1 g₃) (map_of 2 1 f₃)) identity tt i l);
}

polynomials_after : UndoesAfter p 2 1 (map_of 2 1 f₃) (map_of 2 1 g₃)
polynomials_after = identity-outer_inner

polynomials_before : UndoesBefore p 2 1 (map_of 2 1 g₃) (map_of 2 1 f₃)
polynomials_before = identity-outer_inner

-- ---- all origin-fixing maps, listed

-- modulo 3, n 2, v 1: the nine maps a x + b x²
nine : length (fixing_maps 3 2 1) ≡ 9
unfolding listing
nine = refl

-- 2x + x² undoes itself, and no other map undoes it
abbrev f₄ : List ℕ
f₄ = 2 ∷ 131074 ∷ 196609 ∷ 0 ∷ []

listed-after : undoing_after 3 2 1 f₄ ≡ f₄ ∷ []
unfolding listing
listed-after = refl

listed-before : undoing_before 3 2 1 f₄ ≡ f₄ ∷ []
unfolding listing
listed-before = refl

-- x² has no linear part, and nothing undoes it
none_listed : undoing_after 3 2 1 (1 ∷ 196609 ∷ 0 ∷ 0 ∷ []) ≡ []
unfolding listing
none_listed = refl

-- modulo 2, n 1, v 2: (x1 + x2, x2) undoes itself
abbrev f₅ : List ℕ
f₅ = 2 ∷ 131073 ∷ 196609 ∷ 0 ∷ 1 ∷ 196609 ∷ 0 ∷ 0 ∷ []

inverse-of_two_components : inverse 2 1 2 f₅ ≡ f₅
unfolding listing
inverse-of_two_components = refl

-- ---- the samples of 01: the inverse, by the theorem

module _ (n v : ℕ) (f g : List ℕ) (some : 1 ≤ n) (few : v ≤ 8)
    (f-map : map_check modulus n v 1 f ≡ passed) (f-fixes : constant_check n v f ≡ passed)
    (g-map : map_check modulus n v 1 g ≡ passed) (g-fixes : constant_check n v g ≡ passed)
    (undoes : T (undoes_before modulus n v f g)) where
  inverse-is : inverse modulus n v f ≡ map_image modulus n v (map_of n v g)
  inverse-is =
      let F = checked_fixing modulus n v 1 f f-map f-fixes in
      let G = checked_fixing modulus n v 1 g g-map g-fixes in
      let small : modulus ≤ 65536 = omega (arith, modulus-small) in
      inverse-image modulus-prime small n v some few f F (map_of n v g) G
      ((undoes_before-is modulus n v (prime_positive modulus-prime) small f g F G).0 undoes)

-- 2x + 3x² inverts to 32,761x + 24,570x²
inverts_one_variable : inverse modulus 2 1 f₁ ≡ g₁
unfolding computing
inverts_one_variable =
    inverse-is 2 1 f₁ g₁ (omega arith) (omega arith) refl refl refl refl tt

-- (x1 + x2², x2) inverts to (x1 + 65,520x2², x2)
inverts_two_variables : inverse modulus 2 2 f₂ ≡ g₂
unfolding computing
inverts_two_variables =
    inverse-is 2 2 f₂ g₂ (omega arith) (omega arith) refl refl refl refl tt

-- (256x1 + 14x2, x1 + 256x2) is inverted
inverts_regular : inverse modulus 2 2 regular
    ≡ 2 ∷ 131328 ∷ 327651 ∷ 0 ∷ 0 ∷ 0 ∷ 0 ∷ 2 ∷ 196592 ∷ 262400 ∷ 0 ∷ 0 ∷ 0 ∷ 0 ∷ []
unfolding computing
inverts_regular =
    inverse-is 2 2 regular
    (2 ∷ 131328 ∷ 327651 ∷ 0 ∷ 0 ∷ 0 ∷ 0 ∷ 2 ∷ 196592 ∷ 262400 ∷ 0 ∷ 0 ∷ 0 ∷ 0 ∷ [])
    (omega arith) (omega arith) refl refl refl refl tt

-- nothing undoes (256x1 + 15x2, x1 + 256x2)
singular-undone_by_none : undoing_after modulus 2 2 singular ≡ []
unfolding computing
singular-undone_by_none =
    (none_undo modulus-prime (omega (arith, modulus-small)) 2 2 (omega arith) (omega arith) singular
    (checked_fixing modulus 2 2 1 singular refl refl) refl).0

-- ---- one turn, from the inverse 32,761 of the linear part 2

abbrev m₁ : Matrix
m₁ = (32761 ∷ []) ∷ []

one-turn : map_image p 2 1
    (turn p 1 m₁ (linear_map 1 m₁) (compose (map_of 2 1 f₁) (linear_map 1 m₁)))
    ≡ g₁
unfolding computing turn linear_map combination
one-turn = refl
