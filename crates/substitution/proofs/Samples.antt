-- Small cases, computed from the definitions: x1²x2 and its beginnings, and the walk for x1² with
-- (x1 + x2, x2) put in, which is 01's sample of substitution.
use Rattle.std.proofs.Common.{◌≡◌, refl, true, false, [], ◌∷◌}
use Rattle.algebra.specs.Polynomial.{Monomial, Polynomial, order, coefficient_of, constant, one, add}
use Rattle.algebra.specs.Agreement.{Same}
use Rattle.algebra.specs.Check.{term, map_of_list, agrees}
use Rattle.algebra.proofs.Sound.{agrees_to_same}
use Rattle.monomial.specs.Enumeration.{only}
use Rattle.substitution.specs.Walk.{again, letters_from, letters, begins, begun, beginning}
use Rattle.substitution.specs.Walk.{low_terms, shorter, visit, walk}

-- x1²x2
abbrev m : Monomial
m = 2 ∷ 1 ∷ []

letters-sample : letters m ≡ 0 ∷ 0 ∷ 1 ∷ []
unfolding letters_from again
letters-sample = refl

-- its beginnings one and two letters shorter are x1² and x1
shorter-sample : shorter m ≡ 2 ∷ 0 ∷ []
unfolding shorter order
shorter-sample = refl

shorter-again_sample : shorter (2 ∷ 0 ∷ []) ≡ 1 ∷ 0 ∷ []
unfolding shorter order
shorter-again_sample = refl

-- x1² begins x1²x2; x1x2 and x2 do not, and the constant is of no letter
begins-sample : beginning (term 5 m ∷ []) (2 ∷ 0 ∷ []) ≡ true
unfolding beginning begun begins letters_from again order
begins-sample = refl

skips_a_letter_sample : beginning (term 5 m ∷ []) (1 ∷ 1 ∷ []) ≡ false
unfolding beginning begun begins letters_from again order
skips_a_letter_sample = refl

last_letter_sample : beginning (term 5 m ∷ []) (0 ∷ 1 ∷ []) ≡ false
unfolding beginning begun begins letters_from again order
last_letter_sample = refl

constant-sample : beginning (term 5 m ∷ []) (0 ∷ 0 ∷ []) ≡ false
unfolding beginning begun begins letters_from again order
constant-sample = refl

-- of 5x1²x2 + 7x2, up to order 2, the term 7x2 is left
low-terms_sample : low_terms 2 (term 5 m ∷ term 7 (0 ∷ 1 ∷ []) ∷ []) ≡ term 7 (0 ∷ 1 ∷ []) ∷ []
unfolding low_terms only order
low-terms_sample = refl

-- x1² with (x1 + x2, x2) put in is x1² + 2x1x2 + x2²
abbrev square : Polynomial
square = term 1 (2 ∷ 0 ∷ []) ∷ []

walk-sample : Same 65521 2
    (add (constant (coefficient_of [] square))
    (walk (λ d. coefficient_of d square) (begun square)
    (map_of_list ((term 1 (1 ∷ []) ∷ term 1 (0 ∷ 1 ∷ []) ∷ []) ∷ (term 1 (0 ∷ 1 ∷ []) ∷ []) ∷ [])) 2 2 0
    [] one))
    (term 1 (2 ∷ []) ∷ term 2 (1 ∷ 1 ∷ []) ∷ term 1 (0 ∷ 2 ∷ []) ∷ [])
unfolding agrees walk visit only begun begins letters_from again
walk-sample = agrees_to_same 65521 2 _ _ tt
