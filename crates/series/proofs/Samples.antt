-- Images and refusals 7 and 8 of 01's examples, computed from the definitions.
use Rattle.std.proofs.Common.{◌≡◌, refl, [], ◌∷◌}
use Rattle.algebra.specs.Sum.{sum_over}
use Rattle.algebra.specs.Polynomial.{mul, times_term, weigh, coefficient_of, same, equal, trim, trim_cons, indicator, order, ◌⊕◌}
use Rattle.monomial.specs.Count.{count, factorial}
use Rattle.monomial.specs.Enumeration.{upto, only}
use Rattle.monomial.specs.Table.{digits, digit_sum, hit, of_order, block, monomial_of, monomials_of, monomials}
use Rattle.answer.specs.Refusals.{declined}
use Rattle.series.specs.Arguments.{constant_check, constants_check}
use Rattle.series.specs.Image.{entries, monomial_at, term_of, polynomial, component, entry_of, packed, image_of, image, pair_count}
use Rattle.series.specs.Faults.{entry_is_good, word_is_good, fault_from, first_fault, series_check, any_is_one, has_constant}

-- 7: n 2, v 2 (N 6): 2, 196,609, 196,609, zeros: argument 1, component 1, word 2
repeated_position : series_check 65521 6 1 1 (2 ∷ 196609 ∷ 196609 ∷ 0 ∷ 0 ∷ 0 ∷ 0 ∷ []) ≡ declined 7 (1 ∷ 1 ∷ 2 ∷ [])
unfolding series_check first_fault fault_from word_is_good entry_is_good
repeated_position = refl

-- 8: n 2, v 2: (1 + x1, x2) has a constant in component 1
constant-first :
    constant_check 2 2 (2 ∷ 65537 ∷ 131073 ∷ 0 ∷ 0 ∷ 0 ∷ 0 ∷ 1 ∷ 262145 ∷ 0 ∷ 0 ∷ 0 ∷ 0 ∷ 0 ∷ []) ≡ declined 8 (1 ∷ [])
unfolding constants_check has_constant any_is_one entries component upto count factorial
constant-first = refl

-- n 2, v 1: (1 + x)(1 + 65,520 x) = 1 + 65,520 x²: two entries, none for x; 4 pairs
cancelled :
    image 65521 2 1 (mul (polynomial 2 1 (2 ∷ 65537 ∷ 131073 ∷ 0 ∷ [])) (polynomial 2 1 (2 ∷ 65537 ∷ 196592 ∷ 0 ∷ [])))
    ≡ 2 ∷ 65537 ∷ 262128 ∷ 0 ∷ []
unfolding image image_of packed entry_of polynomial entries term_of monomial_at coefficient_of weigh mul times_term same equal trim trim_cons indicator ◌⊕◌ count factorial upto only digits digit_sum hit of_order block monomial_of monomials_of monomials sum_over
cancelled = refl

pairs : pair_count 2 (polynomial 2 1 (2 ∷ 65537 ∷ 131073 ∷ 0 ∷ [])) (polynomial 2 1 (2 ∷ 65537 ∷ 131073 ∷ 0 ∷ [])) ≡ 4
unfolding pair_count polynomial entries term_of monomial_at order indicator upto only digits digit_sum hit of_order block monomial_of monomials_of monomials sum_over
pairs = refl
