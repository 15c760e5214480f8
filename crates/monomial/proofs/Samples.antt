-- 01's starred places and its D1 and D2 for n 2, v 4, computed from the definitions.
use Rattle.std.proofs.Common.{◌≡◌, refl, [], ◌∷◌}
use Rattle.algebra.specs.Polynomial.{equal, order}
use Rattle.monomial.specs.Enumeration.{upto, only, tabulate, first_position}
use Rattle.monomial.specs.Count.{count, factorial, words, codes}
use Rattle.monomial.specs.Table.{digits, digit_sum, code, hit, of_order, block, monomial_of, monomials_of, monomials, position_of, C1, C2, D1, D2, product_place, table_words}

-- n 2, v 2: x1x2 is at position 5
position_of-2_2 : position_of 2 2 (1 ∷ 1 ∷ []) ≡ 5
unfolding position_of first_position monomials monomials_of monomial_of block of_order hit only upto digits digit_sum equal
position_of-2_2 = refl

-- n 2, v 4: x1x2 is at position 5, x2² at 6, x3 at 7
places-2_4 :
    position_of 2 4 (1 ∷ 1 ∷ 0 ∷ 0 ∷ []) ∷ position_of 2 4 (0 ∷ 2 ∷ 0 ∷ 0 ∷ []) ∷ position_of 2 4 (0 ∷ 0 ∷ 1 ∷ 0 ∷ []) ∷ []
    ≡ 5 ∷ 6 ∷ 7 ∷ []
unfolding position_of first_position monomials monomials_of monomial_of block of_order hit only upto digits digit_sum equal
places-2_4 = refl

D1-2_4 : tabulate (D1 2 4) 9 ≡ 1 ∷ 2 ∷ 4 ∷ 3 ∷ 5 ∷ 0 ∷ 6 ∷ 0 ∷ 0 ∷ []
unfolding D1 C1 code tabulate first_position monomials monomials_of monomial_of block of_order hit only upto digits digit_sum
D1-2_4 = refl

D2-2_4 : tabulate (D2 2 4) 9 ≡ 0 ∷ 6 ∷ 9 ∷ 10 ∷ 13 ∷ 0 ∷ 14 ∷ 0 ∷ 0 ∷ []
unfolding D2 C2 code tabulate first_position monomials monomials_of monomial_of block of_order hit only upto digits digit_sum
D2-2_4 = refl

-- x1² times x1 is above the order: its codes add to that of x2, and it has no place
no_carry_2_4 : product_place 2 4 (2 ∷ 0 ∷ 0 ∷ 0 ∷ []) (1 ∷ 0 ∷ 0 ∷ 0 ∷ []) ≡ 0
unfolding product_place order
no_carry_2_4 = refl

-- the whole table for n 2, v 2, of 18 words
table-2_2 : table_words 2 2 ≡
    0 ∷ 1 ∷ 2 ∷ 0 ∷ 1 ∷ 0 ∷ 0 ∷ 0 ∷ 0 ∷ 1 ∷ 1 ∷ 2 ∷ 1 ∷ 2 ∷ 3 ∷ 0 ∷ 3 ∷ 5 ∷ []
unfolding table_words codes C1 C2 D1 D2 code tabulate first_position monomials monomials_of monomial_of block of_order hit only upto digits digit_sum
table-2_2 = refl

counts : count 10 6 ∷ count 8 7 ∷ count 7 8 ∷ count 10 7 ∷ words 8 7 ∷ words 2 2 ∷ []
    ≡ 8008 ∷ 6435 ∷ 6435 ∷ 19448 ∷ 25992 ∷ 18 ∷ []
unfolding count factorial words codes
counts = refl
