-- A test that computes `Same`, for worked samples: its unfolding opens every operation.
--
-- Glossary
--   term c e            the term with coefficient c and exponents e
--   map_of_list fs      the map with the listed components, and zero beyond them
--   monomials_in P      the monomials of the terms of P
--   all_same p n s P Q  equal coefficients modulo p at the monomials of s of order at most n
--   agrees p n P Q      the test of `Same p n P Q`: only monomials of P and Q are looked at
--   agrees_map p n v f g the same for the first v components of two maps
use Rattle.std.specs.Prelude.{ℕ, zero, suc, ◌%◌, Bool, true, ◌&&◌, ◌||◌, List, [], ◌∷◌, ◌++◌, map, eqb, ltb, get_or}
use Rattle.algebra.specs.Sum.{sum_over}
use Rattle.algebra.specs.Polynomial.{Monomial, Term, Polynomial, ◌⊕◌, order, exponent}
use Rattle.algebra.specs.Polynomial.{trim_cons, trim, equal, same, indicator, weigh}
use Rattle.algebra.specs.Polynomial.{coefficient_of, constant, scale, difference, times_term}
use Rattle.algebra.specs.Polynomial.{mul, power, add_below, lower, derivative, pair_bracket}
use Rattle.algebra.specs.Polynomial.{bracket}
use Rattle.algebra.specs.Substitution.{Map, monomial_product, extend, substitute, compose}
use Rattle.algebra.specs.Substitution.{unit_of, variable}

abbrev pub term : ℕ → Monomial → Term
term c e = record { coefficient = c; exponents = e }

abbrev pub map_of_list : List Polynomial → Map
map_of_list fs i = get_or fs i []

unfoldable pub monomials_in : Polynomial → List Monomial
monomials_in P = map (λ t. t.exponents) P

unfoldable pub all_same : ℕ → ℕ → List Monomial → Polynomial → Polynomial → Bool
all_same p n [] P Q = true
all_same p n (m ∷ s) P Q =
    (ltb n (order m) || eqb (coefficient_of m P % p) (coefficient_of m Q % p)) && all_same p n s P Q

unfoldable pub agrees : ℕ → ℕ → Polynomial → Polynomial → Bool
unfolding sum_over ◌⊕◌ order exponent trim_cons trim equal same indicator weigh coefficient_of
    constant scale difference times_term mul power add_below lower derivative pair_bracket bracket
    monomial_product extend substitute compose unit_of variable monomials_in all_same
agrees p n P Q = all_same p n (monomials_in P ++ monomials_in Q) P Q

unfoldable pub agrees_map : ℕ → ℕ → ℕ → Map → Map → Bool
unfolding agrees
agrees_map p n zero f g = true
agrees_map p n (suc v) f g = agrees_map p n v f g && agrees p n (f v) (g v)
