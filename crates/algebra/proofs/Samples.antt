-- The worked samples of 01 that are about polynomials, computed from the definitions: each is the
-- test of `Same`, run by the checker. 65,521 is the modulus of these samples.
use Rattle.std.proofs.Common.{ℕ, ◌<◌, [], ◌∷◌}
use Rattle.algebra.specs.Polynomial.{Polynomial, add, scale, mul, derivative, bracket, one}
use Rattle.algebra.specs.Substitution.{Map, substitute, compose, variable, identity}
use Rattle.algebra.specs.Agreement.{Same}
use Rattle.algebra.specs.Check.{term, map_of_list, agrees, agrees_map}
use Rattle.algebra.proofs.Sound.{agrees_to_same, agrees_map_to_same}

abbrev p : ℕ
p = 65521

-- c x1^i x2^j
abbrev monomial : ℕ → ℕ → ℕ → Polynomial
monomial c i j = term c (i ∷ j ∷ []) ∷ []

abbrev x₁ : Polynomial
x₁ = monomial 1 1 0

abbrev x₂ : Polynomial
x₂ = monomial 1 0 1

-- ---- product

-- (1 + x)(1 + x) = 1 + 2x + x²
square-of_one_plus_x : Same p 2 (mul (add one x₁) (add one x₁))
    (add one (add (scale 2 x₁) (monomial 1 2 0)))
unfolding agrees
square-of_one_plus_x = agrees_to_same p 2 _ _ tt

-- the same cut at order 1 is 1 + 2x
square-cut_at_order_one : Same p 1 (mul (add one x₁) (add one x₁)) (add one (scale 2 x₁))
unfolding agrees
square-cut_at_order_one = agrees_to_same p 1 _ _ tt

-- (1 + x)(1 + 65,520x) = 1 + 65,520x²
product-cancels : Same p 2 (mul (add one x₁) (add one (scale 65520 x₁)))
    (add one (monomial 65520 2 0))
unfolding agrees
product-cancels = agrees_to_same p 2 _ _ tt

-- x · x is zero at order 1
product-above_the_order : Same p 1 (mul x₁ x₁) []
unfolding agrees
product-above_the_order = agrees_to_same p 1 _ _ tt

-- ---- derivative and bracket

-- the derivative of x1² in x1 is 2 x1
derivative-of_square : Same p 2 (derivative 0 (monomial 1 2 0)) (scale 2 x₁)
unfolding agrees
derivative-of_square = agrees_to_same p 2 _ _ tt

-- the bracket of x1² and x2² is 4 x1 x2
bracket-of_squares : Same p 2 (bracket p 1 (monomial 1 2 0) (monomial 1 0 2)) (monomial 4 1 1)
unfolding agrees
bracket-of_squares = agrees_to_same p 2 _ _ tt

-- with four variables the pairs are (x1, x2) and (x3, x4)
bracket-of_second_pair : Same p 2 (bracket p 2 (variable 2) (variable 3)) one
unfolding agrees
bracket-of_second_pair = agrees_to_same p 2 _ _ tt

bracket-across_pairs : Same p 2 (bracket p 2 (variable 0) (variable 2)) []
unfolding agrees
bracket-across_pairs = agrees_to_same p 2 _ _ tt

-- the two exchanged: −4 x1 x2
bracket-exchanged : Same p 2 (bracket p 1 (monomial 1 0 2) (monomial 1 2 0)) (monomial 65517 1 1)
unfolding agrees
bracket-exchanged = agrees_to_same p 2 _ _ tt

-- ---- substitution

-- x1² with (x1 + x2, x2) substituted is x1² + 2 x1 x2 + x2²
substitute-into_square : Same p 2 (substitute (monomial 1 2 0) (map_of_list (add x₁ x₂ ∷ x₂ ∷ [])))
    (add (monomial 1 2 0) (add (monomial 2 1 1) (monomial 1 0 2)))
unfolding agrees
substitute-into_square = agrees_to_same p 2 _ _ tt

-- ---- inverses

-- 2x + 3x² and 32,761x + 24,570x²
abbrev f : Map
f = map_of_list (add (scale 2 x₁) (monomial 3 2 0) ∷ [])

abbrev f⁻¹ : Map
f⁻¹ = map_of_list (add (scale 32761 x₁) (monomial 24570 2 0) ∷ [])

undone_before_one_variable : (i : ℕ) → i < 1 → Same p 2 (compose f f⁻¹ i) (identity i)
unfolding agrees_map
undone_before_one_variable = agrees_map_to_same p 2 1 (compose f f⁻¹) identity tt

undone_after_one_variable : (i : ℕ) → i < 1 → Same p 2 (compose f⁻¹ f i) (identity i)
unfolding agrees_map
undone_after_one_variable = agrees_map_to_same p 2 1 (compose f⁻¹ f) identity tt

-- (x1 + x2², x2) and (x1 + 65,520 x2², x2)
abbrev g : Map
g = map_of_list (add x₁ (monomial 1 0 2) ∷ x₂ ∷ [])

abbrev g⁻¹ : Map
g⁻¹ = map_of_list (add x₁ (monomial 65520 0 2) ∷ x₂ ∷ [])

undone_before_two_variables : (i : ℕ) → i < 2 → Same p 2 (compose g g⁻¹ i) (identity i)
unfolding agrees_map
undone_before_two_variables = agrees_map_to_same p 2 2 (compose g g⁻¹) identity tt

undone_after_two_variables : (i : ℕ) → i < 2 → Same p 2 (compose g⁻¹ g i) (identity i)
unfolding agrees_map
undone_after_two_variables = agrees_map_to_same p 2 2 (compose g⁻¹ g) identity tt
