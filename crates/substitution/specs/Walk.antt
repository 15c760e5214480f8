-- The walk over the beginnings of monomials (002 reaches the needed monomials along a tree): the
-- product of components that a monomial stands for is that of the beginning one letter shorter
-- times one component, so common beginnings are multiplied once. Substitution itself stays 01's sum
-- over the monomials (algebra, `substitute`); that the walk computes it is a theorem.
--
-- Glossary
--   again x i           the letter i, x times
--   letters m           the monomial m as its variables in ascending order with repeats, x1 being
--                       the letter 0: x1²x2 is 0, 0, 1; letters_from i m where m begins with
--                       variable i
--   begins w u          the word w is a beginning of the word u
--   begun P m           m is a beginning of a monomial of P
--   beginning P m       m is a beginning, of one letter or more, of a monomial of P
--   low_terms n P       the terms of P of order at most n
--   shorter m           the beginning of m that is one letter shorter: the exponent of the last
--                       variable made one less
--   all_terms c F       the terms of the first c polynomials of F, which share one tree
--   visit b c R W       at a marked monomial (b): the coefficient c times its product R, and the
--                       walk W below it; nothing at any other
--   walk κ mark f v r l m Q
--                       the sum over the monomials that are m and from 1 to r letters more, each
--                       from variable l on and before v, of κ(monomial) times the product of the
--                       components of f, Q being that of m; what is not marked is not entered
use Rattle.std.specs.Prelude.{Bool, true, false, cond, ◌&&◌, ◌||◌, List, [], ◌∷◌, ◌++◌}
use Rattle.std.specs.Prelude.{ℕ, zero, suc, pred, ◌+◌, ◌-◌, eqb, ltb, leb}
use Rattle.algebra.specs.Polynomial.{Monomial, Polynomial, ◌⊕◌, order, add, scale, mul, add_below}
use Rattle.algebra.specs.Substitution.{Map, unit_of}
use Rattle.monomial.specs.Enumeration.{only}

-- ---- letters

unfoldable pub again : ℕ → ℕ → List ℕ
again zero i = []
again (suc x) i = i ∷ again x i

unfoldable pub letters_from : ℕ → Monomial → List ℕ
letters_from i [] = []
letters_from i (x ∷ m) = again x i ++ letters_from (suc i) m

abbrev pub letters : Monomial → List ℕ
letters m = letters_from 0 m

-- ---- beginnings

unfoldable pub begins : List ℕ → List ℕ → Bool
begins [] u = true
begins (a ∷ w) [] = false
begins (a ∷ w) (b ∷ u) = eqb a b && begins w u

unfoldable pub begun : Polynomial → Monomial → Bool
begun [] m = false
begun (t ∷ P) m = begins (letters m) (letters t.exponents) || begun P m

unfoldable pub beginning : Polynomial → Monomial → Bool
beginning P m = ltb 0 (order m) && begun P m

unfoldable pub low_terms : ℕ → Polynomial → Polynomial
low_terms n [] = []
low_terms n (t ∷ P) = add (only (leb (order t.exponents) n) (t ∷ [])) (low_terms n P)

unfoldable pub shorter : Monomial → Monomial
shorter [] = []
shorter (x ∷ m) = cond (eqb (order m) 0) (pred x ∷ m) (x ∷ shorter m)

abbrev pub all_terms : ℕ → (ℕ → Polynomial) → Polynomial
all_terms c F = add_below c F

-- ---- the walk

unfoldable pub visit : Bool → ℕ → Polynomial → Polynomial → Polynomial
visit b c R W = only b (add (scale c R) W)

unfoldable pub walk : (Monomial → ℕ) → (Monomial → Bool) → Map → ℕ → ℕ → ℕ → Monomial
    → Polynomial → Polynomial
walk κ mark f v zero l m Q = []
walk κ mark f v (suc r) l m Q =
    add_below (v - l)
    (λ j.
    visit (mark (m ⊕ unit_of (l + j))) (κ (m ⊕ unit_of (l + j))) (mul Q (f (l + j)))
    (walk κ mark f v r (l + j) (m ⊕ unit_of (l + j)) (mul Q (f (l + j)))))
