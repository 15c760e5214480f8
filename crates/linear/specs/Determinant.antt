-- Glossary (01, 'The operations': the determinant of a linear part)
--   each_first rest cs  one of the columns cs in every way, then what `rest` takes of the others
--   choices n cs        every way to take n of the columns cs one after the other, no column twice
--   below c cs          how many of cs are less than c
--   exchanges q         how many exchanges of neighbours put the columns q in order: those that put
--                       the columns after the first in order, and those that bring it to its place.
--                       Whatever exchanges put q in order, their number is odd where this one is
--                       (proofs/Exchanges.antt)
--   taken m i q         the product of the numbers in the rows i, i + 1, .. at the columns q
--   signed p n x        x, with a minus modulo p where n is odd
--   determinant p v m   'take one number from each of the v rows, no column twice, in every way,
--                       and sum their products, with a minus where an odd number of exchanges puts
--                       the columns in order. It is judged modulo p'
use Rattle.std.specs.Prelude.{cond, List, [], ◌∷◌, ◌++◌, map, ℕ, zero, suc, ◌+◌, ◌-◌, ◌*◌, ◌%◌, ltb, eqb}
use Rattle.algebra.specs.Sum.{sum_over}
use Rattle.linear.specs.Matrix.{Matrix, element, range}

unfoldable pub each_first : (List ℕ → List (List ℕ)) → List ℕ → List (List ℕ)
each_first rest [] = []
each_first rest (c ∷ cs) = map (λ q. c ∷ q) (rest cs) ++ each_first (λ t. rest (c ∷ t)) cs

unfoldable pub choices : ℕ → List ℕ → List (List ℕ)
choices zero cs = [] ∷ []
choices (suc n) cs = each_first (choices n) cs

unfoldable pub below : ℕ → List ℕ → ℕ
below c [] = 0
below c (x ∷ cs) = cond (ltb x c) 1 0 + below c cs

unfoldable pub exchanges : List ℕ → ℕ
exchanges [] = 0
exchanges (c ∷ cs) = below c cs + exchanges cs

unfoldable pub taken : Matrix → ℕ → List ℕ → ℕ
taken m i [] = 1
taken m i (c ∷ cs) = element m i c * taken m (suc i) cs

unfoldable pub signed : ℕ → ℕ → ℕ → ℕ
signed p n x = cond (eqb (n % 2) 1) ((p - 1) * x) x

unfoldable pub determinant : ℕ → ℕ → Matrix → ℕ
determinant p v m =
    sum_over (choices v (range 0 v)) (λ q. signed p (exchanges q) (taken m 0 q)) % p
