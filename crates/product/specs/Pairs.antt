-- Entries of two factors, and the pairs of them that count (002, 5 and 12). Entries are words: position and
-- coefficient; N = count n v.
--
-- order_of n v w          the order of the monomial of the entry w
-- codes_of n v w          its two codes in one word, C1 + C2 × 65,536
-- pick f es               those of es that pass the test f, in their order
-- by_order n v es o       those of es of an order below o, by ascending order
-- pair_sum n v xs ys j    the sum, over the pairs of an entry of xs and one of ys whose product stands at
--                         position j, of the products of their coefficients, not reduced
-- cut_sum n v k xs ys j   the same of the pairs whose orders add to at most k, for a k of at most n
-- pairs_within n v k xs ys how many pairs have orders that add to at most k
-- sum_at w j              the 64-bit sum that two words hold: word 2j its low half, word 2j + 1 its high half
use Rattle.std.specs.Prelude.{Bool, List, [], ◌∷◌, ◌++◌, ℕ, zero, suc, ◌+◌, ◌*◌, leb, eqb, get_or}
use Rattle.algebra.specs.Sum.{sum_over}
use Rattle.algebra.specs.Polynomial.{order, indicator}
use Rattle.monomial.specs.Enumeration.{only}
use Rattle.monomial.specs.Table.{C1, C2, product_place}
use Rattle.series.specs.Image.{position, coefficient, monomial_at}

unfoldable pub order_of : ℕ → ℕ → ℕ → ℕ
order_of n v w = order (monomial_at n v (position w))

unfoldable pub codes_of : ℕ → ℕ → ℕ → ℕ
codes_of n v w = C1 n v (monomial_at n v (position w)) + C2 n v (monomial_at n v (position w)) * 65536

unfoldable pub pick : (ℕ → Bool) → List ℕ → List ℕ
pick f [] = []
pick f (w ∷ es) = only (f w) (w ∷ []) ++ pick f es

unfoldable pub by_order : ℕ → ℕ → List ℕ → ℕ → List ℕ
by_order n v es zero = []
by_order n v es (suc o) = by_order n v es o ++ pick (λ w. eqb (order_of n v w) o) es

unfoldable pub pair_sum : ℕ → ℕ → List ℕ → List ℕ → ℕ → ℕ
pair_sum n v xs ys j =
    sum_over xs (λ x. sum_over ys (λ y.
    coefficient x * coefficient y
    * indicator (eqb (product_place n v (monomial_at n v (position x)) (monomial_at n v (position y))) j)))

-- a product that stands at position j has the order of the monomial there
unfoldable pub cut_sum : ℕ → ℕ → ℕ → List ℕ → List ℕ → ℕ → ℕ
cut_sum n v k xs ys j = pair_sum n v xs ys j * indicator (leb (order (monomial_at n v j)) k)

unfoldable pub pairs_within : ℕ → ℕ → ℕ → List ℕ → List ℕ → ℕ
pairs_within n v k xs ys = sum_over xs (λ x. sum_over ys (λ y. indicator (leb (order_of n v x + order_of n v y) k)))

unfoldable pub sum_at : List ℕ → ℕ → ℕ
sum_at w j = get_or w (2 * j) 0 + get_or w (2 * j + 1) 0 * 4294967296
