-- Series and maps as words (01, 'Layout of what is lent'). p is the modulus, N = count n v.
--
-- entry q c            the word of an entry: position q × 65,536 + coefficient c
-- position w           the position of an entry
-- coefficient w        the coefficient of an entry
-- entries ws           the entries of a series: as many words after word 0 as word 0 says
-- coefficient_at es q  the coefficient that the entries es give to position q; 0 where no entry does
-- monomial_at n v q    the monomial at position q, from 1
-- polynomial n v ws    the polynomial that a series stands for: a term for each entry
-- component n v i ws   the words of component i of a map, i from 0
-- map_of n v ws        the map that v series in one slice stand for, component i from 0
-- scaled p c w         the entry w, its coefficient multiplied by c modulo p
-- packed f m           the entries of positions 1 to m whose coefficients f gives; none where f gives 0
-- image_of N es        a series as it is written: the number of entries, the entries, zeros up to word N
-- image p n v P        the one image of the polynomial P, cut at order n, modulo p
-- map_image p n v f    the images of the v components of the map f, one after another
-- pair_count n A B     how many pairs of terms, one of A and one of B, have orders that add to at most n
use Rattle.std.specs.Prelude.{List, [], ◌∷◌, ◌++◌, map, ℕ, suc, ◌+◌, ◌-◌, ◌*◌, ◌/◌, ◌%◌, leb, ltb, eqb, length, get_or, take, drop, replicate}
use Rattle.algebra.specs.Sum.{sum_over}
use Rattle.algebra.specs.Polynomial.{Monomial, Term, Polynomial, order, coefficient_of, indicator}
use Rattle.algebra.specs.Substitution.{Map}
use Rattle.monomial.specs.Enumeration.{upto, only}
use Rattle.monomial.specs.Count.{count}
use Rattle.monomial.specs.Table.{monomials}

abbrev pub entry : ℕ → ℕ → ℕ
entry q c = q * 65536 + c

abbrev pub position : ℕ → ℕ
position w = w / 65536

abbrev pub coefficient : ℕ → ℕ
coefficient w = w % 65536

abbrev pub scaled : ℕ → ℕ → ℕ → ℕ
scaled p c w = entry (position w) ((c * coefficient w) % p)

unfoldable pub entries : List ℕ → List ℕ
entries ws = take (get_or ws 0 0) (drop 1 ws)

unfoldable pub coefficient_at : List ℕ → ℕ → ℕ
coefficient_at es q = sum_over es (λ w. coefficient w * indicator (eqb (position w) q))

unfoldable pub monomial_at : ℕ → ℕ → ℕ → Monomial
monomial_at n v q = get_or (monomials n v) (q - 1) []

unfoldable pub term_of : ℕ → ℕ → ℕ → Term
term_of n v w = record { coefficient = coefficient w; exponents = monomial_at n v (position w) }

unfoldable pub polynomial : ℕ → ℕ → List ℕ → Polynomial
polynomial n v ws = map (term_of n v) (entries ws)

unfoldable pub component : ℕ → ℕ → ℕ → List ℕ → List ℕ
component n v i ws = take (count n v + 1) (drop (i * (count n v + 1)) ws)

unfoldable pub map_of : ℕ → ℕ → List ℕ → Map
map_of n v ws i = only (ltb i v) (polynomial n v (component n v i ws))

-- the entry at position q with the coefficient c, or nothing where c is 0
unfoldable pub entry_of : ℕ → ℕ → List ℕ
entry_of q c = only (ltb 0 c) (entry q c ∷ [])

unfoldable pub packed : (ℕ → ℕ) → ℕ → List ℕ
packed f m = upto (λ i. entry_of (suc i) (f (suc i))) m

unfoldable pub image_of : ℕ → List ℕ → List ℕ
image_of N es = length es ∷ es ++ replicate (N - length es) 0

unfoldable pub image : ℕ → ℕ → ℕ → Polynomial → List ℕ
image p n v P = image_of (count n v) (packed (λ q. coefficient_of (monomial_at n v q) P % p) (count n v))

unfoldable pub map_image : ℕ → ℕ → ℕ → Map → List ℕ
map_image p n v f = upto (λ i. image p n v (f i)) v

unfoldable pub pair_count : ℕ → Polynomial → Polynomial → ℕ
pair_count n A B = sum_over A (λ s. sum_over B (λ t. indicator (leb (order s.exponents + order t.exponents) n)))
