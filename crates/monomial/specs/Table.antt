-- The monomial table (01, 'The monomial table'; 002, section 3). A monomial is the list of its v exponents.
--
-- digits b h c      the h lowest digits of the number c in base b, the lowest first
-- digit_sum b h c   their sum
-- code b es         i1 + i2 b + i3 b² .. for the exponents es = i1, i2, i3, .. (002, 9)
-- C1 n v m          the code of the exponents of the first h variables, in base n + 1
-- C2 n v m          the code of the exponents of the others, its first variable again with weight 1
-- of_order b h s    the codes of h digits with digit sum s, ascending
-- block b h r       the codes of h digits with digit sum at most r: by digit sum, then ascending
-- monomials_of n v y the monomials of order at most n with C2 = y: by order, then by ascending C1
-- monomials n v     all monomials of order at most n, in blocks of equal C2 by ascending C2: positions 1 to N
-- Before n v a b    a stands before b by 01's rule: the lower C2, then the lower order, then the lower C1
-- position_of n v m  the position of the monomial m, from 1; 0 where it has none
-- D1 n v c          the position of the first monomial with C1 = c; 0 where none has (002, 11)
-- D2 n v c          the position of the first monomial with C2 = c, less one; 0 where none has (002, 11)
-- Stands n v m      the monomial m stands in the list, its place is found, and D1 and D2 lead there
-- product_place     the position of the product of two monomials by D1 and D2; 0 where its order is above n (002, 12)
-- table_words n v   the table: C1 for positions 1 to N, C2 likewise, then D1 and D2 at each code below E
use Rattle.std.specs.Prelude.{◌≡◌, List, [], ◌∷◌, ◌++◌, map, Bool, true, false, ℕ, zero, suc, pred, ◌+◌, ◌-◌, ◌*◌, ◌/◌, ◌%◌, ◌^◌, ◌<◌, take, drop, length, get_or, leb, eqb}
use Rattle.algebra.specs.Polynomial.{Monomial, order, equal}
use Rattle.monomial.specs.Enumeration.{upto, only, tabulate, first_position}
use Rattle.monomial.specs.Count.{half, codes}

unfoldable pub digits : ℕ → ℕ → ℕ → List ℕ
digits b zero c = []
digits b (suc h) c = c % b ∷ digits b h (c / b)

unfoldable pub digit_sum : ℕ → ℕ → ℕ → ℕ
digit_sum b zero c = 0
digit_sum b (suc h) c = c % b + digit_sum b h (c / b)

unfoldable pub code : ℕ → List ℕ → ℕ
code b [] = 0
code b (i ∷ es) = code b es * b + i

unfoldable pub C1 : ℕ → ℕ → Monomial → ℕ
C1 n v m = code (n + 1) (take (half v) m)

unfoldable pub C2 : ℕ → ℕ → Monomial → ℕ
C2 n v m = code (n + 1) (drop (half v) m)

-- c alone, where its h digits sum to s
unfoldable pub hit : ℕ → ℕ → ℕ → ℕ → List ℕ
hit b h s c = only (eqb (digit_sum b h c) s) (c ∷ [])

unfoldable pub of_order : ℕ → ℕ → ℕ → List ℕ
of_order b h s = upto (hit b h s) (b ^ h)

unfoldable pub block : ℕ → ℕ → ℕ → List ℕ
block b h r = upto (of_order b h) (suc r)

-- the monomial with the codes x and y
unfoldable pub monomial_of : ℕ → ℕ → ℕ → ℕ → Monomial
monomial_of n v y x = digits (n + 1) (half v) x ++ digits (n + 1) (v - half v) y

unfoldable pub monomials_of : ℕ → ℕ → ℕ → List Monomial
monomials_of n v y =
    let s = digit_sum (n + 1) (v - half v) y in
    only (leb s n) (map (monomial_of n v y) (block (n + 1) (half v) (n - s)))

unfoldable pub monomials : ℕ → ℕ → List Monomial
monomials n v = upto (monomials_of n v) ((n + 1) ^ (v - half v))

pub data Before (n v : ℕ) (a b : Monomial) : Type 0 where
  by_C2 : C2 n v a < C2 n v b → Before n v a b
  by_order : C2 n v a ≡ C2 n v b → order a < order b → Before n v a b
  by_C1 : C2 n v a ≡ C2 n v b → order a ≡ order b → C1 n v a < C1 n v b → Before n v a b

unfoldable pub position_of : ℕ → ℕ → Monomial → ℕ
position_of n v m = first_position (equal m) (monomials n v)

unfoldable pub D1 : ℕ → ℕ → ℕ → ℕ
D1 n v c = first_position (λ m. eqb c (C1 n v m)) (monomials n v)

unfoldable pub D2 : ℕ → ℕ → ℕ → ℕ
D2 n v c = pred (first_position (λ m. eqb c (C2 n v m)) (monomials n v))

pub record Stands (n v : ℕ) (m : Monomial) : Type 0 where
  pub index : ℕ
  pub inside : index < length (monomials n v)
  pub is : get_or (monomials n v) index [] ≡ m
  pub by_codes : D1 n v (C1 n v m) + D2 n v (C2 n v m) ≡ suc index
  pub at : position_of n v m ≡ suc index

abbrev pub or_zero : Bool → ℕ → ℕ
or_zero true p = p
or_zero false p = 0

unfoldable pub product_place : ℕ → ℕ → Monomial → Monomial → ℕ
product_place n v a b =
    or_zero (leb (order a + order b) n) (D1 n v (C1 n v a + C1 n v b) + D2 n v (C2 n v a + C2 n v b))

unfoldable pub table_words : ℕ → ℕ → List ℕ
table_words n v =
    map (C1 n v) (monomials n v)
    ++ map (C2 n v) (monomials n v)
    ++ tabulate (D1 n v) (codes n v)
    ++ tabulate (D2 n v) (codes n v)
