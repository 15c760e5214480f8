-- The lines of the sheet (01), each by itself. Every line ends with a newline.
--
-- header_text n v N      the first line: n, v and N, each after its word
-- spaced xs              the numbers xs in decimal, each after one space
-- monomial_text n v p m  the line of the monomial m at position p: p, the v exponents, C1, C2
-- codes_text n v p x y   the line at position p of the monomial with the codes x and y
-- refused_text k         refused input: `refused`, a space and the refusal's number k
-- Tabled n v N table     n, v and N are in 01's ranges, N is the number of monomials, and the words
--                        of table begin with the table for n and v
use Rattle.std.specs.Prelude.{◌≡◌, List, [], ◌∷◌, ◌++◌, ℕ, take}
use Rattle.algebra.specs.Polynomial.{Monomial}
use Rattle.monomial.specs.Count.{count, words, Allowed}
use Rattle.monomial.specs.Table.{C1, C2, monomial_of, table_words}
use Rattle.text.specs.Decimal.{ascii, decimal}

unfoldable pub header_text : ℕ → ℕ → ℕ → List ℕ
header_text n v N =
    (ascii "n " ++ decimal n)
    ++ (ascii " v " ++ decimal v)
    ++ (ascii " count " ++ decimal N)
    ++ ascii "\n"

unfoldable pub spaced : List ℕ → List ℕ
spaced [] = []
spaced (x ∷ xs) = ascii " " ++ decimal x ++ spaced xs

unfoldable pub monomial_text : ℕ → ℕ → ℕ → Monomial → List ℕ
monomial_text n v p m = decimal p ++ spaced (m ++ (C1 n v m ∷ C2 n v m ∷ [])) ++ ascii "\n"

unfoldable pub codes_text : ℕ → ℕ → ℕ → ℕ → ℕ → List ℕ
codes_text n v p x y = decimal p ++ spaced (monomial_of n v y x) ++ spaced (x ∷ y ∷ []) ++ ascii "\n"

unfoldable pub refused_text : ℕ → List ℕ
refused_text k = (ascii "refused " ++ decimal k) ++ ascii "\n"

pub record Tabled (n v N : ℕ) (table : List ℕ) : Type 0 where
  pub ranges : Allowed n v
  pub counted : N ≡ count n v
  pub begins : take (words n v) table ≡ table_words n v
