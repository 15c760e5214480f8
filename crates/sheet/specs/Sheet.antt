-- The sheet (01): what maptab prints. Every line ends with a newline.
--
-- lines n v p ms         the lines of the monomials ms, the first of them at position p
-- lines_from n v j       the lines of the monomials at positions j + 1 to N
-- sheet_text n v         the sheet: the first line, then each monomial by ascending position
-- sheet_from n v k       its lines with the indices k and up
-- refused_from r k       those of the one line of the refusal with the number r
-- output_of w n v        what is printed under the verdict w: the refusal's line, or the sheet
-- sheet_output s         what maptab prints for the input s
use Rattle.std.specs.Prelude.{List, [], ◌∷◌, ◌++◌, ℕ, zero, suc, drop}
use Rattle.algebra.specs.Polynomial.{Monomial}
use Rattle.monomial.specs.Count.{count}
use Rattle.monomial.specs.Table.{monomials}
use Rattle.answer.specs.Refusals.{Verdict, passed, declined}
use Rattle.line.specs.Line.{line_check, line_order, line_variables}
use Rattle.text.specs.Text.{header_text, monomial_text, refused_text}

unfoldable pub lines : ℕ → ℕ → ℕ → List Monomial → List ℕ
lines n v p [] = []
lines n v p (m ∷ ms) = monomial_text n v p m ++ lines n v (suc p) ms

unfoldable pub lines_from : ℕ → ℕ → ℕ → List ℕ
lines_from n v j = lines n v (suc j) (drop j (monomials n v))

unfoldable pub sheet_text : ℕ → ℕ → List ℕ
sheet_text n v = header_text n v (count n v) ++ lines_from n v 0

abbrev pub sheet_from : ℕ → ℕ → ℕ → List ℕ
sheet_from n v zero = sheet_text n v
sheet_from n v (suc j) = lines_from n v j

abbrev pub refused_from : ℕ → ℕ → List ℕ
refused_from r zero = refused_text r
refused_from r (suc j) = []

abbrev pub output_of : Verdict → ℕ → ℕ → List ℕ
output_of passed n v = sheet_text n v
output_of (declined k at) n v = refused_text k

unfoldable pub sheet_output : List ℕ → List ℕ
sheet_output s = output_of (line_check s) (line_order s) (line_variables s)
