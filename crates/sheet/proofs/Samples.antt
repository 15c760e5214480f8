-- 01's example of the sheet, and one input for each refusal, computed from the definitions.
use Rattle.std.proofs.Common.{◌≡◌, refl, [], ◌∷◌, ◌++◌, map}
use Rattle.monomial.specs.Enumeration.{upto, only}
use Rattle.monomial.specs.Count.{count, factorial, allowed}
use Rattle.monomial.specs.Table.{digits, digit_sum, code, hit, of_order, block}
use Rattle.monomial.specs.Table.{monomial_of, monomials_of, monomials, C1, C2}
use Rattle.answer.specs.Checks.{setting_check}
use Rattle.line.specs.Line.{all_digits, spelled, shape, numbers_or, parsed_line}
use Rattle.line.specs.Line.{line_order, line_variables, line_check}
use Rattle.text.specs.Decimal.{ascii, decimal_in, decimal}
use Rattle.text.specs.Text.{header_text, spaced, monomial_text, refused_text}
use Rattle.sheet.specs.Sheet.{lines, lines_from, sheet_text, sheet_output}

sheet_2_2 :
    sheet_output (ascii "2 2\n")
    ≡ ascii "n 2 v 2 count 6\n"
    ++ ascii "1 0 0 0 0\n"
    ++ ascii "2 1 0 1 0\n"
    ++ ascii "3 2 0 2 0\n"
    ++ ascii "4 0 1 0 1\n"
    ++ ascii "5 1 1 1 1\n"
    ++ ascii "6 0 2 0 2\n"
unfolding sheet_output line_check line_order line_variables setting_check allowed count factorial parsed_line
    numbers_or shape all_digits spelled sheet_text header_text lines_from lines monomial_text spaced
    decimal decimal_in ascii monomials monomials_of monomial_of block of_order hit only upto digits digit_sum
    C1 C2 code
sheet_2_2 = refl

-- `02 02` is n 2, v 2, and prints so
leading_zeros : sheet_output (ascii "02 02\n") ≡ sheet_output (ascii "2 2\n")
unfolding sheet_output line_check line_order line_variables parsed_line numbers_or shape all_digits
    spelled ascii
leading_zeros = refl

-- a comma, also between numbers out of range, no newline, a carriage return, a second space, a
-- further byte; n 10, v 7; order 0
refusals :
    map sheet_output
    (ascii "2,2\n"
    ∷ ascii "99,99\n"
    ∷ ascii "2 2"
    ∷ ascii "2 2\r\n"
    ∷ ascii "2  2\n"
    ∷ ascii "2 2\n\n"
    ∷ ascii "10 7\n"
    ∷ ascii "00 1\n"
    ∷ [])
    ≡ map refused_text (10 ∷ 10 ∷ 10 ∷ 10 ∷ 10 ∷ 10 ∷ 1 ∷ 1 ∷ [])
unfolding sheet_output line_check line_order line_variables setting_check allowed count factorial parsed_line
    numbers_or shape all_digits spelled ascii
refusals = refl
