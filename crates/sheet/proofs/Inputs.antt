-- The first seven bytes of the input are enough to answer it.
use Rattle.std.proofs.Common.{◌≡◌, ap, List, [], ◌∷◌, ℕ, take, Option}
use Rattle.answer.specs.Checks.{first_of, setting_check}
use Rattle.line.specs.Line.{form_check, parsed_order, parsed_variables}
use Rattle.line.specs.Line.{line_order, line_variables, line_check}
use Rattle.line.proofs.Shapes.{parsed_start}
use Rattle.sheet.specs.Sheet.{output_of, sheet_output}

pub output_start : (s : List ℕ) → sheet_output (take 7 s) ≡ sheet_output s
unfolding sheet_output line_check line_order line_variables
output_start s =
    ap (λ (p : Option (ℕ × ℕ)). output_of
    (first_of (form_check p ∷ setting_check (parsed_order p) (parsed_variables p) ∷ []))
    (parsed_order p) (parsed_variables p))
    (parsed_start s)
