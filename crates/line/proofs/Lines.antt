-- What the decision on the line says of its numbers.
use Rattle.std.proofs.Common.{◌≡◌, sym, ◌∙◌, List, [], ◌∷◌, ℕ}
use Rattle.monomial.specs.Count.{Allowed}
use Rattle.answer.specs.Refusals.{Verdict, passed}
use Rattle.answer.specs.Checks.{first_of, setting_check}
use Rattle.answer.proofs.Passing.{both_pass, setting_passed}
use Rattle.line.specs.Line.{parsed_line, form_check}
use Rattle.line.specs.Line.{line_order, line_variables, line_check}

-- a line that passes has n and v in 01's ranges
pub line_ranged : (s : List ℕ) {w : Verdict} {n v : ℕ} → w ≡ line_check s → n ≡ line_order s
    → v ≡ line_variables s → w ≡ passed → Allowed n v
unfolding line_check
line_ranged s checked order variables pass =
    let form = form_check (parsed_line s) in
    let range = setting_check (line_order s) (line_variables s) in
    let rest = (both_pass form (first_of (range ∷ [])) (sym checked ∙ pass)).1 in
    rw (order, variables)
    (setting_passed (line_order s) (line_variables s) (both_pass range passed rest).0)
