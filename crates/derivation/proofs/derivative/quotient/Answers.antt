-- `quotient` meets its contract: the lemma on reciprocals.
use Rattle.std.proofs.Common.{ap, ◌∙◌, ℕ, ◌*◌, ◌/◌}
use Rattle.derivation.proofs.DerivativeDigits.{reciprocal-quotient}
use Rattle.derivation.proofs.derivative.quotient.Goals as goal

pub returns : goal.returns
returns c =
    let a = c.args in
    λ d pd ld e.
    ap (λ (z : ℕ). a.c * z / 4294967296) e ∙ reciprocal-quotient a.c d c.requires.c_bound pd ld
