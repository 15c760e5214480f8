-- What the quick test of refusal 7 counts. Nothing here has to be believed of an image: the contracts
-- of the public functions cite none of it.
--
-- misfit p u w     how many of the three rules for an entry w behind the word u are broken: a position
--                  above that of u, a coefficient above 0, and one below p
-- misfits p m ws   the same of the words 1 to m, each behind the word before it
-- passes w         a check says w, and does not decline
use Rattle.std.specs.Prelude.{Bool, true, false, List, ℕ, ◌+◌, leb, get_or}
use Rattle.algebra.specs.Sum.{sum_to}
use Rattle.algebra.specs.Polynomial.{indicator}
use Rattle.answer.specs.Refusals.{Verdict, passed, declined}
use Rattle.series.specs.Image.{position, coefficient}

unfoldable pub misfit : ℕ → ℕ → ℕ → ℕ
misfit p u w =
    indicator (leb (position w) (position u)) + indicator (leb (coefficient w) 0)
    + indicator (leb p (coefficient w))

abbrev pub misfits : ℕ → ℕ → List ℕ → ℕ
misfits p m ws = sum_to (λ k. misfit p (get_or ws k 0) (get_or ws (k + 1) 0)) m

abbrev pub passes : Verdict → Bool
passes passed = true
passes (declined k at) = false
