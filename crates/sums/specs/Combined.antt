-- Sum and difference as one operation: b is added d times, once or p - 1 times.
--
-- combined_call d s a b result  what the call leaves: that of the sum (d is 1), or of the difference (d is p - 1)
use Rattle.std.specs.Prelude.{List, [], ◌∷◌, ℕ, length}
use Rattle.algebra.specs.Polynomial.{add, scale}
use Rattle.answer.specs.declared.Setting.{Setting}
use Rattle.answer.specs.Refusals.{Outcome}
use Rattle.checks.specs.Settings.{series_in, image_in}
use Rattle.checks.specs.Calls.{Left, leaves, write, sum_checks}

unfoldable pub combined_call : ℕ → Setting → List ℕ → List ℕ → List ℕ → Left Outcome
combined_call d s a b result =
    leaves (sum_checks s a b (length result)) 0
    (write (image_in s (add (series_in s a) (scale d (series_in s b)))) result ∷ [])
