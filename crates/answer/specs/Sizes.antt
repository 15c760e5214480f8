-- The sizes that a setting gives (01, 'Layout of what is lent').
--
-- series_words n v   N + 1, the 32-bit words of a series
-- map_words n v      v (N + 1), the 32-bit words of a map
-- work_words n v     W = (n + 2v + 4)(N + 1) + 2 v v, the 32-bit words of work space
-- (count n v, words n v: N and T, in the crate monomial)
use Rattle.std.specs.Prelude.{ℕ, ◌+◌, ◌*◌}
use Rattle.monomial.specs.Count.{count}

unfoldable pub series_words : ℕ → ℕ → ℕ
series_words n v = count n v + 1

unfoldable pub map_words : ℕ → ℕ → ℕ
map_words n v = v * (count n v + 1)

unfoldable pub work_words : ℕ → ℕ → ℕ
work_words n v = (n + 2 * v + 4) * (count n v + 1) + 2 * v * v
