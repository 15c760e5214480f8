-- How many monomials there are (01, 'Series and their counting').
--
-- factorial n     n!
-- count n v       N, the number of monomials of order at most n in v variables: (n + v)! / (n! v!) (001, 1.14)
-- half v          h, v/2 rounded up: the number of variables in the first code
-- codes n v       E = (n + 1)^h, the number of words of D1 and of D2
-- words n v       T = 2N + 2E, the number of words of the table
-- Allowed n v     n is 1 to 10, v is 1 to 8, and N is at most 8,008
-- allowed n v     the same as a test
use Rattle.std.specs.Prelude.{Bool, ◌&&◌, ℕ, zero, suc, ◌+◌, ◌*◌, ◌/◌, ◌^◌, ◌≤◌, leb}

unfoldable pub factorial : ℕ → ℕ
factorial zero = 1
factorial (suc n) = suc n * factorial n

unfoldable pub count : ℕ → ℕ → ℕ
count n v = factorial (n + v) / (factorial n * factorial v)

abbrev pub half : ℕ → ℕ
half v = (v + 1) / 2

unfoldable pub codes : ℕ → ℕ → ℕ
codes n v = (n + 1) ^ half v

unfoldable pub words : ℕ → ℕ → ℕ
words n v = 2 * count n v + 2 * codes n v

pub record Allowed (n v : ℕ) : Type 0 where
  pub n_low : 1 ≤ n
  pub n_high : n ≤ 10
  pub v_low : 1 ≤ v
  pub v_high : v ≤ 8
  pub few : count n v ≤ 8008

unfoldable pub allowed : ℕ → ℕ → Bool
allowed n v = leb 1 n && (leb n 10 && (leb 1 v && (leb v 8 && leb (count n v) 8008)))
