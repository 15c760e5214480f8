-- The sizes that n and v fix, as one value.
--
-- sizes_of n v    n, v, N and E
-- Sized z         the sizes z are those of an n and v in range
use Rattle.std.specs.Prelude.{◌≡◌, ℕ}
use Rattle.monomial.specs.Count.{count, codes, Allowed}
use Rattle.counts.specs.declared.Sizes.{Sizes}

abbrev pub sizes_of : ℕ → ℕ → Sizes
sizes_of n v = record { n = n; v = v; count = count n v; codes = codes n v }

pub record Sized (z : Sizes) : Type 0 where
  pub allowed : Allowed z.n z.v
  pub count_is : z.count ≡ count z.n z.v
  pub codes_is : z.codes ≡ codes z.n z.v
