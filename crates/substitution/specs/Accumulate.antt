-- Sums kept as residues by position: word q of a part of N + 1 words is the coefficient at
-- position q.
--
-- Glossary
--   entries_from w at first
--                    the entries of the series at word `at` of w, from number `first` on
--   AddScaledIn res w at first c p
--                    what adding asks: residues in res, and a series at word `at` of w whose
--                    positions lie inside res
--   AddedScaled res w at first c p res'
--                    the residue at each position has grown by c times the coefficient there of these
--                    entries (01, "The operations": each monomial gives its coefficient times a
--                    product)
use Rattle.std.specs.Prelude.{◌≡◌, List, ℕ, ◌+◌, ◌-◌, ◌*◌, ◌%◌, ◌≤◌, ◌<◌, length, get_or}
use Rattle.series.specs.Image.{position, coefficient_at}
use Rattle.product.specs.Regions.{source_entries}

abbrev pub entries_from : List ℕ → ℕ → ℕ → List ℕ
entries_from w at first = source_entries w (at + first) (get_or w at 0 - first)

pub record AddScaledIn (res w : List ℕ) (at first c p : ℕ) : Type 0 where
  pub inside : at + 1 + get_or w at 0 ≤ length w
  pub few : first ≤ get_or w at 0
  pub low : (i : ℕ) → i < get_or w at 0 → 1 ≤ position (get_or w (at + 1 + i) 0)
  pub high : (i : ℕ) → i < get_or w at 0 → position (get_or w (at + 1 + i) 0) < length res
  pub residues : (q : ℕ) → 1 ≤ q → q < length res → get_or res q 0 < p
  pub factor : c < p
  pub modulus_high : p ≤ 65536

pub record AddedScaled (res w : List ℕ) (at first c p : ℕ) (res' : List ℕ) : Type 0 where
  pub size : length res' ≡ length res
  pub start : get_or res' 0 0 ≡ get_or res 0 0
  pub sum : (q : ℕ) → 1 ≤ q → q < length res
      → get_or res' q 0 ≡ (get_or res q 0 + c * coefficient_at (entries_from w at first) q) % p
