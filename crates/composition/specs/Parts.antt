-- Parts of N + 1 words of one slice, one for each outer series.
--
-- Glossary
--   nth_part N i ws     part i, from 0; component n v i ws where N = count n v
--   constant_words N c  sums by position: c at position 1, the constant's, and else 0
--   packed_words N ws   the image of the sums by position in ws
--   BeginIn N c outer res
--                       what the constants ask: c outer series with ascending entries, and room for
--                       c parts
--   PackIn N c res      what packing asks: c parts of residues
use Rattle.std.specs.Prelude.{List, ◌∷◌, ℕ, ◌+◌, ◌-◌, ◌*◌, ◌≤◌, ◌<◌, length, get_or, take, drop, replicate}
use Rattle.series.specs.Image.{packed, image_of}
use Rattle.substitution.specs.Marks.{AscendingEntries}

abbrev pub nth_part : ℕ → ℕ → List ℕ → List ℕ
nth_part N i ws = take (N + 1) (drop (i * (N + 1)) ws)

unfoldable pub constant_words : ℕ → ℕ → List ℕ
constant_words N c = 0 ∷ c ∷ replicate (N - 1) 0

unfoldable pub packed_words : ℕ → List ℕ → List ℕ
packed_words N ws = image_of N (packed (λ q. get_or ws q 0) N)

pub record BeginIn (N c : ℕ) (outer res : List ℕ) : Type 0 where
  pub some : 1 ≤ N
  pub small : N < 65536
  pub outer_in : c * (N + 1) ≤ length outer
  pub ascending : (i : ℕ) → i < c → AscendingEntries (nth_part N i outer)
  pub result_in : c * (N + 1) ≤ length res

pub record PackIn (N c : ℕ) (res : List ℕ) : Type 0 where
  pub small : N < 65536
  pub result_in : c * (N + 1) ≤ length res
  pub residues : (i q : ℕ) → i < c → 1 ≤ q → q ≤ N → get_or (nth_part N i res) q 0 < 65536
