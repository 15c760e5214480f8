-- The terms of a combination: what a closure says of the coefficients that it is called at.
--
-- AtEntries ws P    P holds of the coefficient of each entry of the series ws
-- AtResidues p P    P holds of each residue modulo p other than 0
-- Times p c says x  each y that a call at x may answer is c x modulo p
-- Multiplies p says d  a call at a residue other than 0 answers d times it, and d is such a residue too
use Rattle.std.specs.Prelude.{◌≡◌, List, ℕ, ◌+◌, ◌*◌, ◌%◌, ◌<◌, get_or}
use Rattle.series.specs.Image.{coefficient}

abbrev pub AtEntries : List ℕ → (ℕ → Type 0) → Type 0
AtEntries ws P = (k : ℕ) → k < get_or ws 0 0 → P (coefficient (get_or ws (k + 1) 0))

abbrev pub AtResidues : ℕ → (ℕ → Type 0) → Type 0
AtResidues p P = (x : ℕ) → 0 < x → x < p → P x

abbrev pub Times : ℕ → ℕ → (ℕ → ℕ → Type 0) → ℕ → Type 0
Times p c says x = (y : ℕ) → says x y → y ≡ (c * x) % p

pub record Multiplies (p : ℕ) (says : ℕ → ℕ → Type 0) (d : ℕ) : Type 0 where
  pub positive : 0 < d
  pub less : d < p
  pub times : AtResidues p (Times p d says)
