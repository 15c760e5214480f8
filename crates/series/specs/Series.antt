-- Which words are series and maps (01, 'Layout of what is lent'). p is the modulus, N = count n v.
--
-- Entry p N last w       w is an entry: its position is above `last` and at most N, its coefficient 1 to p - 1
-- Ascending p N last es  the words es are entries, of ascending positions above `last`
-- IsSeries p N ws        the words begin with a series: few enough entries, in their proper form, then zeros
-- IsMap p n v ws         the words begin with a map: each of the v components is a series
use Rattle.std.specs.Prelude.{◌≡◌, List, [], ◌∷◌, ℕ, ◌+◌, ◌≤◌, ◌<◌, length, get_or, take}
use Rattle.monomial.specs.Count.{count}
use Rattle.series.specs.Image.{position, coefficient, entries, component, image_of}

pub record Entry (p N last w : ℕ) : Type 0 where
  pub above : last < position w
  pub inside : position w ≤ N
  pub nonzero : 0 < coefficient w
  pub reduced : coefficient w < p

pub data Ascending (p N : ℕ) : ℕ → List ℕ → Type 0 where
  none : {last : ℕ} → Ascending p N last []
  next : {last w : ℕ} {es : List ℕ} → Entry p N last w → Ascending p N (position w) es
      → Ascending p N last (w ∷ es)

pub record IsSeries (p N : ℕ) (ws : List ℕ) : Type 0 where
  pub long : N + 1 ≤ length ws
  pub few : get_or ws 0 0 ≤ N
  pub ascending : Ascending p N 0 (entries ws)
  pub words : take (N + 1) ws ≡ image_of N (entries ws)

pub record IsMap (p n v : ℕ) (ws : List ℕ) : Type 0 where
  pub each : (i : ℕ) → i < v → IsSeries p (count n v) (component n v i ws)
