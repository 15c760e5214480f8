-- What the turns of an inversion leave, on words: after k of them g undoes f before it up to order k. After
-- n of them g is the inverse of f.
use Rattle.std.proofs.Common.{◌≡◌, sym, ◌∙◌, List, ℕ, ◌+◌, ◌*◌, ◌≤◌, ◌<◌, take}
use Rattle.residue.specs.Modulus.{Prime}
use Rattle.residue.proofs.Inverses.{prime_positive}
use Rattle.monomial.specs.Count.{count}
use Rattle.series.specs.Image.{map_of}
use Rattle.series.specs.Series.{IsMap}
use Rattle.series.proofs.Maps.{map-image}
use Rattle.inversion.specs.Undoing.{Fixing, UndoesBefore}
use Rattle.inversion.specs.Inverse.{inverse}
use Rattle.inversion.proofs.Counting.{inverse-image}

pub record Turned (p n v k : ℕ) (f g : List ℕ) : Type 0 where
  pub is_map : IsMap p n v g
  pub fixing : Fixing p v (map_of n v g)
  pub undoes : UndoesBefore p k v (map_of n v f) (map_of n v g)

module _ {p : ℕ} (prime : Prime p) (small : p ≤ 65536) (n v : ℕ) (some : 1 ≤ n) (few : v ≤ 8)
    (f : List ℕ) (F : Fixing p v (map_of n v f)) where
  pos : 0 < p
  pos = prime_positive prime

  pub finished : (g : List ℕ) → Turned p n v n f g
      → take (v * (count n v + 1)) g ≡ inverse p n v f
  finished g t =
      map-image p n v pos small t.is_map
      ∙ sym (inverse-image prime small n v some few f F (map_of n v g) t.fixing t.undoes)
