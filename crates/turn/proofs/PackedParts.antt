-- Parts that hold a map by position, each packed into an image, are the map, cut at the order up to
-- which they hold it.
use Rattle.std.proofs.Common.{◌≡◌, refl, ◌∙◌, List, [], append-nil, ℕ, suc, ◌<◌, get_or}
use Rattle.algebra.specs.Substitution.{Map}
use Rattle.algebra.specs.Agreement.{Agree, Within}
use Rattle.series.specs.Image.{component, packed, image_of, map_of}
use Rattle.series.specs.Series.{IsMap}
use Rattle.series.proofs.Maps.{map_of-inside}
use Rattle.product.specs.Multiply.{image_to}
use Rattle.substitution.specs.Levels.{Cut}
use Rattle.substitution.proofs.Levels.{image_to-series, read_image_to}
use Rattle.substitution.proofs.Regions.{holds-packed}
use Rattle.turn.specs.Vectors.{Vectors}

module _ {p n v N cut : ℕ} (c : Cut p n v N cut) {ws : List ℕ} {H : Map}
    (held : Vectors p n v N 0 cut ws H) (us : List ℕ)
    (parts : (i : ℕ) → i < v → component n v i us
    ≡ image_of N (packed (λ q. get_or (component n v i ws) q 0) N)) where
  image-is : (i : ℕ) → i < v → component n v i us ≡ image_to p n v cut (H i)
  image-is i l = parts i l ∙ holds-packed c (held.each i l) refl

  pub packed-map : IsMap p n v us
  packed-map = record {
    each = λ i l.
        rw (image-is i l, ← append-nil (image_to p n v cut (H i)))
        (image_to-series p n v cut c.modulus_low c.modulus_high (H i) []);
  }

  pub packed-reads : (i : ℕ) → i < v → Within v (H i)
      → Agree p (suc cut) (map_of n v us i) (H i)
  packed-reads i l w =
      rw (map_of-inside n v us i l, image-is i l)
      (rw (append-nil (image_to p n v cut (H i))) at
      (read_image_to p n v cut c.modulus_low c.modulus_high (H i) [] w c.cut_low))
