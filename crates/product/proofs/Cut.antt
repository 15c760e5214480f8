-- The image cut at an order: at order n it is the image, and cut images of the same polynomial up to that order
-- are the same.
use Rattle.std.proofs.Common.{◌≡◌, ap, ◌∙◌, ℕ, ◌*◌, ◌%◌, mul-one, leb, le→leb}
use Rattle.algebra.specs.Polynomial.{Polynomial, order, coefficient_of}
use Rattle.algebra.proofs.Booleans.{indicator-yes}
use Rattle.monomial.specs.Count.{count}
use Rattle.series.specs.Image.{monomial_at, image_of, image}
use Rattle.series.proofs.Packed.{packed-cong}
use Rattle.product.specs.Multiply.{image_to}
use Rattle.series.proofs.Positions.{order-monomial_at}

-- nothing is above order n
pub image_to-whole : (p n v : ℕ) (P : Polynomial) → image_to p n v n P ≡ image p n v P
unfolding image_to image
image_to-whole p n v P =
    ap (image_of (count n v))
    (packed-cong _ _ (count n v)
    (λ q l h.
    ap (λ (z : ℕ). z % p)
    (ap (λ (z : ℕ). coefficient_of (monomial_at n v q) P * z)
    (indicator-yes (leb (order (monomial_at n v q)) n) (le→leb _ n (order-monomial_at n v q l h)))
    ∙ mul-one (coefficient_of (monomial_at n v q) P))))
