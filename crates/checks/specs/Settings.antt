-- What a setting means. Every public statement takes the setting, and reads its numbers here.
--
-- setting_of n v  the setting of the numbers n and v
-- prime_of s      the prime p of a setting: 01's modulus in every setting
-- extent_of s     the sizes that it fixes: n, v, N and E
-- table_in s      the words of its monomial table
-- series_in s ws  the polynomial that the words of a series stand for
-- map_in s ws     the map that the words of v series stand for
-- image_in s P    the one image of the polynomial P, cut at order n, modulo p
-- map_image_in s f  the images of the v components of the map f
-- identity_in s   the words of the identity map
-- zeros s         cleared work space
-- bracket_in s P Q the bracket of two polynomials: over all pairs of variables
-- inverse_in s f  the words of the one map that undoes f
use Rattle.std.specs.Prelude.{List, ℕ, ◌/◌, replicate}
use Rattle.algebra.specs.Polynomial.{Polynomial, bracket}
use Rattle.algebra.specs.Substitution.{Map, identity}
use Rattle.residue.specs.Modulus.{modulus}
use Rattle.monomial.specs.Table.{table_words}
use Rattle.counts.specs.declared.Sizes.{Sizes}
use Rattle.counts.specs.Sizes.{sizes_of}
use Rattle.answer.specs.declared.Setting.{Setting}
use Rattle.answer.specs.Sizes.{work_words}
use Rattle.series.specs.Image.{polynomial, map_of, image, map_image}
use Rattle.inversion.specs.Inverse.{inverse}

abbrev pub setting_of : ℕ → ℕ → Setting
setting_of n v = record { n = n; v = v }

unfoldable pub prime_of : Setting → ℕ
prime_of s = modulus

abbrev pub extent_of : Setting → Sizes
extent_of s = sizes_of s.n s.v

abbrev pub table_in : Setting → List ℕ
table_in s = table_words s.n s.v

abbrev pub series_in : Setting → List ℕ → Polynomial
series_in s ws = polynomial s.n s.v ws

abbrev pub map_in : Setting → List ℕ → Map
map_in s ws = map_of s.n s.v ws

abbrev pub image_in : Setting → Polynomial → List ℕ
image_in s P = image (prime_of s) s.n s.v P

abbrev pub map_image_in : Setting → Map → List ℕ
map_image_in s f = map_image (prime_of s) s.n s.v f

abbrev pub identity_in : Setting → List ℕ
identity_in s = map_image_in s identity

abbrev pub zeros : Setting → List ℕ
zeros s = replicate (work_words s.n s.v) 0

unfoldable pub bracket_in : Setting → Polynomial → Polynomial → Polynomial
bracket_in s P Q = bracket (prime_of s) (s.v / 2) P Q

unfoldable pub inverse_in : Setting → List ℕ → List ℕ
inverse_in s f = inverse (prime_of s) s.n s.v f
