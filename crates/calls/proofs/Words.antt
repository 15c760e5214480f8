-- Series and maps of a setting, and names for what the calls write where no check declines.
--
-- Glossary
--   IsSeriesIn s a       the words a begin with a series of the setting
--   IsMapIn s f          the words f begin with v of them
--   FixesIn s f          the map f has no constant
--   AgreeIn s P Q        the polynomials P and Q are the same up to order n and modulo p
--   summed s a b         the words of a + b
--   multiplied s a b     those of a b
--   substituted s a f    those of f substituted into a
--   composed s f g       those of g substituted into each component of f
use Rattle.std.proofs.Common.{List, ℕ, suc}
use Rattle.algebra.specs.Polynomial.{Polynomial, add, mul}
use Rattle.algebra.specs.Substitution.{substitute, compose}
use Rattle.algebra.specs.Agreement.{Agree, OriginFixing}
use Rattle.monomial.specs.Count.{count}
use Rattle.answer.specs.declared.Setting.{Setting}
use Rattle.series.specs.Series.{IsSeries, IsMap}
use Rattle.checks.specs.Settings.{prime_of, series_in, map_in, image_in, map_image_in}

abbrev pub IsSeriesIn : Setting → List ℕ → Type 0
IsSeriesIn s a = IsSeries (prime_of s) (count s.n s.v) a

abbrev pub IsMapIn : Setting → List ℕ → Type 0
IsMapIn s f = IsMap (prime_of s) s.n s.v f

abbrev pub FixesIn : Setting → List ℕ → Type 0
FixesIn s f = OriginFixing (prime_of s) (map_in s f)

abbrev pub AgreeIn : Setting → Polynomial → Polynomial → Type 0
AgreeIn s P Q = Agree (prime_of s) (suc s.n) P Q

abbrev pub summed : Setting → List ℕ → List ℕ → List ℕ
summed s a b = image_in s (add (series_in s a) (series_in s b))

abbrev pub multiplied : Setting → List ℕ → List ℕ → List ℕ
multiplied s a b = image_in s (mul (series_in s a) (series_in s b))

abbrev pub substituted : Setting → List ℕ → List ℕ → List ℕ
substituted s a f = image_in s (substitute (series_in s a) (map_in s f))

abbrev pub composed : Setting → List ℕ → List ℕ → List ℕ
composed s f g = map_image_in s (compose (map_in s f) (map_in s g))
