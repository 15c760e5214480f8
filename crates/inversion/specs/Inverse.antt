-- The undoing maps of a map, 'counted over all origin-fixing maps of the same n and v' (01, 'The
-- operations'), and the one that inversion returns.
--
-- Glossary
--   each xs rs              each member of xs before each list of rs
--   lists k xs              every list of k members of xs
--   series_with N cs        the series whose coefficients at positions 1, 2, .. are cs
--   map_with n v rows       the map of v series: component i has no constant, and the coefficients
--                           of row i at positions 2, 3, ..
--   fixing_maps p n v       all origin-fixing maps, as words: v rows of N − 1 coefficients in every
--                           way. Just these are the origin-fixing maps, and each is there once
--                           (proofs/FixingMaps.antt)
--   those t xs              the members of xs that pass the test t
--   undoing_after p n v f   the origin-fixing maps that undo f after it; their number is its length
--   undoing_before p n v f  those that undo f before it
--   inverse p n v f         the map that undoes f: where the linear part of f is not singular, the
--                           one member of either list (proofs/Counting.antt)
use Rattle.std.specs.Prelude.{Bool, cond, List, [], ◌∷◌, ◌++◌, map, ℕ, zero, suc, ◌-◌, get_or}
use Rattle.linear.specs.Matrix.{range}
use Rattle.monomial.specs.Enumeration.{upto}
use Rattle.monomial.specs.Count.{count}
use Rattle.series.specs.Image.{packed, image_of}
use Rattle.inversion.specs.Undoing.{undoes_after, undoes_before}

unfoldable pub each : {A : Type 0} → List A → List (List A) → List (List A)
each [] rs = []
each (x ∷ xs) rs = map (λ r. x ∷ r) rs ++ each xs rs

unfoldable pub lists : {A : Type 0} → ℕ → List A → List (List A)
lists zero xs = [] ∷ []
lists (suc k) xs = each xs (lists k xs)

unfoldable pub series_with : ℕ → List ℕ → List ℕ
series_with N cs = image_of N (packed (λ q. get_or cs (q - 1) 0) N)

unfoldable pub map_with : ℕ → ℕ → List (List ℕ) → List ℕ
map_with n v rows = upto (λ i. series_with (count n v) (0 ∷ get_or rows i [])) v

unfoldable pub fixing_maps : ℕ → ℕ → ℕ → List (List ℕ)
fixing_maps p n v = map (map_with n v) (lists v (lists (count n v - 1) (range 0 p)))

unfoldable pub those : {A : Type 0} → (A → Bool) → List A → List A
those t [] = []
those t (x ∷ xs) = cond (t x) (x ∷ those t xs) (those t xs)

unfoldable pub undoing_after : ℕ → ℕ → ℕ → List ℕ → List (List ℕ)
undoing_after p n v f = those (undoes_after p n v f) (fixing_maps p n v)

unfoldable pub undoing_before : ℕ → ℕ → ℕ → List ℕ → List (List ℕ)
undoing_before p n v f = those (undoes_before p n v f) (fixing_maps p n v)

unfoldable pub inverse : ℕ → ℕ → ℕ → List ℕ → List ℕ
inverse p n v f = get_or (undoing_after p n v f) 0 []
