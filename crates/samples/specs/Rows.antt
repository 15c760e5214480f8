-- The starred samples of 01 ('Samples on each side of an edge'), as rows of one list. Series and maps are given
-- as the words that a caller gives; what a row says is said with the definitions that the contracts cite.
--
-- Row
--   stands s m q         in the setting s the monomial m is at position q
--   multiplies s a b c k the product of a and b is c, from k pairs
--   derives s k a c      the derivative of a in variable k, from 1, is c
--   brackets s a b c     the bracket of a and b is c
--   substitutes s a f c  a with the map f substituted is c
--   inverts s f d g      f is inverted to g: its determinant is d modulo p, and refusal 9 passes
--   refuses s f          the call that inverts f, with the right table and slices just long enough, is refused 9
-- holds r                what row r says
-- every P rs             P of each row
-- rows                   the list
use Rattle.std.specs.Prelude.{◌≡◌, List, [], ◌∷◌, ℕ, ◌-◌, replicate}
use Rattle.algebra.specs.Polynomial.{Monomial, mul, derivative}
use Rattle.algebra.specs.Substitution.{substitute}
use Rattle.monomial.specs.Table.{position_of}
use Rattle.answer.specs.declared.Setting.{Setting}
use Rattle.answer.specs.Refusals.{passed, refused}
use Rattle.answer.specs.Sizes.{map_words}
use Rattle.series.specs.Image.{pair_count}
use Rattle.inversion.specs.Linear.{determinant_of}
use Rattle.checks.specs.Settings.{setting_of, prime_of, table_in, series_in, map_in, image_in, zeros}
use Rattle.checks.specs.Settings.{bracket_in, inverse_in}
use Rattle.checks.specs.Inputs.{singular}
use Rattle.checks.specs.Calls.{invert_call}

pub data Row : Type 0 where
  stands : (s : Setting) (m : Monomial) (q : ℕ) → Row
  multiplies : (s : Setting) (a b c : List ℕ) (k : ℕ) → Row
  derives : (s : Setting) (k : ℕ) (a c : List ℕ) → Row
  brackets : (s : Setting) (a b c : List ℕ) → Row
  substitutes : (s : Setting) (a f c : List ℕ) → Row
  inverts : (s : Setting) (f : List ℕ) (d : ℕ) (g : List ℕ) → Row
  refuses : (s : Setting) (f : List ℕ) → Row

abbrev pub holds : Row → Type 0
holds (stands s m q) = position_of s.n s.v m ≡ q
holds (multiplies s a b c k) =
    (image_in s (mul (series_in s a) (series_in s b)) ≡ c)
    × (pair_count s.n (series_in s a) (series_in s b) ≡ k)
holds (derives s k a c) = image_in s (derivative (k - 1) (series_in s a)) ≡ c
holds (brackets s a b c) = image_in s (bracket_in s (series_in s a) (series_in s b)) ≡ c
holds (substitutes s a f c) = image_in s (substitute (series_in s a) (map_in s f)) ≡ c
holds (inverts s f d g) =
    (determinant_of (prime_of s) s.v (map_in s f) ≡ d) × (singular s f ≡ passed) × (inverse_in s f ≡ g)
holds (refuses s f) =
    (invert_call s (table_in s) f (replicate (map_words s.n s.v) 0) (zeros s)).answer ≡ refused 9 (0 ∷ [])

abbrev pub every : (Row → Type 0) → List Row → Type 0
every P [] = Unit {0}
every P (r ∷ rs) = P r × every P rs

-- ---- words

-- n 2, v 1: 1 + x, and 1 + 65,520x
abbrev sum₂ : List ℕ
sum₂ = 2 ∷ 65537 ∷ 131073 ∷ 0 ∷ []

abbrev difference₂ : List ℕ
difference₂ = 2 ∷ 65537 ∷ 196592 ∷ 0 ∷ []

-- n 1, v 1: 1 + x
abbrev sum₁ : List ℕ
sum₁ = 2 ∷ 65537 ∷ 131073 ∷ []

-- n 2, v 2: positions 1 to 6 are those of 1, x1, x1², x2, x1x2, x2²
abbrev square : List ℕ
square = 1 ∷ 196609 ∷ 0 ∷ 0 ∷ 0 ∷ 0 ∷ 0 ∷ []

abbrev other_square : List ℕ
other_square = 1 ∷ 393217 ∷ 0 ∷ 0 ∷ 0 ∷ 0 ∷ 0 ∷ []

-- (x1 + x2, x2)
abbrev sheared : List ℕ
sheared = 2 ∷ 131073 ∷ 262145 ∷ 0 ∷ 0 ∷ 0 ∷ 0 ∷ 1 ∷ 262145 ∷ 0 ∷ 0 ∷ 0 ∷ 0 ∷ 0 ∷ []

unfoldable pub rows : List Row
rows =
    -- x1x2 at 5; with four variables x1x2 at 5, x2² at 6, x3 at 7
    stands (setting_of 2 2) (1 ∷ 1 ∷ []) 5
    ∷ stands (setting_of 2 4) (1 ∷ 1 ∷ 0 ∷ 0 ∷ []) 5
    ∷ stands (setting_of 2 4) (0 ∷ 2 ∷ 0 ∷ 0 ∷ []) 6
    ∷ stands (setting_of 2 4) (0 ∷ 0 ∷ 1 ∷ 0 ∷ []) 7
    -- (1 + x)(1 + x), and the same at n 1; a product whose x cancels
    ∷ multiplies (setting_of 2 1) sum₂ sum₂ (3 ∷ 65537 ∷ 131074 ∷ 196609 ∷ []) 4
    ∷ multiplies (setting_of 1 1) sum₁ sum₁ (2 ∷ 65537 ∷ 131074 ∷ []) 3
    ∷ multiplies (setting_of 2 1) sum₂ difference₂ (2 ∷ 65537 ∷ 262128 ∷ 0 ∷ []) 4
    -- the derivative of x1² in x1 is 2x1; the bracket of x1² and x2² is 4x1x2
    ∷ derives (setting_of 2 2) 1 square (1 ∷ 131074 ∷ 0 ∷ 0 ∷ 0 ∷ 0 ∷ 0 ∷ [])
    ∷ brackets (setting_of 2 2) square other_square (1 ∷ 327684 ∷ 0 ∷ 0 ∷ 0 ∷ 0 ∷ 0 ∷ [])
    -- x1² with (x1 + x2, x2) is x1² + 2x1x2 + x2²
    ∷ substitutes (setting_of 2 2) square sheared (3 ∷ 196609 ∷ 327682 ∷ 393217 ∷ 0 ∷ 0 ∷ 0 ∷ [])
    -- 2x + 3x² and 32,761x + 24,570x²
    ∷ inverts (setting_of 2 1) (2 ∷ 131074 ∷ 196611 ∷ 0 ∷ []) 2
    (2 ∷ 163833 ∷ 221178 ∷ 0 ∷ [])
    -- (x1 + x2², x2) and (x1 + 65,520x2², x2)
    ∷ inverts (setting_of 2 2) (2 ∷ 131073 ∷ 393217 ∷ 0 ∷ 0 ∷ 0 ∷ 0 ∷ 1 ∷ 262145 ∷ 0 ∷ 0 ∷ 0 ∷ 0 ∷ 0 ∷ []) 1
    (2 ∷ 131073 ∷ 458736 ∷ 0 ∷ 0 ∷ 0 ∷ 0 ∷ 1 ∷ 262145 ∷ 0 ∷ 0 ∷ 0 ∷ 0 ∷ 0 ∷ [])
    -- (256x1 + 15x2, x1 + 256x2): determinant 65,521
    ∷ refuses (setting_of 2 2) (2 ∷ 131328 ∷ 262159 ∷ 0 ∷ 0 ∷ 0 ∷ 0 ∷ 2 ∷ 131073 ∷ 262400 ∷ 0 ∷ 0 ∷ 0 ∷ 0 ∷ [])
    -- (256x1 + 14x2, x1 + 256x2): determinant 65,522, which is 1;
    -- inverse (256x1 + 65,507x2, 65,520x1 + 256x2)
    ∷ inverts (setting_of 2 2) (2 ∷ 131328 ∷ 262158 ∷ 0 ∷ 0 ∷ 0 ∷ 0 ∷ 2 ∷ 131073 ∷ 262400 ∷ 0 ∷ 0 ∷ 0 ∷ 0 ∷ []) 1
    (2 ∷ 131328 ∷ 327651 ∷ 0 ∷ 0 ∷ 0 ∷ 0 ∷ 2 ∷ 196592 ∷ 262400 ∷ 0 ∷ 0 ∷ 0 ∷ 0 ∷ [])
    ∷ []
