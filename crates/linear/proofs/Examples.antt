-- Determinants and an inverse worked by the definitions alone, among them the starred pair of 01.
use Rattle.std.proofs.Common.{◌≡◌, refl, [], ◌∷◌, map}
use Rattle.algebra.specs.Sum.{sum_over}
use Rattle.residue.specs.Modulus.{modulus}
use Rattle.linear.specs.Matrix.{Matrix, range, times, square, product}
use Rattle.linear.specs.Matrix.{identity_matrix, Inverse}
use Rattle.linear.specs.Determinant.{each_first, choices, below, exchanges, taken, signed}
use Rattle.linear.specs.Determinant.{determinant}

three_choices : choices 3 (range 0 3)
    ≡ (0 ∷ 1 ∷ 2 ∷ [])
    ∷ (0 ∷ 2 ∷ 1 ∷ [])
    ∷ (1 ∷ 0 ∷ 2 ∷ [])
    ∷ (1 ∷ 2 ∷ 0 ∷ [])
    ∷ (2 ∷ 0 ∷ 1 ∷ [])
    ∷ (2 ∷ 1 ∷ 0 ∷ [])
    ∷ []
unfolding choices each_first range
three_choices = refl

three_exchanges : map exchanges (choices 3 (range 0 3)) ≡ 0 ∷ 1 ∷ 1 ∷ 2 ∷ 2 ∷ 3 ∷ []
unfolding exchanges below choices each_first range
three_exchanges = refl

-- 01: (256x1 + 15x2, x1 + 256x2) has the determinant 65,521, and is singular
singular-pair : determinant modulus 2 ((256 ∷ 15 ∷ []) ∷ (1 ∷ 256 ∷ []) ∷ []) ≡ 0
unfolding modulus determinant signed taken exchanges below choices each_first sum_over range
singular-pair = refl

-- 01: (256x1 + 14x2, x1 + 256x2) has the determinant 65,522, which is 1
regular : Matrix
regular = (256 ∷ 14 ∷ []) ∷ (1 ∷ 256 ∷ []) ∷ []

regular-pair : determinant modulus 2 regular ≡ 1
unfolding regular modulus determinant signed taken exchanges below choices each_first sum_over range
regular-pair = refl

regular-inverse : Inverse modulus 2 regular ((256 ∷ 65507 ∷ []) ∷ (65520 ∷ 256 ∷ []) ∷ [])
unfolding regular modulus product identity_matrix square times sum_over range
regular-inverse = record { left = refl; right = refl }

-- -66,104 as a whole number
four_by_four : determinant modulus 4
    ((2 ∷ 0 ∷ 5 ∷ 7 ∷ [])
    ∷ (1 ∷ 256 ∷ 3 ∷ 4 ∷ [])
    ∷ (9 ∷ 8 ∷ 1 ∷ 2 ∷ [])
    ∷ (0 ∷ 1 ∷ 0 ∷ 6 ∷ [])
    ∷ [])
    ≡ 64938
unfolding modulus determinant signed taken exchanges below choices each_first sum_over range
four_by_four = refl
