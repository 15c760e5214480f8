-- Term 3 of undoing maps, of the words of one map f: their number is 1 or 0, by the determinant of
-- the linear part, after f as before it, and `invert` leaves the one or refuses 9. That one of the
-- two holds of all words that pass refusals 7 and 8 is `one-or_none` (proofs/Closing.antt).
--
-- Glossary
--   OneUndoes p n v f    the determinant is not 0 modulo p, and 9 passes: one origin-fixing map
--                        undoes f after it, one before it, and both are the words that `invert`
--                        leaves
--   NoneUndoes p n v f   the determinant is 0 modulo p, and 9 is refused: no origin-fixing map undoes
--                        f after it, none before it
use Rattle.std.specs.Prelude.{◌≡◌, List, [], ◌∷◌, ℕ, length}
use Rattle.answer.specs.Refusals.{passed, declined}
use Rattle.series.specs.Image.{map_of}
use Rattle.inversion.specs.Linear.{determinant_of, singular_check}
use Rattle.inversion.specs.Inverse.{undoing_after, undoing_before, inverse}

pub record OneUndoes (p n v : ℕ) (f : List ℕ) : Type 0 where
  pub determinant : determinant_of p v (map_of n v f) ≡ 0 → ⊥
  pub inverted : singular_check p n v f ≡ passed
  pub number_after : length (undoing_after p n v f) ≡ 1
  pub number_before : length (undoing_before p n v f) ≡ 1
  pub after : undoing_after p n v f ≡ inverse p n v f ∷ []
  pub before : undoing_before p n v f ≡ inverse p n v f ∷ []

pub record NoneUndoes (p n v : ℕ) (f : List ℕ) : Type 0 where
  pub determinant : determinant_of p v (map_of n v f) ≡ 0
  pub refused : singular_check p n v f ≡ declined 9 (0 ∷ [])
  pub number_after : length (undoing_after p n v f) ≡ 0
  pub number_before : length (undoing_before p n v f) ≡ 0
  pub after : undoing_after p n v f ≡ []
  pub before : undoing_before p n v f ≡ []
