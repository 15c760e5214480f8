-- The slices of the calls, and a law of `room`: slices among those that passed pass.
use Rattle.std.proofs.Common.{◌≡◌, refl, ◌∙◌, Bool, true, false, List, [], ◌∷◌, ◌++◌, ℕ, zero, suc, arith, take, drop}
use Rattle.answer.specs.declared.Setting.{Setting}
use Rattle.answer.specs.Refusals.{passed}
use Rattle.answer.specs.Checks.{unless, setting_check}
use Rattle.answer.proofs.Laws.{or_else-passed}
use Rattle.answer.proofs.Passing.{both_pass}
use Rattle.checks.specs.declared.Kind.TheVariants.{Table, Series, Map, Work}
use Rattle.checks.specs.Settings.{extent_of}
use Rattle.checks.specs.Room.{Slice, slice, long_enough, slices_check, room}

-- the slices of a call, by their lengths: sum or product, substitution, composition, inversion
abbrev pub operation_slices : ℕ → ℕ → ℕ → ℕ → ℕ → List Slice
operation_slices t a b result work = slice Table t ∷ slice Series a ∷ slice Series b ∷ slice Series result ∷ slice Work work ∷ []

abbrev pub substitute_slices : ℕ → ℕ → ℕ → ℕ → ℕ → List Slice
substitute_slices t a f result work = slice Table t ∷ slice Series a ∷ slice Map f ∷ slice Series result ∷ slice Work work ∷ []

abbrev pub compose_slices : ℕ → ℕ → ℕ → ℕ → ℕ → List Slice
compose_slices t f g result work = slice Table t ∷ slice Map f ∷ slice Map g ∷ slice Map result ∷ slice Work work ∷ []

abbrev pub invert_slices : ℕ → ℕ → ℕ → ℕ → List Slice
invert_slices t f result work = slice Table t ∷ slice Map f ∷ slice Map result ∷ slice Work work ∷ []

-- the slices with the places `is` in bs, from 0; a place beyond them gives none
abbrev pub chosen : List Slice → List ℕ → List Slice
chosen bs [] = []
chosen bs (i ∷ is) = take 1 (drop i bs) ++ chosen bs is

-- a test that passed passes at any place
moved : (t : Bool) (number k j : ℕ) → unless t number (k ∷ []) ≡ passed → unless t number (j ∷ []) ≡ passed
moved true number k j h = refl
moved false number k j h = let z : ◌≡◌ {A = ℕ} 0 1 = cc in absurd (omega arith)

module _ (ok : Slice → Bool) (number : ℕ) where
  one-passed : (k : ℕ) (bs : List Slice) (i : ℕ) (rest : List Slice) → slices_check ok number k bs ≡ passed
      → ((j : ℕ) → slices_check ok number j rest ≡ passed)
      → (j : ℕ) → slices_check ok number j (take 1 (drop i bs) ++ rest) ≡ passed
  unfolding slices_check
  one-passed k [] zero rest h others j = others j
  one-passed k [] (suc i) rest h others j = others j
  one-passed k (b ∷ bs) zero rest h others j =
      or_else-passed (unless (ok b) number (j ∷ [])) (slices_check ok number (suc j) rest)
      (moved (ok b) number k j (both_pass (unless (ok b) number (k ∷ [])) (slices_check ok number (suc k) bs) h).0)
      ∙ others (suc j)
  one-passed k (b ∷ bs) (suc i) rest h others j =
      one-passed (suc k) bs i rest (both_pass (unless (ok b) number (k ∷ [])) (slices_check ok number (suc k) bs) h).1
      others j

  chosen-passed : (bs : List Slice) → slices_check ok number 1 bs ≡ passed → (is : List ℕ) (j : ℕ)
      → slices_check ok number j (chosen bs is) ≡ passed
  unfolding slices_check
  chosen-passed bs h [] j = refl
  chosen-passed bs h (i ∷ is) j = one-passed 1 bs i (chosen bs is) h (chosen-passed bs h is) j

pub room-chosen : (s : Setting) (bs : List Slice) (is : List ℕ) → room s bs ≡ passed → room s (chosen bs is) ≡ passed
unfolding room
room-chosen s bs is h =
    let ok = long_enough (extent_of s) in
    let b = both_pass (setting_check s.n s.v) (slices_check ok 2 1 bs) h in
    or_else-passed (setting_check s.n s.v) (slices_check ok 2 1 (chosen bs is)) b.0
    ∙ chosen-passed ok 2 bs b.1 is 1
