-- The example of refusal 2 in 01's table, computed from `room`.
use Rattle.std.proofs.Common.{◌≡◌, refl, [], ◌∷◌}
use Rattle.monomial.specs.Count.{count, factorial, words, codes, allowed}
use Rattle.answer.specs.Refusals.{passed, declined}
use Rattle.answer.specs.Checks.{setting_check}
use Rattle.answer.specs.Sizes.{series_words, map_words, work_words}
use Rattle.checks.specs.declared.Kind.TheVariants.{Table, Series, Map, Work}
use Rattle.checks.specs.Settings.{setting_of}
use Rattle.checks.specs.Room.{slice, slices_check, room}

-- n 2, v 2 needs 18 words of table; the first slice that is too short is the place; 1 goes first
lengths :
    room (setting_of 2 2) (slice Table 17 ∷ []) ∷ room (setting_of 2 2) (slice Table 18 ∷ [])
    ∷ room (setting_of 2 2) (slice Table 18 ∷ slice Series 7 ∷ slice Map 13 ∷ slice Work 0 ∷ []) ∷ room (setting_of 10 7) (slice Table 0 ∷ []) ∷ []
    ≡ declined 2 (1 ∷ []) ∷ passed ∷ declined 2 (3 ∷ []) ∷ declined 1 (0 ∷ []) ∷ []
unfolding room slices_check setting_check allowed words codes count factorial series_words map_words work_words
lengths = refl
