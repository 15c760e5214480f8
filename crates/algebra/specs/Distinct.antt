-- Lists without repetition.
--
-- Glossary
--   Distinct s    no member of the list s stands in it twice
use Rattle.std.specs.Prelude.{List, [], ◌∷◌}
use mathlib.Core.List.{Memᴰ}

abbrev pub Distinct : {A : Type 0} → List A → Type 0
Distinct [] = Unit {0}
Distinct (x ∷ s) = (Memᴰ x s → ⊥) × Distinct s
