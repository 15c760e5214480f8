-- The answers of the C interface: one 64-bit number.
--
-- bits 0 to 7      0: finished; otherwise the number of the refusal
-- bits 8 to 15     refusal 7: the argument; otherwise 0
-- bits 16 to 23    refusal 7: the component; otherwise 0
-- bits 24 to 63    a refusal: its place, for 7 the word inside the component; finished: the number reported
--
-- wide x           x in bits 24 to 63: its low 40 bits, which every place and every reported number fits
-- encoded_place at  the place of a refusal, three numbers or one
-- encoded o        the number for the outcome o of a call
-- number_of r      bits 0 to 7 of an answer r
-- argument_of r    bits 8 to 15
-- component_of r   bits 16 to 23
-- place_of r       bits 24 to 63: the place, or the number reported
-- told k a c w     the outcome that the four say: finished, refusal 7 with three numbers, or another with one
-- outcome_of r     the outcome that a caller reads off an answer r
-- Tells r o        r tells the outcome o: it is what is read off r, and bits 8 to 23 are 0 but for refusal 7
-- encoded_left l   what a call leaves, the answer encoded
-- Told l           the encoded answer of a call that leaves l tells its outcome
-- sized b x        x, or 0 where b does not hold: the answer for a size of a setting that is out of range
use Rattle.std.specs.Prelude.{◌≡◌, Bool, cond, List, [], ◌∷◌, ℕ, ◌+◌, ◌*◌, ◌/◌, ◌%◌, eqb}
use Rattle.answer.specs.Refusals.{Outcome, finished, refused}
use Rattle.checks.specs.Calls.{Left, left}

abbrev pub wide : ℕ → ℕ
wide x = x % 1099511627776 * 16777216

abbrev pub encoded_place : List ℕ → ℕ
encoded_place [] = 0
encoded_place (w ∷ []) = wide w
encoded_place (a ∷ c ∷ []) = 0
encoded_place (a ∷ c ∷ w ∷ []) = a % 256 * 256 + c % 256 * 65536 + wide w
encoded_place (a ∷ c ∷ w ∷ x ∷ at) = 0

abbrev pub encoded : Outcome → ℕ
encoded (finished k) = wide k
encoded (refused n at) = n + encoded_place at

abbrev pub number_of : ℕ → ℕ
number_of r = r % 256

abbrev pub argument_of : ℕ → ℕ
argument_of r = r / 256 % 256

abbrev pub component_of : ℕ → ℕ
component_of r = r / 65536 % 256

abbrev pub place_of : ℕ → ℕ
place_of r = r / 16777216

abbrev pub told : ℕ → ℕ → ℕ → ℕ → Outcome
told k a c w = cond (eqb k 0) (finished w) (refused k (cond (eqb k 7) (a ∷ c ∷ w ∷ []) (w ∷ [])))

abbrev pub outcome_of : ℕ → Outcome
outcome_of r = told (number_of r) (argument_of r) (component_of r) (place_of r)

pub record Tells (r : ℕ) (o : Outcome) : Type 0 where
  pub read : outcome_of r ≡ o
  pub unused : (number_of r ≡ 7 → ⊥) → (argument_of r ≡ 0) × (component_of r ≡ 0)

abbrev pub encoded_left : Left Outcome → Left ℕ
encoded_left l = left (encoded l.answer) l.slices

abbrev pub Told : Left Outcome → Type 0
Told l = Tells (encoded l.answer) l.answer

abbrev pub sized : Bool → ℕ → ℕ
sized b x = cond b x 0
