-- Laws of what a call leaves where its checks passed: what its cores wrote.
use Rattle.std.proofs.Common.{◌≡◌, refl, sym, ap, ap₂, ◌∙◌, List, [], ◌∷◌, ◌++◌, ℕ, ◌+◌, ◌<◌, arith, length, drop, Result, Ok, Err}
use Rattle.std.proofs.Math.ListN.{length-replicate}
use Rattle.algebra.specs.Polynomial.{Polynomial}
use Rattle.monomial.specs.Count.{count}
use Rattle.answer.specs.declared.Setting.{Setting}
use Rattle.answer.specs.declared.Refusal.{Refusal}
use Rattle.answer.specs.Refusals.{Verdict, passed, declined, verdict, outcome, number, place}
use Rattle.answer.specs.Sizes.{work_words}
use Rattle.checks.specs.Settings.{prime_of, image_in, zeros}
use Rattle.checks.specs.Calls.{left, Write, written_to, leaves}
use Rattle.checks.proofs.TablePassed.{image-written}

-- the slices with the new words
abbrev pub Written : List (List ℕ) → List Write → Type 0
Written [] [] = Unit {0}
Written [] (w ∷ ws) = ⊥
Written (x ∷ xs) [] = ⊥
Written (x ∷ xs) (w ∷ ws) = (x ≡ w.new ++ drop (length w.new) w.old) × Written xs ws

all-written : (xs : List (List ℕ)) (ws : List Write) → Written xs ws → xs ≡ written_to passed ws
all-written [] [] d = refl
all-written [] (w ∷ ws) d = absurd d
all-written (x ∷ xs) [] d = absurd d
all-written (x ∷ xs) (w ∷ ws) d = ap₂ ◌∷◌ d.0 (all-written xs ws d.1)

-- the slices as they were
abbrev pub olds : List Write → List (List ℕ)
olds [] = []
olds (x ∷ xs) = x.old ∷ olds xs

untouched : (n : ℕ) (at : List ℕ) (ws : List Write) → written_to (declined n at) ws ≡ olds ws
untouched n at [] = refl
untouched n at (x ∷ xs) = ap (◌∷◌ x.old) (untouched n at xs)

-- a check declined: the call is refused and leaves every slice as it was
pub refused_leaves : {A : Type 0} {x : Result A Refusal} {r : Refusal} (w : Verdict) (k : ℕ) (ws : List Write) → x ≡ Err r
    → verdict x ≡ w → left (outcome (Err r)) (olds ws) ≡ leaves w k ws
refused_leaves {r = r} w k ws e h =
    ap (left _) (sym (untouched (number r) (place r) ws)) ∙ ap (λ (z : Verdict). leaves z k ws) (sym (ap verdict e) ∙ h)

-- all checks passed: the call finishes, and each slice has its new words
pub finished_leaves : (w : Verdict) (j k : ℕ) (xs : List (List ℕ)) (ws : List Write) → passed ≡ w → j ≡ k → Written xs ws
    → left (outcome (Ok j)) xs ≡ leaves w k ws
finished_leaves w j k xs ws h i d = rw (← h, i) (ap (left _) (all-written xs ws d))

-- ---- what the cores write, in the words of the contract

pub image-left : (s : Setting) → 65280 < prime_of s → prime_of s < 65536 → (P : Polynomial) (old new : List ℕ)
    → new ≡ image_in s P ++ drop (count s.n s.v + 1) old → new ≡ image_in s P ++ drop (length (image_in s P)) old
image-left s low high P old new h =
    image-written (prime_of s) s.n s.v (omega (arith, low)) (omega (arith, high)) old new _ _ refl refl P h

pub zeros-left : (s : Setting) (old new : List ℕ)
    → new ≡ zeros s ++ drop (work_words s.n s.v) old → new ≡ zeros s ++ drop (length (zeros s)) old
zeros-left s old new h =
    h ∙ ap (λ (k : ℕ). zeros s ++ drop k old) (sym (length-replicate (work_words s.n s.v) 0))
