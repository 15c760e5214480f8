-- Laws of verdicts and outcomes: what a routine uses when one of its checks declines or passes.
use Rattle.std.proofs.Common.{◌≡◌, refl, sym, ap, ◌∙◌, subst, Bool, true, false, List, ◌∷◌, ◌++◌, ℕ, length, drop, Result, Ok, Err}
use Rattle.answer.specs.declared.Refusal.{Refusal}
use Rattle.answer.specs.Refusals.{Verdict, passed, declined, verdict, answered, outcome, written}
use Rattle.answer.specs.Checks.{or_else, first_of, unless}

-- a verdict that passed leaves the decision to the next
pub or_else-passed : (w x : Verdict) → w ≡ passed → or_else w x ≡ x
or_else-passed w x e = rw e

-- a verdict that declined decides
pub or_else-declined : (A : Type 0) (r : Refusal) (w x : Verdict) → verdict {A = A} (Err r) ≡ w
    → verdict {A = A} (Err r) ≡ or_else w x
or_else-declined A r w x e = rw (sym e)

pub first_of-cons : (w : Verdict) (ws : List Verdict) → first_of (w ∷ ws) ≡ or_else w (first_of ws)
first_of-cons w ws = refl

-- the last verdict is what the whole list says where all before it passed
pub or_else-last : (w : Verdict) → or_else w passed ≡ w
or_else-last passed = refl
or_else-last (declined n at) = refl

pub unless-true : (t : Bool) (n : ℕ) (at : List ℕ) → t ≡ true → unless t n at ≡ passed
unless-true t n at e = rw e

pub unless-false : (t : Bool) (n : ℕ) (at : List ℕ) → t ≡ false → unless t n at ≡ declined n at
unless-false t n at e = rw e

-- ---- a check of the code that declined or passed

-- it declined: its verdict is the whole list's
pub decides : {A : Type 0} {x : Result A Refusal} {r : Refusal} (w rest : Verdict) → x ≡ Err r → verdict x ≡ w
    → verdict x ≡ or_else w rest
decides {A} {x} {r} w rest e =
    subst (λ (y : Result A Refusal). verdict y ≡ w → verdict y ≡ or_else w rest) (sym e) (or_else-declined A r w rest)

-- it passed: the others decide
pub goes_on : {A : Type 0} {x : Result A Refusal} {a : A} (w rest : Verdict) → x ≡ Ok a → verdict x ≡ w → or_else w rest ≡ rest
goes_on w rest e h = or_else-passed w rest (sym h ∙ ap verdict e)

-- what a whole call says where its checks declined, and where they passed
pub refused_by : {A : Type 0} {x : Result A Refusal} {r : Refusal} (w : Verdict) (k : ℕ) → x ≡ Err r → verdict x ≡ w
    → outcome (Err r) ≡ answered w k
refused_by w k e h = ap (λ (z : Verdict). answered z k) (sym (ap verdict e) ∙ h)

pub finished_by : {A : Type 0} {x : Result A Refusal} {a : A} (w : Verdict) (k : ℕ) → x ≡ Ok a → verdict x ≡ w
    → outcome (Ok k) ≡ answered w k
finished_by w k e h = ap (λ (z : Verdict). answered z k) (sym (ap verdict e) ∙ h)

-- and what it leaves
pub unchanged_by : {A : Type 0} {x : Result A Refusal} {r : Refusal} (w : Verdict) (new old : List ℕ) → x ≡ Err r → verdict x ≡ w
    → old ≡ written w new old
unchanged_by w new old e h = ap (λ (z : Verdict). written z new old) (sym (ap verdict e) ∙ h)

pub written-by : {A : Type 0} {x : Result A Refusal} {a : A} (w : Verdict) (new old : List ℕ) → x ≡ Ok a → verdict x ≡ w
    → new ++ drop (length new) old ≡ written w new old
written-by w new old e h = ap (λ (z : Verdict). written z new old) (sym (ap verdict e) ∙ h)
