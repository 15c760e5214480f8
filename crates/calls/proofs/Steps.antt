-- A call of the kernel, and whether it finished, as one step of a function that makes several.
use Rattle.std.proofs.Common.{Result, Ok, Err, is_ok, ◌≡◌, refl, ap, ap₂, ◌∙◌, subst, Bool, true, false, ◌&&◌, List, [], ◌∷◌, ℕ, get_or}
use Rattle.answer.specs.declared.Refusal.{Refusal}
use Rattle.answer.specs.Refusals.{Outcome, outcome}
use Rattle.checks.specs.Calls.{Left, left}
use Rattle.calls.specs.Calls.{is_finished, result_of, work_of, keeping}

-- a call finished where its answer is Ok
told : (a : Result ℕ Refusal) → is_ok a ≡ is_finished (outcome a)
told (Ok k) = refl
told (Err r) = refl

-- a call that left c said whether it finished, r, and left this result and this work space
pub record Step (c : Left Outcome) (r : Bool) (result work : List ℕ) : Type 0 where
  pub says : r ≡ is_finished c.answer
  pub result_is : result ≡ result_of c
  pub work_is : work ≡ work_of c

module _ (c : Left Outcome) (a : Result ℕ Refusal) {r : Bool} where
  says-of : {xs : List (List ℕ)} → left (outcome a) xs ≡ c → r ≡ is_ok a → r ≡ is_finished c.answer
  says-of h e = e ∙ told a ∙ ap (λ (l : Left Outcome). is_finished l.answer) h

  pub step : {result work : List ℕ} → left (outcome a) (result ∷ work ∷ []) ≡ c → r ≡ is_ok a → Step c r result work
  step h e = record {
    says = says-of h e;
    result_is = ap (λ (l : Left Outcome). get_or l.slices 0 []) h;
    work_is = ap (λ (l : Left Outcome). get_or l.slices 1 []) h;
  }

  -- a call without work space
  pub step_keeping : (work : List ℕ) {result : List ℕ} → left (outcome a) (result ∷ []) ≡ c → r ≡ is_ok a
      → Step (keeping work c) r result work
  step_keeping work h e = record {
    says = says-of h e;
    result_is = ap (λ (l : Left Outcome). get_or l.slices 0 []) h;
    work_is = refl;
  }

-- the same of a call that left the same
pub moved : {c d : Left Outcome} {r : Bool} {result work : List ℕ} → c ≡ d → Step c r result work → Step d r result work
moved {r = r} {result = result} {work = work} e = subst (λ (x : Left Outcome). Step x r result work) e

pub last : (x : Bool) → x ≡ (x && true)
last true = refl
last false = refl
