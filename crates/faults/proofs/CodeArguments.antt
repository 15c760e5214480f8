-- Refusal 7 as nested loops find it: the words of a component in order, the components of an
-- argument in order, the arguments in order.
use Rattle.std.proofs.Common.{◌≡◌, sym, ap, ap₂, ◌∙◌, true, false, List, [], ◌∷◌, ℕ, suc, ◌+◌, ◌*◌, ◌≤◌, ◌<◌, mul-le-mul_right, add-one, arith, length, get_or, drop, length-drop, drop_of_length-le, take_all, drop-cons, get_or-take, get_or-drop}
use Rattle.answer.specs.Refusals.{Verdict, passed, declined}
use Rattle.answer.specs.Checks.{or_else}
use Rattle.answer.proofs.Laws.{or_else-passed}
use Rattle.series.specs.Image.{position}
use Rattle.series.specs.Faults.{word_is_good, fault_from, first_fault}
use Rattle.series.specs.Faults.{series_check}
use Rattle.series.specs.Arguments.{part, argument_check, Given, arguments_check}
use Rattle.series.proofs.Verdicts.{all-passed, first-declined}
use Rattle.series.proofs.Faults.{fault_from-good, fault_from-faulty}
use Rattle.series.proofs.Series.{first_fault-behind}
use Rattle.series.proofs.Series.{fault_none_to_passed, fault_to_declined}

-- ---- the words of a series

-- the first fault of the series ws from word k on; it has m entries, the last before word k at prev
abbrev pub scan : ℕ → ℕ → ℕ → ℕ → ℕ → List ℕ → ℕ
scan p N m k prev ws = fault_from p N m k prev (drop k ws)

module _ (p N : ℕ) (ws : List ℕ) (long : length ws ≡ N + 1) where
  pub scan-start : (m : ℕ) → m ≡ get_or ws 0 0 → m ≤ N → scan p N m 1 0 ws ≡ first_fault p N ws
  scan-start m e l =
      ap₂ (λ x y. fault_from p N x 1 0 y) e
      (sym (take_all N (drop 1 ws) (omega (arith, length-drop 1 ws))))
      ∙ sym (first_fault-behind p N ws (omega arith))

  module _ (m k prev : ℕ) where
    split : k ≤ N → scan p N m k prev ws ≡ fault_from p N m k prev (get_or ws k 0 ∷ drop (suc k) ws)
    split l = ap (fault_from p N m k prev) (drop-cons ws k 0 (omega arith))

    pub scan_good : k ≤ N → word_is_good p N m k prev (get_or ws k 0) ≡ true
        → scan p N m k prev ws ≡ scan p N m (k + 1) (position (get_or ws k 0)) ws
    scan_good l t = rw add-one (split l ∙ fault_from-good p N m k prev _ _ (rw t tt))

    pub scan-faulty : k ≤ N → word_is_good p N m k prev (get_or ws k 0) ≡ false
        → scan p N m k prev ws ≡ k
    scan-faulty l t = split l ∙ fault_from-faulty p N m k prev _ _ (λ s. rw t at s)

    pub scan-end : N < k → scan p N m k prev ws ≡ k
    unfolding fault_from
    scan-end l =
        let h : length ws ≤ k = omega arith in
        ap (fault_from p N m k prev) (drop_of_length-le ws h)

-- ---- a component in its slice

module _ (N at : ℕ) (ws : List ℕ) where
  pub part_at : (k : ℕ) → k ≤ N → get_or (part N at ws) k 0 ≡ get_or ws (at + k) 0
  part_at k l = get_or-take (N + 1) (drop at ws) k 0 (omega arith) ∙ get_or-drop at ws k 0

-- word j of component i lies in a slice of k components
pub word-inside : (N i k j size : ℕ) → i < k → j ≤ N → k * (N + 1) ≤ size → i * (N + 1) + j < size
word-inside N i k j size l h f = omega (arith, mul-le-mul_right (N + 1) l)

-- ---- the components of an argument

-- the check of component i of argument a
unfoldable pub component_check : ℕ → ℕ → ℕ → List ℕ → ℕ → Verdict
component_check p N a ws i = series_check p N a (suc i) (part N (i * (N + 1)) ws)

module _ (p N a : ℕ) (ws : List ℕ) where
  module _ (i j : ℕ) (e : first_fault p N (part N (i * (N + 1)) ws) ≡ j) where
    pub component-passed : j ≡ N + 1 → component_check p N a ws i ≡ passed
    unfolding component_check
    component-passed h = fault_none_to_passed p N a (suc i) _ (e ∙ h)

    pub component-declined : j ≤ N → component_check p N a ws i ≡ declined 7 (a ∷ (i + 1) ∷ j ∷ [])
    unfolding component_check
    component-declined h =
        fault_to_declined p N a (suc i) _ (omega arith)
        ∙ ap₂ (λ x y. declined 7 (a ∷ x ∷ y ∷ [])) (sym (add-one i)) e

  pub argument_passed : (k : ℕ) → ((i : ℕ) → i < k → component_check p N a ws i ≡ passed)
      → argument_check p N a k ws ≡ passed
  unfolding argument_check component_check
  argument_passed k = all-passed (component_check p N a ws) k

  -- the first faulty component decides
  pub argument_declined : (k i : ℕ) {n : ℕ} {at : List ℕ} → i < k
      → ((j : ℕ) → j < i → component_check p N a ws j ≡ passed)
      → component_check p N a ws i ≡ declined n at → argument_check p N a k ws ≡ declined n at
  unfolding argument_check component_check
  argument_declined k i = first-declined (component_check p N a ws) k i

-- ---- the arguments of a call

-- no argument
abbrev pub none : Given
none = (record { ref_ptr = (0, 0); now = [] }, 0)

-- argument j, from 0
abbrev pub argument : List Given → ℕ → Given
argument xs j = get_or xs j none

module _ (p N a : ℕ) (xs : List Given) (j : ℕ) where
  -- the verdict on it, and on those behind it
  abbrev here : Verdict
  here = argument_check p N a (argument xs j).1 (argument xs j).0.now

  abbrev behind : Verdict
  behind = arguments_check p N (suc a) (drop (suc j) xs)

  -- it is tested first
  argument-first : j < length xs → arguments_check p N a (drop j xs) ≡ or_else here behind
  unfolding arguments_check
  argument-first l = ap (arguments_check p N a) (drop-cons xs j none l)

  -- it passes, and the next decides
  pub argument-next : j < length xs → here ≡ passed
      → arguments_check p N a (drop j xs) ≡ arguments_check p N (a + 1) (drop (j + 1) xs)
  argument-next l e = rw (add-one a, add-one j) (argument-first l ∙ or_else-passed here behind e)

  -- it declines
  pub argument-stop : {n : ℕ} {at : List ℕ} → j < length xs → here ≡ declined n at
      → arguments_check p N a (drop j xs) ≡ declined n at
  argument-stop l e = argument-first l ∙ ap (λ (w : Verdict). or_else w behind) e

  -- all of them passed
  pub arguments-end : length xs ≤ j → arguments_check p N a (drop j xs) ≡ passed
  unfolding arguments_check
  arguments-end l = rw (drop_of_length-le xs l)
