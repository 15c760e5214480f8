-- Refusal 8 as one loop finds it: the entries of an image ascend, so only the first can stand at
-- position 1, the constant's. An image without entries has a zero in its place.
use Rattle.std.proofs.Common.{◌≡◌, refl, sym, ap, ◌∙◌, Bool, true, false, not, ◌||◌, List, [], ◌∷◌, ℕ, zero, suc, ◌+◌, ◌-◌, ◌*◌, ◌≤◌, ◌<◌, add-one, arith, eq-eqb, ne_eqb, eqb, get_or, get_or-take}
use Rattle.answer.specs.Refusals.{Verdict, passed, declined}
use Rattle.answer.specs.Checks.{unless}
use Rattle.series.specs.Image.{position, image_of}
use Rattle.series.specs.Series.{Ascending, none, next, IsSeries}
use Rattle.series.specs.Faults.{any_is_one, has_constant}
use Rattle.series.specs.Arguments.{part, argument_check, constants_check}
use Rattle.series.proofs.Verdicts.{all-passed, passed_all, first-declined}
use Rattle.series.proofs.Series.{passed_to_series}
use Rattle.faults.proofs.CodeArguments.{part_at, component_check}

-- ---- a series

-- no entry behind a position from 1 on is the constant's
none_is_one : {p N last : ℕ} {es : List ℕ} → Ascending p N last es → 1 ≤ last → any_is_one es ≡ false
unfolding any_is_one
none_is_one none l = refl
none_is_one (next {w = w} x r) l =
    let h : 1 < position w = omega (arith, x.above) in
    rw (ne_eqb (position w) 1 (λ e. omega arith)) (none_is_one r (omega arith))

or_false : (b c : Bool) → c ≡ false → b || c ≡ b
or_false true c e = refl
or_false false c e = e

first_entry : {p N : ℕ} {es : List ℕ} → 0 < N → Ascending p N 0 es
    → any_is_one es ≡ eqb (position (get_or (image_of N es) 1 0)) 1
unfolding any_is_one image_of
first_entry {N = zero} l none = absurd (omega arith)
first_entry {N = suc N} l none = let e : suc N - 0 ≡ suc N = omega arith in rw e
first_entry l (next {w = w} {es = es} x r) =
    or_false (eqb (position w) 1) (any_is_one es) (none_is_one r (omega (arith, x.above)))

-- word 1 tells
pub constant-first : {p N : ℕ} {ws : List ℕ} → 0 < N → IsSeries p N ws
    → has_constant ws ≡ eqb (position (get_or ws 1 0)) 1
unfolding has_constant
constant-first {p} {N} {ws} l s =
    first_entry l s.ascending
    ∙ ap (λ x. eqb (position (get_or x 1 0)) 1) (sym s.words)
    ∙ ap (λ x. eqb (position x) 1) (get_or-take (N + 1) ws 1 0 (omega arith))

-- ---- the components of a map

module _ (N : ℕ) (ws : List ℕ) where
  -- the check of component i
  pub constant_of : ℕ → Verdict
  constant_of i = unless (not (has_constant (part N (i * (N + 1)) ws))) 8 (suc i ∷ [])

  pub constants-passed : (k : ℕ) → ((i : ℕ) → i < k → constant_of i ≡ passed)
      → constants_check N k ws ≡ passed
  unfolding constants_check constant_of
  constants-passed k = all-passed constant_of k

  -- the first component with a constant decides
  pub constants-declined : (k i : ℕ) {n : ℕ} {at : List ℕ} → i < k
      → ((j : ℕ) → j < i → constant_of j ≡ passed)
      → constant_of i ≡ declined n at → constants_check N k ws ≡ declined n at
  unfolding constants_check constant_of
  constants-declined k i = first-declined constant_of k i

  -- each component is an image
  module _ (p a k : ℕ) (pos : 0 < N) (image : argument_check p N a k ws ≡ passed)
      (i : ℕ) (l : i < k) where
    abbrev word : ℕ
    word = get_or ws (i * (N + 1) + 1) 0

    constant-is : has_constant (part N (i * (N + 1)) ws) ≡ eqb (position word) 1
    unfolding argument_check component_check
    constant-is =
        let c = passed_all (component_check p N a ws) k image i l in
        constant-first pos (passed_to_series p N a (suc i) _ pos c)
        ∙ ap (λ x. eqb (position x) 1) (part_at N (i * (N + 1)) ws 1 pos)

    pub constant-here : position word ≡ 1 → constant_of i ≡ declined 8 ((i + 1) ∷ [])
    unfolding constant_of
    constant-here e = rw (constant-is, eq-eqb _ _ e, add-one i)

    pub constant-not_here : (position word ≡ 1 → ⊥) → constant_of i ≡ passed
    unfolding constant_of
    constant-not_here e = rw (constant-is, ne_eqb _ _ e)
