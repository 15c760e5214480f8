-- What is read off a line, by its length: 4, 5 or 6 bytes; nothing off any other.
use Rattle.std.proofs.Common.{eqb-true, ne_eqb, ◌≡◌, sym, ap, ◌∙◌, Bool, true, false, ◌&&◌, List, [], ◌∷◌, ℕ, ◌+◌, ◌-◌, ◌*◌, ◌≤◌, ◌<◌, zero-add, arith, eqb, length, get_or, take, take_all, length-take-le, cond, Option, Some, None}
use Rattle.std.proofs.Math.Bool.{and-true}
use Rattle.std.proofs.Math.Decide.{dec_lt}
use Rattle.std.proofs.lemmas.Grind.{common_steps}
use Rattle.line.specs.Line.{is_digit, all_digits, spelled, shape, numbers_or, parsed_line}

-- the number of one digit, of two digits, and two numbers where both are there
abbrev one : ℕ → Option ℕ
one a = cond (is_digit a) (Some (a - 48)) None

abbrev two : ℕ → ℕ → Option ℕ
two a b = cond (is_digit a && is_digit b) (Some (10 * (a - 48) + (b - 48))) None

abbrev both : Option ℕ → Option ℕ → Option (ℕ × ℕ)
both (Some n) (Some v) = Some (n, v)
both (Some n) None = None
both None v = None

one_shape : (p q r t : Bool) (n v : ℕ) → cond (p && (q && (r && t))) (Some (n, v)) None
    ≡ cond (q && t) (both (cond p (Some n) None) (cond r (Some v) None)) None
one_shape p q r t n v = grind (arith, common_steps)

-- where the space of the first shape is no digit of the second
two_shapes : (p q r t : Bool) (n v : ℕ) (p' q' r' : Bool) (m w : ℕ) → (q ≡ true → r' ≡ false)
    → cond (p && (q && (r && t))) (Some (n, v)) (cond (p' && (q' && (r' && t))) (Some (m, w)) None)
    ≡ cond t (cond q (both (cond p (Some n) None) (cond r (Some v) None))
    (cond q' (both (cond p' (Some m) None) (cond r' (Some w) None)) None)) None
two_shapes p q r t n v p' q' r' m w h = grind (arith, common_steps)

pub line_4 : (s : List ℕ) → length s ≡ 4 → parsed_line s
    ≡ cond (eqb (get_or s 1 0) 32 && eqb (get_or s 3 0) 10) (both (one (get_or s 0 0)) (one (get_or s 2 0))) None
unfolding parsed_line numbers_or shape all_digits spelled
line_4 [] e = absurd (omega arith)
line_4 (a ∷ []) e = absurd (omega arith)
line_4 (a ∷ b ∷ []) e = absurd (omega arith)
line_4 (a ∷ b ∷ c ∷ []) e = absurd (omega arith)
line_4 (a ∷ b ∷ c ∷ d ∷ []) e =
    simp (and-true, zero-add) (one_shape (is_digit a) (eqb b 32) (is_digit c) (eqb d 10) _ _)
line_4 (a ∷ b ∷ c ∷ d ∷ x ∷ s) e = absurd (omega arith)

pub line_5 : (s : List ℕ) → length s ≡ 5 → parsed_line s
    ≡ cond (eqb (get_or s 4 0) 10)
    (cond (eqb (get_or s 2 0) 32) (both (two (get_or s 0 0) (get_or s 1 0)) (one (get_or s 3 0)))
    (cond (eqb (get_or s 1 0) 32) (both (one (get_or s 0 0)) (two (get_or s 2 0) (get_or s 3 0))) None)) None
unfolding parsed_line numbers_or shape all_digits spelled
line_5 [] e = absurd (omega arith)
line_5 (a ∷ []) e = absurd (omega arith)
line_5 (a ∷ b ∷ []) e = absurd (omega arith)
line_5 (a ∷ b ∷ c ∷ []) e = absurd (omega arith)
line_5 (a ∷ b ∷ c ∷ d ∷ []) e = absurd (omega arith)
line_5 (a ∷ b ∷ c ∷ d ∷ x ∷ []) e =
    simp (and-true, zero-add)
    (two_shapes (is_digit a && is_digit b) (eqb c 32) (is_digit d) (eqb x 10) _ _
    (is_digit a) (eqb b 32) (is_digit c && is_digit d) _ _
    (λ q. rw (eqb-true c 32 q)))
line_5 (a ∷ b ∷ c ∷ d ∷ x ∷ y ∷ s) e = absurd (omega arith)

pub line_6 : (s : List ℕ) → length s ≡ 6 → parsed_line s
    ≡ cond (eqb (get_or s 2 0) 32 && eqb (get_or s 5 0) 10)
    (both (two (get_or s 0 0) (get_or s 1 0)) (two (get_or s 3 0) (get_or s 4 0))) None
unfolding parsed_line numbers_or shape all_digits spelled
line_6 [] e = absurd (omega arith)
line_6 (a ∷ []) e = absurd (omega arith)
line_6 (a ∷ b ∷ []) e = absurd (omega arith)
line_6 (a ∷ b ∷ c ∷ []) e = absurd (omega arith)
line_6 (a ∷ b ∷ c ∷ d ∷ []) e = absurd (omega arith)
line_6 (a ∷ b ∷ c ∷ d ∷ x ∷ []) e = absurd (omega arith)
line_6 (a ∷ b ∷ c ∷ d ∷ x ∷ y ∷ []) e =
    simp (and-true, zero-add) (one_shape (is_digit a && is_digit b) (eqb c 32) (is_digit d && is_digit x) (eqb y 10) _ _)
line_6 (a ∷ b ∷ c ∷ d ∷ x ∷ y ∷ z ∷ s) e = absurd (omega arith)

-- no shape has fewer bytes or more
no_shape : (a b : ℕ) (s : List ℕ) → (length s ≡ a + b + 2 → ⊥) → shape a b s ≡ false
unfolding shape
no_shape a b s h = rw (ne_eqb (length s) (a + b + 2) h)

pub line_none : (s : List ℕ) → (4 ≤ length s → 6 < length s) → parsed_line s ≡ None
unfolding parsed_line numbers_or
line_none s h =
    rw (
      no_shape 1 1 s (λ e. omega arith),
      no_shape 2 1 s (λ e. omega arith),
      no_shape 1 2 s (λ e. omega arith),
      no_shape 2 2 s (λ e. omega arith),
    )

-- by length
pub ruleset lines = (line_4, line_5, line_6, line_none)

-- the longest line has 6 bytes, so the first 7 bytes of the input are enough
pub parsed_start : (s : List ℕ) → parsed_line (take 7 s) ≡ parsed_line s
parsed_start s =
    let long : 6 < length s → parsed_line (take 7 s) ≡ parsed_line s = λ h.
    line_none (take 7 s) (rw (length-take-le 7 s (omega arith)) (omega arith))
    ∙ sym (line_none s (λ e. h)) in
    elim (dec_lt 6 (length s))
    [ yes h ↦ long h | no h ↦ ap parsed_line (take_all 7 s (omega arith)) ]
