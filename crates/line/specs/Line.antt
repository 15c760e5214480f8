-- The input of the sheet program: 'one line: n, one space, v, a newline, each number one or two
-- digits, and nothing else' (01). The whole input is that line. Leading zeros are digits like any.
--
-- is_digit b      b is one of the bytes `0` to `9` (48 to 57)
-- all_digits s    every byte of s is
-- spelled x s     the number that the digits s spell, read on after x
-- shape a b s     s is a digits, a space (32), b digits, a newline (10), and nothing else
-- numbers_or a b s other  the two numbers of s where it has that shape, and `other` where not
-- parsed_line s   n and v, where s has one of the four shapes; none otherwise
-- form_check p    the verdict on what is read off a line, p: 10 where it is none, place 0
-- parsed_order p, parsed_variables p    its n and v: 0 where it is none
-- line_order s, line_variables s  n and v of the input s: 0 where it is malformed
-- line_check s    the verdict on the input s: 'in maptab 10 is tested first, then 1' (01)
use Rattle.std.specs.Prelude.{Bool, true, ◌&&◌, cond, List, [], ◌∷◌, ℕ, ◌+◌, ◌-◌, ◌*◌, leb, eqb, length, get_or, take, drop, Option, Some, None}
use Rattle.answer.specs.Refusals.{Verdict, passed, declined}
use Rattle.answer.specs.Checks.{first_of, setting_check}

abbrev pub is_digit : ℕ → Bool
is_digit b = leb 48 b && leb b 57

unfoldable pub all_digits : List ℕ → Bool
all_digits [] = true
all_digits (b ∷ s) = is_digit b && all_digits s

unfoldable pub spelled : ℕ → List ℕ → ℕ
spelled x [] = x
spelled x (b ∷ s) = spelled (10 * x + (b - 48)) s

unfoldable pub shape : ℕ → ℕ → List ℕ → Bool
shape a b s =
    eqb (length s) (a + b + 2)
    && (all_digits (take a s)
    && (eqb (get_or s a 0) 32
    && (all_digits (take b (drop (a + 1) s))
    && eqb (get_or s (a + b + 1) 0) 10)))

unfoldable pub numbers_or : ℕ → ℕ → List ℕ → Option (ℕ × ℕ) → Option (ℕ × ℕ)
numbers_or a b s other =
    cond (shape a b s) (Some (spelled 0 (take a s), spelled 0 (take b (drop (a + 1) s)))) other

unfoldable pub parsed_line : List ℕ → Option (ℕ × ℕ)
parsed_line s = numbers_or 1 1 s (numbers_or 2 1 s (numbers_or 1 2 s (numbers_or 2 2 s None)))

abbrev pub form_check : Option (ℕ × ℕ) → Verdict
form_check (Some z) = passed
form_check None = declined 10 (0 ∷ [])

abbrev pub parsed_order : Option (ℕ × ℕ) → ℕ
parsed_order (Some z) = z.0
parsed_order None = 0

abbrev pub parsed_variables : Option (ℕ × ℕ) → ℕ
parsed_variables (Some z) = z.1
parsed_variables None = 0

unfoldable pub line_order : List ℕ → ℕ
line_order s = parsed_order (parsed_line s)

unfoldable pub line_variables : List ℕ → ℕ
line_variables s = parsed_variables (parsed_line s)

unfoldable pub line_check : List ℕ → Verdict
line_check s =
    first_of (form_check (parsed_line s) ∷ setting_check (line_order s) (line_variables s) ∷ [])
