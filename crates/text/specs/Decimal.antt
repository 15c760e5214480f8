-- Words and numbers as bytes (01, the sheet program).
--
-- ascii s         the bytes of a quoted text
-- decimal x       the bytes of x in decimal, without leading zeros; 0 is `0`
-- decimal_in k x  the same for a number x of at most k + 1 digits; 48 is the byte of `0`
use Rattle.std.specs.Prelude.{cond, List, [], ◌∷◌, ◌++◌, ℕ, zero, suc, ◌+◌, ◌/◌, ◌%◌, ltb}
use Prim.Native.Char.{code}
use Prim.Native.String.{String}

unfoldable pub ascii : String → List ℕ
ascii String.[] = []
ascii (String.◌∷◌ c s) = code c ∷ ascii s

unfoldable pub decimal_in : ℕ → ℕ → List ℕ
decimal_in zero x = (48 + x) ∷ []
decimal_in (suc k) x =
    let longer = decimal_in k (x / 10) ++ ((48 + x % 10) ∷ []) in
    cond (ltb x 10) ((48 + x) ∷ []) longer

-- x digits are enough for x
unfoldable pub decimal : ℕ → List ℕ
decimal x = decimal_in x x
