-- over d a s    the list d with the words s written from place a on
use Rattle.std.specs.Prelude.{List, ◌++◌, ℕ, ◌+◌, length, take, drop}

unfoldable pub over : List ℕ → ℕ → List ℕ → List ℕ
over d a s = take a d ++ (s ++ drop (a + length s) d)
