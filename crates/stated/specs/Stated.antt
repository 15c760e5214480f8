-- Glossary
--   StatedAt stated k i x   x is what a case states for word i of a buffer whose first k words are needed: the
--                           stated word, 0 behind the stated ones, and the marker from word k on
use Rattle.std.specs.Prelude.{◌≡◌, List, ℕ, ◌≤◌, ◌<◌, length, get_or}

pub record StatedAt (stated : List ℕ) (k i x : ℕ) : Type 0 where
  pub marked : k ≤ i → x ≡ 50000
  pub given : i < k → i < length stated → x ≡ get_or stated i 0
  pub rest : i < k → length stated ≤ i → x ≡ 0
