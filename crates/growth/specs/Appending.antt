-- Entries put behind lists.
--
-- Glossary
--   size_of ends k o          how many entries list k has, by word o of row k of `ends`
--   SameShape ends ends'      as many rows of `ends`, of as many words each
--   Behind n v N o f es w w' ends ends'
--                             behind the entries of list k stand those of the coefficients that f k gives to
--                             the positions of es, for each k below v, and word o of row k counts them too;
--                             the entries before them, the other words of `ends` and the words outside the
--                             lists are as before
--   Carried n v o ends ends'  for each k below v the words of the orders above o are that of order o; the
--                             others are as before
use Rattle.std.specs.Prelude.{◌≡◌, List, ℕ, ◌+◌, ◌*◌, ◌≤◌, ◌<◌, length, get_or}
use Rattle.series.specs.Image.{coefficient}
use Rattle.product.specs.Pairs.{codes_of}
use Rattle.product.specs.Regions.{Outside}
use Rattle.walk.specs.Walking.{list_at, row}
use Rattle.growth.specs.Growth.{entries_of}

pub record SameShape (ends ends' : List (List ℕ)) : Type 0 where
  pub rows : length ends' ≡ length ends
  pub words : (k : ℕ) → length (row ends' k) ≡ length (row ends k)

abbrev pub size_of : List (List ℕ) → ℕ → ℕ → ℕ
size_of ends k o = get_or (row ends k) o 0

pub record Behind (n v N o : ℕ) (f : ℕ → ℕ → ℕ) (es w w' : List ℕ) (ends ends' : List (List ℕ))
    : Type 0 where
  pub ends_size : SameShape ends ends'
  pub counted : (k : ℕ) → k < v → size_of ends' k o ≡ size_of ends k o + length (entries_of (f k) es)
  pub ends_kept : (k j : ℕ) → (k < v → j ≡ o → ⊥) → size_of ends' k j ≡ size_of ends k j
  pub code : (k i : ℕ) → k < v → i < length (entries_of (f k) es)
      → get_or w' (list_at N k + (size_of ends k o + i)) 0 ≡ codes_of n v (get_or (entries_of (f k) es) i 0)
  pub factor : (k i : ℕ) → k < v → i < length (entries_of (f k) es)
      → get_or w' (list_at N k + (N + 1) + (size_of ends k o + i)) 0
      ≡ coefficient (get_or (entries_of (f k) es) i 0)
  pub code_kept : (k i : ℕ) → k < v → i < size_of ends k o
      → get_or w' (list_at N k + i) 0 ≡ get_or w (list_at N k + i) 0
  pub factor_kept : (k i : ℕ) → k < v → i < size_of ends k o
      → get_or w' (list_at N k + (N + 1) + i) 0 ≡ get_or w (list_at N k + (N + 1) + i) 0
  pub outside : Outside w w' (2 * (N + 1)) ((2 * v + 2) * (N + 1))

pub record Carried (n v o : ℕ) (ends ends' : List (List ℕ)) : Type 0 where
  pub ends_size : SameShape ends ends'
  pub above : (k j : ℕ) → k < v → o ≤ j → j ≤ n → size_of ends' k j ≡ size_of ends k o
  pub below : (k j : ℕ) → k < v → j < o → size_of ends' k j ≡ size_of ends k j
