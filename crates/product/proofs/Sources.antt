-- The entries that stand in a slice from word src + 1 on, one by one.
use Rattle.std.proofs.Common.{◌≡◌, ◌∙◌, List, ℕ, ◌+◌, ◌≤◌, ◌<◌, arith, length, get_or, drop, length-drop, get_or-take, get_or-drop, length-take-le}
use Rattle.product.specs.Regions.{source_entries}

module _ (w : List ℕ) (src m : ℕ) (inside : src + 1 + m ≤ length w) where
  pub length-source : length (source_entries w src m) ≡ m
  unfolding source_entries
  length-source = length-take-le m (drop (src + 1) w) (omega (arith, length-drop (src + 1) w))

  pub source_at : (i : ℕ) → i < m → get_or (source_entries w src m) i 0 ≡ get_or w (src + 1 + i) 0
  unfolding source_entries
  source_at i l = get_or-take m (drop (src + 1) w) i 0 l ∙ get_or-drop (src + 1) w i 0
