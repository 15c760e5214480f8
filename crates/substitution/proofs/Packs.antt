-- Residues packed in place: the entries of positions 1 to j take at most j words, so the residues
-- of the later positions still stand at their words.
use Rattle.std.proofs.Common.{ℕ, ◌+◌, ◌-◌, ◌≤◌, ◌<◌, ◌≡◌, ap, ◌∙◌, List, ◌++◌, arith, length, get_or, take, drop}
use Rattle.series.specs.Image.{entry_of, packed, image_of}
use Rattle.series.specs.Over.{over}
use Rattle.series.proofs.Over.{over-above}
use Rattle.product.proofs.Packing.{Packing, packed-few, packing_none, packing_more, packing_few}
use Rattle.product.proofs.Packing.{packing_finished}

-- the entries of positions 1 to j are written, and the next goes to word i
abbrev pub Packs : List ℕ → ℕ → List ℕ → ℕ → ℕ → Type 0
Packs w₀ N w i j = Packing w₀ (λ q. get_or w₀ q 0) N 0 w i j

pub packs_none : (w₀ : List ℕ) (N : ℕ) → N + 1 ≤ length w₀ → Packs w₀ N w₀ 1 0
packs_none w₀ N l = packing_none w₀ (λ q. get_or w₀ q 0) N 0 (omega arith)

module _ {w₀ w : List ℕ} {N i j : ℕ} (l : N + 1 ≤ length w₀) (k : Packs w₀ N w i j) where
  abbrev f : ℕ → ℕ
  f q = get_or w₀ q 0

  abbrev fits : 0 + (N + 1) ≤ length w₀
  fits = omega arith

  -- the residue of the next position is still there
  pub packs_word : get_or w (j + 1) 0 ≡ get_or w₀ (j + 1) 0
  packs_word =
      ap (λ (x : List ℕ). get_or x (j + 1) 0) k.is
      ∙ over-above w₀ 1 (packed f j) (j + 1) (omega arith) (omega (arith, packed-few f j))

  pub packs_few : (1 ≤ i) × (i ≤ j + 1)
  packs_few =
      let b = packing_few w₀ f N 0 fits w i j k in
      (omega (arith, b.0), omega (arith, b.1))

  pub packs_more : (w' : List ℕ) (i' : ℕ) → j < N
      → i' ≡ i + length (entry_of (j + 1) (get_or w (j + 1) 0))
      → w' ≡ over w i (entry_of (j + 1) (get_or w (j + 1) 0)) → Packs w₀ N w' i' (j + 1)
  packs_more w' i' h ei ew =
      packing_more w₀ f N 0 fits w w' i i' j (get_or w (j + 1) 0) k h packs_word ei ew

  -- all are written, and the series is finished
  pub packs_done : j ≡ N → (w' : List ℕ) → w' ≡ image_of N (take (i - 1) (drop 1 w)) ++ drop (N + 1) w
      → w' ≡ image_of N (packed (λ q. get_or w₀ q 0) N) ++ drop (N + 1) w₀
  packs_done all w' e = e ∙ packing_finished w₀ f N l w i (rw all at k)
