-- One entry written over a part of a list, the zeros that complete an image, and an entry read.
use Rattle.std.proofs.Common.{◌≡◌, sym, ap, ◌∙◌, List, [], ◌∷◌, ◌++◌, append_assoc, ℕ, zero, suc, ◌+◌, ◌-◌, ◌≤◌, ◌<◌, add-zero, add-one, arith, length, get_or, take, drop, set, replicate, length-take-le, get_or-drop, get_or-take}
use Rattle.std.proofs.Math.ListN.{length-replicate}
use Rattle.std.proofs.lemmas.List.{get_or_default}
use Rattle.series.specs.Image.{entry, entries, entry_of, image_of}
use Rattle.series.specs.Over.{over}
use Rattle.series.proofs.Over.{over_none, over-one}
use Rattle.series.proofs.Packed.{entry_of-zero, entry_of-nonzero}

-- ---- the number of entries in word 0, and zeros behind the entries

pub image-made : (N at : ℕ) (s : List ℕ) → 1 ≤ at → at ≤ N + 1 → N + 1 ≤ length s
    → over (set s 0 (at - 1)) at (replicate (N + 1 - at) 0) ≡ image_of N (take (at - 1) (drop 1 s)) ++ drop (N + 1) s
unfolding over image_of
image-made N zero s l h f = absurd (omega arith)
image-made N (suc k) [] l h f = absurd (omega arith)
image-made N (suc k) (x ∷ s) l h f =
    let a : suc k - 1 ≡ k = omega arith in
    let b : N + 1 - suc k ≡ N - k = omega arith in
    let z : suc k + length (replicate {A = ℕ} (N - k) 0) ≡ suc N = omega (arith, length-replicate {A = ℕ} (N - k) 0) in
    let c : length (take k s) ≡ k = length-take-le k s (omega arith) in
    rw (a, b, z, add-one N, c, append_assoc (take k s) (replicate (N - k) 0) (drop N s))

-- ---- one entry

module _ (at q c : ℕ) (s : List ℕ) where
  pub put-none : c ≡ 0 → (at ≡ at + length (entry_of q c)) × (s ≡ over s at (entry_of q c))
  put-none e =
      let z = entry_of-zero q c e in
      (rw z (sym (add-zero at)), rw z (sym (over_none s at)))

  -- there is room for it
  pub put-inside : (c ≡ 0 → ⊥) → at + length (entry_of q c) ≤ length s → at < length s
  put-inside n f = omega (arith, ap length (entry_of-nonzero q c (omega arith)))

  pub put_one : (c ≡ 0 → ⊥) → at < length s
      → (at + 1 ≡ at + length (entry_of q c)) × (set s at (entry q c) ≡ over s at (entry_of q c))
  put_one n l =
      let e = entry_of-nonzero q c (omega arith) in
      (rw e, rw e (sym (over-one s at (entry q c) l)))

-- ---- reading the entries of a series

module _ (ws : List ℕ) (i d : ℕ) where
  abbrev many : ℕ
  many = get_or ws 0 0

  pub entry_read : i < many → many < length ws → get_or ws (i + 1) 0 ≡ get_or (entries ws) i d
  unfolding entries
  entry_read l f =
      let e : i + 1 ≡ 1 + i = omega arith in
      ap (λ k. get_or ws k 0) e
      ∙ get_or_default ws (1 + i) 0 d (omega arith)
      ∙ sym (get_or-drop 1 ws i d)
      ∙ sym (get_or-take many (drop 1 ws) i d l)
