-- One sum turned into an entry: what is written, and what the entry and the sums are then.
use Rattle.std.proofs.Common.{◌≡◌, sym, ap, ap₂, ◌∙◌, ◌≢◌, List, [], ◌++◌, ℕ, ◌+◌, ◌*◌, ◌%◌, ◌≤◌, ◌<◌, mod-lt, arith, length, get_or, set, take, drop, length-drop, get_or-take, get_or-drop, drop-drop, drop_at, take-add, ext_get_or, length-take-le}
use Rattle.std.proofs.Math.Nat.{zero-mod}
use Rattle.std.proofs.Math.Decide.{dec_lt}
use Rattle.std.proofs.Math.Seq.{set-get_or, take-append_seam}
use Rattle.series.specs.Image.{position, entry_of}
use Rattle.series.specs.Over.{over}
use Rattle.series.proofs.Packed.{entry_of-zero, entry_of-nonzero}
use Rattle.series.proofs.Over.{length_over, over_none, over_below, over-above, over-in}
use Rattle.product.specs.Pairs.{sum_at}
use Rattle.product.specs.Rows.{put}
use Rattle.product.specs.Regions.{source_entries}
use Rattle.product.proofs.Accumulate.{length-put, drop-put, sum-put_same, sum-put_other, kept}
use Rattle.product.proofs.Packing.{entry_of-few}
use Rattle.product.proofs.SumsKept.{sum_at-over}
use Rattle.powers.specs.Gathering.{entry_at, TakeIn}

-- ---- the entry of a coefficient

-- where there is one, it stands at its position
pub entry_of-place : (q c : ℕ) → c < 65536 → 0 < length (entry_of q c)
    → position (get_or (entry_of q c) 0 0) ≡ q
entry_of-place q c l h = go (dec_lt 0 c)
  where
    go : Dec (0 < c) → position (get_or (entry_of q c) 0 0) ≡ q
    go (yes z) = ap (λ (x : List ℕ). position (get_or x 0 0)) (entry_of-nonzero q c z) ∙ omega arith
    go (no z) = absurd (omega (arith, ap length (entry_of-zero q c (omega arith))))

-- ---- what is written

-- a sum that is 0 leaves all as it is
put-none : (w : List ℕ) (q : ℕ) → sum_at w q ≡ 0 → put w q 0 ≡ w
unfolding sum_at put
put-none w q z =
    let a : 0 ≡ get_or w (2 * q) 0 = omega arith in
    let b : 0 ≡ get_or w (2 * q + 1) 0 = omega arith in
    let e : set w (2 * q) 0 ≡ w = ap (set w (2 * q)) a ∙ set-get_or w (2 * q) 0 in
    ap (λ (x : List ℕ). set x (2 * q + 1) 0) e ∙ ap (set w (2 * q + 1)) b ∙ set-get_or w (2 * q + 1) 0

module _ (w : List ℕ) (i q p : ℕ) (t : TakeIn w i q p) where
  pub take_none : sum_at w q ≡ 0
      → (i ≡ i + length (entry_at w q p)) × (w ≡ over (put w q 0) i (entry_at w q p))
  take_none z =
      let e : entry_at w q p ≡ [] =
      entry_of-zero q (sum_at w q % p) (ap (λ (x : ℕ). x % p) z ∙ zero-mod p) in (
        omega (arith, ap length e),
        sym (ap₂ (λ (x y : List ℕ). over x i y) (put-none w q z) e ∙ over_none w i),
      )

  -- ---- what is left

  abbrev w' : List ℕ
  w' = over (put w q 0) i (entry_at w q p)

  abbrev c : ℕ
  c = sum_at w q % p

  pub reduced : sum_at w q % p < 65536
  reduced = omega (arith, mod-lt (sum_at w q) t.modulus_low, t.modulus_high)

  entry-few : length (entry_of q c) ≤ 1
  entry-few = entry_of-few q c

  size_put : length (put w q 0) ≡ length w
  size_put = length-put w q 0

  put-above : (x : ℕ) → 2 * q + 1 < x → get_or (put w q 0) x 0 ≡ get_or w x 0
  put-above x l = kept w (put w q 0) x x (drop-put w q 0 x l) (omega arith)

  pub take-size : length (over (put w q 0) i (entry_at w q p)) ≡ length w
  take-size =
      length_over (put w q 0) i (entry_at w q p) (omega (arith, size_put, entry-few, t.inside))
      ∙ size_put

  pub take-few : length (entry_at w q p) ≤ 1
  take-few = entry-few

  -- words before the entry that are not of the sum
  pub take_below : (x : ℕ) → 2 * q + 1 < x → x < i
      → get_or (over (put w q 0) i (entry_at w q p)) x 0 ≡ get_or w x 0
  take_below x l h =
      over_below (put w q 0) i (entry_at w q p) x (omega (arith, size_put, t.inside)) h
      ∙ put-above x l

  pub take-above : (x : ℕ) → i < x → get_or (over (put w q 0) i (entry_at w q p)) x 0 ≡ get_or w x 0
  take-above x h =
      over-above (put w q 0) i (entry_at w q p) x (omega (arith, size_put, t.inside))
      (omega (arith, entry-few))
      ∙ put-above x (omega (arith, t.apart))

  pub take-place : i < i + length (entry_at w q p)
      → position (get_or (over (put w q 0) i (entry_at w q p)) i 0) ≡ q
  take-place l =
      let e : i + 0 ≡ i = omega arith in
      ap position
      (rw e at (over-in (put w q 0) i (entry_at w q p) 0 (omega (arith, size_put, t.inside))
      (omega arith)))
      ∙ entry_of-place q c reduced (omega arith)

  pub take-sum_own : sum_at (over (put w q 0) i (entry_at w q p)) q ≡ 0
  take-sum_own =
      sum_at-over (put w q 0) i (entry_at w q p) q (omega (arith, size_put, t.inside)) t.apart
      ∙ sum-put_same w q 0 (omega (arith, t.apart, t.inside))

  pub take-sum_other : (j : ℕ) → 2 * j + 1 < i → j ≢ q
      → sum_at (over (put w q 0) i (entry_at w q p)) j ≡ sum_at w j
  take-sum_other j l ne =
      sum_at-over (put w q 0) i (entry_at w q p) j (omega (arith, size_put, t.inside)) l
      ∙ sum-put_other w q j 0 ne

  -- the entries from word d + 1 on, and this one
  pub take-entries : (d m : ℕ) → i ≡ d + 1 + m → 2 * q + 1 < d
      → source_entries (over (put w q 0) i (entry_at w q p)) d (m + length (entry_at w q p))
      ≡ source_entries w d m ++ entry_at w q p
  unfolding source_entries over
  take-entries d m e l =
      take-add m (length (entry_at w q p)) (drop (d + 1) w')
      ∙ ap₂ (λ (x y : List ℕ). x ++ y) front back
    where
      front_at : (x : ℕ) → x < m
          → get_or (take m (drop (d + 1) w')) x 0 ≡ get_or (take m (drop (d + 1) w)) x 0
      front_at x h =
          get_or-take m (drop (d + 1) w') x 0 h
          ∙ get_or-drop (d + 1) w' x 0
          ∙ take_below (d + 1 + x) (omega arith) (omega arith)
          ∙ sym (get_or-take m (drop (d + 1) w) x 0 h ∙ get_or-drop (d + 1) w x 0)

      long : length (take m (drop (d + 1) w')) ≡ m
      long =
          length-take-le m (drop (d + 1) w')
          (omega (arith, length-drop (d + 1) w', take-size, t.inside))

      long₀ : length (take m (drop (d + 1) w)) ≡ m
      long₀ = length-take-le m (drop (d + 1) w) (omega (arith, length-drop (d + 1) w, t.inside))

      front : take m (drop (d + 1) w') ≡ take m (drop (d + 1) w)
      front =
          ext_get_or 0 (take m (drop (d + 1) w')) (take m (drop (d + 1) w)) (long ∙ sym long₀)
          (λ x h. front_at x (omega (arith, long)))

      from-i : drop i w' ≡ entry_at w q p ++ drop (i + length (entry_at w q p)) (put w q 0)
      from-i =
          drop_at (take i (put w q 0))
          (entry_at w q p ++ drop (i + length (entry_at w q p)) (put w q 0)) i
          (length-take-le i (put w q 0) (omega (arith, size_put, t.inside)))

      back : take (length (entry_at w q p)) (drop m (drop (d + 1) w')) ≡ entry_at w q p
      back =
          ap (take (length (entry_at w q p)))
          (drop-drop m (d + 1) w' ∙ ap (λ (x : ℕ). drop x w') (sym e) ∙ from-i)
          ∙ take-append_seam (entry_at w q p) (drop (i + length (entry_at w q p)) (put w q 0))
