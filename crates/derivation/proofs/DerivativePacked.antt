-- One entry more: what it gives stands behind what the entries before it give, since lowering keeps
-- the order of the positions.
use Rattle.std.proofs.Common.{◌≡◌, refl, sym, ap, ◌∙◌, List, [], ◌∷◌, ◌++◌, append-nil, ℕ, zero, suc, ◌+◌, ◌%◌, ◌≤◌, ◌<◌, add-one, arith, length, get_or, take, take-suc}
use Rattle.std.proofs.Math.Nat.{zero-mod}
use Rattle.std.proofs.Math.Decide.{dec_lt}
use Rattle.algebra.proofs.Sums.{sum-nil, sum-cons, sum-append}
use Rattle.monomial.specs.Count.{count}
use Rattle.monomial.proofs.Size.{length-monomials}
use Rattle.series.specs.Image.{position, packed, entry_of}
use Rattle.series.specs.Series.{Entry, Ascending, none, next}
use Rattle.series.proofs.Packed.{packed-cong}
use Rattle.series.proofs.Entries.{ascending_at, ascending_order}
use Rattle.product.specs.Regions.{Placed}
use Rattle.derivation.specs.Derivative.{exponent_of, lowered_place, derived_value, derived_entry}
use Rattle.derivation.proofs.DerivativeOrder.{placed_lowered, lowered_ascending}
use Rattle.derivation.proofs.DerivativeSums.{contribution, derived_at, derived_entry-none}
use Rattle.derivation.proofs.DerivativeSums.{contribution-other, contribution-own}
use Rattle.derivation.proofs.DerivativeSums.{contribution-none}
use Rattle.derivation.proofs.DerivativePacking.{packed-last, packed-nothing}

-- entries in their proper form stand at positions 1 to N
pub ascending_placed : {p N last : ℕ} {es : List ℕ} → Ascending p N last es → Placed N es
ascending_placed none = tt
ascending_placed (next x r) = ((omega arith, x.inside), ascending_placed r)

module _ (n v k f : ℕ) {p : ℕ} {es : List ℕ} (asc : Ascending p (count n v) 0 es) where
  abbrev N : ℕ
  N = count n v

  -- what the entry w gives to position j
  abbrev give : ℕ → ℕ → ℕ
  give = contribution n v k f

  -- the coefficient at position j after i entries, and its residue
  abbrev sum : ℕ → ℕ → ℕ
  sum i j = derived_at n v k f (take i es) j

  abbrev after : ℕ → ℕ → ℕ
  after i j = sum i j % p

  -- ---- the sums

  sum-none : (j : ℕ) → sum 0 j ≡ 0
  unfolding derived_at
  sum-none j = sum-nil (give j)

  sum_more : (i j : ℕ) → i < length es → sum (suc i) j ≡ sum i j + give j (get_or es i 0)
  unfolding derived_at
  sum_more i j l =
      let x = get_or es i 0 in
      ap (λ (s : List ℕ). derived_at n v k f s j) (take-suc es i 0 l)
      ∙ sum-append (take i es) (x ∷ []) (give j)
      ∙ omega (arith, sum-cons x [] (give j), sum-nil (give j))

  sum-late : (i j : ℕ) → i ≤ length es → ((h : ℕ) → h < i → give j (get_or es h 0) ≡ 0) → sum i j ≡ 0
  sum-late zero j l z = sum-none j
  sum-late (suc i) j l z =
      let ih = sum-late i j (omega arith) (λ h u. z h (omega arith)) in
      sum_more i j l ∙ omega (arith, z i (omega arith))

  pub packed-derived_none : packed (λ j. derived_at n v k f (take 0 es) j % p) (count n v) ≡ []
  packed-derived_none =
      packed-nothing (after 0) N (λ q. ap (λ (z : ℕ). z % p) (sum-none q) ∙ zero-mod p)

  -- ---- entry i

  module _ (i : ℕ) (l : i < length es) where
    abbrev x : ℕ
    x = get_or es i 0

    abbrev r : ℕ
    r = lowered_place n v k x

    entry : Entry p N 0 x
    entry = ascending_at asc i l

    module _ (pos : 0 < exponent_of n v k x) where
      inside : (0 < r) × (r ≤ N)
      unfolding exponent_of lowered_place
      inside =
          let low : 1 ≤ position x = omega (arith, entry.above) in
          let q = placed_lowered n v k (position x) low entry.inside pos in
          (omega (arith, q.at), omega (arith, q.at, q.inside, length-monomials n v))

      -- an entry before gives nothing to r or a later position
      earlier : (h j : ℕ) → h < i → r ≤ j → give j (get_or es h 0) ≡ 0
      unfolding exponent_of lowered_place
      earlier h j u b = go (dec_lt 0 (exponent_of n v k y))
        where
          y : ℕ
          y = get_or es h 0

          low : 1 ≤ position y
          low = omega (arith, (ascending_at asc h (omega arith)).above)

          go : Dec (0 < exponent_of n v k y) → give j y ≡ 0
          go (yes z) =
              let o = ascending_order asc h i u l in
              let a = lowered_ascending n v k (position y) (position x) low o entry.inside z pos in
              contribution-other n v k f j y (λ c. omega arith)
          go (no z) = contribution-none n v k f j y (omega arith)

      before : (j : ℕ) → r ≤ j → sum i j ≡ 0
      before j b = sum-late i j (omega arith) (λ h u. earlier h j u b)

      more : (j : ℕ) → (r ≡ j → ⊥) → sum (suc i) j ≡ sum i j
      more j ne = sum_more i j l ∙ omega (arith, contribution-other n v k f j x ne)

      own : sum (suc i) r ≡ derived_value n v k f x
      own =
          let z = before r (omega arith) in
          sum_more i r l ∙ omega (arith, contribution-own n v k f x)

      -- the residue of a sum that is 0
      residue-zero : (i' j : ℕ) → sum i' j ≡ 0 → after i' j ≡ 0
      residue-zero i' j e = ap (λ (z : ℕ). z % p) e ∙ zero-mod p

      packed-with : packed (after (suc i)) N ≡ packed (after i) N ++ derived_entry n v k p f x
      unfolding derived_entry
      packed-with =
          packed-last (after i) (after (suc i)) N r inside.0 inside.1
          (λ q u. ap (λ (z : ℕ). z % p) (more q (λ c. omega arith)))
          (λ q u. residue-zero i q (before q u))
          (λ q u. residue-zero (suc i) q (more q (λ c. omega arith) ∙ before q (omega arith)))
          ∙ ap (λ (c : ℕ). packed (after i) N ++ entry_of r (c % p)) own

    packed-without : exponent_of n v k x ≡ 0
        → packed (after (suc i)) N ≡ packed (after i) N ++ derived_entry n v k p f x
    unfolding exponent_of
    packed-without z =
        packed-cong (after (suc i)) (after i) N
        (λ q _ _.
        ap (λ (y : ℕ). y % p) (sum_more i q l ∙ omega (arith, contribution-none n v k f q x z)))
        ∙ sym (append-nil (packed (after i) N))
        ∙ ap (λ (s : List ℕ). packed (after i) N ++ s)
        (sym (derived_entry-none n v k p f x (position x) refl z))

    pub packed-derived_more : packed (λ j. derived_at n v k f (take (i + 1) es) j % p) (count n v)
        ≡ packed (λ j. derived_at n v k f (take i es) j % p) (count n v)
        ++ derived_entry n v k p f (get_or es i 0)
    packed-derived_more = rw (add-one i) (go (dec_lt 0 (exponent_of n v k x)))
      where
        go : Dec (0 < exponent_of n v k x)
            → packed (after (suc i)) N ≡ packed (after i) N ++ derived_entry n v k p f x
        go (yes z) = packed-with z
        go (no z) = packed-without (omega arith)
