-- The coefficient that entries of ascending positions give to position q stands at the one index
-- whose position is q. A search that keeps all entries below `low` at positions below q, and all
-- from `high` on at positions from q on, ends there.
use Rattle.std.proofs.Common.{ℕ, zero, suc, ◌+◌, ◌-◌, ◌/◌, ◌≤◌, ◌<◌, ◌≡◌, sym, ap, ◌∙◌, true, false, List, [], ◌∷◌, arith, ltb, length, get_or, take, drop, length-drop, get_or-drop, get_or-take, length-take-le}
use Rattle.std.proofs.Math.Decide.{ℕ_discrete, dec_lt}
use Rattle.std.specs.List.Sorted.{IsPartitionedBy, IsPartitionPoint}
use Rattle.std.proofs.lemmas.Bool.{ltb-true, ltb-false}
use Rattle.std.proofs.lemmas.List.Sorted.{IsPartitionedBy-ltb, IsNonDecreasingBy-from_default}
use Rattle.series.specs.Image.{position, coefficient, entries, coefficient_at}
use Rattle.series.specs.Series.{IsSeries}
use Rattle.series.proofs.Entries.{coefficient_at-nil, coefficient_at-here, coefficient_at-there}
use Rattle.series.proofs.Entries.{ascending_order}
use Rattle.series.proofs.Series.{length-entries, entries_at}
use Rattle.substitution.specs.Marks.{AscendingEntries, FirstWord}

-- ---- entries by index

pub coefficient_at-none : (es : List ℕ) (q : ℕ)
    → ((i : ℕ) → i < length es → position (get_or es i 0) ≡ q → ⊥) → coefficient_at es q ≡ 0
coefficient_at-none [] q n = coefficient_at-nil q
coefficient_at-none (w ∷ es) q n =
    coefficient_at-there w es q (n 0 (omega arith))
    ∙ coefficient_at-none es q (λ i l. n (suc i) (omega arith))

pub coefficient_at-only : (es : List ℕ) (q i : ℕ) → i < length es → position (get_or es i 0) ≡ q
    → ((j : ℕ) → j < length es → position (get_or es j 0) ≡ q → j ≡ i)
    → coefficient_at es q ≡ coefficient (get_or es i 0)
coefficient_at-only [] q i l e o = absurd (omega arith)
coefficient_at-only (w ∷ es) q zero l e o =
    coefficient_at-here w es q e
    ∙ omega (
      arith,
      coefficient_at-none es q (λ j k h. let z = o (suc j) (omega arith) h in omega arith),
    )
coefficient_at-only (w ∷ es) q (suc i) l e o =
    coefficient_at-there w es q (λ h. let z = o 0 (omega arith) h in omega arith)
    ∙ coefficient_at-only es q i (omega arith) e
    (λ j k h. let z = o (suc j) (omega arith) h in omega arith)

-- a series has ascending positions
pub series-ascending : (p N : ℕ) (ws : List ℕ) → IsSeries p N ws → AscendingEntries ws
series-ascending p N ws s = record {
  long = omega (arith, s.long, s.few);
  ascending = λ i j a l h.
      let ei = entry-word i a (omega arith) in
      let ej = entry-word j (omega arith) h in
      omega (
        arith,
        ap position ei,
        ap position ej,
        ascending_order s.ascending (i - 1) (j - 1) (omega arith)
            (omega (arith, length-entries p N s)),
      );
}
  where
    entry-word : (i : ℕ) → 1 ≤ i → i ≤ get_or ws 0 0 → get_or (entries ws) (i - 1) 0 ≡ get_or ws i 0
    entry-word i a h =
        let e : 1 + (i - 1) ≡ i = omega arith in
        entries_at p N s (i - 1) (omega arith) ∙ ap (λ (z : ℕ). get_or ws z 0) e

-- ---- the search

pub record Narrowed (ws : List ℕ) (q low high : ℕ) : Type 0 where
  pub first : 1 ≤ low
  pub ordered : low ≤ high
  pub last : high ≤ get_or ws 0 0 + 1
  pub below : (j : ℕ) → 1 ≤ j → j < low → position (get_or ws j 0) < q
  pub above : (j : ℕ) → high ≤ j → j ≤ get_or ws 0 0 → q ≤ position (get_or ws j 0)

module _ {ws : List ℕ} (s : AscendingEntries ws) where
  abbrev m : ℕ
  m = get_or ws 0 0

  at_most : (i j : ℕ) → 1 ≤ i → i ≤ j → j ≤ m → position (get_or ws i 0) ≤ position (get_or ws j 0)
  at_most i j a l h = go (ℕ_discrete i j)
    where
      go : Dec (i ≡ j) → position (get_or ws i 0) ≤ position (get_or ws j 0)
      go (yes e) = omega (arith, ap (λ (k : ℕ). position (get_or ws k 0)) e)
      go (no e) = omega (arith, s.ascending i j a (omega arith) h)

  -- positions are at least as far apart as their entries
  spaced : (d i : ℕ) → 1 ≤ i → i + d ≤ m → position (get_or ws i 0) + d ≤ position (get_or ws (i + d) 0)
  spaced zero i a h =
      let e : i + 0 ≡ i = omega arith in
      omega (arith, ap (λ (k : ℕ). position (get_or ws k 0)) e)
  spaced (suc d) i a h =
      let e : i + suc d ≡ i + d + 1 = omega arith in
      omega (
        arith,
        ap (λ (k : ℕ). position (get_or ws k 0)) e,
        spaced d i a (omega arith),
        s.ascending (i + d) (i + d + 1) (omega arith) (omega arith) (omega arith),
      )

  apart : (i j : ℕ) → 1 ≤ i → i ≤ j → j ≤ m
      → position (get_or ws i 0) + (j - i) ≤ position (get_or ws j 0)
  apart i j a l h =
      let e : i + (j - i) ≡ j = omega arith in
      omega (
        arith,
        spaced (j - i) i a (omega arith),
        ap (λ (k : ℕ). position (get_or ws k 0)) e,
      )

  -- ---- where the search begins

  module _ (q : ℕ) where
    last_below : position (get_or ws m 0) < q → m ≤ q
    last_below l = go (dec_lt 0 m)
      where
        go : Dec (0 < m) → m ≤ q
        go (yes h) = omega (arith, apart 1 m (omega arith) (omega arith) (omega arith))
        go (no h) = omega arith

    pub all-below : position (get_or ws m 0) < q → FirstWord ws q (m + 1)
    all-below l = record {
      low = omega arith;
      high = omega arith;
      near = omega (arith, last_below l);
      below = λ j a h. omega (arith, at_most j m a (omega arith) (omega arith));
    }

    pub none_below : FirstWord ws q 1
    none_below = record {
      low = omega arith;
      high = omega arith;
      near = omega arith;
      below = λ j a h. absurd (omega arith);
    }

    pub some_below : (gap : ℕ) → gap + q ≡ position (get_or ws m 0) → gap < m → FirstWord ws q (m - gap)
    some_below gap e l = record {
      low = omega arith;
      high = omega arith;
      near = omega (arith, apart 1 m (omega arith) (omega arith) (omega arith));
      below = λ j a h. omega (arith, apart j m a (omega arith) (omega arith));
    }

    pub narrowed_start : (k r : ℕ) → FirstWord ws q k → r ≤ m → r ≤ q → (m ≤ q → r ≡ m)
        → (q ≤ m → r ≡ q) → Narrowed ws q k (r + 1)
    narrowed_start k r f a b c d = record {
      first = f.low;
      ordered = go (dec_lt q m);
      last = omega arith;
      below = f.below;
      above = λ j h x. after j h x (dec_lt q m);
    }
      where
        go : Dec (q < m) → k ≤ r + 1
        go (yes l) = omega (arith, f.near, d (omega arith))
        go (no l) = omega (arith, f.high, c (omega arith))

        after : (j : ℕ) → r + 1 ≤ j → j ≤ m → Dec (q < m) → q ≤ position (get_or ws j 0)
        after j h x (yes l) =
            omega (arith, d (omega arith), apart 1 j (omega arith) (omega arith) x)
        after j h x (no l) = absurd (omega (arith, c (omega arith)))

  module _ {q low high : ℕ} (n : Narrowed ws q low high) where
    -- the words from `low` on and before `high`
    abbrev part : List ℕ
    part = take (high - low) (drop low ws)

    part-long : length part ≡ high - low
    part-long = length-take-le (high - low) (drop low ws) (omega (arith, n.ordered, n.last, s.long, length-drop low ws))

    part-word : (k : ℕ) → k < high - low → get_or part k 0 ≡ get_or ws (low + k) 0
    part-word k l = get_or-take (high - low) (drop low ws) k 0 l ∙ get_or-drop low ws k 0

    pub part-parted : IsPartitionedBy (λ w. ltb (w / 65536) q) (take (high - low) (drop low ws))
    part-parted =
        IsPartitionedBy-ltb position part q
        (IsNonDecreasingBy-from_default position part 0
        (λ i j h l.
        let k : j < high - low = omega (arith, part-long) in
        omega (
          arith,
          ap position (part-word i (omega arith)),
          ap position (part-word j k),
          at_most (low + i) (low + j) (omega (arith, n.first)) (omega arith) (omega (arith, n.last)),
        )))

    -- the first of them that is not below q
    pub narrowed_at : (i : ℕ) → i ≤ length (take (high - low) (drop low ws))
        → IsPartitionPoint (λ w. ltb (w / 65536) q ≡ true) (λ w. ltb (w / 65536) q ≡ false)
        (take (high - low) (drop low ws)) i
        → Narrowed ws q (low + i) (low + i)
    narrowed_at i h P = record {
      first = omega (arith, n.first);
      ordered = omega arith;
      last = omega (arith, n.ordered, n.last, part-long);
      below = λ j a l. before j a l (dec_lt j low);
      above = λ j l a. after j l a (dec_lt j high);
    }
      where
        before : (j : ℕ) → 1 ≤ j → j < low + i → Dec (j < low) → position (get_or ws j 0) < q
        before j a l (yes u) = n.below j a u
        before j a l (no u) =
            let e : low + (j - low) ≡ j = omega arith in
            omega (
              arith,
              ltb-true (position (get_or part (j - low) 0)) q (P.0 (j - low) 0 (omega arith) (omega arith)),
              ap position (part-word (j - low) (omega (arith, part-long))),
              ap (λ (k : ℕ). position (get_or ws k 0)) e,
            )

        after : (j : ℕ) → low + i ≤ j → j ≤ m → Dec (j < high) → q ≤ position (get_or ws j 0)
        after j l a (no u) = n.above j (omega arith) a
        after j l a (yes u) =
            let e : low + (j - low) ≡ j = omega arith in
            omega (
              arith,
              ltb-false (position (get_or part (j - low) 0)) q
                  (P.1 (j - low) 0 (omega arith) (omega (arith, part-long))),
              ap position (part-word (j - low) (omega arith)),
              ap (λ (k : ℕ). position (get_or ws k 0)) e,
            )

    -- entry i is word i + 1

    length-ascending : length (entries ws) ≡ m
    unfolding entries
    length-ascending = length-take-le m (drop 1 ws) (omega (arith, s.long, length-drop 1 ws))

    entry-word : (i : ℕ) → i < m → get_or (entries ws) i 0 ≡ get_or ws (1 + i) 0
    unfolding entries
    entry-word i l = get_or-take m (drop 1 ws) i 0 l ∙ get_or-drop 1 ws i 0

    -- the search is over: only the entry at `low` can be at position q

    module _ (over : high ≤ low) where
      only-low : (i : ℕ) → i < length (entries ws) → position (get_or (entries ws) i 0) ≡ q
          → 1 + i ≡ low
      only-low i l e = go (dec_lt (1 + i) low) (dec_lt low (1 + i))
        where
          w : position (get_or ws (1 + i) 0) ≡ q
          w = ap position (sym (entry-word i (omega (arith, length-ascending)))) ∙ e

          go : Dec (1 + i < low) → Dec (low < 1 + i) → 1 + i ≡ low
          go (yes k) h = absurd (omega (arith, w, n.below (1 + i) (omega arith) k))
          go (no k) (yes h) =
              absurd
              (omega (
                arith,
                w,
                n.above low over (omega (arith, length-ascending)),
                s.ascending low (1 + i) n.first h (omega (arith, length-ascending)),
              ))
          go (no k) (no h) = omega arith

      pub narrowed_beyond : m < low → 0 ≡ coefficient_at (entries ws) q
      narrowed_beyond l =
          sym
          (coefficient_at-none (entries ws) q
          (λ i h e. omega (arith, only-low i h e, length-ascending)))

      pub narrowed_other : low ≤ m → (position (get_or ws low 0) ≡ q → ⊥)
          → 0 ≡ coefficient_at (entries ws) q
      narrowed_other l ne =
          sym
          (coefficient_at-none (entries ws) q
          (λ i h e.
          let z = only-low i h e in
          ne
          (ap (λ (k : ℕ). position (get_or ws k 0)) (sym z)
          ∙ ap position (sym (entry-word i (omega (arith, length-ascending))))
          ∙ e)))

      pub narrowed_found : low ≤ m → position (get_or ws low 0) ≡ q
          → coefficient (get_or ws low 0) ≡ coefficient_at (entries ws) q
      narrowed_found l e =
          let i : 1 + (low - 1) ≡ low = omega (arith, n.first) in
          let w : get_or (entries ws) (low - 1) 0 ≡ get_or ws low 0 =
          entry-word (low - 1) (omega (arith, n.first)) ∙ ap (λ (k : ℕ). get_or ws k 0) i in
          sym
          (coefficient_at-only (entries ws) q (low - 1) (omega (arith, n.first, length-ascending))
          (ap position w ∙ e) (λ j h k. omega (arith, only-low j h k))
          ∙ ap coefficient w)
