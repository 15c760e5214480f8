-- Words begin with a series if and only if none of the first N + 1 is faulty: word 0 is the number
-- of entries, and the others are the entries in their proper form and zeros.
use Rattle.std.proofs.Common.{◌≡◌, refl, sym, ap, ap₂, ◌∙◌, subst, List, [], ◌∷◌, ◌++◌, append_assoc, ℕ, ◌+◌, ◌-◌, ◌≤◌, ◌<◌, add-one, arith, length, get_or, take, drop, replicate, length-append, length-take, length-drop, take-append-drop, take-take, take_at, length-take-le, get_or-take, get_or-drop, le-leb, lt-ltb, le-ltb}
use Rattle.std.proofs.Math.Decide.{dec_lt, dec_le}
use Rattle.std.proofs.Math.ListN.{length-replicate}
use borrow.Author.Tests.{lt-leb}
use Rattle.answer.specs.Refusals.{passed, declined}
use Rattle.series.specs.Image.{entries, image_of}
use Rattle.series.specs.Series.{Ascending, IsSeries}
use Rattle.series.specs.Faults.{fault_from, first_fault, series_check}
use Rattle.series.proofs.Verdicts.{declined_not_passed}
use Rattle.series.proofs.Entries.{ascending_few}
use Rattle.series.proofs.Faults.{fault_from-bound, fault_none_to_entries, entries_to_fault_none}

-- ---- the image of entries

length-zeros : (N : ℕ) (es : List ℕ) → length es ≤ N
    → length (es ++ replicate (N - length es) 0) ≡ N
length-zeros N es l =
    let k = N - length es in
    length-append es (replicate k 0) ∙ omega (arith, length-replicate {A = ℕ} k 0)

pub length-image_of : (N : ℕ) (es : List ℕ) → length es ≤ N → length (image_of N es) ≡ N + 1
unfolding image_of
length-image_of N es l = omega (arith, length-zeros N es l)

pub entries-image_of : (N : ℕ) (es rest : List ℕ) → entries (image_of N es ++ rest) ≡ es
unfolding entries image_of
entries-image_of N es rest =
    let m = length es in
    ap (take m) (append_assoc es (replicate (N - m) 0) rest) ∙ take_at es _ m refl

-- ---- the first fault

module _ (p N : ℕ) where
  -- too large a number of entries is the fault of word 0
  pub first_fault-count : (ws : List ℕ) → N < get_or ws 0 0 → first_fault p N ws ≡ 0
  unfolding first_fault
  first_fault-count ws l = rw (lt-leb (get_or ws 0 0) N l)

  -- the first fault among the words behind word 0
  abbrev pub fault_behind : List ℕ → ℕ
  fault_behind ws = fault_from p N (get_or ws 0 0) 1 0 (take N (drop 1 ws))

  pub first_fault-behind : (ws : List ℕ) → get_or ws 0 0 ≤ N → first_fault p N ws ≡ fault_behind ws
  unfolding first_fault
  first_fault-behind ws l = rw (le-leb (get_or ws 0 0) N l)

  behind_bound : (ws : List ℕ) → fault_behind ws ≤ 1 + length (take N (drop 1 ws))
  behind_bound ws = fault_from-bound p N (get_or ws 0 0) 1 0 (take N (drop 1 ws))

  pub first_fault-bound : (ws : List ℕ) → first_fault p N ws ≤ N + 1
  first_fault-bound ws = go (dec_le (get_or ws 0 0) N)
    where
      go : Dec (get_or ws 0 0 ≤ N) → first_fault p N ws ≤ N + 1
      go (yes l) =
          omega (arith, first_fault-behind ws l, behind_bound ws, length-take N (drop 1 ws))
      go (no l) = omega (arith, first_fault-count ws (omega arith))

  fault_none : (ws : List ℕ) → first_fault p N ws ≡ N + 1
      → (get_or ws 0 0 ≤ N) × (fault_behind ws ≡ N + 1)
  fault_none ws e = go (dec_le (get_or ws 0 0) N)
    where
      go : Dec (get_or ws 0 0 ≤ N) → (get_or ws 0 0 ≤ N) × (fault_behind ws ≡ N + 1)
      go (yes l) = (l, sym (first_fault-behind ws l) ∙ e)
      go (no l) = absurd (omega (arith, first_fault-count ws (omega arith)))

  -- a word that is missing is faulty
  pub fault_none_to_long : 0 < N → (ws : List ℕ) → first_fault p N ws ≡ N + 1 → N + 1 ≤ length ws
  fault_none_to_long pos ws e =
      omega (
        arith,
        (fault_none ws e).1,
        behind_bound ws,
        length-take N (drop 1 ws),
        length-drop 1 ws,
      )

  pub fault_none_to_series : (ws : List ℕ) → first_fault p N ws ≡ N + 1 → N + 1 ≤ length ws
      → IsSeries p N ws
  unfolding entries image_of
  fault_none_to_series [] e l = absurd (omega arith)
  fault_none_to_series (m ∷ us) e l =
      let f = fault_none (m ∷ us) e in
      let vs = take N us in
      let es = take m us in
      let len : length vs ≡ N = length-take-le N us (omega arith) in
      let many : length es ≡ m = length-take-le m us (omega (arith, f.0)) in
      let same : take m vs ≡ es = take-take m N us f.0 in
      let whole : fault_from p N m 1 0 vs ≡ 1 + length vs = f.1 ∙ omega arith in
      let r = fault_none_to_entries p N m m 1 0 vs (omega arith) (omega (arith, f.0)) whole in
      let z : length vs - m ≡ N - length es = omega arith in
      let parts : vs ≡ es ++ replicate (N - length es) 0 =
      sym (take-append-drop m vs)
      ∙ ap₂ ◌++◌ same (r.1 ∙ ap (λ (y : ℕ). replicate y 0) z) in
      record {
        long = l;
        few = f.0;
        ascending = subst (Ascending p N 0) same r.0;
        words = ap (λ (k : ℕ). take k (m ∷ us)) (add-one N) ∙ ap₂ ◌∷◌ (sym many) parts;
      }

  -- ---- the image of entries in their proper form is a series

  module _ {es : List ℕ} (a : Ascending p N 0 es) (rest : List ℕ) where
    at_most : length es ≤ N
    at_most = omega (arith, ascending_few a (omega arith))

    pub image_of-fault_none : first_fault p N (image_of N es ++ rest) ≡ N + 1
    unfolding image_of
    image_of-fault_none =
        let m = length es in
        let vs = es ++ replicate (N - m) 0 in
        first_fault-behind (image_of N es ++ rest) at_most
        ∙ ap (fault_from p N m 1 0) (take_at vs rest N (length-zeros N es at_most))
        ∙ entries_to_fault_none p N m 1 0 (N - m) a (omega arith)
        ∙ omega (arith, at_most)

    pub image_of-series : IsSeries p N (image_of N es ++ rest)
    image_of-series =
        let ws = image_of N es in
        fault_none_to_series (ws ++ rest) image_of-fault_none
        (omega (arith, length-append ws rest, length-image_of N es at_most))

  -- ---- from a series

  pub series_to_fault_none : {ws : List ℕ} → IsSeries p N ws → first_fault p N ws ≡ N + 1
  series_to_fault_none {ws} s =
      let rest = drop (N + 1) ws in
      let whole : ws ≡ image_of N (entries ws) ++ rest =
      sym (take-append-drop (N + 1) ws) ∙ ap (λ (x : List ℕ). x ++ rest) s.words in
      ap (first_fault p N) whole ∙ image_of-fault_none s.ascending rest

  pub length-entries : {ws : List ℕ} → IsSeries p N ws → length (entries ws) ≡ get_or ws 0 0
  unfolding entries
  length-entries {ws} s =
      length-take-le (get_or ws 0 0) (drop 1 ws) (omega (arith, s.long, s.few, length-drop 1 ws))

  -- entry i stands at word i + 1
  pub entries_at : {ws : List ℕ} → IsSeries p N ws → (i : ℕ) → i < get_or ws 0 0
      → get_or (entries ws) i 0 ≡ get_or ws (1 + i) 0
  unfolding entries
  entries_at {ws} s i l = get_or-take (get_or ws 0 0) (drop 1 ws) i 0 l ∙ get_or-drop 1 ws i 0

  -- ---- only the first N + 1 words matter

  pub first_fault-take : (ws : List ℕ) → first_fault p N (take (N + 1) ws) ≡ first_fault p N ws
  unfolding first_fault
  first_fault-take [] = rw add-one
  first_fault-take (m ∷ us) = rw (add-one N, take-take N N us (omega arith))

  pub entries-take : (ws : List ℕ) → get_or ws 0 0 ≤ N → entries (take (N + 1) ws) ≡ entries ws
  unfolding entries
  entries-take [] l = rw add-one
  entries-take (m ∷ us) l = rw (add-one N) (take-take m N us l)

  -- ---- the check

  module _ (a c : ℕ) (ws : List ℕ) where
    pub fault_none_to_passed : first_fault p N ws ≡ N + 1 → series_check p N a c ws ≡ passed
    unfolding series_check
    fault_none_to_passed e = rw (lt-ltb N (first_fault p N ws) (omega arith))

    pub fault_to_declined : first_fault p N ws ≤ N
        → series_check p N a c ws ≡ declined 7 (a ∷ c ∷ first_fault p N ws ∷ [])
    unfolding series_check
    fault_to_declined l = rw (le-ltb N (first_fault p N ws) l)

    pub passed_to_fault_none : series_check p N a c ws ≡ passed → first_fault p N ws ≡ N + 1
    passed_to_fault_none e = go (dec_lt N (first_fault p N ws))
      where
        go : Dec (N < first_fault p N ws) → first_fault p N ws ≡ N + 1
        go (yes l) = omega (arith, first_fault-bound ws)
        go (no l) = absurd (declined_not_passed (sym (fault_to_declined (omega arith)) ∙ e))

    -- with at least one word behind word 0, the check is that of a series
    pub passed_to_series : 0 < N → series_check p N a c ws ≡ passed → IsSeries p N ws
    passed_to_series pos e =
        let f = passed_to_fault_none e in
        fault_none_to_series ws f (fault_none_to_long pos ws f)

    pub series_to_passed : IsSeries p N ws → series_check p N a c ws ≡ passed
    series_to_passed s = fault_none_to_passed (series_to_fault_none s)
