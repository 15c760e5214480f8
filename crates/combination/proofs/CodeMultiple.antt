-- The multiple of entries by c, entry by entry: no coefficient becomes 0, since p is prime, so each
-- entry stays one.
use Rattle.std.proofs.Common.{◌≡◌, sym, subst, ap, ap₂, ◌∙◌, ⊎_elim, List, [], ◌∷◌, ◌++◌, map, ℕ, zero, suc, ◌+◌, ◌-◌, ◌*◌, ◌%◌, ◌≤◌, ◌<◌, mod-lt, mod-eq_of_lt, eq-zero-or-pos, arith, length, get_or, take, drop, set, length-drop, length-take-le, drop-drop, get_or-take, get_or-drop}
use Rattle.std.proofs.Math.Nat.{zero-mod}
use Rattle.std.proofs.Math.Decide.{ℕ_discrete}
use Rattle.std.proofs.Math.ListN.{length-map, get_or-map}
use Rattle.std.proofs.Math.Seq.{paste}
use Rattle.std.proofs.lemmas.List.{drop-take}
use Rattle.std.proofs.lemmas.List.Edits.{paste_more, paste_all}
use Rattle.residue.specs.Modulus.{Prime}
use Rattle.residue.proofs.Inverses.{prime_positive, no_zero_divisors}
use Rattle.series.specs.Image.{entry, position, coefficient, scaled}
use Rattle.series.specs.Image.{entries, coefficient_at, packed}
use Rattle.series.specs.Over.{over}
use Rattle.series.specs.Series.{Entry, Ascending, none, next}
use Rattle.combination.specs.Terms.{AtEntries, Times}
use Rattle.series.proofs.Entries.{entry-moved}
use Rattle.series.proofs.Entries.{coefficient_at-nil, coefficient_at-here, coefficient_at-there}
use Rattle.series.proofs.Entries.{coefficient_at-below}
use Rattle.series.proofs.Packed.{packed_zero, packed-skip, packed-cong, packed-canonical}

-- ---- an entry is its position and its coefficient

position-entry : (q x : ℕ) → x < 65536 → position (entry q x) ≡ q
position-entry q x l = omega arith

coefficient-entry : (q x : ℕ) → x < 65536 → coefficient (entry q x) ≡ x
coefficient-entry q x l = omega arith

-- ---- the entries behind the first i

module _ {p N : ℕ} where
  ascending_lower : {a b : ℕ} {es : List ℕ} → b ≤ a → Ascending p N a es → Ascending p N b es
  ascending_lower l none = none
  ascending_lower {a} {b} l (next x r) =
      next {last = b} (entry-moved x (omega (arith, x.above)) x.inside) r

  pub ascending_behind : {a : ℕ} {es : List ℕ} → Ascending p N a es → (i : ℕ)
      → Ascending p N a (drop i es)
  ascending_behind a zero = a
  ascending_behind none (suc i) = none
  ascending_behind {a = a} (next {w = w} {es = es} x r) (suc i) =
      ascending_lower (omega (arith, x.above)) (ascending_behind {a = position w} r i)

-- ---- c is not 0

module _ {p : ℕ} (prime : Prime p) (small : p ≤ 65536) (c : ℕ) (pos : 0 < c) (less : c < p) where
  below : (x : ℕ) → (c * x) % p < p
  below x = mod-lt (c * x) (prime_positive prime)

  position-scaled : (w : ℕ) → position (scaled p c w) ≡ position w
  position-scaled w =
      position-entry (position w) _ (omega (arith, below (coefficient w)))

  coefficient-scaled : (w : ℕ) → coefficient (scaled p c w) ≡ (c * coefficient w) % p
  coefficient-scaled w =
      coefficient-entry (position w) _ (omega (arith, below (coefficient w)))

  pub nonzero : (x : ℕ) → 0 < x → x < p → 0 < (c * x) % p
  nonzero x l h = ⊎_elim (λ z. absurd (none_is z)) (λ y. y) (eq-zero-or-pos ((c * x) % p))
    where
      none_is : (c * x) % p ≡ 0 → ⊥
      none_is z = ⊎_elim
          (λ e. omega (arith, mod-eq_of_lt less))
          (λ e. omega (arith, mod-eq_of_lt h))
          (no_zero_divisors prime c x z)

  scaled-entry : {N last w : ℕ} → Entry p N last w → Entry p N last (scaled p c w)
  scaled-entry {N} {last} {w} x =
      let e = position-scaled w in
      let f = coefficient-scaled w in
      record {
        above = rw e x.above;
        inside = rw e x.inside;
        nonzero = rw f (nonzero (coefficient w) x.nonzero x.reduced);
        reduced = rw f (below (coefficient w));
      }

  scaled-ascending : {N last : ℕ} {es : List ℕ} → Ascending p N last es
      → Ascending p N last (map (scaled p c) es)
  scaled-ascending none = none
  scaled-ascending {N} (next {w = w} {es = es} x r) =
      let e = sym (position-scaled w) in
      next (scaled-entry x)
      (subst (λ y. Ascending p N y (map (scaled p c) es)) e (scaled-ascending r))

  scaled_at : {N last : ℕ} {es : List ℕ} → Ascending p N last es → (q : ℕ)
      → coefficient_at (map (scaled p c) es) q ≡ (c * coefficient_at es q) % p
  scaled_at none q =
      coefficient_at-nil q
      ∙ sym (ap (λ x. (c * x) % p) (coefficient_at-nil q) ∙ ap (λ x. x % p) (omega arith) ∙ zero-mod p)
  scaled_at (next {w = w} {es = es} x r) q =
      go (ℕ_discrete (position w) q) (scaled_at r q)
    where
      u : ℕ
      u = scaled p c w

      us : List ℕ
      us = map (scaled p c) es

      go : Dec (position w ≡ q) → coefficient_at us q ≡ (c * coefficient_at es q) % p
          → coefficient_at (u ∷ us) q ≡ (c * coefficient_at (w ∷ es) q) % p
      go (yes e) ih =
          let z = coefficient_at-below r q (omega arith) in
          let y : (c * coefficient_at es q) % p ≡ 0 =
          ap (λ x. (c * x) % p) z ∙ ap (λ x. x % p) (omega arith) ∙ zero-mod p in
          let h : coefficient_at (w ∷ es) q ≡ coefficient w = omega (arith, coefficient_at-here w es q e) in
          let k = coefficient_at-here u us q (position-scaled w ∙ e) in
          let f = coefficient-scaled w in
          omega (arith, k, f, y, ih, ap (λ x. (c * x) % p) h)
      go (no e) ih =
          coefficient_at-there u us q (λ z. e (sym (position-scaled w) ∙ z))
          ∙ ih
          ∙ ap (λ x. (c * x) % p) (sym (coefficient_at-there w es q e))

  pub multiple_packed : (N : ℕ) {es : List ℕ} → Ascending p N 0 es
      → map (scaled p c) es ≡ packed (λ q. (c * coefficient_at es q) % p) N
  multiple_packed N {es} a =
      sym (packed-canonical p N (prime_positive prime) small (scaled-ascending a))
      ∙ packed-cong (coefficient_at (map (scaled p c) es)) (λ q. (c * coefficient_at es q) % p) N
      (λ q l h. scaled_at a q)

-- ---- c is 0

pub multiple_none : (p N c : ℕ) (es : List ℕ) → c ≡ 0
    → packed (λ q. (c * coefficient_at es q) % p) N ≡ []
multiple_none p N c es e =
    let f : ℕ → ℕ = λ q. (c * coefficient_at es q) % p in
    packed-skip f 0 N (omega arith)
    (λ q l h. ap (λ x. (x * coefficient_at es q) % p) e ∙ ap (λ x. x % p) (omega arith) ∙ zero-mod p)
    ∙ packed_zero f

-- ---- the multiples written one after another

module _ (p c from : ℕ) (ws : List ℕ) (low : from ≤ get_or ws 0 0) (long : get_or ws 0 0 < length ws) where
  abbrev m : ℕ
  m = get_or ws 0 0

  abbrev es : List ℕ
  es = map (scaled p c) (drop from (entries ws))

  pub length-multiples : length (map (scaled p c) (drop from (entries ws))) ≡ get_or ws 0 0 - from
  unfolding entries
  length-multiples =
      length-map (drop from (entries ws)) (scaled p c)
      ∙ length-drop from (entries ws)
      ∙ ap (λ x. x - from) (length-take-le m (drop 1 ws) (omega (arith, length-drop 1 ws)))

  -- they stand in the words from + 1 to m
  entries_behind : take (m + 1 - (from + 1)) (drop (from + 1) ws) ≡ drop from (entries ws)
  unfolding entries
  entries_behind =
      let n = m - from in
      let e : m + 1 - (from + 1) ≡ n = omega arith in
      let f : from + 1 ≡ 1 + from = omega arith in
      let g : from + n ≡ m = omega arith in
      ap₂ (λ x y. take x (drop y ws)) e f
      ∙ sym (ap (take n) (drop-drop from 1 ws))
      ∙ sym (drop-take from n (drop 1 ws))
      ∙ ap (λ x. drop from (take x (drop 1 ws))) g

  entry_behind : (k : ℕ) → k < m - from
      → get_or (take (m + 1 - (from + 1)) (drop (from + 1) ws)) k 0 ≡ get_or ws (from + k + 1) 0
  entry_behind k l =
      let e : from + 1 + k ≡ from + k + 1 = omega arith in
      get_or-take (m + 1 - (from + 1)) (drop (from + 1) ws) k 0 (omega arith)
      ∙ get_or-drop (from + 1) ws k 0
      ∙ ap (λ i. get_or ws i 0) e

  module _ (at k : ℕ) (s₀ s : List ℕ) where
    -- w is the word of entry k, with the answer y of the closure in the place of its coefficient x
    pub multiples_more : (says : ℕ → ℕ → Type 0) (w x y : ℕ) → at + (get_or ws 0 0 - from) ≤ length s₀
        → k < get_or ws 0 0 - from
        → w ≡ entry (position (get_or (take (get_or ws 0 0 + 1 - (from + 1)) (drop (from + 1) ws)) k 0)) y
        → x ≡ coefficient (get_or (take (get_or ws 0 0 + 1 - (from + 1)) (drop (from + 1) ws)) k 0)
        → says x y → AtEntries ws (Times p c says)
        → s ≡ paste s₀ at (map (scaled p c) (drop from (entries ws))) k
        → set s (at + k) w ≡ paste s₀ at (map (scaled p c) (drop from (entries ws))) (k + 1)
    multiples_more says w x y fits h w-is x-is said times s-is =
        let u = get_or (take (m + 1 - (from + 1)) (drop (from + 1) ws)) k 0 in
        let z : x ≡ coefficient (get_or ws (from + k + 1) 0) = x-is ∙ ap coefficient (entry_behind k h) in
        let t : Times p c says x = rw z (times (from + k) (omega arith)) in
        let v : w ≡ get_or es k (scaled p c 0) =
        w-is
        ∙ ap (entry (position u)) (t y said ∙ ap (λ i. (c * i) % p) x-is)
        ∙ ap (λ i. scaled p c (get_or i k 0)) entries_behind
        ∙ sym (get_or-map (scaled p c) (drop from (entries ws)) k 0) in
        ap₂ (λ i j. set i (at + k) j) s-is v
        ∙ paste_more s₀ at es k (scaled p c 0) (omega arith) (omega (arith, length-multiples))

    pub multiples_all : k ≡ get_or ws 0 0 - from
        → s ≡ paste s₀ at (map (scaled p c) (drop from (entries ws))) k
        → s ≡ over s₀ at (map (scaled p c) (drop from (entries ws)))
    unfolding over
    multiples_all k-is s-is =
        s-is
        ∙ ap (paste s₀ at es) k-is
        ∙ paste_all s₀ at es (m - from) (sym length-multiples)
        ∙ ap (λ n. take at s₀ ++ (es ++ drop (at + n) s₀)) (sym length-multiples)
