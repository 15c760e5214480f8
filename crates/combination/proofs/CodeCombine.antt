-- The sum of two series, the second taken d times, entry by entry: what the entries that are left
-- give is the entry at the smaller of the two next positions, and what is left behind it.
use Rattle.std.proofs.Common.{◌≡◌, refl, sym, ap, ap₂, ◌∙◌, ◌⊎◌, inl, inr, List, [], ◌∷◌, ◌++◌, append_assoc, append-nil, map, ℕ, zero, suc, ◌+◌, ◌*◌, ◌%◌, ◌≤◌, ◌<◌, mod-lt, mod-eq_of_lt, add-one, arith, length, get_or, drop, drop_of_length-le, drop-cons}
use Rattle.std.proofs.Math.Nat.{zero-mod}
use Rattle.std.proofs.Math.Decide.{dec_lt, le_ind}
use Rattle.std.proofs.Math.ListN.{get_or-eq_default}
use Rattle.residue.specs.Modulus.{Prime}
use Rattle.series.specs.Image.{position, coefficient, scaled, coefficient_at, entry_of, packed}
use Rattle.series.specs.Series.{Entry, Ascending, none, next}
use Rattle.series.proofs.Entries.{entry-moved}
use Rattle.series.proofs.Entries.{coefficient_at-nil, coefficient_at-here, coefficient_at-there}
use Rattle.series.proofs.Entries.{coefficient_at-below}
use Rattle.series.proofs.Entries.{ascending_at, ascending_drop, ascending_few}
use Rattle.series.proofs.Packed.{packed_zero, packed-suc, packed-skip, packed-cong}
use Rattle.series.proofs.Packed.{packed-ascending}
use Rattle.std.proofs.lemmas.List.{get_or_default}
use Rattle.combination.proofs.CodeMultiple.{ascending_behind, multiple_packed}

-- ---- the first entry of what is packed

-- f has its first coefficient at q, and g is f without it
module _ (f g : ℕ → ℕ) (q : ℕ) (low : 0 < q) (before : (r : ℕ) → r < q → f r ≡ 0)
    (gone : (r : ℕ) → r ≤ q → g r ≡ 0) (after : (r : ℕ) → q < r → f r ≡ g r) where
  -- up to position q
  first-packed : (k : ℕ) → suc k ≡ q → packed f q ≡ entry_of q (f q) ++ packed g q
  first-packed k e =
      let x = entry_of q (f q) in
      let a : packed f k ≡ [] =
      packed-skip f 0 k (omega arith) (λ r i j. before r (omega arith)) ∙ packed_zero f in
      let b : packed g q ≡ [] =
      packed-skip g 0 q (omega arith) (λ r i j. gone r j) ∙ packed_zero g in
      ap (packed f) (sym e)
      ∙ packed-suc f k
      ∙ ap₂ (λ y z. y ++ entry_of z (f z)) a e
      ∙ sym (ap (λ y. x ++ y) b ∙ append-nil x)

  packed-first : (N : ℕ) → q ≤ N → packed f N ≡ entry_of q (f q) ++ packed g N
  packed-first = le_ind (λ m. packed f m ≡ x ++ packed g m) (base q refl) step
    where
      x : List ℕ
      x = entry_of q (f q)

      base : (k : ℕ) → k ≡ q → packed f q ≡ x ++ packed g q
      base zero e = absurd (omega arith)
      base (suc k) e = first-packed k e

      step : (m : ℕ) → q ≤ m → packed f m ≡ x ++ packed g m
          → packed f (suc m) ≡ x ++ packed g (suc m)
      step m k ih =
          packed-suc f m
          ∙ ap₂ (λ y c. y ++ entry_of (suc m) c) ih (after (suc m) (omega arith))
          ∙ append_assoc x (packed g m) (entry_of (suc m) (g (suc m)))
          ∙ ap (λ y. x ++ y) (sym (packed-suc g m))

-- ---- one list of entries

-- A without its coefficient x at position q, before which it has none, is A'
record Taken (A : List ℕ) (q x : ℕ) (A' : List ℕ) : Type 0 where
  here : coefficient_at A q ≡ x
  before : (r : ℕ) → r < q → coefficient_at A r ≡ 0
  gone : (r : ℕ) → r ≤ q → coefficient_at A' r ≡ 0
  after : (r : ℕ) → q < r → coefficient_at A r ≡ coefficient_at A' r

module _ {p N : ℕ} where
  taken-first : (w : ℕ) {es : List ℕ} → Ascending p N (position w) es
      → Taken (w ∷ es) (position w) (coefficient w) es
  taken-first w {es} a =
      let q = position w in
      let z = coefficient_at-below a q (omega arith) in
      let other : (r : ℕ) → (q ≡ r → ⊥) → coefficient_at (w ∷ es) r ≡ coefficient_at es r =
      coefficient_at-there w es in
      record {
        here = coefficient_at-here w es q refl ∙ omega arith;
        before = λ r l. other r (λ e. omega arith) ∙ coefficient_at-below a r (omega arith);
        gone = coefficient_at-below a;
        after = λ r l. other r (λ e. omega arith);
      }

  -- all entries stand behind q
  taken_none : {q : ℕ} {es : List ℕ} → Ascending p N q es → Taken es q 0 es
  taken_none {q} a =
      record {
        here = coefficient_at-below a q (omega arith);
        before = λ r l. coefficient_at-below a r (omega arith);
        gone = coefficient_at-below a;
        after = λ r l. refl;
      }

  -- u is entry i of E, or where there is none a word behind all positions
  module _ {E : List ℕ} (a : Ascending p N 0 E) (i u : ℕ) (is : u ≡ get_or E i 4294967295) where
    same-entry : i < length E → u ≡ get_or E i 0
    same-entry l = is ∙ get_or_default E i 4294967295 0 l

    pub entry-is : i < length E → Entry p N 0 u
    entry-is l = rw (same-entry l) (ascending_at a i l)

    -- the entries that are left
    left : i < length E → drop i E ≡ u ∷ drop (i + 1) E
    left l = rw (same-entry l, add-one i) (drop-cons E i 0 l)

    left-ascending : i < length E → Ascending p N (position u) (drop (i + 1) E)
    left-ascending l = rw (same-entry l, add-one i) (ascending_drop a i l)

    end : length E ≤ i → (drop i E ≡ []) × (position u ≡ 65535)
    end l =
        (drop_of_length-le E l, omega (arith, is, get_or-eq_default E 4294967295 l))

    entry-there : position u < 65535 → i < length E
    entry-there h = go (dec_lt i (length E))
      where
        go : Dec (i < length E) → i < length E
        go (yes l) = l
        go (no l) = absurd (omega (arith, (end (omega arith)).1))

    taken : i < length E → Taken (drop i E) (position u) (coefficient u) (drop (i + 1) E)
    taken l = rw (left l) (taken-first u (left-ascending l))

    -- at an earlier position nothing is taken
    not_taken : (q : ℕ) → q < position u → Taken (drop i E) q 0 (drop i E)
    not_taken q h = taken_none (go (dec_lt i (length E)))
      where
        go : Dec (i < length E) → Ascending p N q (drop i E)
        go (yes l) =
            let x = entry-is l in
            rw (left l) (next (entry-moved x h x.inside) (left-ascending l))
        go (no l) = rw (end (omega arith)).0 none

-- ---- two lists of entries

-- the coefficients of A + d B
abbrev pub combined : ℕ → ℕ → List ℕ → List ℕ → ℕ → ℕ
combined p d A B q = (coefficient_at A q + d * coefficient_at B q) % p

nothing : (p d x y : ℕ) → x ≡ 0 → y ≡ 0 → (x + d * y) % p ≡ 0
nothing p d x y e f =
    ap₂ (λ u v. (u + d * v) % p) e f ∙ ap (λ z. z % p) (omega arith) ∙ zero-mod p

module _ (p N d : ℕ) where
  turn : {A B A' B' : List ℕ} {q x y : ℕ} → Taken A q x A' → Taken B q y B' → 0 < q → q ≤ N
      → packed (combined p d A B) N
      ≡ entry_of q ((x + d * y) % p) ++ packed (combined p d A' B') N
  turn {A} {B} {A'} {B'} {q} s t low high =
      let g = packed (combined p d A' B') N in
      packed-first (combined p d A B) (combined p d A' B') q low
      (λ r l. nothing p d _ _ (s.before r l) (t.before r l))
      (λ r l. nothing p d _ _ (s.gone r l) (t.gone r l))
      (λ r l. ap₂ (λ u v. (u + d * v) % p) (s.after r l) (t.after r l))
      N high
      ∙ ap₂ (λ u v. entry_of q ((u + d * v) % p) ++ g) s.here t.here

  module _ {E F : List ℕ} (a : Ascending p N 0 E) (b : Ascending p N 0 F) where
    -- what is left to write behind i entries of E and j of F
    abbrev pub rest : ℕ → ℕ → List ℕ
    rest i j = packed (combined p d (drop i E) (drop j F)) N

    -- u and v are the next entries, q and c the position and the coefficient that are written
    module _ (i j u v q c : ℕ)
        (u-is : u ≡ get_or E i 4294967295) (v-is : v ≡ get_or F j 4294967295) where
      -- the first stands before the second
      pub first-turn : q ≡ position u → c ≡ coefficient u → q < position v → position v < 65536
          → (i < length E) × (rest i j ≡ entry_of q c ++ rest (i + 1) j)
      first-turn e f h s =
          let l = entry-there a i u u-is (omega arith) in
          let x = entry-is a i u u-is l in
          let t = not_taken b j v v-is (position u) (omega arith) in
          let g : (coefficient u + d * 0) % p ≡ c =
          ap (λ z. z % p) (omega arith) ∙ mod-eq_of_lt x.reduced ∙ sym f in
          (l, rw (e, ← g) (turn (taken a i u u-is l) t x.above x.inside))

      -- the second stands before the first
      pub second-turn : q ≡ position v → c ≡ (d * coefficient v) % p → q < position u
          → position u < 65536 → (j < length F) × (rest i j ≡ entry_of q c ++ rest i (j + 1))
      second-turn e f h s =
          let l = entry-there b j v v-is (omega arith) in
          let x = entry-is b j v v-is l in
          let t = not_taken a i u u-is (position v) (omega arith) in
          let g : (0 + d * coefficient v) % p ≡ c = ap (λ z. z % p) (omega arith) ∙ sym f in
          (l, rw (e, ← g) (turn t (taken b j v v-is l) x.above x.inside))

      -- both stand at one position
      pub both_turn : N < 65535 → i + j < length E + length F → q ≡ position u → q ≡ position v
          → c ≡ (coefficient u + d * coefficient v) % p
          → (i < length E) × (j < length F) × (rest i j ≡ entry_of q c ++ rest (i + 1) (j + 1))
      both_turn s m e g f =
          let h = low (dec_lt i (length E)) in
          let l = entry-there a i u u-is h in
          let k = entry-there b j v v-is (omega arith) in
          let x = entry-is a i u u-is l in
          let y : position v ≡ position u = sym g ∙ e in
          let t = rw y at (taken b j v v-is k) in
          (l, k, rw (e, f) (turn (taken a i u u-is l) t x.above x.inside))
        where
          -- one of the two lists has an entry left
          low : Dec (i < length E) → position u < 65535
          low (yes l) = omega (arith, (entry-is a i u u-is l).inside)
          low (no l) = omega (arith, (entry-is b j v v-is (omega arith)).inside)

    -- the whole has at most one entry for each position
    pub few : 0 < p → p ≤ 65536 → length (rest 0 0) ≤ N
    few pos small =
        let a = packed-ascending p small (combined p d E F) N (λ q i j. mod-lt _ pos) in
        omega (arith, ascending_few a (omega arith))

-- a multiple is a sum with the zero series
pub combined-zero : (p c N : ℕ) (F : List ℕ)
    → packed (combined p c [] F) N ≡ packed (λ q. (c * coefficient_at F q) % p) N
combined-zero p c N F =
    packed-cong (combined p c [] F) (λ q. (c * coefficient_at F q) % p) N
    (λ q l h. ap (λ x. x % p) (omega (arith, coefficient_at-nil q)))

-- ---- one of the two series has no entry left

module _ {p : ℕ} (prime : Prime p) (small : p ≤ 65536) (d : ℕ) (pos : 0 < d) (less : d < p) (N : ℕ)
    {E F : List ℕ} (a : Ascending p N 0 E) (b : Ascending p N 0 F) (i j : ℕ) where
  pub tails : (length E ≤ i) ⊎ (length F ≤ j)
      → packed (combined p d (drop i E) (drop j F)) N
      ≡ map (scaled p 1) (drop i E) ++ map (scaled p d) (drop j F)
  tails (inl l) =
      rw (drop_of_length-le E l)
      (combined-zero p d N (drop j F)
      ∙ sym (multiple_packed prime small d pos less N (ascending_behind b j)))
  tails (inr l) =
      let es = map (scaled p 1) (drop i E) in
      rw (drop_of_length-le F l)
      (packed-cong (combined p d (drop i E) []) (λ q. (1 * coefficient_at (drop i E) q) % p) N
      (λ q x y. ap (λ z. (coefficient_at (drop i E) q + d * z) % p) (coefficient_at-nil q)
      ∙ ap (λ z. z % p) (omega arith))
      ∙ sym (multiple_packed prime small 1 (omega arith) prime.above_one N (ascending_behind a i))
      ∙ sym (append-nil es))
