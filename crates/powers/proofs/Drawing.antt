-- Sums turned into entries one after another: each is put behind those before it.
use Rattle.std.proofs.Common.{◌≡◌, refl, sym, ap, ap₂, ◌∙◌, List, ◌++◌, ℕ, ◌+◌, ◌-◌, ◌*◌, ◌%◌, ◌≤◌, ◌<◌, arith, length, get_or, set, take, drop, length-set, get_or-drop, drop-drop, drop-set-lt, get_or-set_same, get_or-set_other}
use Rattle.std.proofs.Math.Nat.{zero-mod}
use Rattle.std.proofs.Math.Decide.{ℕ_discrete, dec_lt}
use Rattle.series.specs.Image.{position, entries, coefficient_at}
use Rattle.series.specs.Over.{over}
use Rattle.series.proofs.Entries.{coefficient_at-nil, coefficient_at-append}
use Rattle.series.proofs.Packed.{entry_of-own, entry_of-other}
use Rattle.product.specs.Pairs.{sum_at}
use Rattle.product.specs.Rows.{put}
use Rattle.product.specs.Regions.{source_entries}
use Rattle.powers.specs.Gathering.{entry_at, TakeIn, Possible, Room, Drawn, Made}
use Rattle.powers.proofs.Taking.{reduced, take-size, take-few}
use Rattle.powers.proofs.Taking.{take_below, take-above, take-place, take-sum_own}
use Rattle.powers.proofs.Taking.{take-sum_other, take-entries}

nothing : (w : List ℕ) (dst m q : ℕ) → m ≡ 0 → coefficient_at (source_entries w dst m) q ≡ 0
unfolding source_entries
nothing w dst m q e =
    ap (λ (x : ℕ). coefficient_at (take x (drop (dst + 1) w)) q) e ∙ coefficient_at-nil q

pub drawn_none : (n v N lo cut dst p : ℕ) (w : List ℕ) → Drawn n v N lo cut dst p w w (dst + 1)
drawn_none n v N lo cut dst p w = record {
  size = refl;
  begun = omega arith;
  entry = λ j l. absurd (omega arith);
  less = λ q l. omega arith;
  gone = λ q l. omega (arith, nothing w dst (dst + 1 - dst - 1) q (omega arith));
  before = λ x a b. refl;
  after = λ x a. refl;
}

module _ {n v N lo cut dst p : ℕ} {w₀ w : List ℕ} {i : ℕ} (R : Room N dst p w₀)
    (h : Drawn n v N lo cut dst p w₀ w i) where
  -- ---- one sum more

  module _ (q : ℕ) (possible : Possible n v N lo cut q) (free : i < dst + (N + 1)) where
    pub take-asks : TakeIn w i q p
    take-asks = record {
      apart = omega (arith, possible.high, h.begun, R.apart);
      inside = omega (arith, h.size, R.inside);
      small = omega (arith, possible.high, R.small);
      modulus_low = R.modulus_low;
      modulus_high = R.modulus_high;
    }

    module _ {i' : ℕ} {w' : List ℕ} (ei : i' ≡ i + length (entry_at w q p))
        (ew : w' ≡ over (put w q 0) i (entry_at w q p)) where
      pub drawn_own : sum_at w' q ≡ 0
      drawn_own = rw ew (take-sum_own w i q p take-asks)

      pub drawn_other : (j : ℕ) → j ≤ N → (j ≡ q → ⊥) → sum_at w' j ≡ sum_at w j
      drawn_other j a ne =
          rw ew (take-sum_other w i q p take-asks j (omega (arith, h.begun, R.apart)) ne)

      pub drawn_few : i' ≤ i + 1
      drawn_few = omega (arith, ei, take-few w i q p take-asks)

      pub drawn_kept : (x : ℕ) → 2 * (N + 1) ≤ x → x < i → get_or w' x 0 ≡ get_or w x 0
      drawn_kept x a b =
          rw ew (take_below w i q p take-asks x (omega (arith, possible.high)) b)

      -- the new entry, where there is one, stands at q
      pub drawn_here : i < i' → position (get_or w' i 0) ≡ q
      drawn_here l = rw ew (take-place w i q p take-asks (omega (arith, ei)))

      written : source_entries w' dst (i' - dst - 1)
          ≡ source_entries w dst (i - dst - 1) ++ entry_at w q p
      written =
          let m : i' - dst - 1 ≡ i - dst - 1 + length (entry_at w q p) =
          omega (arith, ei, h.begun) in
          rw (m, ew)
          (take-entries w i q p take-asks dst (i - dst - 1) (omega (arith, h.begun))
          (omega (arith, possible.high, R.apart)))

      coefficient-now : (j : ℕ)
          → coefficient_at (source_entries w' dst (i' - dst - 1)) j
          ≡ coefficient_at (source_entries w dst (i - dst - 1)) j + coefficient_at (entry_at w q p) j
      coefficient-now j =
          ap (λ (x : List ℕ). coefficient_at x j) written
          ∙ coefficient_at-append (source_entries w dst (i - dst - 1)) (entry_at w q p) j

      gone_now : (j : ℕ) → j ≤ N → Dec (j ≡ q)
          → coefficient_at (source_entries w' dst (i' - dst - 1)) j + sum_at w' j % p ≡ sum_at w₀ j % p
      gone_now j a (yes e) =
          let z : sum_at w' j % p ≡ 0 =
          ap (λ (x : ℕ). x % p) (ap (sum_at w') e ∙ drawn_own) ∙ zero-mod p in
          let c : coefficient_at (entry_at w q p) j ≡ sum_at w j % p =
          ap (coefficient_at (entry_at w q p)) e
          ∙ entry_of-own q (sum_at w q % p) (reduced w i q p take-asks)
          ∙ ap (λ (x : ℕ). sum_at w x % p) (sym e) in
          omega (arith, coefficient-now j, z, c, h.gone j a)
      gone_now j a (no ne) =
          let z : sum_at w' j % p ≡ sum_at w j % p = ap (λ (x : ℕ). x % p) (drawn_other j a ne) in
          let c = entry_of-other q (sum_at w q % p) j (reduced w i q p take-asks) ne in
          omega (arith, coefficient-now j, z, c, h.gone j a)

      less_now : (j : ℕ) → j ≤ N → Dec (j ≡ q) → sum_at w' j ≤ sum_at w₀ j
      less_now j a (yes e) = omega (arith, ap (sum_at w') e ∙ drawn_own)
      less_now j a (no ne) = omega (arith, drawn_other j a ne, h.less j a)

      entry-now : (j : ℕ) → dst + 1 + j < i' → Dec (dst + 1 + j < i)
          → Possible n v N lo cut (position (get_or w' (dst + 1 + j) 0))
      entry-now j a (yes b) =
          rw (drawn_kept (dst + 1 + j) (omega (arith, R.apart)) b) (h.entry j b)
      entry-now j a (no b) =
          let e : dst + 1 + j ≡ i = omega (arith, drawn_few) in
          rw (e, drawn_here (omega arith)) possible

      pub drawn_more : Drawn n v N lo cut dst p w₀ w' i'
      drawn_more = record {
        size = ap length ew ∙ take-size w i q p take-asks ∙ h.size;
        begun = omega (arith, ei, h.begun);
        entry = λ j a. entry-now j a (dec_lt (dst + 1 + j) i);
        less = λ j a. less_now j a (ℕ_discrete j q);
        gone = λ j a. gone_now j a (ℕ_discrete j q);
        before = λ x a b. drawn_kept x a (omega (arith, h.begun)) ∙ h.before x a b;
        after = λ x a.
            ap (λ (u : List ℕ). get_or u x 0) ew
            ∙ take-above w i q p take-asks x (omega arith)
            ∙ h.after x a;
      }

  -- ---- the number of the entries

  module _ (few : i ≤ dst + 1 + N) where
    abbrev u : List ℕ
    u = set w dst (i - dst - 1)

    inside : dst < length w
    inside = omega (arith, h.size, R.inside)

    number : get_or u dst 0 ≡ i - dst - 1
    number = get_or-set_same w dst (i - dst - 1) 0 inside

    same : (x : ℕ) → (x ≡ dst → ⊥) → get_or u x 0 ≡ get_or w x 0
    same x ne = get_or-set_other w dst x (i - dst - 1) 0 ne

    pub made-sums : (q : ℕ) → q ≤ N → sum_at (set w dst (i - dst - 1)) q ≡ sum_at w q
    unfolding sum_at
    made-sums q a =
        omega (
          arith,
          same (2 * q) (λ e. omega (arith, R.apart)),
          same (2 * q + 1) (λ e. omega (arith, R.apart)),
        )

    entries-are : entries (drop dst u) ≡ source_entries w dst (i - dst - 1)
    unfolding entries source_entries
    entries-are =
        let z : dst + 0 ≡ dst = omega arith in
        let e : get_or (drop dst u) 0 0 ≡ i - dst - 1 = get_or-drop dst u 0 0 ∙ rw z number in
        ap₂ take e (drop-drop 1 dst u ∙ drop-set-lt (dst + 1) w dst (i - dst - 1) (omega arith))

    pub made : Made n v N lo cut dst p w₀ (set w dst (i - dst - 1))
    made = record {
      size = length-set w dst (i - dst - 1) ∙ h.size;
      few = omega (arith, number);
      entry = λ j a.
          rw (same (dst + 1 + j) (λ e. omega arith)) (h.entry j (omega (arith, number)));
      less = λ q a. omega (arith, made-sums q a, h.less q a);
      gone = λ q a.
          ap₂ (λ (s : List ℕ) (x : ℕ). coefficient_at s q + x % p) entries-are (made-sums q a)
          ∙ h.gone q a;
      before = λ x a b. same x (λ e. omega arith) ∙ h.before x a (omega arith);
      after = λ x a. same x (λ e. omega arith) ∙ h.after x a;
    }
