-- Laws of `room`: all that a routine uses of it.
use Rattle.std.proofs.Common.{Some, Result, Ok, Err, Option, None, ◌≡◌, refl, sym, ap, subst, ◌∙◌, Bool, true, false, cond, List, [], ◌∷◌, ℕ, zero, suc, ◌+◌, ◌*◌, ◌<◌, ◌≤◌, add-one, arith, T, leb→le, length, get_or, drop, drop-cons, le-leb}
use Rattle.std.specs.Result.{result_ok}
use Rattle.std.proofs.lemmas.List.{drop_all}
use borrow.Author.Tests.{lt-leb}
use Rattle.residue.specs.Modulus.{Prime}
use Rattle.residue.proofs.Primality.{modulus-small, modulus-large, modulus-prime}
use Rattle.monomial.specs.Count.{count, Allowed, allowed}
use Rattle.monomial.proofs.Bounds.{allowed-sound, codes-bound}
use Rattle.counts.specs.declared.Sizes.{Sizes}
use Rattle.answer.specs.declared.Setting.{Setting}
use Rattle.answer.specs.declared.Refusal.{Refusal}
use Rattle.answer.specs.Refusals.{Verdict, passed, declined, number}
use Rattle.answer.specs.Sizes.{work_words}
use Rattle.answer.specs.Checks.{or_else, unless, setting_check}
use Rattle.answer.proofs.Passing.{both_pass, unless-passed, setting_passed}
use Rattle.checks.specs.Room.{Slice}
use Rattle.counts.specs.Sizes.{Sized}
use Rattle.checks.specs.Settings.{prime_of, extent_of}
use Rattle.checks.specs.Room.{needed_by, long_enough, slices_check, room, Fitting, RoomPassed, Decided}
use Rattle.counts.proofs.Counts.{none_where, some_where}

pub prime : (s : Setting) → Prime (prime_of s)
unfolding prime_of
prime s = modulus-prime

pub prime_low : (s : Setting) → 65280 < prime_of s
unfolding prime_of
prime_low s = omega (arith, modulus-large)

pub prime_high : (s : Setting) → prime_of s < 65536
unfolding prime_of
prime_high s = modulus-small

pub in_range : (n v : ℕ) → allowed n v ≡ true → Allowed n v
in_range n v e = allowed-sound n v (rw e tt)

-- the sizes of a setting in range
pub sized : {s : Setting} {z : Sizes} → Allowed s.n s.v → z ≡ extent_of s → Sized z
sized {s} a e = rw e (record { allowed = a; count_is = refl; codes_is = refl })

-- what W asks, and what it is
pub work_asks : {z : Sizes} → Sized z → (z.n ≤ 10) × (z.v ≤ 8) × (z.count ≤ 8008)
work_asks k = (k.allowed.n_high, k.allowed.v_high, omega (arith, k.count_is, k.allowed.few))

pub work_of : (z : Sizes) {w : ℕ} → z.count ≡ count z.n z.v
    → w ≡ (z.n + 2 * z.v + 4) * (z.count + 1) + 2 * z.v * z.v → w ≡ work_words z.n z.v
unfolding work_words
work_of z q e = e ∙ ap (λ (N : ℕ). (z.n + 2 * z.v + 4) * (N + 1) + 2 * z.v * z.v) q

pub work_is : {s : Setting} {z : Sizes} {w : ℕ} → z ≡ extent_of s
    → w ≡ (z.n + 2 * z.v + 4) * (z.count + 1) + 2 * z.v * z.v → w ≡ work_words z.n z.v
work_is {z = z} q e = work_of z (rw q refl) e

-- ---- one check of all slices

-- one slice after the other, at the slice with index i
module _ (ok : Slice → Bool) (number : ℕ) (bs : List Slice) (i : ℕ) (b : Slice) (l : i < length bs) where
  pub slices-step : ok (get_or bs i b) ≡ true
      → slices_check ok number (i + 1) (drop i bs) ≡ slices_check ok number (i + 1 + 1) (drop (i + 1) bs)
  unfolding slices_check
  slices-step e = rw (add-one, add-one, drop-cons bs i b l, e)

  pub slices-stop : ok (get_or bs i b) ≡ false
      → declined number ((i + 1) ∷ []) ≡ slices_check ok number (i + 1) (drop i bs)
  unfolding slices_check
  slices-stop e = rw (drop-cons bs i b l, e)

-- all of them were ok
pub slices-end : (ok : Slice → Bool) (number : ℕ) (bs : List Slice) (i : ℕ) → length bs ≤ i
    → passed ≡ slices_check ok number (i + 1) (drop i bs)
unfolding slices_check
slices-end ok number bs i l = rw (drop_all i bs l)

-- the slices before i were ok
slices-upto : (ok : Slice → Bool) (n : ℕ) (b : Slice) (bs : List Slice) (i : ℕ) → i ≤ length bs
    → ((j : ℕ) → j < i → ok (get_or bs j b) ≡ true)
    → slices_check ok n 1 bs ≡ slices_check ok n (i + 1) (drop i bs)
slices-upto ok n b bs zero l h = refl
slices-upto ok n b bs (suc i) l h =
    slices-upto ok n b bs i (omega arith) (λ j k. h j (omega arith))
    ∙ subst (λ (m : ℕ). slices_check ok n (i + 1) (drop i bs) ≡ slices_check ok n (m + 1) (drop m bs)) (add-one i)
    (slices-step ok n bs i b (omega arith) (h i (omega arith)))

-- the first slice that is not ok decides, by its place
pub slices_at : (ok : Slice → Bool) (number : ℕ) (b : Slice) (bs : List Slice) (i : ℕ) → i < length bs
    → ((j : ℕ) → j < i → ok (get_or bs j b) ≡ true) → ok (get_or bs i b) ≡ false
    → declined number ((i + 1) ∷ []) ≡ slices_check ok number 1 bs
slices_at ok number b bs i l h e =
    slices-stop ok number bs i b l e ∙ sym (slices-upto ok number b bs i (omega arith) h)

-- where every slice is ok the check passes
pub slices_all : (ok : Slice → Bool) (number : ℕ) (b : Slice) (bs : List Slice)
    → ((j : ℕ) → j < length bs → ok (get_or bs j b) ≡ true) → passed ≡ slices_check ok number 1 bs
slices_all ok number b bs h =
    slices-end ok number bs (length bs) (omega arith) ∙ sym (slices-upto ok number b bs (length bs) (omega arith) h)

-- each slice is ok where the check passed
abbrev pub All : (Slice → Bool) → List Slice → Type 0
All ok [] = Unit {0}
All ok (b ∷ bs) = T (ok b) × All ok bs

slices_passed : (ok : Slice → Bool) (number k : ℕ) (bs : List Slice) → slices_check ok number k bs ≡ passed → All ok bs
unfolding slices_check
slices_passed ok number k [] h = tt
slices_passed ok number k (b ∷ bs) h =
    let p = both_pass (unless (ok b) number (k ∷ [])) (slices_check ok number (suc k) bs) h in
    (unless-passed (ok b) number (k ∷ []) p.0, slices_passed ok number (suc k) bs p.1)

-- where a check of `room` declines, the number is not that of refusal 7, and the one place counts slices
pub data OnePlace (k : ℕ) : Verdict → Type 0 where
  nowhere : OnePlace k passed
  somewhere : {n w : ℕ} → (0 < n) × (n < 256) × (n ≡ 7 → ⊥) × (w ≤ k) → OnePlace k (declined n (w ∷ []))

unless-one : (t : Bool) {k n w : ℕ} → (0 < n) × (n < 256) × (n ≡ 7 → ⊥) × (w ≤ k) → OnePlace k (unless t n (w ∷ []))
unless-one true h = nowhere
unless-one false h = somewhere h

or_else-one : {k : ℕ} {w x : Verdict} → OnePlace k w → OnePlace k x → OnePlace k (or_else w x)
or_else-one nowhere f = f
or_else-one (somewhere h) f = somewhere h

slices_one : (ok : Slice → Bool) (number : ℕ) → (0 < number) × (number < 256) × (number ≡ 7 → ⊥) → (j k : ℕ) (bs : List Slice)
    → j + length bs ≤ k + 1 → OnePlace k (slices_check ok number j bs)
unfolding slices_check
slices_one ok number h j k [] l = nowhere
slices_one ok number h j k (b ∷ bs) l =
    or_else-one (unless-one (ok b) (h.0, h.1, h.2, omega arith)) (slices_one ok number h (suc j) k bs (omega arith))

-- ---- room

all_fit : (z : Sizes) (bs : List Slice) → All (long_enough z) bs → Fitting z bs
all_fit z [] h = tt
all_fit z (b ∷ bs) h = (leb→le (needed_by z b.0) b.1 h.0, all_fit z bs h.1)

pub room-places : (s : Setting) (bs : List Slice) → OnePlace (length bs) (room s bs)
unfolding room setting_check
room-places s bs =
    or_else-one (unless-one (allowed s.n s.v) (omega arith))
    (slices_one (long_enough (extent_of s)) 2 (omega arith) 1 (length bs) bs (omega arith))

-- what holds where it passed
pub room-passed : (s : Setting) (bs : List Slice) → room s bs ≡ passed → RoomPassed s bs
unfolding room
room-passed s bs h =
    let ok = long_enough (extent_of s) in
    let b = both_pass (setting_check s.n s.v) (slices_check ok 2 1 bs) h in
    record {
      allowed = setting_passed s.n s.v b.0;
      prime = prime s;
      prime_low = prime_low s;
      prime_high = prime_high s;
      fitting = all_fit (extent_of s) bs (slices_passed ok 2 1 bs b.1);
    }

-- ---- 1

said : (t : Bool) (n : ℕ) (at : List ℕ) → passed ≡ unless t n at → t ≡ true
said true n at e = refl
said false n at e = absurd (cc)

module _ (s : Setting) where
  -- what it said, by its answer
  pub setting_in_range : passed ≡ setting_check s.n s.v → Allowed s.n s.v
  setting_in_range e = setting_passed s.n s.v (sym e)

  pub setting-known : (r : Result Sizes Refusal) {z : Sizes} → Decided s (setting_check s.n s.v) r → Some z ≡ result_ok r
      → (allowed s.n s.v ≡ true) × (z ≡ extent_of s)
  unfolding setting_check
  setting-known (Ok y) {z} d e =
      let h : z ≡ y = cc in
      (said (allowed s.n s.v) 1 (0 ∷ []) d.says, h ∙ d.sized)
  setting-known (Err r) d e = absurd (cc)

-- ---- the sizes are small

pub few_count : {z : Sizes} → Sized z → z.count ≤ 43758
few_count h = omega (arith, h.allowed.few, h.count_is)

pub few_codes : {z : Sizes} → Sized z → z.codes ≤ 14641
few_codes {z} h = omega (arith, h.codes_is, codes-bound z.n z.v h.allowed)

-- ---- 2, for one slice

module _ (s : Setting) {z : Sizes} (b : Slice) (q : z ≡ extent_of s) {k : ℕ} (h : k ≡ needed_by z b.0) where
  pub enough : k ≤ b.1 → long_enough (extent_of s) b ≡ true
  enough l = rw (← q, ← h) (le-leb k b.1 l)

  pub too_short : b.1 < k → long_enough (extent_of s) b ≡ false
  too_short l = rw (← q, ← h) (lt-leb k b.1 l)

-- ---- what is there just where the setting is in range decides on 1

module _ {A : Type 0} (s : Setting) (bs : List Slice) (x : A) (r : Option A)
    (h : r ≡ cond (allowed s.n s.v) (Some x) None) where
  pub setting_declines : r ≡ None → declined 1 (0 ∷ []) ≡ room s bs
  unfolding room setting_check
  setting_declines e = rw (none_where (allowed s.n s.v) x r h e)

  pub setting_goes_on : {c : A} → r ≡ Some c → slices_check (long_enough (extent_of s)) 2 1 bs ≡ room s bs
  unfolding room setting_check
  setting_goes_on {c} e = rw (some_where (allowed s.n s.v) x c r h e).0
