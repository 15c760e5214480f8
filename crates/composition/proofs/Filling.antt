-- A slice whose parts of r words are written one after another: after i parts it begins with these,
-- and the rest is as before. A part that is lent and written anew is put back in its place.
use Rattle.std.proofs.Common.{ℕ, suc, ◌+◌, ◌-◌, ◌*◌, ◌≤◌, ◌<◌, ◌≡◌, sym, ap, ap₂, ◌∙◌, List, ◌∷◌, ◌++◌, append_assoc, append-nil, add-one, mul-le-mul, zero-mul, arith, length, get_or, take, drop, set, replicate, length-append, length-drop, drop_of_length-le, take_at, drop_at, drop-drop, length-take-le}
use Rattle.std.proofs.lemmas.List.{set-append_right, replicate-append-replicate}
use Rattle.std.proofs.Math.ListN.{length-replicate}
use Rattle.monomial.specs.Enumeration.{upto}
use Rattle.monomial.proofs.Upto.{upto-suc}
use Rattle.series.specs.Image.{packed, image_of}
use Rattle.series.specs.Over.{over}
use Rattle.series.proofs.Parts.{length-parts}
use Rattle.series.proofs.Series.{length-image_of}
use Rattle.product.proofs.Packing.{packed-few}
use Rattle.product.proofs.Whole.{over-front_is}
use Rattle.composition.specs.Parts.{nth_part, constant_words, packed_words}

pub part-fits : (i c r : ℕ) → i < c → i * r + r ≤ c * r
part-fits i c r l =
    let h : i + 1 ≤ c = omega arith in
    let k : r ≤ r = omega arith in
    omega (arith, mul-le-mul h k)

pub part-long : (i c N : ℕ) (ws : List ℕ) → i < c → c * (N + 1) ≤ length ws
    → length (nth_part N i ws) ≡ N + 1
part-long i c N ws l h =
    length-take-le (N + 1) (drop (i * (N + 1)) ws)
    (omega (arith, part-fits i c (N + 1) l, length-drop (i * (N + 1)) ws))

-- the words from a to a + r, as they are lent
pub lent : (a r : ℕ) (ws : List ℕ) → take (a + r - a) (drop a ws) ≡ take r (drop a ws)
lent a r ws =
    let e : a + r - a ≡ r = omega arith in
    ap (λ (z : ℕ). take z (drop a ws)) e

-- the first i of c parts are written
pub record FilledUpto (f : ℕ → List ℕ) (r c : ℕ) (w₀ w : List ℕ) (i : ℕ) : Type 0 where
  pub few : i ≤ c
  pub is : w ≡ upto f i ++ drop (i * r) w₀

pub filled_none : (f : ℕ → List ℕ) (r c : ℕ) (w₀ : List ℕ) → FilledUpto f r c w₀ w₀ 0
unfolding upto
filled_none f r c w₀ = record {
  few = omega arith;
  is = ap (λ (z : ℕ). drop z w₀) (sym (zero-mul r));
}

module _ {f : ℕ → List ℕ} {r c : ℕ} {w₀ w : List ℕ} {i : ℕ} (each : (j : ℕ) → length (f j) ≡ r)
    (fits : c * r ≤ length w₀) (F : FilledUpto f r c w₀ w i) where
  front : length (upto f i) ≡ i * r
  front = length-parts f r each i

  behind : drop (i * r) w ≡ drop (i * r) w₀
  behind = ap (drop (i * r)) F.is ∙ drop_at (upto f i) (drop (i * r) w₀) (i * r) front

  pub filled-size : length w ≡ length w₀
  filled-size =
      let k : r ≤ r = omega arith in
      ap length F.is
      ∙ length-append (upto f i) (drop (i * r) w₀)
      ∙ omega (arith, front, length-drop (i * r) w₀, mul-le-mul F.few k)

  -- the next part is still as before
  pub filled-part : take (i * r + r - i * r) (drop (i * r) w) ≡ take r (drop (i * r) w₀)
  filled-part = lent (i * r) r w ∙ ap (take r) behind

  pub filled_more : i < c → (s : List ℕ) → s ≡ f i
      → FilledUpto f r c w₀
      (take (i * r) w ++ (s ++ drop (i * r + r - i * r) (drop (i * r) w))) (i + 1)
  filled_more l s e = record { few = omega arith; is = more }
    where
      more : take (i * r) w ++ (s ++ drop (i * r + r - i * r) (drop (i * r) w))
          ≡ upto f (i + 1) ++ drop ((i + 1) * r) w₀
      more =
          let z : i * r + r - i * r ≡ r = omega arith in
          let next : i * r + r ≡ (i + 1) * r = omega arith in
          ap₂ ◌++◌
          (ap (take (i * r)) F.is ∙ take_at (upto f i) (drop (i * r) w₀) (i * r) front)
          (ap₂ ◌++◌ e
          (ap₂ drop z behind ∙ drop-drop r (i * r) w₀ ∙ ap (λ (k : ℕ). drop k w₀) next))
          ∙ sym (append_assoc (upto f i) (f i) (drop ((i + 1) * r) w₀))
          ∙ ap (λ (x : List ℕ). x ++ drop ((i + 1) * r) w₀)
          (sym (upto-suc f i) ∙ ap (upto f) (sym (add-one i)))

-- all are written
pub filled-all : {f : ℕ → List ℕ} {r c : ℕ} {w₀ w : List ℕ} {i : ℕ} → c ≤ i
    → FilledUpto f r c w₀ w i → w ≡ upto f c ++ drop (c * r) w₀
filled-all {f} {r} {c} {w₀} {w} {i} l F =
    let e : i ≡ c = omega (arith, F.few) in
    rw e at F.is

-- ---- the words of one part

pub length-constant_words : (N c : ℕ) → 1 ≤ N → length (constant_words N c) ≡ N + 1
unfolding constant_words
length-constant_words N c l = omega (arith, length-replicate {A = ℕ} (N - 1) 0)

-- the first i of c parts have their constants, and the others are zeros
pub record BegunUpto (κ : ℕ → ℕ) (N c : ℕ) (rest w : List ℕ) (i : ℕ) : Type 0 where
  pub is : w ≡ upto (λ j. constant_words N (κ j)) i ++ (replicate ((c - i) * (N + 1)) 0 ++ rest)

module _ (κ : ℕ → ℕ) (N c : ℕ) where
  abbrev f : ℕ → List ℕ
  f j = constant_words N (κ j)

  pub begun_none : (w₀ : List ℕ) {w : List ℕ} → w ≡ over w₀ 0 (replicate (c * (N + 1) - 0) 0)
      → BegunUpto κ N c (drop (c * (N + 1)) w₀) w 0
  unfolding upto
  begun_none w₀ e = record {
    is =
        let none : c - 0 ≡ c = omega arith in
        let z : c * (N + 1) - 0 ≡ (c - 0) * (N + 1) = rw none (omega arith) in
        e
        ∙ over-front_is w₀ (replicate (c * (N + 1) - 0) 0) (c * (N + 1))
        (length-replicate {A = ℕ} (c * (N + 1) - 0) 0 ∙ omega arith)
        ∙ ap (λ (x : ℕ). replicate x 0 ++ drop (c * (N + 1)) w₀) z;
  }

  pub begun_more : {rest w : List ℕ} {i : ℕ} → 1 ≤ N → i < c → BegunUpto κ N c rest w i
      → BegunUpto κ N c rest (set w (i * (N + 1) + 1) (κ i)) (i + 1)
  unfolding constant_words
  begun_more {rest} {w} {i} some l B = record {
    is =
        let one : i * (N + 1) + 1 - i * (N + 1) ≡ 1 = omega arith in
        ap (λ (x : List ℕ). set x (i * (N + 1) + 1) (κ i)) B.is
        ∙ set-append_right (upto f i) (replicate ((c - i) * (N + 1)) 0 ++ rest) (i * (N + 1))
        (i * (N + 1) + 1) (κ i) (length-parts f (N + 1) (λ j. length-constant_words N (κ j) some) i)
        (omega arith)
        ∙ ap₂ (λ (x : List ℕ) (y : ℕ). upto f i ++ set x y (κ i)) next one
        ∙ sym (append_assoc (upto f i) (f i) after)
        ∙ ap (λ (x : List ℕ). x ++ after) (sym (upto-suc f i) ∙ ap (upto f) (sym (add-one i)));
  }
    where
      after : List ℕ
      after = replicate ((c - (i + 1)) * (N + 1)) 0 ++ rest

      next : replicate ((c - i) * (N + 1)) 0 ++ rest ≡ 0 ∷ 0 ∷ (replicate (N - 1) 0 ++ after)
      next =
          let e : c - i ≡ c - (i + 1) + 1 = omega arith in
          let z : (c - i) * (N + 1) ≡ suc (suc (N - 1)) + (c - (i + 1)) * (N + 1) =
          ap (λ (x : ℕ). x * (N + 1)) e ∙ omega arith in
          rw (z, ← replicate-append-replicate {A = ℕ} (suc (suc (N - 1))) ((c - (i + 1)) * (N + 1)) 0)
          (append_assoc (replicate (suc (suc (N - 1))) 0) (replicate ((c - (i + 1)) * (N + 1)) 0) rest)

  pub begun-all : {rest w : List ℕ} {i : ℕ} → i ≡ c → BegunUpto κ N c rest w i
      → w ≡ upto (λ j. constant_words N (κ j)) c ++ rest
  begun-all {rest} {w} {i} e B =
      let k : c - i ≡ 0 = omega arith in
      let z : (c - i) * (N + 1) ≡ 0 = ap (λ (x : ℕ). x * (N + 1)) k ∙ zero-mul (N + 1) in
      let h : w ≡ upto f i ++ rest =
      B.is ∙ ap (λ (x : ℕ). upto f i ++ (replicate x 0 ++ rest)) z in
      rw e at h

pub length-packed_words : (N : ℕ) (ws : List ℕ) → length (packed_words N ws) ≡ N + 1
unfolding packed_words
length-packed_words N ws =
    let f : ℕ → ℕ = λ q. get_or ws q 0 in
    length-image_of N (packed f N) (packed-few f N)

-- what was packed has no further words
pub packed-written : (N : ℕ) (w w' : List ℕ) → length w ≡ N + 1
    → w' ≡ image_of N (packed (λ q. get_or w q 0) N) ++ drop (N + 1) w → w' ≡ packed_words N w
unfolding packed_words
packed-written N w w' e h =
    let short : length w ≤ N + 1 = omega arith in
    h
    ∙ ap (λ (x : List ℕ). image_of N (packed (λ q. get_or w q 0) N) ++ x) (drop_of_length-le w short)
    ∙ append-nil (image_of N (packed (λ q. get_or w q 0) N))
