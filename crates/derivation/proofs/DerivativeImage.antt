-- The loop of the derivative, from an image to the image of its derivative: after i entries, what
-- they give is packed in the result.
use Rattle.std.proofs.Common.{◌≡◌, sym, ap, ◌∙◌, subst, List, ◌++◌, ℕ, ◌+◌, ◌-◌, ◌%◌, ◌≤◌, ◌<◌, arith, length, get_or, take, drop}
use Rattle.std.proofs.Math.Seq.{take-length}
use Rattle.algebra.specs.Polynomial.{Polynomial, scale, derivative}
use Rattle.algebra.proofs.Modulo.{mod-cong}
use Rattle.monomial.specs.Count.{count}
use Rattle.series.specs.Image.{position, entries, polynomial, packed, image_of, image}
use Rattle.series.specs.Series.{Entry, IsSeries}
use Rattle.series.specs.Over.{over}
use Rattle.series.proofs.Entries.{ascending_at}
use Rattle.series.proofs.Series.{fault_none_to_series, length-entries, entries_at}
use Rattle.series.proofs.Writing.{image_of-packed}
use Rattle.derivation.specs.Derivative.{DerivativeIn, derived_entry}
use Rattle.product.proofs.Packing.{Packing, entry_of-few, packing_finished}
use Rattle.derivation.proofs.DerivativeSums.{derived_at, derived_at-is}
use Rattle.derivation.proofs.DerivativePacking.{packing_nothing, packing_append}
use Rattle.derivation.proofs.DerivativePacked.{ascending_placed, packed-derived_none}
use Rattle.derivation.proofs.DerivativePacked.{packed-derived_more}

-- the coefficients of f times the derivative of the first i entries of a
abbrev pub derived_to : ℕ → ℕ → ℕ → ℕ → ℕ → List ℕ → ℕ → ℕ → ℕ
derived_to n v k f p a i q = derived_at n v k f (take i (entries a)) q % p

-- i entries of the series a are passed, and what they give stands in the words 1 to j of the result
pub record Deriving (n v k f p : ℕ) (a out₀ out : List ℕ) (j i : ℕ) : Type 0 where
  pub high : i ≤ get_or a 0 0
  pub few : j ≤ i + 1
  pub packing : Packing out₀ (derived_to n v k f p a i) (count n v) 0 out j (count n v)

derived_entry-few : (n v k p f x : ℕ) → length (derived_entry n v k p f x) ≤ 1
unfolding derived_entry
derived_entry-few n v k p f x = entry_of-few _ _

module _ {n v N E k f p : ℕ} {a t out₀ : List ℕ} (d : DerivativeIn n v N E k f p a t out₀) where
  series : IsSeries p (count n v) a
  series =
      subst (λ (z : ℕ). IsSeries p z a) d.N_is (fault_none_to_series p N a d.series d.long)

  fits : 0 + (count n v + 1) ≤ length out₀
  fits = omega (arith, d.N_is, d.room)

  pub entries-few : get_or a 0 0 ≤ N
  entries-few = omega (arith, d.N_is, series.few)

  pub length-series : length (entries a) ≡ get_or a 0 0
  length-series = length-entries p (count n v) series

  -- ---- an entry

  module _ {i : ℕ} (l : i < get_or a 0 0) where
    entry-inside : i < length (entries a)
    entry-inside = omega (arith, length-series)

    entry-is : get_or (entries a) i 0 ≡ get_or a (i + 1) 0
    entry-is =
        let e : 1 + i ≡ i + 1 = omega arith in
        entries_at p (count n v) series i l ∙ ap (λ (z : ℕ). get_or a z 0) e

    pub entry-placed : (1 ≤ position (get_or a (i + 1) 0))
        × (position (get_or a (i + 1) 0) ≤ count n v)
    entry-placed =
        let x = ascending_at series.ascending i entry-inside in
        let y = subst (λ (z : ℕ). Entry p (count n v) 0 z) entry-is x in
        (omega (arith, y.above), y.inside)

  -- ---- the loop

  pub deriving_none : Deriving n v k f p a out₀ out₀ 1 0
  deriving_none =
      record {
        high = omega arith;
        few = omega arith;
        packing = packing_nothing out₀ (count n v) 0 fits (derived_to n v k f p a 0)
            (packed-derived_none n v k f series.ascending);
      }

  pub deriving_more : {out out' : List ℕ} {j j' i : ℕ} → Deriving n v k f p a out₀ out j i
      → i < get_or a 0 0
      → (j' ≡ j + length (derived_entry n v k p f (get_or a (i + 1) 0)))
      × (out' ≡ over out j (derived_entry n v k p f (get_or a (i + 1) 0)))
      → Deriving n v k f p a out₀ out' j' (i + 1)
  deriving_more {i = i} s l w =
      record {
        high = omega arith;
        few = omega (arith, s.few, w.0, derived_entry-few n v k p f x);
        packing = packing_append out₀ (count n v) 0 fits (derived_to n v k f p a (i + 1))
            (derived_entry n v k p f x) s.packing more w.0 w.1;
      }
    where
      x : ℕ
      x = get_or a (i + 1) 0

      before : List ℕ
      before = packed (derived_to n v k f p a i) (count n v)

      more : packed (derived_to n v k f p a (i + 1)) (count n v)
          ≡ before ++ derived_entry n v k p f x
      more =
          packed-derived_more n v k f series.ascending i (entry-inside l)
          ∙ ap (λ (z : ℕ). before ++ derived_entry n v k p f z) (entry-is l)

  pub deriving_room : {out : List ℕ} {j i : ℕ} → Deriving n v k f p a out₀ out j i
      → (1 ≤ j) × (j ≤ N + 1) × (length out ≡ length out₀)
  deriving_room s = (
    omega (arith, s.packing.next),
    omega (arith, s.few, s.high, entries-few),
    s.packing.size,
  )

  -- ---- the end

  abbrev P : Polynomial
  P = scale f (derivative k (polynomial n v a))

  abbrev g : ℕ → ℕ
  g = derived_to n v k f p a (get_or a 0 0)

  -- all entries are passed
  all : take (get_or a 0 0) (entries a) ≡ entries a
  all =
      ap (λ (z : ℕ). take z (entries a)) (sym (length-entries p (count n v) series))
      ∙ take-length (entries a)

  is_image : image_of (count n v) (packed g (count n v)) ≡ image p n v P
  unfolding polynomial
  is_image =
      image_of-packed p n v g P
      (λ q l h.
      mod-cong p
      (ap (λ (x : List ℕ). derived_at n v k f x q) all
      ∙ sym (derived_at-is n v k f (entries a) q (ascending_placed series.ascending) l h)))

  pub deriving_done : {out : List ℕ} {j i : ℕ} → Deriving n v k f p a out₀ out j i → i ≡ get_or a 0 0
      → image_of N (take (j - 1) (drop 1 out)) ++ drop (N + 1) out
      ≡ image p n v (scale f (derivative k (polynomial n v a))) ++ drop (N + 1) out₀
  deriving_done {out} {j} s e =
      rw d.N_is
      (packing_finished out₀ g (count n v) (omega (arith, fits)) out j s'.packing
      ∙ ap (λ (x : List ℕ). x ++ drop (count n v + 1) out₀) is_image)
    where
      s' : Deriving n v k f p a out₀ out j (get_or a 0 0)
      s' = subst (Deriving n v k f p a out₀ out j) e s
