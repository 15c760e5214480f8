-- A map in one slice is v series, one after another, so the laws of series hold of it component by
-- component. Its check passes where each component's does; otherwise the first faulty component
-- decides.
use Rattle.std.proofs.Common.{◌≡◌, sym, ap, ◌∙◌, List, [], ◌∷◌, ◌++◌, ℕ, zero, suc, ◌+◌, ◌*◌, ◌≤◌, ◌<◌, suc-mul, zero-mul, arith, ltb, ltb→lt, lt→ltb, length, take, drop, length-take, length-drop, take-take}
use Rattle.std.proofs.Math.Decide.{dec_lt}
use Rattle.algebra.specs.Polynomial.{Polynomial}
use Rattle.algebra.specs.Substitution.{Map}
use Rattle.algebra.specs.Agreement.{Agree, AgreeMap, Within}
use Rattle.algebra.proofs.Agreement.{agree_refl}
use Rattle.monomial.specs.Count.{count}
use Rattle.monomial.proofs.Upto.{only-true, only-false}
use Rattle.answer.specs.Refusals.{Verdict, passed, declined}
use Rattle.series.specs.Arguments.{map_check, argument_check}
use Rattle.series.specs.Image.{polynomial, component, map_of, image, map_image}
use Rattle.series.specs.Series.{IsSeries, IsMap}
use Rattle.series.specs.Faults.{first_fault, series_check}
use Rattle.series.proofs.Verdicts.{all-passed, passed_all, first-declined}
use Rattle.series.proofs.Series.{fault_to_declined, series_to_passed}
use Rattle.series.proofs.Reading.{passed_to_Is_series, polynomial-within}
use Rattle.series.proofs.Writing.{length-image, image-series_alone, read_image_alone, image-agree, series-image}
use Rattle.series.proofs.Parts.{upto-cong, length-parts, part_at, take-parts}

-- ---- the components of a map

module _ (n v : ℕ) (ws : List ℕ) (i : ℕ) where
  abbrev P : Polynomial
  P = polynomial n v (component n v i ws)

  pub map_of-inside : i < v → map_of n v ws i ≡ polynomial n v (component n v i ws)
  unfolding map_of
  map_of-inside l = only-true (ltb i v) P (lt→ltb i v l)

  pub map_of-beyond : v ≤ i → map_of n v ws i ≡ []
  unfolding map_of
  map_of-beyond l = only-false (ltb i v) P (λ t. omega (arith, ltb→lt i v t))

pub map_of-within : {p n v : ℕ} {ws : List ℕ} → IsMap p n v ws
    → (i : ℕ) → Within v (map_of n v ws i)
map_of-within {p} {n} {v} {ws} s i = go (dec_lt i v)
  where
    go : Dec (i < v) → Within v (map_of n v ws i)
    go (yes l) = rw (map_of-inside n v ws i l) (polynomial-within n v (s.each i l))
    go (no l) = rw (map_of-beyond n v ws i (omega arith)) tt

-- a map has all its words
pub map-long : {p n v : ℕ} {ws : List ℕ} → IsMap p n v ws → v * (count n v + 1) ≤ length ws
unfolding component
map-long {n = n} {v = zero} s = omega (arith, zero-mul (count n 0 + 1))
map-long {n = n} {v = suc u} {ws = ws} s =
    let c = count n (suc u) + 1 in
    omega (
      arith,
      (s.each u (omega arith)).long,
      length-take c (drop (u * c) ws),
      length-drop (u * c) ws,
      suc-mul u c,
    )

-- ---- the check

module _ (p n v a : ℕ) (ws : List ℕ) where
  abbrev part : ℕ → List ℕ
  part i = component n v i ws

  abbrev check_of : ℕ → Verdict
  check_of i = series_check p (count n v) a (suc i) (part i)

  check_of-passed : (i : ℕ) → IsSeries p (count n v) (part i) → check_of i ≡ passed
  check_of-passed i s = series_to_passed p (count n v) a (suc i) (part i) s

  -- the first faulty component gives the place: argument, component, word of that component
  pub map_check-first : (i : ℕ) → i < v
      → ((j : ℕ) → j < i → IsSeries p (count n v) (component n v j ws))
      → first_fault p (count n v) (component n v i ws) ≤ count n v
      → map_check p n v a ws
      ≡ declined 7 (a ∷ suc i ∷ first_fault p (count n v) (component n v i ws) ∷ [])
  unfolding argument_check component
  map_check-first i l s f =
      first-declined check_of v i l (λ j k. check_of-passed j (s j k))
      (fault_to_declined p (count n v) a (suc i) (part i) f)

  pub map_to_passed : IsMap p n v ws → map_check p n v a ws ≡ passed
  unfolding argument_check component
  map_to_passed s = all-passed check_of v (λ i l. check_of-passed i (s.each i l))

  pub passed_to_map : map_check p n v a ws ≡ passed → IsMap p n v ws
  unfolding argument_check component
  passed_to_map e = record {
    each = λ i l. passed_to_Is_series n v p a (suc i) (part i) (passed_all check_of v e i l);
  }

-- ---- the image of a map

pub map_image-agree : (p n v : ℕ) (f g : Map) → ((i : ℕ) → i < v → Agree p (suc n) (f i) (g i))
    → map_image p n v f ≡ map_image p n v g
unfolding map_image
map_image-agree p n v f g e =
    upto-cong (λ i. image p n v (f i)) (λ i. image p n v (g i)) v (λ i l. image-agree p n v (e i l))

module _ (p n v : ℕ) (pos : 0 < p) (small : p ≤ 65536) where
  module _ (f : Map) where
    length-component : (i : ℕ) → length (image p n v (f i)) ≡ count n v + 1
    length-component i = length-image p n v pos small (f i)

    pub length-map_image : length (map_image p n v f) ≡ v * (count n v + 1)
    unfolding map_image
    length-map_image = length-parts (λ i. image p n v (f i)) (count n v + 1) length-component v

    module _ (rest : List ℕ) where
      abbrev slice : List ℕ
      slice = map_image p n v f ++ rest

      pub component-map_image : (i : ℕ) → i < v
          → component n v i (map_image p n v f ++ rest) ≡ image p n v (f i)
      unfolding component map_image
      component-map_image i l =
          part_at (λ j. image p n v (f j)) (count n v + 1) length-component v i l rest

      pub map_image-map : IsMap p n v (map_image p n v f ++ rest)
      map_image-map = record {
        each = λ i l. rw (component-map_image i l) (image-series_alone p n v pos small (f i));
      }

      pub map_image-passed : (a : ℕ) → map_check p n v a (map_image p n v f ++ rest) ≡ passed
      map_image-passed a = map_to_passed p n v a slice map_image-map

      pub read_map_image : (i : ℕ) → i < v → Within v (f i)
          → Agree p (suc n) (map_of n v (map_image p n v f ++ rest) i) (f i)
      read_map_image i l w =
          rw (map_of-inside n v slice i l, component-map_image i l)
          (read_image_alone p n v pos small (f i) w)

      -- a map that is zero beyond its last component
      pub read_map_image_whole : ((i : ℕ) → Within v (f i)) → ((i : ℕ) → v ≤ i → f i ≡ [])
          → AgreeMap p (suc n) (map_of n v (map_image p n v f ++ rest)) f
      read_map_image_whole w z i = go (dec_lt i v)
        where
          go : Dec (i < v) → Agree p (suc n) (map_of n v slice i) (f i)
          go (yes l) = read_map_image i l (w i)
          go (no l) =
              let b : v ≤ i = omega arith in
              rw (map_of-beyond n v slice i b, z i b) (agree_refl p [])

  -- words that pass are the image of the map that they read to
  pub map-image : {ws : List ℕ} → IsMap p n v ws
      → take (v * (count n v + 1)) ws ≡ map_image p n v (map_of n v ws)
  unfolding map_image component
  map-image {ws} s =
      let c = count n v + 1 in
      take-parts c v ws
      ∙ upto-cong (λ i. take c (drop (i * c) ws)) (λ i. image p n v (map_of n v ws i)) v
      (λ i l.
      sym (take-take c c (drop (i * c) ws) (omega arith))
      ∙ series-image p n v pos small (s.each i l)
      ∙ ap (image p n v) (sym (map_of-inside n v ws i l)))

  -- two maps that read to agreeing components are the same words
  pub map-unique : {ws us : List ℕ} → IsMap p n v ws → IsMap p n v us
      → ((i : ℕ) → i < v → Agree p (suc n) (map_of n v ws i) (map_of n v us i))
      → take (v * (count n v + 1)) ws ≡ take (v * (count n v + 1)) us
  map-unique {ws} {us} s t e =
      map-image s ∙ map_image-agree p n v (map_of n v ws) (map_of n v us) e ∙ sym (map-image t)
