-- `fixing_maps` has just the origin-fixing maps of the setting, each once: a map without constants
-- is made of its coefficients at positions 2 to N.
use Rattle.std.proofs.Common.{◌≡◌, refl, sym, ap, ◌∙◌, ◌↔◌, List, [], ◌∷◌, ℕ, zero, suc, ◌+◌, ◌-◌, ◌*◌, ◌≤◌, ◌<◌, zero-le, mod-eq_of_lt, mul-one, arith, length, get_or, take, drop, take_all, take-take}
use mathlib.Core.List.Memᴰ
use mathlib.Core.List.{Memᴰ}
use Rattle.std.proofs.Math.Nat.{zero-mod}
use Rattle.algebra.specs.Distinct.{Distinct}
use Rattle.algebra.proofs.Modulo.{mod-cong}
use Rattle.algebra.proofs.Origin.{origin_from}
use Rattle.linear.specs.Matrix.{range}
use Rattle.monomial.specs.Enumeration.{upto, tabulate}
use Rattle.monomial.specs.Count.{count}
use Rattle.monomial.proofs.Upto.{upto-at, length-tabulate, get_d_tabulate}
use Rattle.answer.specs.Refusals.{passed}
use Rattle.series.specs.Arguments.{map_check, constant_check}
use Rattle.series.specs.Image.{entries, coefficient_at, polynomial, component, image_of}
use Rattle.series.proofs.Entries.{coefficient_at-reduced}
use Rattle.series.proofs.Packed.{packed-cong, packed-canonical}
use Rattle.series.proofs.Positions.{count-positive, coefficient_of-first}
use Rattle.series.proofs.Reading.{coefficient_of-polynomial}
use Rattle.series.proofs.Parts.{upto-cong, length-parts, take-parts}
use Rattle.series.proofs.Maps.{map_of-inside, map_to_passed, passed_to_map}
use Rattle.series.proofs.Constants.{passed_to_fixing, fixing_to_passed}
use Rattle.inversion.specs.Undoing.{FixingWords}
use Rattle.inversion.specs.Inverse.{lists, series_with, map_with, fixing_maps}
use Rattle.inversion.proofs.Lists.{distinct_map, in_lists, distinct_lists, in_range}
use Rattle.inversion.proofs.Lists.{distinct_range}
use Rattle.inversion.proofs.Rows.{all_rows, with_fixing, rows-low, map_with-injective}

-- the list with one entry f i for each i below m
singles_at : {A : Type 0} (f : ℕ → A) (m i : ℕ) (d : A) → i < m
    → get_or (upto (λ j. f j ∷ []) m) i d ≡ f i
singles_at {A} f m i d l =
    let s : ℕ → List A = λ j. f j ∷ [] in
    let e : i ≡ length (upto s i) + 0 = omega (arith, length-parts s 1 (λ j. refl) i, mul-one i) in
    ap (λ (k : ℕ). get_or (upto s m) k d) e ∙ upto-at s d m i 0 l (omega arith)

module _ (p n v : ℕ) (pos : 0 < p) (small : p ≤ 65536) where
  abbrev N : ℕ
  N = count n v

  -- ---- the coefficients of a map

  module _ (ws : List ℕ) (F : FixingWords p n v ws) where
    at : ℕ → ℕ → ℕ
    at i q = coefficient_at (entries (component n v i ws)) q

    row : ℕ → List ℕ
    row i = tabulate (λ k. at i (suc (suc k))) (N - 1)

    rows : List (List ℕ)
    rows = upto (λ i. row i ∷ []) v

    row_is : (i : ℕ) → i < v → get_or rows i [] ≡ row i
    unfolding rows
    row_is i l = singles_at row v i [] l

    row_in : (i : ℕ) → i < v → Memᴰ (row i) (lists (N - 1) (range 0 p))
    unfolding row at
    row_in i l =
        in_lists 0 (N - 1) (range 0 p) (row i) (length-tabulate _ (N - 1))
        (λ k h.
        Memᴰ.cast (get_d_tabulate (λ k. at i (suc (suc k))) (N - 1) k h)
        (in_range 0 p (at i (suc (suc k))) zero-le
        (omega (arith, coefficient_at-reduced pos (F.is_map.each i l).ascending (suc (suc k))))))

    rows_in : Memᴰ rows (all_rows p n v)
    rows_in =
        in_lists [] v (lists (N - 1) (range 0 p)) rows rows-length
        (λ i l. Memᴰ.cast (row_is i l) (row_in i l))
      where
        rows-length : length rows ≡ v
        rows-length = unfold rows in length-parts (λ i. row i ∷ []) 1 (λ i. refl) v ∙ mul-one v

    -- the constant is 0
    at_first : (i : ℕ) → i < v → at i 1 ≡ 0
    unfolding at
    at_first i l =
        let s = F.is_map.each i l in
        let P = polynomial n v (component n v i ws) in
        sym (mod-eq_of_lt (coefficient_at-reduced pos s.ascending 1))
        ∙ mod-cong p
        (sym (coefficient_of-polynomial n v s 1 (omega arith) (count-positive n v))
        ∙ coefficient_of-first n v P)
        ∙ origin_from p P (rw (map_of-inside n v ws i l) at (F.origin i))
        ∙ zero-mod p

    given_is : (i : ℕ) → i < v → (q : ℕ) → 0 < q → q ≤ N → get_or (0 ∷ row i) (q - 1) 0 ≡ at i q
    unfolding row
    given_is i l zero a b = absurd (omega arith)
    given_is i l (suc zero) a b = sym (at_first i l)
    given_is i l (suc (suc k)) a b =
        let e : suc (suc k) - 1 ≡ suc k = omega arith in
        ap (λ (j : ℕ). get_or (0 ∷ row i) j 0) e
        ∙ get_d_tabulate (λ k. at i (suc (suc k))) (N - 1) k (omega arith)

    series-is : (i : ℕ) → i < v → series_with N (0 ∷ get_or rows i []) ≡ component n v i ws
    unfolding series_with component at
    series-is i l =
        let s = F.is_map.each i l in
        let c = N + 1 in
        ap (λ (cs : List ℕ). series_with N (0 ∷ cs)) (row_is i l)
        ∙ ap (image_of N)
        (packed-cong _ (at i) N (given_is i l) ∙ packed-canonical p N pos small s.ascending)
        ∙ sym s.words
        ∙ take-take c c (drop (i * c) ws) (omega arith)

    map_is : map_with n v rows ≡ ws
    unfolding map_with component
    map_is =
        let c = N + 1 in
        upto-cong (λ i. series_with N (0 ∷ get_or rows i [])) (λ i. take c (drop (i * c) ws)) v
        series-is
        ∙ sym (take-parts c v ws)
        ∙ take_all (v * c) ws (omega (arith, F.whole))

  -- ---- the list

  pub fixing_member : (ws : List ℕ) → Memᴰ ws (fixing_maps p n v) → FixingWords p n v ws
  unfolding fixing_maps
  fixing_member ws m =
      let t = Memᴰ.of_map (map_with n v) (all_rows p n v) m in
      rw (sym t.2) (with_fixing p n v pos small t.0
      (rows-low p n v pos small t.0 t.1))

  pub member-fixing : (ws : List ℕ) → FixingWords p n v ws → Memᴰ ws (fixing_maps p n v)
  unfolding fixing_maps
  member-fixing ws F =
      Memᴰ.cast (sym (map_is ws F)) (Memᴰ.map (map_with n v) (rows_in ws F))

  pub fixing_maps-distinct : Distinct (fixing_maps p n v)
  unfolding fixing_maps
  fixing_maps-distinct =
      distinct_map (map_with n v) (all_rows p n v) (map_with-injective p n v pos small)
      (distinct_lists v (lists (N - 1) (range 0 p))
      (distinct_lists (N - 1) (range 0 p) (distinct_range 0 p)))

  -- the list has just the words that pass the checks of a map and of its constants
  pub fixing_maps-checks : (ws : List ℕ)
      → Memᴰ ws (fixing_maps p n v)
      ↔ ((length ws ≡ v * (count n v + 1))
      × (map_check p n v 1 ws ≡ passed)
      × (constant_check n v ws ≡ passed))
  fixing_maps-checks ws = (
    (λ m.
        let F = fixing_member ws m in (
          F.whole,
          map_to_passed p n v 1 ws F.is_map,
          fixing_to_passed F.is_map pos (λ i l. F.origin i),
        )),
    (λ c.
        let s = passed_to_map p n v 1 ws c.1 in
        member-fixing ws
        (record { whole = c.0; is_map = s; origin = passed_to_fixing s c.2 })),
  )
