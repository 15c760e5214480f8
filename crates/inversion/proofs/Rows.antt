-- Maps of given coefficients and no constant: they are origin-fixing, and the coefficients are read
-- back from the words. So different coefficients give different words.
use Rattle.std.proofs.Common.{◌≡◌, sym, ap, ◌∙◌, subst, List, [], ◌∷◌, append-nil, ℕ, zero, suc, ◌+◌, ◌-◌, ◌*◌, ◌≤◌, ◌<◌, zero-le, arith, length, get_or, take, drop, ext_get_or}
use mathlib.Core.List.{Memᴰ}
use Rattle.std.proofs.Math.Decide.{dec_lt}
use Rattle.std.proofs.Math.ListN.{get_or-eq_default}
use Rattle.algebra.specs.Agreement.{FromOrder}
use Rattle.algebra.proofs.Modulo.{mod-cong}
use Rattle.algebra.proofs.Origin.{from-origin}
use Rattle.linear.specs.Matrix.{range}
use Rattle.monomial.specs.Enumeration.{upto}
use Rattle.monomial.specs.Count.{count}
use Rattle.series.specs.Image.{entries, coefficient_at, polynomial, component, packed, image_of}
use Rattle.series.specs.Series.{Ascending, IsSeries}
use Rattle.series.proofs.Entries.{ascending_few}
use Rattle.series.proofs.Packed.{packed-ascending, coefficient_at-packed}
use Rattle.series.proofs.Series.{length-image_of, entries-image_of, image_of-series}
use Rattle.series.proofs.Positions.{count-positive, coefficient_of-first}
use Rattle.series.proofs.Reading.{coefficient_of-polynomial}
use Rattle.series.proofs.Parts.{length-parts, part_at}
use Rattle.series.proofs.Maps.{map_of-inside}
use Rattle.inversion.specs.Undoing.{FixingWords}
use Rattle.inversion.specs.Inverse.{lists, series_with, map_with}
use Rattle.inversion.proofs.Words.{map_of-origin}
use Rattle.inversion.proofs.Lists.{of_lists, of_range}

-- every choice of the coefficients of a map: v rows, the coefficients at positions 2, 3, ..
abbrev pub all_rows : ℕ → ℕ → ℕ → List (List (List ℕ))
all_rows p n v = lists v (lists (count n v - 1) (range 0 p))

module _ (p n v : ℕ) (pos : 0 < p) (small : p ≤ 65536) where
  abbrev N : ℕ
  N = count n v

  -- ---- a series of given coefficients and no constant

  module _ (cs : List ℕ) (low : (k : ℕ) → get_or cs k 0 < p) where
    abbrev given : ℕ → ℕ
    given q = get_or (0 ∷ cs) (q - 1) 0

    reduced : (q : ℕ) → 0 < q → q ≤ N → given q < p
    reduced q l h = go (q - 1)
      where
        go : (k : ℕ) → get_or (0 ∷ cs) k 0 < p
        go zero = pos
        go (suc k) = low k

    ascending : Ascending p N 0 (packed given N)
    ascending = packed-ascending p small given N reduced

    with_length : length (series_with N (0 ∷ cs)) ≡ N + 1
    unfolding series_with
    with_length =
        length-image_of N (packed given N) (omega (arith, ascending_few ascending zero-le))

    with_series : IsSeries p N (series_with N (0 ∷ cs))
    unfolding series_with
    with_series =
        subst (IsSeries p N) (append-nil (image_of N (packed given N)))
        (image_of-series p N ascending [])

    with_coefficient : (q : ℕ) → 0 < q → q ≤ N
        → coefficient_at (entries (series_with N (0 ∷ cs))) q ≡ given q
    unfolding series_with
    with_coefficient q l h =
        let es = packed given N in
        ap (λ (x : List ℕ). coefficient_at (entries x) q) (sym (append-nil (image_of N es)))
        ∙ ap (λ (x : List ℕ). coefficient_at x q) (entries-image_of N es [])
        ∙ coefficient_at-packed p small given N reduced q l h

    with_from : FromOrder p 1 (polynomial n v (series_with N (0 ∷ cs)))
    with_from =
        let P = polynomial n v (series_with N (0 ∷ cs)) in
        from-origin p P
        (mod-cong p
        (sym (coefficient_of-first n v P)
        ∙ coefficient_of-polynomial n v with_series 1 (omega arith) (count-positive n v)
        ∙ with_coefficient 1 (omega arith) (count-positive n v)))

  -- ---- a map of given coefficients

  module _ (rows : List (List ℕ)) (low : (i k : ℕ) → get_or (get_or rows i []) k 0 < p) where
    abbrev part : ℕ → List ℕ
    part i = series_with N (0 ∷ get_or rows i [])

    part_length : (i : ℕ) → length (part i) ≡ N + 1
    part_length i = with_length (get_or rows i []) (low i)

    component-with : (i : ℕ) → i < v → component n v i (map_with n v rows) ≡ part i
    unfolding component map_with
    component-with i l =
        ap (λ (x : List ℕ). take (N + 1) (drop (i * (N + 1)) x)) (sym (append-nil (upto part v)))
        ∙ part_at part (N + 1) part_length v i l []

    pub with_fixing : FixingWords p n v (map_with n v rows)
    with_fixing = record {
      whole = unfold map_with in length-parts part (N + 1) part_length v;
      is_map = record {
        each = λ i l. rw (component-with i l) (with_series (get_or rows i []) (low i));
      };
      origin =
          map_of-origin p n v (map_with n v rows)
          (λ i l.
          rw (map_of-inside n v (map_with n v rows) i l, component-with i l)
          (with_from (get_or rows i []) (low i)));
    }

  -- the coefficients of a row are residues, and there are none behind it
  row_low : (cs : List ℕ) → Memᴰ cs (lists (N - 1) (range 0 p))
      → (k : ℕ) → get_or cs k 0 < p
  row_low cs u k = go (of_lists 0 (N - 1) (range 0 p) cs u) (dec_lt k (N - 1))
    where
      go : (length cs ≡ N - 1) × ((i : ℕ) → i < N - 1 → Memᴰ (get_or cs i 0) (range 0 p))
          → Dec (k < N - 1) → get_or cs k 0 < p
      go r (yes l) = omega (arith, of_range 0 p (get_or cs k 0) (r.1 k l))
      go r (no l) = omega (arith, get_or-eq_default cs 0 {n = k} (omega arith))

  module _ (rows : List (List ℕ)) (m : Memᴰ rows (all_rows p n v)) where
    listed : (length rows ≡ v)
        × ((j : ℕ) → j < v → Memᴰ (get_or rows j []) (lists (N - 1) (range 0 p)))
    listed = of_lists [] v (lists (N - 1) (range 0 p)) rows m

    pub rows-low : (i k : ℕ) → get_or (get_or rows i []) k 0 < p
    rows-low i k = go (dec_lt i v)
      where
        go : Dec (i < v) → get_or (get_or rows i []) k 0 < p
        go (yes l) = row_low (get_or rows i []) (listed.1 i l) k
        go (no l) = rw (get_or-eq_default rows [] {n = i} (omega (arith, listed.0))) pos

    row-length : (i : ℕ) → i < v → length (get_or rows i []) ≡ N - 1
    row-length i l = (of_lists 0 (N - 1) (range 0 p) (get_or rows i []) (listed.1 i l)).0

    -- a coefficient read back
    row-coefficient : (i k : ℕ) → i < v → k < N - 1
        → coefficient_at (entries (component n v i (map_with n v rows))) (suc (suc k))
        ≡ get_or (get_or rows i []) k 0
    row-coefficient i k l h =
        let cs = get_or rows i [] in
        let e : suc (suc k) - 1 ≡ suc k = omega arith in
        ap (λ (x : List ℕ). coefficient_at (entries x) (suc (suc k)))
        (component-with rows rows-low i l)
        ∙ with_coefficient cs (rows-low i) (suc (suc k)) (omega arith) (omega arith)
        ∙ ap (λ (j : ℕ). get_or (0 ∷ cs) j 0) e

  pub map_with-injective : (rows others : List (List ℕ)) → Memᴰ rows (all_rows p n v)
      → Memᴰ others (all_rows p n v) → map_with n v rows ≡ map_with n v others → rows ≡ others
  map_with-injective rows others a b e =
      ext_get_or [] rows others ((listed rows a).0 ∙ sym (listed others b).0)
      (λ i l.
      let li : i < v = omega (arith, (listed rows a).0) in
      ext_get_or 0 (get_or rows i []) (get_or others i [])
      (row-length rows a i li ∙ sym (row-length others b i li))
      (λ k h.
      let hk : k < N - 1 = omega (arith, row-length rows a i li) in
      sym (row-coefficient rows a i k li hk)
      ∙ ap (λ (x : List ℕ). coefficient_at (entries (component n v i x)) (suc (suc k))) e
      ∙ row-coefficient others b i k li hk))
