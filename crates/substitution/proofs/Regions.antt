-- A region of the work slice that holds a product up to an order, and sums kept as residues by
-- position. What the steps of a walk leave is said of the polynomials that the words stand for: a
-- multiple of a product is added to the sums, and the sums are packed into an image.
use Rattle.std.proofs.Common.{ℕ, suc, ◌+◌, ◌*◌, ◌-◌, ◌%◌, ◌≤◌, ◌<◌, ◌≡◌, refl, sym, ap, ap₂, ◌∙◌, List, [], ◌∷◌, ◌++◌, map, add-zero, mod-lt, mod-eq_of_lt, mul-zero, arith, leb, leb→le, le→leb, eqb, eqb→eq, eq-eqb, length, get_or, take, drop, take-add, drop-drop, get_or-drop}
use Rattle.std.proofs.Math.Nat.{mod-mod, zero-mod}
use Rattle.std.proofs.Math.Decide.{ℕ_discrete, dec_le}
use Rattle.algebra.specs.Polynomial.{Monomial, Polynomial, order, trim, same, indicator}
use Rattle.algebra.specs.Polynomial.{coefficient_of, constant, add, scale}
use Rattle.algebra.specs.Agreement.{Agree, Within}
use Rattle.algebra.proofs.Booleans.{indicator-yes, indicator-no}
use Rattle.algebra.proofs.Trim.{trim_to_same, trim-order_zero, same-order, same_refl}
use Rattle.algebra.proofs.Modulo.{mod-cong, mod-+, mod-*}
use Rattle.algebra.proofs.Weigh.{weigh-constant, coefficient-add, coefficient-scale}
use Rattle.algebra.proofs.Weigh.{coefficient-nil}
use Rattle.algebra.proofs.Agreement.{agree_trans, agree_down}
use Rattle.algebra.proofs.Coefficients.{agree_to_same}
use Rattle.monomial.specs.Count.{count}
use Rattle.series.specs.Image.{position, coefficient, entries, coefficient_at, monomial_at, term_of}
use Rattle.series.specs.Image.{packed, image_of}
use Rattle.series.proofs.Entries.{coefficient_at-append}
use Rattle.series.proofs.Packed.{packed-cong}
use Rattle.product.specs.Pairs.{order_of}
use Rattle.product.specs.Multiply.{image_to}
use Rattle.product.specs.Regions.{Placed, source_entries}
use Rattle.product.proofs.PairSums.{weigh-entries, sum-placed}
use Rattle.substitution.specs.Levels.{Cut, Level, Holds}
use Rattle.substitution.specs.Accumulate.{entries_from, AddScaledIn, AddedScaled}
use Rattle.series.proofs.Positions.{order-first, length-monomial_at, monomial_at-once}
use Rattle.series.proofs.Positions.{agree_by_positions}
use Rattle.substitution.proofs.Marking.{order-positive}
use Rattle.product.proofs.Ordered.{placed_from}
use Rattle.product.proofs.Sources.{length-source, source_at}
use Rattle.substitution.specs.Walk.{low_terms}
use Rattle.substitution.proofs.Truncated.{low_terms-within, low_terms-agree}
use Rattle.substitution.proofs.Levels.{cut_coefficient}
use Rattle.substitution.proofs.Searching.{coefficient_at-none}

-- ---- coefficients up to an order

cut_agree : (p cut : ℕ) {A B : Polynomial} → Agree p (suc cut) A B → (m : Monomial)
    → coefficient_of m A * indicator (leb (order m) cut) % p
    ≡ coefficient_of m B * indicator (leb (order m) cut) % p
cut_agree p cut {A} {B} a m = go (dec_le (order m) cut)
  where
    go : Dec (order m ≤ cut)
        → coefficient_of m A * indicator (leb (order m) cut) % p
        ≡ coefficient_of m B * indicator (leb (order m) cut) % p
    go (yes l) = mod-* p _ _ _ _ ((agree_to_same p cut a).at_low m l) refl
    go (no l) =
        let z : indicator (leb (order m) cut) ≡ 0 =
        indicator-no (leb (order m) cut) (λ t. l (leb→le (order m) cut t)) in
        mod-cong p
        (ap (λ (x : ℕ). coefficient_of m A * x) z
        ∙ omega arith
        ∙ sym (ap (λ (x : ℕ). coefficient_of m B * x) z))

-- ---- entries in any order of positions

module _ (n v : ℕ) where
  -- the coefficient at a position is the sum of what the entries there have
  pub coefficient_of-placed : (es : List ℕ) → Placed (count n v) es → (q : ℕ) → 1 ≤ q → q ≤ count n v
      → coefficient_of (monomial_at n v q) (map (term_of n v) es) ≡ coefficient_at es q
  unfolding coefficient_of coefficient_at
  coefficient_of-placed es placed q l h =
      let m = monomial_at n v q in
      weigh-entries n v es (λ d. indicator (same m d))
      ∙ sum-placed (count n v) es _ _ placed
      (λ w a b. ap (λ (x : ℕ). coefficient w * x) (here w a b (ℕ_discrete (position w) q)))
    where
      here : (w : ℕ) → 1 ≤ position w → position w ≤ count n v → Dec (position w ≡ q)
          → indicator (same (monomial_at n v q) (monomial_at n v (position w)))
          ≡ indicator (eqb (position w) q)
      here w a b (yes e) =
          indicator-yes (same (monomial_at n v q) (monomial_at n v (position w)))
          (rw e (same_refl (monomial_at n v q)))
          ∙ sym (indicator-yes (eqb (position w) q) (rw (eq-eqb (position w) q e) tt))
      here w a b (no e) =
          indicator-no (same (monomial_at n v q) (monomial_at n v (position w)))
          (λ t. e (sym (monomial_at-once n v q (position w) l h a b t)))
          ∙ sym (indicator-no (eqb (position w) q) (λ t. e (eqb→eq (position w) q t)))

  pub placed_within : (es : List ℕ) → Placed (count n v) es → Within v (map (term_of n v) es)
  unfolding term_of
  placed_within [] placed = tt
  placed_within (w ∷ es) placed = (
    omega (arith, length-monomial_at n v (position w) placed.0.0 placed.0.1),
    placed_within es placed.1,
  )

-- ---- a region that holds the terms of P up to an order

-- the entries of the series that stands at a word of a slice
entries-source : (ws : List ℕ) (at : ℕ)
    → entries (drop at ws) ≡ source_entries ws at (get_or ws at 0)
unfolding entries source_entries
entries-source ws at =
    ap₂ take (get_or-drop at ws 0 0 ∙ ap (λ (z : ℕ). get_or ws z 0) (add-zero at)) (drop-drop 1 at ws)

module _ {p n v N lo cut : ℕ} (c : Cut p n v N cut) {w : List ℕ} {at : ℕ} {P : Polynomial}
    (i : Level p n v N lo cut w at P) where
  abbrev es : List ℕ
  es = source_entries w at (get_or w at 0)

  inside : at + 1 + get_or w at 0 ≤ length w
  inside = omega (arith, i.inside, i.few)

  placed : Placed (count n v) (source_entries w at (get_or w at 0))
  placed =
      placed_from (count n v) es
      (λ j h.
      let m = get_or w at 0 in
      let l : j < m = omega (arith, length-source w at m inside) in
      rw (source_at w at m inside j l) (i.low j l, omega (arith, i.high j l, c.N_is)))

  pub level_within : Within v (map (term_of n v) (source_entries w at (get_or w at 0)))
  level_within = placed_within n v es placed

  -- the polynomial that it reads to
  pub level_reads : Within v P
      → Agree p (suc cut) (map (term_of n v) (source_entries w at (get_or w at 0))) P
  level_reads within =
      agree_trans p
      (agree_down p (omega (arith, c.cut_low))
      (agree_by_positions n v p (map (term_of n v) es) (low_terms cut P) level_within
      (low_terms-within cut v P within)
      (λ q l h.
      let m = monomial_at n v q in
      mod-cong p
      (coefficient_of-placed n v es placed q l h
      ∙ ap (λ (x : List ℕ). coefficient_at x q) (sym (entries-source w at))
      ∙ i.coefficient q l (omega (arith, c.N_is)))
      ∙ mod-mod (coefficient_of m P * indicator (leb (order m) cut)) p
      ∙ mod-cong p (cut_coefficient cut P m))))
      (low_terms-agree cut p P)

-- polynomials that agree up to the order may take each other's place
pub level_agree : {p n v N lo cut : ℕ} {w : List ℕ} {at : ℕ} {P Q : Polynomial}
    → Agree p (suc cut) P Q → Level p n v N lo cut w at P → Level p n v N lo cut w at Q
level_agree {p} {n} {v} {N} {lo} {cut} {w} {at} {P} {Q} a i = record {
  inside = i.inside;
  few = i.few;
  low = i.low;
  high = i.high;
  least = i.least;
  order = i.order;
  coefficient = λ q l h. i.coefficient q l h ∙ cut_agree p cut a (monomial_at n v q);
}

-- ---- sums by position

-- entries of lower orders give a position nothing
entries-wanted : (n v : ℕ) (w : List ℕ) (at first : ℕ) → at + 1 + get_or w at 0 ≤ length w
    → first ≤ get_or w at 0 → (wanted : ℕ)
    → ((i : ℕ) → i < first → order_of n v (get_or w (at + 1 + i) 0) < wanted)
    → (q : ℕ) → wanted ≤ order (monomial_at n v q)
    → coefficient_at (entries_from w at first) q ≡ coefficient_at (entries (drop at w)) q
unfolding order_of
entries-wanted n v w at first inside few wanted early q o =
    sym
    (ap (λ (es : List ℕ). coefficient_at es q) (entries-source w at ∙ parted)
    ∙ coefficient_at-append (source_entries w at first) (entries_from w at first) q
    ∙ omega (arith, none))
  where
    parted : source_entries w at (get_or w at 0)
        ≡ source_entries w at first ++ source_entries w (at + first) (get_or w at 0 - first)
    parted = unfold source_entries in
        let m = get_or w at 0 in
        let e : first + (m - first) ≡ m = omega arith in
        let a : at + 1 + first ≡ at + first + 1 = omega arith in
        ap (λ (x : ℕ). take x (drop (at + 1) w)) (sym e)
        ∙ take-add first (m - first) (drop (at + 1) w)
        ∙ ap (λ (x : List ℕ). take first (drop (at + 1) w) ++ take (m - first) x)
        (drop-drop first (at + 1) w ∙ ap (λ (x : ℕ). drop x w) a)

    none : coefficient_at (source_entries w at first) q ≡ 0
    none =
        coefficient_at-none (source_entries w at first) q
        (λ i l e.
        let k : i < first = omega (arith, length-source w at first (omega arith)) in
        omega (
          arith,
          early i k,
          ap (λ (x : ℕ). order (monomial_at n v (position x)))
              (source_at w at first (omega arith) i k),
          ap (λ (x : ℕ). order (monomial_at n v x)) e,
        ))

module _ {p n v N wanted cut : ℕ} (c : Cut p n v N cut) where
  pub holds-zero : (res : List ℕ) → length res ≡ N + 1
      → ((q : ℕ) → 1 ≤ q → q ≤ N → get_or res q 0 ≡ 0) → Holds p n v N wanted cut res []
  holds-zero res e z = record {
    size = e;
    small = λ q l h. omega (arith, z q l h, c.modulus_low);
    residue = λ q l h o.
        z q l h
        ∙ sym
        (mod-cong p
        (ap (λ (x : ℕ). x * indicator (leb (order (monomial_at n v q)) cut))
        (coefficient-nil (monomial_at n v q))
        ∙ omega arith)
        ∙ zero-mod p);
  }

  -- the constant k alone
  pub holds-constant : (k : ℕ) → k < p → (res : List ℕ) → length res ≡ N + 1 → get_or res 1 0 ≡ k
      → ((q : ℕ) → 2 ≤ q → q ≤ N → get_or res q 0 ≡ 0) → Holds p n v N wanted cut res (constant k)
  holds-constant k l res e one z = record {
    size = e;
    small = λ q a h. below q a h (ℕ_discrete q 1);
    residue = λ q a h o. at q a h (ℕ_discrete q 1);
  }
    where
      below : (q : ℕ) → 1 ≤ q → q ≤ N → Dec (q ≡ 1) → get_or res q 0 < p
      below q a h (yes j) = omega (arith, ap (λ (i : ℕ). get_or res i 0) j, one)
      below q a h (no j) = omega (arith, z q (omega arith) h)

      empty : order [] ≡ 0
      empty = unfold order in refl

      origin : (m : Monomial) → order m ≡ 0 → trim m ≡ trim []
      origin m o =
          trim-order_zero m (omega arith) ∙ sym (trim-order_zero [] (omega (arith, empty)))

      coefficient-is : (m : Monomial) → coefficient_of m (constant k) ≡ k * indicator (same m [])
      coefficient-is m = unfold coefficient_of in weigh-constant k (λ d. indicator (same m d))

      at : (q : ℕ) → 1 ≤ q → q ≤ N → Dec (q ≡ 1)
          → get_or res q 0
          ≡ coefficient_of (monomial_at n v q) (constant k)
          * indicator (leb (order (monomial_at n v q)) cut)
          % p
      at q a h (yes j) =
          let m = monomial_at n v q in
          let o : order m ≡ 0 = ap (λ (i : ℕ). order (monomial_at n v i)) j ∙ order-first n v in
          let t = indicator-yes (same m []) (trim_to_same m [] (origin m o)) in
          let u : k * 1 * 1 ≡ k = omega arith in
          ap (λ (i : ℕ). get_or res i 0) j
          ∙ one
          ∙ sym
          (ap₂ (λ (x y : ℕ). x * y % p)
          (coefficient-is m ∙ ap (λ (x : ℕ). k * x) t)
          (indicator-yes (leb (order m) cut) (le→leb (order m) cut (omega arith)))
          ∙ mod-cong p u
          ∙ mod-eq_of_lt l)
      at q a h (no j) =
          let m = monomial_at n v q in
          let o = order-positive n v N c.N_is q (omega arith) h in
          let f : indicator (same m []) ≡ 0 =
          indicator-no (same m []) (λ t. omega (arith, same-order m [] t, empty)) in
          z q (omega arith) h
          ∙ sym
          (mod-cong p
          (ap (λ (x : ℕ). x * indicator (leb (order m) cut))
          (coefficient-is m ∙ ap (λ (x : ℕ). k * x) f ∙ mul-zero k)
          ∙ omega arith)
          ∙ zero-mod p)

  module _ {res : List ℕ} {A : Polynomial} (H : Holds p n v N wanted cut res A) where
    -- the coefficient of A at position q, cut
    abbrev cut_at : ℕ → ℕ
    cut_at q =
        coefficient_of (monomial_at n v q) A * indicator (leb (order (monomial_at n v q)) cut)

    -- where all orders are wanted
    pub holds-packed : wanted ≡ 0 → image_of N (packed (λ q. get_or res q 0) N) ≡ image_to p n v cut A
    unfolding image_to
    holds-packed all =
        ap (image_of N)
        (packed-cong (λ q. get_or res q 0) (λ q. cut_at q % p) N
        (λ q l h. H.residue q l h (omega arith)))
        ∙ ap (λ (k : ℕ). image_of k (packed (λ q. cut_at q % p) k)) c.N_is

    pub holds_agree : {B : Polynomial} → Agree p (suc cut) A B → Holds p n v N wanted cut res B
    holds_agree {B} a = record {
      size = H.size;
      small = H.small;
      residue = λ q l h o. H.residue q l h o ∙ cut_agree p cut a (monomial_at n v q);
    }

    -- what adding a multiple of a region asks
    pub holds-asks : {lo : ℕ} {w : List ℕ} {at : ℕ} {P : Polynomial} → Level p n v N lo cut w at P
        → (first : ℕ) → first ≤ get_or w at 0 → (k : ℕ) → k < p → AddScaledIn res w at first k p
    holds-asks {lo} {w} {at} i first few k l = record {
      inside = omega (arith, i.inside, i.few);
      few = few;
      low = i.low;
      high = λ j h. omega (arith, i.high j h, H.size);
      residues = λ q a h. H.small q a (omega (arith, H.size));
      factor = l;
      modulus_high = c.modulus_high;
    }

    -- a multiple of a region is added; of its entries those before number `first` are not wanted
    pub holds-added : {lo : ℕ} {w : List ℕ} {at : ℕ} {P : Polynomial} → Level p n v N lo cut w at P
        → (first : ℕ) → first ≤ get_or w at 0
        → ((i : ℕ) → i < first → order_of n v (get_or w (at + 1 + i) 0) < wanted)
        → (k : ℕ) (res' : List ℕ) → AddedScaled res w at first k p res'
        → Holds p n v N wanted cut res' (add A (scale k P))
    holds-added {lo} {w} {at} {P} i first few early k res' d = record {
      size = d.size ∙ H.size;
      small = λ q l h.
          rw (d.sum q l (omega (arith, H.size)))
          (mod-lt (get_or res q 0 + k * coefficient_at (entries_from w at first) q) c.modulus_low);
      residue = λ q l h o.
          let m = monomial_at n v q in
          let b = indicator (leb (order m) cut) in
          let x = coefficient_at (entries (drop at w)) q in
          d.sum q l (omega (arith, H.size))
          ∙ ap (λ (z : ℕ). (get_or res q 0 + k * z) % p)
          (entries-wanted n v w at first (omega (arith, i.inside, i.few)) few wanted early q o)
          ∙ mod-+ p (get_or res q 0) (coefficient_of m A * b) (k * x) (k * (coefficient_of m P * b))
          (mod-cong p (H.residue q l h o) ∙ mod-mod (coefficient_of m A * b) p)
          (mod-* p k k x (coefficient_of m P * b) refl
          (mod-cong p (i.coefficient q l h) ∙ mod-mod (coefficient_of m P * b) p))
          ∙ mod-cong p
          (spread (coefficient_of m A) k (coefficient_of m P) b
          ∙ ap (λ (x : ℕ). x * b)
          (sym
          (coefficient-add m A (scale k P)
          ∙ ap (λ (x : ℕ). coefficient_of m A + x) (coefficient-scale m k P))));
    }
      where
        spread : (a k x b : ℕ) → a * b + k * (x * b) ≡ (a + k * x) * b
        spread a k x b = omega arith
