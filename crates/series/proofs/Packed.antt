-- Packing coefficients into entries, position by position, and finding them again. Entries in their
-- proper form are what packing makes of the coefficients that they give: there is one list for each
-- choice of coefficients.
use Rattle.std.proofs.Common.{◌≡◌, refl, sym, ap, ap₂, ◌∙◌, List, [], ◌∷◌, ◌++◌, append-nil, ℕ, zero, suc, ◌+◌, ◌≤◌, ◌<◌, arith, ltb, ltb→lt, lt→ltb}
use Rattle.std.proofs.Math.Decide.{dec_lt, dec_le}
use Rattle.monomial.specs.Enumeration.{upto}
use Rattle.monomial.proofs.Upto.{upto-suc, only-true, only-false}
use Rattle.series.specs.Image.{entry, coefficient_at, entry_of, packed}
use Rattle.series.specs.Series.{Entry, Ascending, none}
use Rattle.series.proofs.Entries.{coefficient_at-nil, coefficient_at-append, coefficient_at-here, coefficient_at-there, coefficient_at-below, coefficient_at-above, coefficient_at-reduced, ascending_wider, ascending_snoc, ascending_unique}

-- ---- position by position

pub entry_of-zero : (q c : ℕ) → c ≡ 0 → entry_of q c ≡ []
unfolding entry_of
entry_of-zero q c e = only-false (ltb 0 c) (entry q c ∷ []) (λ t. omega (arith, ltb→lt 0 c t))

pub entry_of-nonzero : (q c : ℕ) → 0 < c → entry_of q c ≡ entry q c ∷ []
unfolding entry_of
entry_of-nonzero q c l = only-true (ltb 0 c) (entry q c ∷ []) (lt→ltb 0 c l)

module _ (f : ℕ → ℕ) where
  pub packed_zero : packed f 0 ≡ []
  unfolding packed upto
  packed_zero = refl

  pub packed-suc : (m : ℕ) → packed f (suc m) ≡ packed f m ++ entry_of (suc m) (f (suc m))
  unfolding packed
  packed-suc m = upto-suc (λ i. entry_of (suc i) (f (suc i))) m

  -- a position without a coefficient adds nothing
  pub packed-without : (m : ℕ) → f (suc m) ≡ 0 → packed f (suc m) ≡ packed f m
  packed-without m e =
      packed-suc m
      ∙ ap (λ (x : List ℕ). packed f m ++ x) (entry_of-zero (suc m) (f (suc m)) e)
      ∙ append-nil (packed f m)

  -- a position with a coefficient adds one entry
  pub packed-with : (m : ℕ) → 0 < f (suc m)
      → packed f (suc m) ≡ packed f m ++ (entry (suc m) (f (suc m)) ∷ [])
  packed-with m l =
      packed-suc m ∙ ap (λ (x : List ℕ). packed f m ++ x) (entry_of-nonzero (suc m) (f (suc m)) l)

  -- positions without coefficients may be passed over
  pub packed-skip : (a b : ℕ) → a ≤ b → ((q : ℕ) → a < q → q ≤ b → f q ≡ 0)
      → packed f b ≡ packed f a
  packed-skip a zero l z = ap (packed f) (omega arith)
  packed-skip a (suc b) l z =
      go (dec_lt a (suc b)) (λ k. packed-skip a b k (λ q i j. z q i (omega arith)))
    where
      go : Dec (a < suc b) → (a ≤ b → packed f b ≡ packed f a) → packed f (suc b) ≡ packed f a
      go (yes k) ih = packed-without b (z (suc b) k (omega arith)) ∙ ih (omega arith)
      go (no k) ih = ap (packed f) (omega arith)

-- f and g are compared at the positions 1 to m alone
pub packed-cong : (f g : ℕ → ℕ) (m : ℕ) → ((q : ℕ) → 0 < q → q ≤ m → f q ≡ g q)
    → packed f m ≡ packed g m
packed-cong f g zero e = packed_zero f ∙ sym (packed_zero g)
packed-cong f g (suc m) e =
    packed-suc f m
    ∙ ap₂ (λ (x : List ℕ) (c : ℕ). x ++ entry_of (suc m) c)
    (packed-cong f g m (λ q l k. e q l (omega arith)))
    (e (suc m) (omega arith) (omega arith))
    ∙ sym (packed-suc g m)

-- ---- what is packed is found again

pub entry_of-own : (q c : ℕ) → c < 65536 → coefficient_at (entry_of q c) q ≡ c
entry_of-own q c l = go (dec_lt 0 c)
  where
    go : Dec (0 < c) → coefficient_at (entry_of q c) q ≡ c
    go (yes z) =
        ap (λ (x : List ℕ). coefficient_at x q) (entry_of-nonzero q c z)
        ∙ coefficient_at-here (entry q c) [] q (omega arith)
        ∙ omega (arith, coefficient_at-nil q)
    go (no z) =
        ap (λ (x : List ℕ). coefficient_at x q) (entry_of-zero q c (omega arith))
        ∙ coefficient_at-nil q
        ∙ omega arith

pub entry_of-other : (q c j : ℕ) → c < 65536 → (j ≡ q → ⊥) → coefficient_at (entry_of q c) j ≡ 0
entry_of-other q c j l ne = go (dec_lt 0 c)
  where
    go : Dec (0 < c) → coefficient_at (entry_of q c) j ≡ 0
    go (yes z) =
        ap (λ (x : List ℕ). coefficient_at x j) (entry_of-nonzero q c z)
        ∙ coefficient_at-there (entry q c) [] j (λ k. ne (omega arith))
        ∙ coefficient_at-nil j
    go (no z) =
        ap (λ (x : List ℕ). coefficient_at x j) (entry_of-zero q c (omega arith))
        ∙ coefficient_at-nil j

module _ (p : ℕ) (small : p ≤ 65536) where
  module _ (f : ℕ → ℕ) where
    pub packed-ascending : (m : ℕ) → ((q : ℕ) → 0 < q → q ≤ m → f q < p)
        → Ascending p m 0 (packed f m)
    packed-ascending zero l = rw (packed_zero f) none
    packed-ascending (suc m) l =
        go (dec_lt 0 (f (suc m))) (packed-ascending m (λ q i j. l q i (omega arith)))
      where
        last : ℕ
        last = f (suc m)

        go : Dec (0 < last) → Ascending p m 0 (packed f m)
            → Ascending p (suc m) 0 (packed f (suc m))
        go (yes k) r =
            let c : last < p = l (suc m) (omega arith) (omega arith) in
            let x : Entry p (suc m) m (entry (suc m) last) = omega arith in
            rw (packed-with f m k) (ascending_snoc r (omega arith) (omega arith) x)
        go (no k) r = rw (packed-without f m (omega arith)) (ascending_wider (omega arith) r)

    pub coefficient_at-packed : (m : ℕ) → ((q : ℕ) → 0 < q → q ≤ m → f q < p)
        → (q : ℕ) → 0 < q → q ≤ m → coefficient_at (packed f m) q ≡ f q
    coefficient_at-packed zero l q i j = absurd (omega arith)
    coefficient_at-packed (suc m) l q i j =
        ap (λ (x : List ℕ). coefficient_at x q) (packed-suc f m)
        ∙ coefficient_at-append (packed f m) (entry_of (suc m) (f (suc m))) q
        ∙ go (dec_le q m) (coefficient_at-packed m below q i)
      where
        below : (r : ℕ) → 0 < r → r ≤ m → f r < p
        below r a b = l r a (omega arith)

        c : ℕ
        c = f (suc m)

        bound : c < p
        bound = l (suc m) (omega arith) (omega arith)

        go : Dec (q ≤ m) → (q ≤ m → coefficient_at (packed f m) q ≡ f q)
            → coefficient_at (packed f m) q + coefficient_at (entry_of (suc m) c) q ≡ f q
        go (yes k) ih =
            omega (arith, ih k, entry_of-other (suc m) c q (omega (arith, bound)) (λ e. omega arith))
        go (no k) ih =
            let e : q ≡ suc m = omega arith in
            let z = coefficient_at-above (packed-ascending m below) q (omega arith) in
            omega (
              arith,
              ap (coefficient_at (entry_of (suc m) c)) e,
              entry_of-own (suc m) c (omega (arith, bound)),
              ap f e,
            )

-- entries in their proper form are packed from the coefficients that they give
pub packed-canonical : (p N : ℕ) → 0 < p → p ≤ 65536 → {es : List ℕ} → Ascending p N 0 es
    → packed (coefficient_at es) N ≡ es
packed-canonical p N pos small {es} a =
    ascending_unique made a (λ q. at q (dec_lt 0 q) (dec_le q N))
  where
    f : ℕ → ℕ
    f = coefficient_at es

    reduced : (q : ℕ) → 0 < q → q ≤ N → f q < p
    reduced q i j = coefficient_at-reduced pos a q

    made : Ascending p N 0 (packed f N)
    made = packed-ascending p small f N reduced

    at : (q : ℕ) → Dec (0 < q) → Dec (q ≤ N) → coefficient_at (packed f N) q ≡ f q
    at q (yes i) (yes j) = coefficient_at-packed p small f N reduced q i j
    at q (yes i) (no j) =
        coefficient_at-above made q (omega arith) ∙ sym (coefficient_at-above a q (omega arith))
    at q (no i) j =
        coefficient_at-below made q (omega arith) ∙ sym (coefficient_at-below a q (omega arith))
