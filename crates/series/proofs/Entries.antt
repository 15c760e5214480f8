-- Entries in their proper form: each position above the one before and at most N, each coefficient
-- 1 to p - 1. Two such lists that give every position the same coefficient are the same list: at
-- the first place where they differ, one gives a coefficient that the other does not.
use Rattle.std.proofs.Common.{◌≡◌, refl, sym, ap, ap₂, ◌∙◌, List, [], ◌∷◌, ◌++◌, ℕ, zero, suc, ◌+◌, ◌*◌, ◌≤◌, ◌<◌, arith, eqb, eqb→eq, length, get_or, drop}
use Rattle.std.proofs.Math.Decide.{ℕ_discrete, dec_lt}
use Rattle.std.proofs.Math.Dec.{eqb_refl}
use Rattle.algebra.specs.Sum.{sum_over}
use Rattle.algebra.proofs.Sums.{sum-append}
use Rattle.algebra.proofs.Booleans.{indicator-yes, indicator-no}
use Rattle.series.specs.Image.{position, coefficient, coefficient_at}
use Rattle.series.specs.Series.{Entry, Ascending, none, next}

-- the same word after another position, or up to another bound
pub entry-moved : {p N c last b w : ℕ} → Entry p N last w → b < position w → position w ≤ c
    → Entry p c b w
entry-moved x l k = record { above = l; inside = k; nonzero = x.nonzero; reduced = x.reduced }

-- ---- the coefficient at a position

pub coefficient_at-nil : (q : ℕ) → coefficient_at [] q ≡ 0
unfolding coefficient_at sum_over
coefficient_at-nil q = refl

pub coefficient_at-append : (es fs : List ℕ) (q : ℕ)
    → coefficient_at (es ++ fs) q ≡ coefficient_at es q + coefficient_at fs q
unfolding coefficient_at
coefficient_at-append es fs q = sum-append es fs _

pub coefficient_at-here : (w : ℕ) (es : List ℕ) (q : ℕ) → position w ≡ q
    → coefficient_at (w ∷ es) q ≡ coefficient w + coefficient_at es q
unfolding coefficient_at sum_over
coefficient_at-here w es q e =
    ap (λ (x : ℕ). coefficient w * x + coefficient_at es q)
    (indicator-yes (eqb (position w) q) (rw e (eqb_refl q)))
    ∙ omega arith

pub coefficient_at-there : (w : ℕ) (es : List ℕ) (q : ℕ) → (position w ≡ q → ⊥)
    → coefficient_at (w ∷ es) q ≡ coefficient_at es q
unfolding coefficient_at sum_over
coefficient_at-there w es q ne =
    ap (λ (x : ℕ). coefficient w * x + coefficient_at es q)
    (indicator-no (eqb (position w) q) (λ t. ne (eqb→eq (position w) q t)))
    ∙ omega arith

-- a word is its position and its coefficient
word-is : (w u : ℕ) → position w ≡ position u → coefficient w ≡ coefficient u → w ≡ u
word-is w u e f = omega arith

module _ {p N : ℕ} where
  -- ---- bounds

  -- positions up to `last` have no coefficient
  pub coefficient_at-below : {last : ℕ} {es : List ℕ} → Ascending p N last es
      → (q : ℕ) → q ≤ last → coefficient_at es q ≡ 0
  coefficient_at-below none q l = coefficient_at-nil q
  coefficient_at-below (next {w = w} {es = es} x r) q l =
      coefficient_at-there w es q (λ e. omega arith) ∙ coefficient_at-below r q (omega arith)

  -- positions above N have none
  pub coefficient_at-above : {last : ℕ} {es : List ℕ} → Ascending p N last es
      → (q : ℕ) → N < q → coefficient_at es q ≡ 0
  coefficient_at-above none q l = coefficient_at-nil q
  coefficient_at-above (next {w = w} {es = es} x r) q l =
      coefficient_at-there w es q (λ e. omega arith) ∙ coefficient_at-above r q l

  -- at the position of the first entry
  coefficient_at-first : (w : ℕ) {es : List ℕ} → Ascending p N (position w) es
      → coefficient_at (w ∷ es) (position w) ≡ coefficient w
  coefficient_at-first w {es} r =
      let q = position w in
      coefficient_at-here w es q refl ∙ omega (arith, coefficient_at-below r q (omega arith))

  pub coefficient_at-reduced : {last : ℕ} {es : List ℕ} → 0 < p → Ascending p N last es
      → (q : ℕ) → coefficient_at es q < p
  coefficient_at-reduced pos none q = omega (arith, coefficient_at-nil q)
  coefficient_at-reduced pos (next {w = w} {es = es} x r) q =
      go (ℕ_discrete (position w) q) (coefficient_at-reduced pos r q)
    where
      go : Dec (position w ≡ q) → coefficient_at es q < p → coefficient_at (w ∷ es) q < p
      go (yes e) ih =
          omega (arith, coefficient_at-here w es q e, coefficient_at-below r q (omega arith))
      go (no e) ih = omega (arith, coefficient_at-there w es q e)

  -- each entry needs a position of its own
  pub ascending_few : {last : ℕ} {es : List ℕ} → Ascending p N last es → last ≤ N
      → last + length es ≤ N
  ascending_few none l = omega arith
  ascending_few (next x r) l = omega (arith, ascending_few r x.inside)

  -- ---- by index

  pub ascending_at : {last : ℕ} {es : List ℕ} → Ascending p N last es
      → (i : ℕ) → i < length es → Entry p N last (get_or es i 0)
  ascending_at none i l = absurd (omega arith)
  ascending_at (next x r) zero l = x
  ascending_at (next x r) (suc i) l =
      let y = ascending_at r i (omega arith) in
      entry-moved y (omega arith) y.inside

  pub ascending_order : {last : ℕ} {es : List ℕ} → Ascending p N last es
      → (i j : ℕ) → i < j → j < length es → position (get_or es i 0) < position (get_or es j 0)
  ascending_order none i j l k = absurd (omega arith)
  ascending_order (next x r) zero (suc j) l k = (ascending_at r j (omega arith)).above
  ascending_order (next x r) (suc i) (suc j) l k =
      ascending_order r i j (omega arith) (omega arith)
  ascending_order (next x r) zero zero l k = absurd (omega arith)
  ascending_order (next x r) (suc i) zero l k = absurd (omega arith)

  -- the entries behind entry i
  pub ascending_drop : {last : ℕ} {es : List ℕ} → Ascending p N last es
      → (i : ℕ) → i < length es → Ascending p N (position (get_or es i 0)) (drop (suc i) es)
  ascending_drop none i l = absurd (omega arith)
  ascending_drop (next x r) zero l = r
  ascending_drop (next x r) (suc i) l = ascending_drop r i (omega arith)

  -- ---- one entry more

  pub ascending_wider : {c last : ℕ} {es : List ℕ} → N ≤ c → Ascending p N last es
      → Ascending p c last es
  ascending_wider l none = none
  ascending_wider l (next x r) =
      next (entry-moved x x.above (omega arith)) (ascending_wider l r)

  -- entries up to position N, and one of a later position
  pub ascending_snoc : {c last w : ℕ} {es : List ℕ} → Ascending p N last es → last ≤ N → N ≤ c
      → Entry p c N w → Ascending p c last (es ++ w ∷ [])
  ascending_snoc (none {last = last}) l m y =
      next {last = last} (entry-moved y (omega arith) y.inside) none
  ascending_snoc (next x r) l m y =
      next (entry-moved x x.above (omega arith)) (ascending_snoc r x.inside m y)

  -- ---- one list for each choice of coefficients

  -- an entry before all of fs has a coefficient that fs does not give
  earlier : (w : ℕ) {b : ℕ} {es fs : List ℕ} → 0 < coefficient w → Ascending p N (position w) es
      → Ascending p N b fs → position w ≤ b
      → coefficient_at (w ∷ es) (position w) ≡ coefficient_at fs (position w) → ⊥
  earlier w c r h l e =
      omega (arith, coefficient_at-first w r, coefficient_at-below h (position w) l)

  raised : {last u q : ℕ} {fs : List ℕ} → Entry p N last u → Ascending p N (position u) fs
      → q < position u → Ascending p N q (u ∷ fs)
  raised y s l = next (entry-moved y l y.inside) s

  pub ascending_unique : {a b : ℕ} {es fs : List ℕ} → Ascending p N a es → Ascending p N b fs
      → ((q : ℕ) → coefficient_at es q ≡ coefficient_at fs q) → es ≡ fs
  ascending_unique none none e = refl
  ascending_unique none (next {w = u} y s) e =
      let q = position u in
      absurd (earlier u y.nonzero s (none {last = q}) (omega arith) (sym (e q)))
  ascending_unique (next {w = w} x r) none e =
      let q = position w in
      absurd (earlier w x.nonzero r (none {last = q}) (omega arith) (e q))
  ascending_unique (next {w = w} {es = es} x r) (next {w = u} {es = fs} y s) e =
      go (dec_lt i j) (dec_lt j i) (λ h. ascending_unique r s h)
    where
      i : ℕ
      i = position w

      j : ℕ
      j = position u

      tails : i ≡ j → (q : ℕ) → Dec (i ≡ q) → coefficient_at es q ≡ coefficient_at fs q
      tails h q (yes k) =
          coefficient_at-below r q (omega arith) ∙ sym (coefficient_at-below s q (omega arith))
      tails h q (no k) =
          sym (coefficient_at-there w es q k)
          ∙ e q
          ∙ coefficient_at-there u fs q (λ z. k (h ∙ z))

      go : Dec (i < j) → Dec (j < i)
          → (((q : ℕ) → coefficient_at es q ≡ coefficient_at fs q) → es ≡ fs) → w ∷ es ≡ u ∷ fs
      go (yes l) k ih = absurd (earlier w x.nonzero r (raised y s l) (omega arith) (e i))
      go (no l) (yes k) ih =
          absurd (earlier u y.nonzero s (raised x r k) (omega arith) (sym (e j)))
      go (no l) (no k) ih =
          let h : i ≡ j = omega arith in
          let c : coefficient w ≡ coefficient u =
          sym (coefficient_at-first w r)
          ∙ e i
          ∙ ap (coefficient_at (u ∷ fs)) h
          ∙ coefficient_at-first u s in
          ap₂ ◌∷◌ (word-is w u h c) (ih (λ q. tails h q (ℕ_discrete i q)))
