-- The coefficients of entries that are made of numbers by position: a position of order o has its own
-- number, and any other none.
use Rattle.std.proofs.Common.{◌≡◌, refl, sym, ap, ap₂, ◌∙◌, List, [], ◌∷◌, ◌++◌, ℕ, zero, suc, ◌+◌, ◌-◌, ◌*◌, ◌≤◌, ◌<◌, mul-one, mul-zero, arith, eqb, eqb→eq, length, get_or, length-append, get_or-append-add, eq-eqb}
use Rattle.std.proofs.Math.Decide.{ℕ_discrete, dec_lt}
use Rattle.std.proofs.Math.ListN.{get_or-append}
use Rattle.algebra.specs.Sum.{sum_over}
use Rattle.algebra.specs.Polynomial.{order, indicator}
use Rattle.algebra.proofs.Booleans.{indicator-yes, indicator-no}
use Rattle.series.specs.Image.{position, coefficient, entry_of, coefficient_at, monomial_at}
use Rattle.series.proofs.Entries.{coefficient_at-nil, coefficient_at-append}
use Rattle.series.proofs.Packed.{entry_of-zero, entry_of-nonzero, entry_of-own, entry_of-other}
use Rattle.product.specs.Pairs.{order_of}
use Rattle.product.proofs.Ordered.{sum-pick}
use Rattle.powers.specs.Powers.{places}
use Rattle.powers.proofs.Places.{position-place, order-place, sum-places_more}
use Rattle.growth.specs.Growth.{entries_of, positions_of_order}

module _ (f : ℕ → ℕ) (small : (q : ℕ) → f q < 65536) (q : ℕ) where
  -- what the position of w adds at position q
  abbrev at : ℕ → ℕ
  at w = f (position w) * indicator (eqb (position w) q)

  entry_at : (w : ℕ) → coefficient_at (entry_of (position w) (f (position w))) q
      ≡ f (position w) * indicator (eqb (position w) q)
  entry_at w = go (ℕ_discrete (position w) q)
    where
      go : Dec (position w ≡ q) → coefficient_at (entry_of (position w) (f (position w))) q
          ≡ f (position w) * indicator (eqb (position w) q)
      go (yes e) =
          rw e
          (entry_of-own q (f q) (small q)
          ∙ sym
          (ap (λ (x : ℕ). f q * x) (indicator-yes (eqb q q) (rw (eq-eqb q q refl) tt))
          ∙ mul-one (f q)))
      go (no e) =
          entry_of-other (position w) (f (position w)) q (small (position w)) (λ d. e (sym d))
          ∙ sym
          (ap (λ (x : ℕ). f (position w) * x)
          (indicator-no (eqb (position w) q) (λ t. e (eqb→eq (position w) q t)))
          ∙ mul-zero (f (position w)))

  entries_at : (es : List ℕ) → coefficient_at (entries_of f es) q
      ≡ sum_over es (λ w. f (position w) * indicator (eqb (position w) q))
  unfolding entries_of sum_over
  entries_at [] = coefficient_at-nil q
  entries_at (w ∷ es) =
      coefficient_at-append (entry_of (position w) (f (position w))) (entries_of f es) q
      ∙ ap₂ ◌+◌ (entry_at w) (entries_at es)

  -- among all positions each is once
  places-at_none : (N : ℕ) (g : ℕ → ℕ) → N < q
      → sum_over (places N) (λ w. f (position w) * indicator (eqb (position w) q) * g w) ≡ 0
  unfolding places sum_over
  places-at_none zero g l = refl
  places-at_none (suc N) g l =
      let w = suc N * 65536 in
      let z : indicator (eqb (position w) q) ≡ 0 =
      indicator-no (eqb (position w) q)
      (λ t. omega (arith, eqb→eq (position w) q t, position-place (suc N))) in
      let y : f (position w) * indicator (eqb (position w) q) * g w ≡ 0 =
      ap (λ (x : ℕ). f (position w) * x * g w) z ∙ omega arith in
      sum-places_more N (λ u. f (position u) * indicator (eqb (position u) q) * g u)
      ∙ omega (arith, places-at_none N g (omega arith), y)

  places-at_one : (N : ℕ) (g : ℕ → ℕ) → 1 ≤ q → q ≤ N
      → sum_over (places N) (λ w. f (position w) * indicator (eqb (position w) q) * g w)
      ≡ f q * g (q * 65536)
  places-at_one zero g l h = absurd (omega arith)
  places-at_one (suc N) g l h = go (ℕ_discrete (suc N) q) (λ u. places-at_one N g l u)
    where
      term : ℕ → ℕ
      term w = f (position w) * indicator (eqb (position w) q) * g w

      go : Dec (suc N ≡ q)
          → (q ≤ N
          → sum_over (places N) (λ w. f (position w) * indicator (eqb (position w) q) * g w)
          ≡ f q * g (q * 65536))
          → sum_over (places (suc N)) (λ w. f (position w) * indicator (eqb (position w) q) * g w)
          ≡ f q * g (q * 65536)
      go (yes e) ih =
          let w = suc N * 65536 in
          let p : position w ≡ q = position-place (suc N) ∙ e in
          let o : indicator (eqb (position w) q) ≡ 1 =
          indicator-yes (eqb (position w) q) (rw (eq-eqb (position w) q p) tt) in
          sum-places_more N (λ u. f (position u) * indicator (eqb (position u) q) * g u)
          ∙ ap₂ ◌+◌ (places-at_none N g (omega arith))
          (ap₂ (λ (x y : ℕ). f x * y * g w) p o
          ∙ ap (λ (x : ℕ). f q * 1 * g (x * 65536)) e
          ∙ ap (λ (x : ℕ). x * g (q * 65536)) (mul-one (f q)))
          ∙ omega arith
      go (no ne) ih =
          let w = suc N * 65536 in
          let z : indicator (eqb (position w) q) ≡ 0 =
          indicator-no (eqb (position w) q)
          (λ t. ne (sym (position-place (suc N)) ∙ eqb→eq (position w) q t)) in
          let y : f (position w) * indicator (eqb (position w) q) * g w ≡ 0 =
          ap (λ (x : ℕ). f (position w) * x * g w) z ∙ omega arith in
          sum-places_more N (λ u. f (position u) * indicator (eqb (position u) q) * g u)
          ∙ omega (arith, ih (omega arith), y)

  module _ (n v N o : ℕ) (low : 1 ≤ q) (high : q ≤ N) where
    number_at : coefficient_at (entries_of f (positions_of_order n v N o)) q
        ≡ f q * indicator (eqb (order (monomial_at n v q)) o)
    number_at =
        entries_at (positions_of_order n v N o)
        ∙ sum-pick (λ w. eqb (order_of n v w) o) (places N)
        (λ w. f (position w) * indicator (eqb (position w) q))
        ∙ places-at_one N (λ w. indicator (eqb (order_of n v w) o)) low high
        ∙ ap (λ (x : ℕ). f q * indicator (eqb x o)) (order-place n v q)

    pub number-here : order (monomial_at n v q) ≡ o
        → coefficient_at (entries_of f (positions_of_order n v N o)) q ≡ f q
    number-here e =
        number_at
        ∙ ap (λ (x : ℕ). f q * x)
        (indicator-yes (eqb (order (monomial_at n v q)) o)
        (rw (eq-eqb (order (monomial_at n v q)) o e) tt))
        ∙ mul-one (f q)

    pub number-elsewhere : (order (monomial_at n v q) ≡ o → ⊥)
        → coefficient_at (entries_of f (positions_of_order n v N o)) q ≡ 0
    number-elsewhere e =
        number_at
        ∙ ap (λ (x : ℕ). f q * x)
        (indicator-no (eqb (order (monomial_at n v q)) o)
        (λ t. e (eqb→eq (order (monomial_at n v q)) o t)))
        ∙ mul-zero (f q)

-- entries of residues have residues as coefficients
pub entries_of-reduced : (f : ℕ → ℕ) → ((x : ℕ) → f x < 65536) → (p : ℕ) → ((x : ℕ) → f x < p)
    → (es : List ℕ) (j : ℕ) → j < length (entries_of f es)
    → coefficient (get_or (entries_of f es) j 0) < p
unfolding entries_of
entries_of-reduced f small p low [] j l = absurd (omega arith)
entries_of-reduced f small p low (w ∷ es) j l =
    go (dec_lt 0 c) (dec_lt j (length this)) (entries_of-reduced f small p low es)
  where
    c : ℕ
    c = f (position w)

    this : List ℕ
    this = entry_of (position w) c

    go : Dec (0 < c) → Dec (j < length this)
        → ((i : ℕ) → i < length (entries_of f es) → coefficient (get_or (entries_of f es) i 0) < p)
        → coefficient (get_or (this ++ entries_of f es) j 0) < p
    go d (no h) ih =
        let i = j - length this in
        let e : j ≡ length this + i = omega arith in
        rw (e, get_or-append-add this (entries_of f es) i 0)
        (ih i (omega (arith, length-append this (entries_of f es))))
    go (no z) (yes h) ih =
        absurd (omega (arith, ap length (entry_of-zero (position w) c (omega arith))))
    go (yes z) (yes h) ih =
        let one = entry_of-nonzero (position w) c z in
        let e : j ≡ 0 = omega (arith, ap length one) in
        rw (get_or-append this (entries_of f es) 0 j h, one, e)
        (omega (arith, small (position w), low (position w)))
