-- 'Derivative in variable k: of the stored polynomial, so nothing of order n remains in it' (01, "The
-- operations"): the words that a derivative leaves have only entries of order below n.
use Rattle.std.proofs.Common.{◌≡◌, refl, ap, ◌∙◌, List, ◌∷◌, ◌++◌, map, ℕ, zero, suc, ◌+◌, ◌%◌, ◌≤◌, ◌<◌, arith, length, get_or}
use Rattle.std.proofs.Math.Nat.{zero-mod}
use Rattle.std.proofs.Math.Decide.{ℕ_discrete, dec_lt}
use Rattle.algebra.specs.Polynomial.{Polynomial, order, coefficient_of, derivative}
use Rattle.algebra.specs.Agreement.{UpTo}
use Rattle.algebra.proofs.Derivative.{derivative-below_order}
use Rattle.monomial.specs.Count.{count}
use Rattle.series.specs.Image.{position, coefficient, entries, coefficient_at, monomial_at, term_of}
use Rattle.series.specs.Image.{polynomial, image}
use Rattle.series.specs.Series.{Ascending, none, next, IsSeries}
use Rattle.series.specs.Faults.{first_fault}
use Rattle.series.proofs.Entries.{ascending_at}
use Rattle.series.proofs.Entries.{coefficient_at-here, coefficient_at-there}
use Rattle.series.proofs.Reading.{order-term, fault_none_to_Is_series}
use Rattle.series.proofs.Writing.{image-series, coefficient_at-image}

-- a position has at least the coefficient of an entry that stands there
own-position : {p N last : ℕ} {es : List ℕ} → Ascending p N last es → (i : ℕ) → i < length es
    → coefficient (get_or es i 0) ≤ coefficient_at es (position (get_or es i 0))
own-position none i l = absurd (omega arith)
own-position (next {w = w} {es = es} x r) zero l =
    omega (arith, coefficient_at-here w es (position w) refl)
own-position (next {w = w} {es = es} x r) (suc i) l =
    go (ℕ_discrete (position w) q) (own-position r i (omega arith))
  where
    q : ℕ
    q = position (get_or es i 0)

    go : Dec (position w ≡ q) → coefficient (get_or es i 0) ≤ coefficient_at es q
        → coefficient (get_or es i 0) ≤ coefficient_at (w ∷ es) q
    go (yes e) h = omega (arith, coefficient_at-here w es q e)
    go (no e) h = omega (arith, coefficient_at-there w es q e)

module _ (n v : ℕ) where
  terms_up_to : {p last : ℕ} {es : List ℕ} → Ascending p (count n v) last es
      → UpTo n (map (term_of n v) es)
  terms_up_to none = tt
  terms_up_to (next x r) = (order-term n v x, terms_up_to r)

  -- the monomials of a stored polynomial are of order at most n
  pub polynomial-up_to : {p : ℕ} {ws : List ℕ} → IsSeries p (count n v) ws
      → UpTo n (polynomial n v ws)
  unfolding polynomial
  polynomial-up_to s = terms_up_to s.ascending

  -- every entry of a derivative is of order below n, whatever stands behind its words
  pub derivative-entries_below : (p k : ℕ) (ws rest : List ℕ) → 0 < p → p ≤ 65536
      → first_fault p (count n v) ws ≡ count n v + 1
      → (i : ℕ) → i < length (entries (image p n v (derivative k (polynomial n v ws)) ++ rest))
      → order (monomial_at n v (position
      (get_or (entries (image p n v (derivative k (polynomial n v ws)) ++ rest)) i 0))) < n
  derivative-entries_below p k ws rest pos small good i l = go (dec_lt (order m) n)
    where
      D : Polynomial
      D = derivative k (polynomial n v ws)

      es : List ℕ
      es = entries (image p n v D ++ rest)

      written : IsSeries p (count n v) (image p n v D ++ rest)
      written = image-series p n v pos small D rest

      w : ℕ
      w = get_or es i 0

      m : List ℕ
      m = monomial_at n v (position w)

      -- of order n or above, the entry would have no coefficient
      go : Dec (order m < n) → order m < n
      go (yes h) = h
      go (no h) =
          let x = ascending_at written.ascending i l in
          let z : coefficient_of m D ≡ 0 =
          derivative-below_order n k (polynomial n v ws)
          (polynomial-up_to (fault_none_to_Is_series n v p ws good)) m (omega arith) in
          let e =
          coefficient_at-image p n v pos small D rest (position w) (omega (arith, x.above))
          x.inside in
          let none = e ∙ ap (λ (c : ℕ). c % p) z ∙ zero-mod p in
          absurd
          (omega (arith, x.nonzero, own-position written.ascending i l, none))
