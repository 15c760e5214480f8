-- The polynomial that a series stands for: its coefficient at the monomial of a position is that of
-- the entry there, since each monomial has one position.
use Rattle.std.proofs.Common.{◌≡◌, sym, ap, List, ◌∷◌, map, ℕ, ◌+◌, ◌*◌, ◌≤◌, ◌<◌, arith, length, take}
use Rattle.std.proofs.Math.Decide.{ℕ_discrete}
use Rattle.algebra.specs.Sum.{sum_over}
use Rattle.algebra.specs.Polynomial.{Monomial, order, same, indicator, weigh, coefficient_of}
use Rattle.algebra.specs.Agreement.{Within}
use Rattle.algebra.proofs.Booleans.{indicator-yes, indicator-no}
use Rattle.algebra.proofs.Trim.{same_refl}
use Rattle.monomial.specs.Count.{count}
use Rattle.answer.specs.Refusals.{passed}
use Rattle.series.specs.Image.{position, coefficient, entries, coefficient_at, monomial_at, term_of, polynomial}
use Rattle.series.specs.Faults.{first_fault, series_check}
use Rattle.series.specs.Series.{Entry, Ascending, none, next, IsSeries}
use Rattle.series.proofs.Entries.{coefficient_at-nil, coefficient_at-here, coefficient_at-there}
use Rattle.series.proofs.Series.{fault_none_to_series, fault_none_to_long, passed_to_series, entries-take}
use Rattle.series.proofs.Positions.{count-positive, length-monomial_at, order-monomial_at, monomial_at-once}

module _ (n v : ℕ) where
  -- ---- the term of one entry

  module _ {p last w : ℕ} (x : Entry p (count n v) last w) where
    pub length-term : length (term_of n v w).exponents ≡ v
    unfolding term_of
    length-term = length-monomial_at n v (position w) (omega arith) x.inside

    pub order-term : order (term_of n v w).exponents ≤ n
    unfolding term_of
    order-term = order-monomial_at n v (position w) (omega arith) x.inside

  -- ---- the terms of entries

  pub terms_within : {p last : ℕ} {es : List ℕ} → Ascending p (count n v) last es
      → Within v (map (term_of n v) es)
  terms_within none = tt
  terms_within (next x r) = (omega (arith, length-term x), terms_within r)

  pub coefficient_of-terms : {p last : ℕ} {es : List ℕ} → Ascending p (count n v) last es
      → (q : ℕ) → 0 < q → q ≤ count n v
      → coefficient_of (monomial_at n v q) (map (term_of n v) es) ≡ coefficient_at es q
  unfolding coefficient_of weigh sum_over term_of
  coefficient_of-terms none q l h = sym (coefficient_at-nil q)
  coefficient_of-terms (next {w = w} {es = es} x r) q l h =
      go (ℕ_discrete (position w) q) (coefficient_of-terms r q l h)
    where
      m : Monomial
      m = monomial_at n v q

      t : Monomial
      t = monomial_at n v (position w)

      rest : ℕ
      rest = coefficient_of m (map (term_of n v) es)

      go : Dec (position w ≡ q) → rest ≡ coefficient_at es q
          → coefficient w * indicator (same m t) + rest ≡ coefficient_at (w ∷ es) q
      go (yes e) ih =
          let i = indicator-yes (same m t) (rw e (same_refl m)) in
          let c = ap (λ (y : ℕ). coefficient w * y) i in
          omega (arith, coefficient_at-here w es q e)
      go (no e) ih =
          let once = monomial_at-once n v q (position w) l h (omega arith) x.inside in
          let i = indicator-no (same m t) (λ k. e (sym (once k))) in
          let c = ap (λ (y : ℕ). coefficient w * y) i in
          omega (arith, coefficient_at-there w es q e)

  -- ---- the polynomial of a series

  -- N is at least 1, so the tests alone say that all words are there
  pub fault_none_to_Is_series : (p : ℕ) (ws : List ℕ) → first_fault p (count n v) ws ≡ count n v + 1
      → IsSeries p (count n v) ws
  fault_none_to_Is_series p ws e =
      let N = count n v in
      fault_none_to_series p N ws e (fault_none_to_long p N (count-positive n v) ws e)

  pub passed_to_Is_series : (p a c : ℕ) (ws : List ℕ) → series_check p (count n v) a c ws ≡ passed
      → IsSeries p (count n v) ws
  passed_to_Is_series p a c ws e = passed_to_series p (count n v) a c ws (count-positive n v) e

  module _ {p : ℕ} {ws : List ℕ} (s : IsSeries p (count n v) ws) where
    pub polynomial-within : Within v (polynomial n v ws)
    unfolding polynomial
    polynomial-within = terms_within s.ascending

    pub coefficient_of-polynomial : (q : ℕ) → 0 < q → q ≤ count n v
        → coefficient_of (monomial_at n v q) (polynomial n v ws) ≡ coefficient_at (entries ws) q
    unfolding polynomial
    coefficient_of-polynomial q l h = coefficient_of-terms s.ascending q l h

    -- only the first N + 1 words matter
    pub polynomial-take : polynomial n v (take (count n v + 1) ws) ≡ polynomial n v ws
    unfolding polynomial
    polynomial-take = ap (map (term_of n v)) (entries-take p (count n v) ws s.few)
