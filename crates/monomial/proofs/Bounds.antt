-- What the allowed n and v bound, by a test over all of them that antt computes.
use Rattle.std.proofs.Common.{◌≡◌, sym, subst, Bool, true, false, ◌&&◌, ℕ, zero, suc, ◌≤◌, ◌<◌, arith, T, leb, leb→le, le→leb}
use Rattle.std.proofs.Math.Decide.{ℕ_discrete}
use Rattle.algebra.proofs.Booleans.{and_intro, and_left, and_right}
use Rattle.monomial.specs.Count.{factorial, count, codes, words, Allowed, allowed}

-- the test p passes at each number below m
unfoldable pub all_below : (ℕ → Bool) → ℕ → Bool
all_below p zero = true
all_below p (suc m) = p m && all_below p m

pub all_below-at : (p : ℕ → Bool) (m i : ℕ) → T (all_below p m) → i < m → T (p i)
unfolding all_below
all_below-at p zero i h l = absurd (omega arith)
all_below-at p (suc m) i h l =
    go (ℕ_discrete i m) (λ k. all_below-at p m i (and_right (p m) (all_below p m) h) k)
  where
    go : Dec (i ≡ m) → (i < m → T (p i)) → T (p i)
    go (yes e) ih = subst (λ (z : ℕ). T (p z)) (sym e) (and_left (p m) (all_below p m) h)
    go (no e) ih = ih (omega arith)

abbrev pub implies : Bool → Bool → Bool
implies true y = y
implies false y = true

pub implies-at : (x y : Bool) → T (implies x y) → T x → T y
implies-at true y h k = h
implies-at false y h k = absurd k

-- the bounds at n and v, where N is at most 8,008
bounds : ℕ → ℕ → Bool
bounds n v = leb (codes n v) 6561 && leb (words n v) 25992

bounds_everywhere : T (all_below (λ n. all_below (λ v. implies (leb (count n v) 8008) (bounds n v)) 9) 11)
unfolding all_below bounds count factorial codes words
bounds_everywhere = tt

module _ (n v : ℕ) (a : Allowed n v) where
  at : T (bounds n v)
  at =
      implies-at (leb (count n v) 8008) (bounds n v)
      (all_below-at (λ u. implies (leb (count n u) 8008) (bounds n u)) 9 v
      (all_below-at (λ m. all_below (λ u. implies (leb (count m u) 8008) (bounds m u)) 9) 11 n bounds_everywhere (omega (arith, a.n_high)))
      (omega (arith, a.v_high)))
      (le→leb (count n v) 8008 a.few)

  pub codes-bound : codes n v ≤ 6561
  unfolding bounds
  codes-bound = leb→le (codes n v) 6561 (and_left (leb (codes n v) 6561) _ at)

  pub words-bound : words n v ≤ 25992
  unfolding bounds
  words-bound = leb→le (words n v) 25992 (and_right (leb (codes n v) 6561) _ at)

-- ---- the test of 01's ranges

pub allowed-sound : (n v : ℕ) → T (allowed n v) → Allowed n v
unfolding allowed
allowed-sound n v t =
    let t1 = and_right (leb 1 n) _ t in
    let t2 = and_right (leb n 10) _ t1 in
    let t3 = and_right (leb 1 v) _ t2 in
    record {
      n_low = leb→le 1 n (and_left (leb 1 n) _ t);
      n_high = leb→le n 10 (and_left (leb n 10) _ t1);
      v_low = leb→le 1 v (and_left (leb 1 v) _ t2);
      v_high = leb→le v 8 (and_left (leb v 8) _ t3);
      few = leb→le (count n v) 8008 (and_right (leb v 8) _ t3);
    }

pub allowed-complete : (n v : ℕ) → Allowed n v → T (allowed n v)
unfolding allowed
allowed-complete n v a =
    and_intro (leb 1 n) _ (le→leb 1 n a.n_low)
    (and_intro (leb n 10) _ (le→leb n 10 a.n_high)
    (and_intro (leb 1 v) _ (le→leb 1 v a.v_low)
    (and_intro (leb v 8) _ (le→leb v 8 a.v_high) (le→leb (count n v) 8008 a.few))))
