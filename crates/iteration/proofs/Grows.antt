-- The terms of a new order, put behind those of a map that undoes another up to the order before, give
-- one that undoes it up to that order: below it the turn makes the map that was there.
use Rattle.std.proofs.Common.{ℕ, suc, ◌+◌, ◌-◌, ◌*◌, ◌%◌, ◌≤◌, ◌<◌, ◌≡◌, refl, sym, ap, ◌∙◌, subst, List, ◌++◌, map, mod-lt, mul-one, arith, leb, le→leb, leb→le, length, get_or}
use Rattle.std.proofs.Math.Nat.{mod-mod}
use Rattle.std.proofs.Math.Decide.{ℕ_discrete, dec_le}
use Rattle.algebra.specs.Polynomial.{Polynomial, order, indicator, coefficient_of}
use Rattle.algebra.specs.Substitution.{Map}
use Rattle.algebra.specs.Agreement.{Agree, Within}
use Rattle.algebra.proofs.Agreement.{agree_sym, agree_trans, agree_down}
use Rattle.algebra.proofs.Booleans.{indicator-yes, indicator-no}
use Rattle.algebra.proofs.Coefficients.{agree_to_same}
use Rattle.algebra.proofs.Modulo.{mod-cong, mod-*}
use Rattle.monomial.specs.Count.{count}
use Rattle.linear.specs.Matrix.{Matrix, element}
use Rattle.series.specs.Image.{coefficient_at, monomial_at, term_of}
use Rattle.series.proofs.Entries.{coefficient_at-append}
use Rattle.series.proofs.Positions.{agree_by_positions}
use Rattle.product.specs.Pairs.{order_of}
use Rattle.product.specs.Regions.{Placed}
use Rattle.substitution.proofs.Levels.{cut_coefficient}
use Rattle.substitution.proofs.Regions.{coefficient_of-placed, placed_within}
use Rattle.substitution.proofs.Searching.{coefficient_at-none}
use Rattle.substitution.specs.Walk.{low_terms}
use Rattle.substitution.proofs.Truncated.{low_terms-within, low_terms-agree}
use Rattle.inversion.specs.Turn.{combination}
use Rattle.turn.specs.Vectors.{dot, word_at, Vectors, CombineIn}
use Rattle.turn.proofs.Combining.{combines}
use Rattle.growth.specs.Growth.{entries_of, positions_of_order}
use Rattle.growth.proofs.Coefficients.{number-here, number-elsewhere}

-- polynomials with the same coefficients at the positions up to an order
agree_low : (p n v cut : ℕ) → cut ≤ n → (P Q : Polynomial) → Within v P → Within v Q
    → ((q : ℕ) → 1 ≤ q → q ≤ count n v → order (monomial_at n v q) ≤ cut
    → coefficient_of (monomial_at n v q) P % p ≡ coefficient_of (monomial_at n v q) Q % p)
    → Agree p (suc cut) P Q
agree_low p n v cut low P Q wp wq same =
    agree_trans p (agree_sym p (low_terms-agree cut p P))
    (agree_trans p
    (agree_down p (omega arith)
    (agree_by_positions n v p (low_terms cut P) (low_terms cut Q) (low_terms-within cut v P wp)
    (low_terms-within cut v Q wq)
    (λ q l h. at q l h (dec_le (order (monomial_at n v q)) cut))))
    (low_terms-agree cut p Q))
  where
    at : (q : ℕ) → 1 ≤ q → q ≤ count n v → Dec (order (monomial_at n v q) ≤ cut)
        → coefficient_of (monomial_at n v q) (low_terms cut P) % p
        ≡ coefficient_of (monomial_at n v q) (low_terms cut Q) % p
    at q l h d =
        let m = monomial_at n v q in
        mod-cong p (sym (cut_coefficient cut P m)) ∙ both d ∙ mod-cong p (cut_coefficient cut Q m)
      where
        both : Dec (order (monomial_at n v q) ≤ cut)
            → coefficient_of (monomial_at n v q) P * indicator (leb (order (monomial_at n v q)) cut) % p
            ≡ coefficient_of (monomial_at n v q) Q * indicator (leb (order (monomial_at n v q)) cut) % p
        both (yes o) = mod-* p _ _ _ _ (same q l h o) refl
        both (no o) =
            let m = monomial_at n v q in
            let z = indicator-no (leb (order m) cut) (λ t. o (leb→le (order m) cut t)) in
            mod-cong p
            (ap (λ (x : ℕ). coefficient_of m P * x) z
            ∙ omega arith
            ∙ sym (ap (λ (x : ℕ). coefficient_of m Q * x) z))

-- entries of lower orders give a position nothing
low-none : (n v o q : ℕ) (es : List ℕ) → ((i : ℕ) → i < length es → order_of n v (get_or es i 0) < o)
    → order (monomial_at n v q) ≡ o → coefficient_at es q ≡ 0
unfolding order_of
low-none n v o q es below e =
    coefficient_at-none es q
    (λ i l d.
    omega (arith, below i l, ap (λ (x : ℕ). order (monomial_at n v x)) d))

module _ {p n v N : ℕ} {neg : Matrix} {ws : List ℕ} (I : CombineIn p n v N neg ws) {cut : ℕ}
    (low : 1 ≤ cut) (high : cut ≤ n) {H : Map} (held : Vectors p n v N cut cut ws H) (k : ℕ)
    (ys : List ℕ) (placed : Placed N ys)
    (below : (i : ℕ) → i < length ys → order_of n v (get_or ys i 0) < cut)
    (settled : Agree p cut (combination v (element neg k) H) (map (term_of n v) ys)) where
  -- the numbers of the new order
  f : ℕ → ℕ
  f q = dot v (element neg k) (word_at N ws q) % p

  small : (q : ℕ) → f q < 65536
  unfolding f
  small q = omega (arith, mod-lt (dot v (element neg k) (word_at N ws q)) I.modulus_low, I.modulus_high)

  abbrev new : List ℕ
  new = entries_of (λ q. dot v (element neg k) (word_at N ws q) % p) (positions_of_order n v N cut)

  pub grown-agrees : Within v (combination v (element neg k) H)
      → Placed N (ys ++ entries_of (λ q. dot v (element neg k) (word_at N ws q) % p) (positions_of_order n v N cut))
      → Agree p (suc cut)
      (map (term_of n v)
      (ys ++ entries_of (λ q. dot v (element neg k) (word_at N ws q) % p) (positions_of_order n v N cut)))
      (combination v (element neg k) H)
  unfolding f
  grown-agrees within all =
      agree_low p n v cut high (map (term_of n v) (ys ++ new)) (combination v (element neg k) H)
      (placed_within n v (ys ++ new) here) within
      (λ q l h o.
      mod-cong p
      (coefficient_of-placed n v (ys ++ new) here q l h ∙ coefficient_at-append ys new q)
      ∙ at q l h o (ℕ_discrete (order (monomial_at n v q)) cut))
    where
      here : Placed (count n v) (ys ++ new)
      here = subst (λ (z : ℕ). Placed z (ys ++ new)) I.N_is all

      old : Placed (count n v) ys
      old = subst (λ (z : ℕ). Placed z ys) I.N_is placed

      at : (q : ℕ) → 1 ≤ q → q ≤ count n v → order (monomial_at n v q) ≤ cut
          → Dec (order (monomial_at n v q) ≡ cut)
          → (coefficient_at ys q + coefficient_at new q) % p
          ≡ coefficient_of (monomial_at n v q) (combination v (element neg k) H) % p
      at q l h o (yes e) =
          let m = monomial_at n v q in
          let c = coefficient_of m (combination v (element neg k) H) in
          let u : q ≤ N = omega (arith, I.N_is) in
          let one : indicator (leb (order m) cut) ≡ 1 =
          indicator-yes (leb (order m) cut) (le→leb (order m) cut o) in
          let sum : coefficient_at ys q + coefficient_at new q ≡ f q =
          omega (arith, low-none n v cut q ys below e, number-here f small q n v N cut l u e) in
          mod-cong p (sum ∙ combines I cut cut H held k q l u (omega (arith, e)))
          ∙ mod-mod (c * indicator (leb (order m) cut)) p
          ∙ mod-cong p (ap (λ (x : ℕ). c * x) one ∙ mul-one c)
      at q l h o (no e) =
          let m = monomial_at n v q in
          let u : q ≤ N = omega (arith, I.N_is) in
          let s : suc (cut - 1) ≡ cut = omega arith in
          let z : coefficient_at ys q + coefficient_at new q ≡ coefficient_at ys q =
          omega (arith, number-elsewhere f small q n v N cut l u e) in
          mod-cong p (z ∙ sym (coefficient_of-placed n v ys old q l h))
          ∙ sym
          ((agree_to_same p (cut - 1)
          (subst
          (λ (x : ℕ). Agree p x (combination v (element neg k) H) (map (term_of n v) ys))
          (sym s) settled)
          ).at_low m (omega arith))
