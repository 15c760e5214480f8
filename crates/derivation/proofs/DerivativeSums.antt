-- The coefficient of the derivative at a position is the sum of what the entries give that are
-- lowered to it: a monomial of order at most n has one position.
use Rattle.std.proofs.Common.{◌≡◌, sym, ap, ap₂, ◌∙◌, List, [], map, ℕ, ◌-◌, ◌*◌, ◌%◌, ◌≤◌, ◌<◌, arith, T, eqb, eqb→eq, length, get_or, eq-eqb}
use Rattle.std.proofs.Math.Nat.{zero-mod}
use Rattle.std.proofs.Math.Decide.{ℕ_discrete, dec_lt}
use Rattle.std.proofs.Math.Dec.{eqb_refl}
use Rattle.algebra.specs.Sum.{sum_over}
use Rattle.algebra.specs.Polynomial.{Monomial, order, exponent, lower, same, indicator}
use Rattle.algebra.specs.Polynomial.{coefficient_of, scale, derivative}
use Rattle.algebra.proofs.Sums.{sum-scale}
use Rattle.algebra.proofs.Weigh.{weigh-scale, weigh-derivative}
use Rattle.algebra.proofs.Booleans.{indicator-yes, indicator-no}
use Rattle.algebra.proofs.Monomials.{order-lower}
use Rattle.algebra.proofs.Trim.{same_refl, same-eq}
use Rattle.monomial.specs.Count.{count}
use Rattle.monomial.specs.Table.{monomials, position_of}
use Rattle.monomial.proofs.Places.{placed}
use Rattle.series.specs.Image.{position, coefficient, monomial_at, term_of, entry_of}
use Rattle.series.proofs.Packed.{entry_of-zero}
use Rattle.product.specs.Regions.{Placed}
use Rattle.derivation.specs.Derivative.{exponent_of, lowered_place, derived_value, derived_entry}
use Rattle.series.proofs.Positions.{length-monomial_at, order-monomial_at}
use Rattle.product.proofs.PairSums.{sum-placed, weigh-entries}
use Rattle.product.proofs.PairSums.{position_of-monomial_at}
use Rattle.derivation.proofs.DerivativeOrder.{length-lowered}

module _ (n v : ℕ) where
  -- a monomial is the one at position j just where j is its position
  place-indicator : (m : Monomial) (j : ℕ) → length m ≡ v → order m ≤ n → 1 ≤ j → j ≤ count n v
      → indicator (same (monomial_at n v j) m) ≡ indicator (eqb (position_of n v m) j)
  unfolding monomial_at
  place-indicator m j long low l h = go (ℕ_discrete (position_of n v m) j)
    where
      at : Monomial
      at = monomial_at n v j

      go : Dec (position_of n v m ≡ j) → indicator (same at m) ≡ indicator (eqb (position_of n v m) j)
      go (yes e) =
          let p = placed n v m long low in
          let i : j - 1 ≡ p.index = omega (arith, p.at) in
          let is : at ≡ m = ap (λ (z : ℕ). get_or (monomials n v) z []) i ∙ p.is in
          indicator-yes (same at m) (rw is (same_refl m))
          ∙ sym (indicator-yes (eqb (position_of n v m) j) (rw (eq-eqb (position_of n v m) j e) tt))
      go (no e) =
          let long' = length-monomial_at n v j l h ∙ sym long in
          let is : T (same at m) → position_of n v m ≡ j =
          λ t. ap (position_of n v) (sym (same-eq at m long' t)) ∙ position_of-monomial_at n v j l h in
          indicator-no (same at m) (λ t. e (is t))
          ∙ sym (indicator-no (eqb (position_of n v m) j) (λ t. e (eqb→eq (position_of n v m) j t)))

  module _ (k : ℕ) where
    -- ---- the entry that an entry gives

    module _ (p f x q : ℕ) (e : q ≡ position x) where
      pub derived_entry-none : exponent k (monomial_at n v q) ≡ 0 → derived_entry n v k p f x ≡ []
      unfolding derived_entry derived_value exponent_of
      derived_entry-none z =
          let o : exponent k (monomial_at n v (position x)) ≡ 0 =
          ap (λ (y : ℕ). exponent k (monomial_at n v y)) (sym e) ∙ z in
          entry_of-zero (lowered_place n v k x) _
          (ap (λ (y : ℕ). coefficient x * y * f % p) o
          ∙ ap (λ (y : ℕ). y % p) {y = 0} (omega arith)
          ∙ zero-mod p)

      pub derived_entry-is : (r c : ℕ) → r ≡ position_of n v (lower k (monomial_at n v q))
          → c ≡ coefficient x * exponent k (monomial_at n v q) * f % p
          → derived_entry n v k p f x ≡ entry_of r c
      unfolding derived_entry derived_value exponent_of lowered_place
      derived_entry-is r c er ec =
          sym (ap₂ entry_of (er ∙ ap (λ (y : ℕ). position_of n v (lower k (monomial_at n v y))) e)
          (ec ∙ ap (λ (y : ℕ). coefficient x * exponent k (monomial_at n v y) * f % p) e))

    -- ---- what entries give to f times the derivative

    module _ (f : ℕ) where
      -- what the entry w gives to position j
      unfoldable pub contribution : ℕ → ℕ → ℕ
      contribution j w = derived_value n v k f w * indicator (eqb (lowered_place n v k w) j)

      -- the coefficient at position j
      unfoldable pub derived_at : List ℕ → ℕ → ℕ
      derived_at es j = sum_over es (contribution j)

      pub contribution-other : (j w : ℕ) → (lowered_place n v k w ≡ j → ⊥) → contribution j w ≡ 0
      unfolding contribution
      contribution-other j w ne =
          let r = lowered_place n v k w in
          ap (λ (z : ℕ). derived_value n v k f w * z)
          (indicator-no (eqb r j) (λ t. ne (eqb→eq r j t)))
          ∙ omega arith

      pub contribution-own : (w : ℕ) → contribution (lowered_place n v k w) w ≡ derived_value n v k f w
      unfolding contribution
      contribution-own w =
          let r = lowered_place n v k w in
          ap (λ (z : ℕ). derived_value n v k f w * z) (indicator-yes (eqb r r) (eqb_refl r))
          ∙ omega arith

      pub contribution-none : (j w : ℕ) → exponent_of n v k w ≡ 0 → contribution j w ≡ 0
      unfolding contribution derived_value
      contribution-none j w e =
          ap (λ (z : ℕ). coefficient w * z * f * indicator (eqb (lowered_place n v k w) j)) e
          ∙ omega arith

      -- the contribution of an entry by its monomial m
      module _ (j w : ℕ) (l : 1 ≤ j) (h : j ≤ count n v) (wl : 1 ≤ position w)
          (wh : position w ≤ count n v) where
        abbrev m : Monomial
        m = monomial_at n v (position w)

        abbrev e : ℕ
        e = exponent k m

        abbrev i : ℕ
        i = indicator (same (monomial_at n v j) (lower k m))

        contribution-is : f * (coefficient w * (e * i)) ≡ contribution j w
        unfolding contribution derived_value exponent_of lowered_place
        contribution-is = go (dec_lt 0 e)
          where
            c : ℕ
            c = coefficient w

            i' : ℕ
            i' = indicator (eqb (position_of n v (lower k m)) j)

            go : Dec (0 < e) → f * (c * (e * i)) ≡ c * e * f * i'
            go (yes pos) =
                let o = order-lower k m pos in
                let low : order (lower k m) ≤ n =
                omega (arith, order-monomial_at n v (position w) wl wh) in
                let long = length-lowered n v k (position w) wl wh in
                ap (λ (z : ℕ). f * (c * (e * z))) (place-indicator (lower k m) j long low l h)
                ∙ omega arith
            go (no pos) =
                let z : e ≡ 0 = omega arith in
                ap (λ (y : ℕ). f * (c * (y * i))) z
                ∙ sym (ap (λ (y : ℕ). c * y * f * i') z ∙ omega arith)

      pub derived_at-is : (es : List ℕ) (j : ℕ) → Placed (count n v) es → 1 ≤ j → j ≤ count n v
          → coefficient_of (monomial_at n v j) (scale f (derivative k (map (term_of n v) es)))
          ≡ derived_at es j
      unfolding coefficient_of derived_at
      derived_at-is es j pl l h =
          let P = map (term_of n v) es in
          let φ : Monomial → ℕ = λ a. indicator (same (monomial_at n v j) a) in
          let ψ : Monomial → ℕ = λ a. exponent k a * φ (lower k a) in
          weigh-scale f (derivative k P) φ
          ∙ ap (λ (z : ℕ). f * z) (weigh-derivative k P φ ∙ weigh-entries n v es ψ)
          ∙ sym (sum-scale f es _)
          ∙ sum-placed (count n v) es _ (contribution j) pl
          (λ w wl wh. contribution-is j w l h wl wh)
