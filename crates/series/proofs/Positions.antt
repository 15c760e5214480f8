-- Positions 1 to N are the monomials of v variables and of order at most n, each once, and position
-- 1 is that of the constant. So polynomials in v variables with the same coefficients at all
-- positions agree: any other monomial of order at most n has coefficient 0 in both.
use Rattle.std.proofs.Common.{◌≡◌, refl, sym, ap, ◌∙◌, [], ◌∷◌, ◌++◌, ℕ, zero, suc, ◌+◌, ◌-◌, ◌*◌, ◌%◌, ◌≤◌, ◌<◌, arith, T, length, get_or, replicate, length-append}
use Rattle.std.proofs.Math.Decide.{dec_le}
use Rattle.std.proofs.Math.ListN.{length-replicate}
use Rattle.algebra.specs.Sum.{sum_over}
use Rattle.algebra.specs.Polynomial.{Monomial, Polynomial, order, trim_cons, trim, equal, same, indicator, weigh, coefficient_of}
use Rattle.algebra.specs.Agreement.{Agree, Within}
use Rattle.algebra.proofs.Booleans.{indicator-no}
use Rattle.algebra.proofs.Trim.{order-trim, trim-trim, trim-order_zero, same_to_trim, same-eq}
use Rattle.algebra.proofs.Modulo.{mod-cong}
use Rattle.algebra.proofs.Coefficients.{same_to_agree}
use Rattle.monomial.specs.Enumeration.{upto}
use Rattle.monomial.specs.Count.{count, half}
use Rattle.monomial.specs.Table.{monomial_of, monomials}
use Rattle.monomial.proofs.Digits.{digit_sum-zero}
use Rattle.monomial.proofs.Blocks.{rank, rank-zero}
use Rattle.monomial.proofs.Address.{address, before, codes-positive, order-monomial_of}
use Rattle.monomial.proofs.Places.{length_at, order-at, once, placed}
use Rattle.monomial.proofs.Size.{length-monomials}
use Rattle.series.specs.Image.{monomial_at}

-- ---- monomials up to zeros at their end

length-trim_cons : (x : ℕ) (a : Monomial) → length (trim_cons x a) ≤ suc (length a)
unfolding trim_cons
length-trim_cons zero [] = omega arith
length-trim_cons (suc x) [] = omega arith
length-trim_cons x (y ∷ a) = omega arith

length-trim : (a : Monomial) → length (trim a) ≤ length a
unfolding trim
length-trim [] = omega arith
length-trim (x ∷ a) = omega (arith, length-trim_cons x (trim a), length-trim a)

trim-zeros : (k : ℕ) → trim (replicate k 0) ≡ []
unfolding trim trim_cons
trim-zeros zero = refl
trim-zeros (suc k) = ap (trim_cons 0) (trim-zeros k)

trim-padded : (a : Monomial) (k : ℕ) → trim (a ++ replicate k 0) ≡ trim a
unfolding trim
trim-padded [] k = trim-zeros k
trim-padded (x ∷ a) k = ap (trim_cons x) (trim-padded a k)

pub coefficient_of-trim : (a b : Monomial) (P : Polynomial) → trim a ≡ trim b
    → coefficient_of a P ≡ coefficient_of b P
unfolding coefficient_of same
coefficient_of-trim a b P e =
    ap (λ (t : Monomial). weigh P (λ c. indicator (equal t (trim c)))) e

-- a monomial in more variables than P has
coefficient_of-outside : (v : ℕ) (m : Monomial) → v < length (trim m)
    → (P : Polynomial) → Within v P → coefficient_of m P ≡ 0
unfolding coefficient_of weigh sum_over
coefficient_of-outside v m l [] w = refl
coefficient_of-outside v m l (t ∷ P) w =
    let e = t.exponents in
    let differs : T (same m e) → ⊥ =
    λ s. omega (arith, ap length (same_to_trim m e s), length-trim e, w.0) in
    let z = ap (λ (x : ℕ). t.coefficient * x) (indicator-no (same m e) differs) in
    omega (arith, coefficient_of-outside v m l P w.1)

module _ (n v : ℕ) where
  -- ---- the monomial at a position

  module _ (q : ℕ) (low : 0 < q) (high : q ≤ count n v) where
    index : q - 1 < length (monomials n v)
    index = omega (arith, length-monomials n v)

    pub length-monomial_at : length (monomial_at n v q) ≡ v
    unfolding monomial_at
    length-monomial_at = length_at n v (q - 1) index

    pub order-monomial_at : order (monomial_at n v q) ≤ n
    unfolding monomial_at
    order-monomial_at = order-at n v (q - 1) index

  -- two positions of one monomial are one
  pub monomial_at-once : (q r : ℕ) → 0 < q → q ≤ count n v → 0 < r → r ≤ count n v
      → T (same (monomial_at n v q) (monomial_at n v r)) → q ≡ r
  unfolding monomial_at
  monomial_at-once q r a b c d t =
      let l = length-monomial_at q a b ∙ sym (length-monomial_at r c d) in
      let e = same-eq (monomial_at n v q) (monomial_at n v r) l t in
      omega (arith, once n v (q - 1) (r - 1) (index q a b) (index r c d) e)

  pub record Positioned (m : Monomial) : Type 0 where
    pub q : ℕ
    pub low : 0 < q
    pub high : q ≤ count n v
    pub is : monomial_at n v q ≡ m

  pub positioned : (m : Monomial) → length m ≡ v → order m ≤ n → Positioned m
  unfolding monomial_at
  positioned m e l =
      let r = placed n v m e l in
      record {
        q = suc r.index;
        low = omega arith;
        high = omega (arith, r.inside, length-monomials n v);
        is = ap (λ (i : ℕ). get_or (monomials n v) i []) (omega arith) ∙ r.is;
      }

  -- ---- position 1

  -- the monomial whose codes are both 0 stands first
  first : (before n v 0 + rank (n + 1) (half v) 0 < length (monomials n v))
      × (get_or (monomials n v) (before n v 0 + rank (n + 1) (half v) 0) [] ≡ monomial_of n v 0 0)
  first =
      address n v 0 0 (codes-positive n (half v)) (codes-positive n (v - half v))
      (omega (arith, digit_sum-zero (n + 1) (half v), digit_sum-zero (n + 1) (v - half v)))

  pub count-positive : 0 < count n v
  count-positive = omega (arith, first.0, length-monomials n v)

  pub order-first : order (monomial_at n v 1) ≡ 0
  unfolding monomial_at upto
  order-first =
      let i = before n v 0 + rank (n + 1) (half v) 0 in
      let e : 0 ≡ i = omega (arith, rank-zero (n + 1) (half v)) in
      ap (λ (j : ℕ). order (get_or (monomials n v) j [])) e
      ∙ ap order first.1
      ∙ order-monomial_of n v 0 0
      ∙ omega (arith, digit_sum-zero (n + 1) (half v), digit_sum-zero (n + 1) (v - half v))

  pub coefficient_of-first : (P : Polynomial)
      → coefficient_of (monomial_at n v 1) P ≡ coefficient_of [] P
  unfolding trim
  coefficient_of-first P =
      let m = monomial_at n v 1 in
      coefficient_of-trim m [] P (trim-order_zero m (omega (arith, order-first)))

  -- ---- the same coefficients at all positions

  module _ (p : ℕ) (P Q : Polynomial) (within-P : Within v P) (within-Q : Within v Q)
      (same_here : (q : ℕ) → 0 < q → q ≤ count n v
      → coefficient_of (monomial_at n v q) P % p ≡ coefficient_of (monomial_at n v q) Q % p) where
    at-order : (m : Monomial) → order m ≤ n → Dec (length (trim m) ≤ v)
        → coefficient_of m P % p ≡ coefficient_of m Q % p
    at-order m o (yes l) =
        let z = v - length (trim m) in
        let k = trim m ++ replicate z 0 in
        let len : length k ≡ v =
        length-append (trim m) (replicate z 0) ∙ omega (arith, length-replicate {A = ℕ} z 0) in
        let t : trim m ≡ trim k = sym (trim-trim m) ∙ sym (trim-padded (trim m) z) in
        let r = positioned k len (omega (arith, order-trim m, order-trim k, ap order t)) in
        let at = monomial_at n v r.q in
        let e : trim m ≡ trim at = t ∙ ap trim (sym r.is) in
        mod-cong p (coefficient_of-trim m at P e)
        ∙ same_here r.q r.low r.high
        ∙ mod-cong p (sym (coefficient_of-trim m at Q e))
    at-order m o (no l) =
        mod-cong p
        (coefficient_of-outside v m (omega arith) P within-P
        ∙ sym (coefficient_of-outside v m (omega arith) Q within-Q))

    pub agree_by_positions : Agree p (suc n) P Q
    agree_by_positions =
        same_to_agree p n (record { at_low = λ m o. at-order m o (dec_le (length (trim m)) v) })
