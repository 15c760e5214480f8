-- The sums over pairs are the coefficients of the product of the polynomials (002, 5 and 12), and the pairs
-- that are counted are those within the order. A pair contributes to position j just where its monomials'
-- product is the monomial at j, since a monomial of order at most n has one place.
use Rattle.std.proofs.Common.{◌≡◌, refl, sym, ap, ap₂, ◌∙◌, List, [], ◌∷◌, map, ℕ, ◌+◌, ◌-◌, ◌*◌, ◌≤◌, mul_assoc, arith, eqb, eqb→eq, length, get_or, eq-eqb}
use Rattle.std.proofs.Math.Decide.{ℕ_discrete, dec_le}
use Rattle.algebra.specs.Sum.{sum_over}
use Rattle.algebra.specs.Polynomial.{Monomial, ◌⊕◌, order, same, indicator, weigh, coefficient_of, mul}
use Rattle.algebra.proofs.Sums.{sum-cong, sum-map, sum-scale}
use Rattle.algebra.proofs.Weigh.{weigh-mul}
use Rattle.algebra.proofs.Booleans.{indicator-yes, indicator-no}
use Rattle.algebra.proofs.Trim.{same_refl, same-eq}
use Rattle.monomial.specs.Count.{count}
use Rattle.monomial.specs.Table.{monomials, position_of, product_place}
use Rattle.monomial.proofs.Digits.{length-⊕}
use Rattle.monomial.proofs.Size.{length-monomials}
use Rattle.monomial.proofs.Places.{position_of-at, placed, position_of-none, product_place-is}
use Rattle.series.specs.Image.{position, coefficient, monomial_at, term_of, pair_count}
use Rattle.series.proofs.Positions.{length-monomial_at}
use Rattle.product.specs.Pairs.{order_of, pair_sum, pairs_within}
use Rattle.product.specs.Regions.{Placed}

-- sums over placed entries agree where the summands do
pub sum-placed : (N : ℕ) (es : List ℕ) (f g : ℕ → ℕ) → Placed N es
    → ((w : ℕ) → 1 ≤ position w → position w ≤ N → f w ≡ g w) → sum_over es f ≡ sum_over es g
unfolding sum_over
sum-placed N [] f g p h = refl
sum-placed N (w ∷ es) f g p h = ap₂ ◌+◌ (h w p.0.0 p.0.1) (sum-placed N es f g p.1 h)

module _ (n v : ℕ) where
  abbrev N : ℕ
  N = count n v

  -- ---- the monomial at a position

  pub position_of-monomial_at : (q : ℕ) → 1 ≤ q → q ≤ N → position_of n v (monomial_at n v q) ≡ q
  unfolding monomial_at
  position_of-monomial_at q l h = position_of-at n v (q - 1) (omega (arith, length-monomials n v)) ∙ omega arith

  monomial_at-index : (q i : ℕ) → q - 1 ≡ i → monomial_at n v q ≡ get_or (monomials n v) i []
  unfolding monomial_at
  monomial_at-index q i e = ap (λ (k : ℕ). get_or (monomials n v) k []) e

  -- a product stands at j just where it is the monomial at j
  module _ (a b : Monomial) (j : ℕ) (la : length a ≡ v) (lb : length b ≡ v) (l : 1 ≤ j) (h : j ≤ count n v) where
    is : product_place n v a b ≡ position_of n v (a ⊕ b)
    is = product_place-is n v a b la lb

    long : length (a ⊕ b) ≡ v
    long = length-⊕ a b (la ∙ sym lb) ∙ lb

    -- the place of the product leads back to it
    pub found : product_place n v a b ≡ j → Dec (order (a ⊕ b) ≤ n) → monomial_at n v j ≡ a ⊕ b
    found e (yes o) =
        let p = placed n v (a ⊕ b) long o in
        monomial_at-index j p.index (omega (arith, p.at, is)) ∙ p.is
    found e (no o) = absurd (omega (arith, is, position_of-none n v (a ⊕ b) (λ _ k. o k)))

    pub product_at : indicator (eqb (product_place n v a b) j) ≡ indicator (same (monomial_at n v j) (a ⊕ b))
    product_at = go (ℕ_discrete (product_place n v a b) j)
      where
        go : Dec (product_place n v a b ≡ j)
            → indicator (eqb (product_place n v a b) j) ≡ indicator (same (monomial_at n v j) (a ⊕ b))
        go (yes e) =
            indicator-yes (eqb (product_place n v a b) j) (rw (eq-eqb (product_place n v a b) j e) tt)
            ∙ sym (indicator-yes (same (monomial_at n v j) (a ⊕ b)) (rw (found e (dec_le (order (a ⊕ b)) n)) (same_refl (a ⊕ b))))
        go (no e) =
            indicator-no (eqb (product_place n v a b) j) (λ t. e (eqb→eq (product_place n v a b) j t))
            ∙ sym (indicator-no (same (monomial_at n v j) (a ⊕ b))
            (λ t. e (is ∙ ap (position_of n v) (sym (same-eq (monomial_at n v j) (a ⊕ b) (length-monomial_at n v j l h ∙ sym long) t)) ∙ position_of-monomial_at j l h)))

  -- ---- the polynomial that entries stand for

  pub weigh-entries : (es : List ℕ) (φ : Monomial → ℕ)
      → weigh (map (term_of n v) es) φ ≡ sum_over es (λ w. coefficient w * φ (monomial_at n v (position w)))
  unfolding weigh term_of
  weigh-entries es φ = sum-map (term_of n v) es _

  pub pair_sum-is : (xs ys : List ℕ) (j : ℕ) → Placed (count n v) xs → Placed (count n v) ys → 1 ≤ j → j ≤ count n v
      → pair_sum n v xs ys j ≡ coefficient_of (monomial_at n v j) (mul (map (term_of n v) xs) (map (term_of n v) ys))
  unfolding pair_sum coefficient_of
  pair_sum-is xs ys j px py l h =
      let m = monomial_at n v j in
      sum-placed (count n v) xs _ _ px (λ x xl xh.
      sum-placed (count n v) ys _ _ py (λ y yl yh.
      ap (λ (z : ℕ). coefficient x * coefficient y * z)
      (product_at (monomial_at n v (position x)) (monomial_at n v (position y)) j (length-monomial_at n v (position x) xl xh) (length-monomial_at n v (position y) yl yh) l h)
      ∙ mul_assoc (coefficient x) (coefficient y) _)
      ∙ sum-scale (coefficient x) ys _
      ∙ ap (λ (z : ℕ). coefficient x * z) (sym (weigh-entries ys (λ b. indicator (same m (monomial_at n v (position x) ⊕ b))))))
      ∙ sym (weigh-entries xs (λ a. weigh (map (term_of n v) ys) (λ b. indicator (same m (a ⊕ b)))))
      ∙ sym (weigh-mul (map (term_of n v) xs) (map (term_of n v) ys) (λ e. indicator (same m e)))

  pub pairs_within-is : (xs ys : List ℕ) → pairs_within n v n xs ys ≡ pair_count n (map (term_of n v) xs) (map (term_of n v) ys)
  unfolding pairs_within pair_count order_of term_of
  pairs_within-is xs ys =
      sym (sum-map (term_of n v) xs _ ∙ sum-cong xs (λ x. sum-map (term_of n v) ys _))
