-- What a right table says of the monomial at a position, and of the product of two.
use Rattle.std.proofs.Common.{◌≡◌, sym, ap, ◌∙◌, List, ℕ, suc, ◌+◌, ◌-◌, ◌^◌, ◌≤◌, ◌<◌, arith, length, get_or, le-leb}
use Rattle.std.proofs.Math.Nat.{pow-le-pow_right}
use Rattle.algebra.specs.Polynomial.{Monomial, ◌⊕◌, order}
use Rattle.algebra.proofs.Monomials.{order-⊕}
use Rattle.monomial.specs.Count.{count, codes, words, half}
use Rattle.monomial.specs.Table.{C1, C2, D1, D2, table_words, product_place}
use Rattle.monomial.proofs.Digits.{length-⊕}
use Rattle.monomial.proofs.Size.{length-monomials}
use Rattle.monomial.proofs.Words.{word-C1, word-C2, word-D1, word-D2}
use Rattle.monomial.proofs.Address.{Coded, coded}
use Rattle.monomial.proofs.Places.{C1-⊕, C2-⊕, placed, product-place}
use Rattle.series.specs.Image.{monomial_at}
use Rattle.counts.specs.Tables.{Right}
use Rattle.series.proofs.Positions.{length-monomial_at, order-monomial_at}

module _ (n v : ℕ) (t : List ℕ) (right : Right n v t) where
  abbrev N : ℕ
  N = count n v

  abbrev E : ℕ
  E = codes n v

  size : words n v ≡ N + N + E + E
  unfolding words
  size = omega arith

  -- second codes are among the codes too
  second-small : (c : ℕ) → c < (n + 1) ^ (v - half v) → c < codes n v
  unfolding codes
  second-small c l =
      omega (arith, pow-le-pow_right {n = n + 1} (omega arith) {i = v - half v} {j = half v} (omega (arith, right.allowed.v_low)))

  module _ (q : ℕ) (l : 1 ≤ q) (h : q ≤ count n v) where
    m : Monomial
    m = monomial_at n v q

    c : Coded n v (monomial_at n v q)
    c = coded n v (monomial_at n v q) (length-monomial_at n v q l h) (order-monomial_at n v q l h)

    pub first_word : get_or t (q - 1) 0 ≡ C1 n v (monomial_at n v q)
    unfolding monomial_at
    first_word = right.word (q - 1) (omega (arith, size)) ∙ word-C1 n v (q - 1) (omega arith)

    pub second_word : get_or t (count n v + (q - 1)) 0 ≡ C2 n v (monomial_at n v q)
    unfolding monomial_at
    second_word = right.word (N + (q - 1)) (omega (arith, size)) ∙ word-C2 n v (q - 1) (omega arith)

    pub first_small : C1 n v (monomial_at n v q) < codes n v
    unfolding codes
    first_small = c.first

    pub second_below : C2 n v (monomial_at n v q) < codes n v
    second_below = second-small (C2 n v (monomial_at n v q)) c.second

  -- ---- two monomials whose orders add to at most n

  module _ (a b : Monomial) (la : length a ≡ v) (lb : length b ≡ v) (o : order a + order b ≤ n) where
    long : length (a ⊕ b) ≡ v
    long = length-⊕ a b (la ∙ sym lb) ∙ lb

    cc-⊕ : Coded n v (a ⊕ b)
    cc-⊕ = coded n v (a ⊕ b) long (omega (arith, order-⊕ a b))

    pub first-sum : C1 n v a + C1 n v b < codes n v
    unfolding codes
    first-sum = omega (arith, cc-⊕.first, C1-⊕ n v a b)

    pub second-sum : C2 n v a + C2 n v b < codes n v
    second-sum = second-small (C2 n v a + C2 n v b) (omega (arith, cc-⊕.second, C2-⊕ n v a b))

    pub D1-word : get_or t (count n v + count n v + C1 n v a + C1 n v b) 0 ≡ D1 n v (C1 n v a + C1 n v b)
    D1-word =
        right.word (N + N + C1 n v a + C1 n v b) (omega (arith, size, first-sum))
        ∙ ap (λ (i : ℕ). get_or (table_words n v) i 0) {y = N + (N + (C1 n v a + C1 n v b))} (omega arith)
        ∙ word-D1 n v (C1 n v a + C1 n v b) first-sum

    pub D2-word : get_or t (count n v + count n v + codes n v + C2 n v a + C2 n v b) 0 ≡ D2 n v (C2 n v a + C2 n v b)
    D2-word =
        right.word (N + N + E + C2 n v a + C2 n v b) (omega (arith, size, second-sum))
        ∙ ap (λ (i : ℕ). get_or (table_words n v) i 0) {y = N + (N + (E + (C2 n v a + C2 n v b)))} (omega arith)
        ∙ word-D2 n v (C2 n v a + C2 n v b) second-sum

    pub product_place-low : product_place n v a b ≡ D1 n v (C1 n v a + C1 n v b) + D2 n v (C2 n v a + C2 n v b)
    unfolding product_place
    product_place-low = rw (le-leb (order a + order b) n o)

    pub product_place-inside : (1 ≤ product_place n v a b) × (product_place n v a b ≤ count n v)
    product_place-inside =
        let p = placed n v (a ⊕ b) long (omega (arith, order-⊕ a b)) in
        let e : product_place n v a b ≡ suc p.index = product_place-low ∙ sym (product-place n v a b la lb o) ∙ p.at in
        (omega (arith, e), omega (arith, e, p.inside, length-monomials n v))
