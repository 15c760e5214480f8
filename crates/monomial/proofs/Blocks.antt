-- Where a code stands in a block. Its place counts the codes of smaller digit sum and the smaller codes of
-- the same digit sum, so it is the same in every block that holds the code: on this 002 (12) rests.
use Rattle.std.proofs.Common.{◌≡◌, refl, sym, ap, ◌∙◌, subst, List, [], ◌∷◌, ◌++◌, ℕ, zero, suc, ◌+◌, ◌^◌, ◌≤◌, ◌<◌, add-zero, arith, length, get_or, T, eqb, eqb→eq}
use Rattle.std.proofs.Math.Dec.{eqb_refl}
use Rattle.monomial.specs.Enumeration.{upto}
use Rattle.monomial.specs.Table.{digit_sum, hit, of_order, block}
use Rattle.monomial.proofs.Upto.{upto-prefix, upto-at, inside, locate, only-true, only-member}
use Rattle.monomial.proofs.Digits.{digit_sum-zero}

module _ (b h : ℕ) where
  -- how many codes of c's digit sum stand below c
  abbrev pub smaller : ℕ → ℕ
  smaller c = length (upto (hit b h (digit_sum b h c)) c)

  -- the place of c, from 0, in every block that holds it
  abbrev pub rank : ℕ → ℕ
  rank c = length (upto (of_order b h) (digit_sum b h c)) + smaller c

  pub hit-yes : (s c : ℕ) → digit_sum b h c ≡ s → hit b h s c ≡ c ∷ []
  unfolding hit
  hit-yes s c e =
      only-true (eqb (digit_sum b h c) s) (c ∷ []) (subst (λ (x : ℕ). T (eqb (digit_sum b h c) x)) e (eqb_refl (digit_sum b h c)))

  pub hit-member : (s c j : ℕ) → j < length (hit b h s c) → digit_sum b h c ≡ s
  unfolding hit
  hit-member s c j k = eqb→eq (digit_sum b h c) s (only-member (eqb (digit_sum b h c) s) (c ∷ []) j k)

  of_order-at : (c : ℕ) → c < b ^ h
      → (smaller c < length (of_order b h (digit_sum b h c))) × (get_or (of_order b h (digit_sum b h c)) (smaller c) 0 ≡ c)
  unfolding of_order
  of_order-at c l =
      let f = hit b h (digit_sum b h c) in
      let one = hit-yes (digit_sum b h c) c refl in
      let pos : zero < length (f c) = omega (arith, ap length one) in (
        omega (arith, inside f (b ^ h) c 0 l pos),
        ap (λ (x : ℕ). get_or (upto f (b ^ h)) x 0) (sym (add-zero (smaller c)))
            ∙ upto-at f 0 (b ^ h) c 0 l pos
            ∙ ap (λ (x : List ℕ). get_or x 0 0) one,
      )

  of_order-back : (s p : ℕ) → p < length (of_order b h s)
      → (c : ℕ) × (c < b ^ h) × (digit_sum b h c ≡ s) × (p ≡ smaller c) × (get_or (of_order b h s) p 0 ≡ c)
  unfolding of_order
  of_order-back s p l =
      let f = hit b h s in
      let r = locate f (b ^ h) p l in
      let e = hit-member s r.0 r.1 r.3 in
      let one = hit-yes s r.0 e in
      let z : r.1 ≡ 0 = omega (arith, ap length one, r.3) in
      let pl : p ≡ length (upto f r.0) = omega (arith, r.4) in (
        r.0,
        r.2,
        e,
        pl ∙ ap (λ (x : ℕ). length (upto (hit b h x) r.0)) (sym e),
        ap (λ (x : ℕ). get_or (upto f (b ^ h)) x 0) r.4
            ∙ upto-at f 0 (b ^ h) r.0 r.1 r.2 r.3
            ∙ ap (λ (x : List ℕ). get_or x r.1 0) one
            ∙ ap (λ (x : ℕ). get_or (r.0 ∷ []) x 0) z,
      )

  pub block_at : (r c : ℕ) → c < b ^ h → digit_sum b h c ≤ r
      → (rank c < length (block b h r)) × (get_or (block b h r) (rank c) 0 ≡ c)
  unfolding block
  block_at r c l o =
      let e = of_order-at c l in
      let s = digit_sum b h c in (
        inside (of_order b h) (suc r) s (smaller c) (omega arith) e.0,
        upto-at (of_order b h) 0 (suc r) s (smaller c) (omega arith) e.0 ∙ e.1,
      )

  pub block_back : (r p : ℕ) → p < length (block b h r)
      → (c : ℕ) × (c < b ^ h) × (digit_sum b h c ≤ r) × (p ≡ rank c) × (get_or (block b h r) p 0 ≡ c)
  unfolding block
  block_back r p l =
      let q = locate (of_order b h) (suc r) p l in
      let e = of_order-back q.0 q.1 q.3 in (
        e.0,
        e.1,
        omega (arith, e.2, q.2),
        q.4
            ∙ ap (λ (x : ℕ). length (upto (of_order b h) q.0) + x) e.3
            ∙ ap (λ (x : ℕ). length (upto (of_order b h) x) + smaller e.0) (sym e.2),
        ap (λ (x : ℕ). get_or (upto (of_order b h) (suc r)) x 0) q.4
            ∙ upto-at (of_order b h) 0 (suc r) q.0 q.1 q.2 q.3
            ∙ e.4,
      )

  -- a block of lower order begins one of higher order
  pub block-prefix : (r' r : ℕ) → r' ≤ r → (rest : List ℕ) × (block b h r ≡ block b h r' ++ rest)
  unfolding block
  block-prefix r' r l = upto-prefix (of_order b h) (suc r') (suc r) (omega arith)

  pub rank-zero : rank 0 ≡ 0
  unfolding upto
  rank-zero = ap (λ (x : ℕ). length (upto (of_order b h) x) + 0) (digit_sum-zero b h)
