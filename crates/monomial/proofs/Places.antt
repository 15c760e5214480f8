-- Places and monomials lead to each other and back, and D1 and D2 lead to the place of a product (002, 12).
-- The first monomial with C1 = x stands in the block of C2 = 0, the first with C2 = y begins its block.
use Rattle.std.proofs.Common.{◌≡◌, refl, sym, ap, ap₂, ◌∙◌, subst, List, [], ◌∷◌, Bool, true, false, ℕ, zero, suc, pred, ◌+◌, ◌-◌, ◌^◌, ◌≤◌, ◌<◌, arith, length, get_or, T, eqb, eqb→eq, leb, leb→le, le→leb}
use Rattle.std.proofs.Math.Dec.{eqb_refl}
use Rattle.algebra.specs.Polynomial.{Monomial, order, equal, ◌⊕◌}
use Rattle.algebra.proofs.Trim.{equal-refl, equal_to_eq}
use Rattle.algebra.proofs.Monomials.{order-⊕}
use Rattle.monomial.specs.Enumeration.{upto, further, first_or, first_position}
use Rattle.monomial.specs.Count.{half}
use Rattle.monomial.specs.Table.{monomial_of, monomials, position_of, C1, C2, D1, D2, or_zero, product_place, Stands}
use Rattle.monomial.proofs.Digits.{digit_sum-zero, code-⊕, take-⊕, drop-⊕, length-⊕}
use Rattle.monomial.proofs.Blocks.{rank, rank-zero}
use Rattle.monomial.proofs.Address.{order1, order2, before, address, address_back, codes-positive, C1-monomial_of, C2-monomial_of, coded, length-monomial_of, order-monomial_of}

-- ---- the first member that passes a test

module _ {ℓ} {A : Type ℓ} (t : A → Bool) (d : A) where
  pub first_position-here : (x : A) (xs : List A) → T (t x) → first_position t (x ∷ xs) ≡ 1
  unfolding first_position
  first_position-here x xs h = go (t x) h
    where
      go : (b : Bool) → T b → first_or b (first_position t xs) ≡ 1
      go true h = refl
      go false h = absurd h

  pub first_position-later : (x : A) (xs : List A) → (T (t x) → ⊥) → first_position t (x ∷ xs) ≡ further (first_position t xs)
  unfolding first_position
  first_position-later x xs ne = go (t x) ne
    where
      go : (b : Bool) → (T b → ⊥) → first_or b (first_position t xs) ≡ further (first_position t xs)
      go true h = absurd (h tt)
      go false h = refl

  pub first_position-at : (xs : List A) (q : ℕ) → q < length xs → T (t (get_or xs q d))
      → ((i : ℕ) → i < length xs → T (t (get_or xs i d)) → q ≤ i) → first_position t xs ≡ suc q
  first_position-at [] q l e m = absurd (omega arith)
  first_position-at (x ∷ xs) zero l e m = first_position-here x xs e
  first_position-at (x ∷ xs) (suc q) l e m =
      first_position-later x xs (λ z. let k = m 0 (omega arith) z in omega arith)
      ∙ ap further (first_position-at xs q (omega arith) e (λ i k z. let r = m (suc i) (omega arith) z in omega arith))

  pub first_position-none : (xs : List A) → ((i : ℕ) → i < length xs → T (t (get_or xs i d)) → ⊥) → first_position t xs ≡ 0
  unfolding first_position
  first_position-none [] m = refl
  first_position-none (x ∷ xs) m =
      first_position-later x xs (m 0 (omega arith)) ∙ ap further (first_position-none xs (λ i k z. m (suc i) (omega arith) z))

eqb_eq : (c d : ℕ) → c ≡ d → T (eqb c d)
eqb_eq c d e = subst (λ (z : ℕ). T (eqb c z)) e (eqb_refl c)

module _ (n v : ℕ) where
  -- ---- what stands at an index

  pub C1-at : (p : ℕ) (l : p < length (monomials n v)) → C1 n v (get_or (monomials n v) p []) ≡ (address_back n v p l).x
  C1-at p l = let a = address_back n v p l in ap (C1 n v) a.is ∙ C1-monomial_of n v a.y a.x a.x_small

  pub C2-at : (p : ℕ) (l : p < length (monomials n v)) → C2 n v (get_or (monomials n v) p []) ≡ (address_back n v p l).y
  C2-at p l = let a = address_back n v p l in ap (C2 n v) a.is ∙ C2-monomial_of n v a.y a.x a.y_small

  pub length_at : (p : ℕ) → p < length (monomials n v) → length (get_or (monomials n v) p []) ≡ v
  length_at p l = let a = address_back n v p l in ap length a.is ∙ length-monomial_of n v a.y a.x

  pub order-at : (p : ℕ) → p < length (monomials n v) → order (get_or (monomials n v) p []) ≤ n
  order-at p l =
      let a = address_back n v p l in
      omega (arith, ap order a.is, order-monomial_of n v a.y a.x, a.low)

  -- ---- D1 and D2

  before-zero : before n v 0 ≡ 0
  unfolding upto
  before-zero = refl

  pub D1-low : (x : ℕ) → x < (n + 1) ^ half v → order1 n v x ≤ n → D1 n v x ≡ suc (rank (n + 1) (half v) x)
  unfolding D1
  D1-low x lx o =
      let r = rank (n + 1) (half v) x in
      let z = codes-positive n (v - half v) in
      let a = address n v x 0 lx z (omega (arith, digit_sum-zero (n + 1) (v - half v))) in
      let e : before n v 0 + r ≡ r = omega (arith, before-zero) in
      let here : get_or (monomials n v) r [] ≡ monomial_of n v 0 x =
      ap (λ (i : ℕ). get_or (monomials n v) i []) (sym e) ∙ a.1 in
      first_position-at (λ m. eqb x (C1 n v m)) [] (monomials n v) r (omega (arith, a.0, before-zero))
      (eqb_eq x _ (sym (ap (C1 n v) here ∙ C1-monomial_of n v 0 x lx)))
      (λ i l t.
      let b = address_back n v i l in
      let xe : b.x ≡ x = sym (C1-at i l) ∙ sym (eqb→eq x _ t) in
      omega (arith, b.index, ap (rank (n + 1) (half v)) xe))

  pub D1-none : (x : ℕ) → (x < (n + 1) ^ half v → order1 n v x ≤ n → ⊥) → D1 n v x ≡ 0
  unfolding D1
  D1-none x never =
      first_position-none (λ m. eqb x (C1 n v m)) [] (monomials n v) (λ i l t.
      let b = address_back n v i l in
      let xe : b.x ≡ x = sym (C1-at i l) ∙ sym (eqb→eq x _ t) in
      never (subst (λ (z : ℕ). z < (n + 1) ^ half v) xe b.x_small) (omega (arith, b.low, ap (order1 n v) xe)))

  pub D2-low : (y : ℕ) → y < (n + 1) ^ (v - half v) → order2 n v y ≤ n → D2 n v y ≡ before n v y
  unfolding D2
  D2-low y ly o =
      let z = codes-positive n (half v) in
      let a = address n v 0 y z ly (omega (arith, digit_sum-zero (n + 1) (half v))) in
      let e : before n v y + rank (n + 1) (half v) 0 ≡ before n v y = omega (arith, rank-zero (n + 1) (half v)) in
      let here : get_or (monomials n v) (before n v y) [] ≡ monomial_of n v y 0 =
      ap (λ (i : ℕ). get_or (monomials n v) i []) (sym e) ∙ a.1 in
      ap pred
      (first_position-at (λ m. eqb y (C2 n v m)) [] (monomials n v) (before n v y) (omega (arith, a.0, rank-zero (n + 1) (half v)))
      (eqb_eq y _ (sym (ap (C2 n v) here ∙ C2-monomial_of n v y 0 ly)))
      (λ i l t.
      let b = address_back n v i l in
      let ye : b.y ≡ y = sym (C2-at i l) ∙ sym (eqb→eq y _ t) in
      omega (arith, b.index, ap (before n v) ye)))

  pub D2-none : (y : ℕ) → (y < (n + 1) ^ (v - half v) → order2 n v y ≤ n → ⊥) → D2 n v y ≡ 0
  unfolding D2
  D2-none y never =
      ap pred
      (first_position-none (λ m. eqb y (C2 n v m)) [] (monomials n v) (λ i l t.
      let b = address_back n v i l in
      let ye : b.y ≡ y = sym (C2-at i l) ∙ sym (eqb→eq y _ t) in
      never (subst (λ (z : ℕ). z < (n + 1) ^ (v - half v)) ye b.y_small) (omega (arith, b.low, ap (order2 n v) ye))))

  -- ---- each monomial of order at most n stands at one index, and D1 and D2 lead there

  by_codes_at : (p : ℕ) (l : p < length (monomials n v))
      → D1 n v (C1 n v (get_or (monomials n v) p [])) + D2 n v (C2 n v (get_or (monomials n v) p [])) ≡ suc p
  by_codes_at p l =
      let a = address_back n v p l in
      ap₂ (λ (x y : ℕ). D1 n v x + D2 n v y) (C1-at p l) (C2-at p l)
      ∙ omega (arith, D1-low a.x a.x_small (omega (arith, a.low)), D2-low a.y a.y_small (omega (arith, a.low)), a.index)

  -- no monomial stands twice
  pub once : (p q : ℕ) → p < length (monomials n v) → q < length (monomials n v)
      → get_or (monomials n v) p [] ≡ get_or (monomials n v) q [] → p ≡ q
  once p q lp lq e =
      omega (arith, by_codes_at p lp, by_codes_at q lq, ap (λ (m : Monomial). D1 n v (C1 n v m) + D2 n v (C2 n v m)) e)

  -- from a place to the monomial, and back
  pub position_of-at : (p : ℕ) → p < length (monomials n v) → position_of n v (get_or (monomials n v) p []) ≡ suc p
  unfolding position_of
  position_of-at p l =
      let m = get_or (monomials n v) p [] in
      first_position-at (equal m) [] (monomials n v) p l (equal-refl m)
      (λ i k t. omega (arith, once p i l k (equal_to_eq m (get_or (monomials n v) i []) t)))

  -- from a monomial to its place, and back
  pub placed : (m : Monomial) → length m ≡ v → order m ≤ n → Stands n v m
  placed m e o =
      let c = coded n v m e o in
      let a = address n v (C1 n v m) (C2 n v m) c.first c.second (omega (arith, c.orders)) in
      let i = before n v (C2 n v m) + rank (n + 1) (half v) (C1 n v m) in
      let is : get_or (monomials n v) i [] ≡ m = a.1 ∙ c.again in
      record {
        index = i;
        inside = a.0;
        is = is;
        by_codes = ap (λ (k : Monomial). D1 n v (C1 n v k) + D2 n v (C2 n v k)) (sym is) ∙ by_codes_at i a.0;
        at = ap (position_of n v) (sym is) ∙ position_of-at i a.0;
      }

  -- a monomial of another length or of a higher order has no place
  pub position_of-none : (m : Monomial) → (length m ≡ v → order m ≤ n → ⊥) → position_of n v m ≡ 0
  unfolding position_of
  position_of-none m never =
      first_position-none (equal m) [] (monomials n v) (λ i l t.
      let e : m ≡ get_or (monomials n v) i [] = equal_to_eq m (get_or (monomials n v) i []) t in
      never (ap length e ∙ length_at i l) (omega (arith, ap order e, order-at i l)))

  -- ---- products

  pub C1-⊕ : (a b : Monomial) → C1 n v (a ⊕ b) ≡ C1 n v a + C1 n v b
  unfolding C1
  C1-⊕ a b = rw (take-⊕, code-⊕)

  pub C2-⊕ : (a b : Monomial) → C2 n v (a ⊕ b) ≡ C2 n v a + C2 n v b
  unfolding C2
  C2-⊕ a b = rw (drop-⊕, code-⊕)

  -- 002 (12)
  pub product-place : (a b : Monomial) → length a ≡ v → length b ≡ v → order a + order b ≤ n
      → position_of n v (a ⊕ b) ≡ D1 n v (C1 n v a + C1 n v b) + D2 n v (C2 n v a + C2 n v b)
  product-place a b la lb o =
      let p = placed (a ⊕ b) (length-⊕ a b (la ∙ sym lb) ∙ lb) (omega (arith, order-⊕ a b)) in
      p.at ∙ sym p.by_codes ∙ ap₂ (λ (x y : ℕ). D1 n v x + D2 n v y) (C1-⊕ a b) (C2-⊕ a b)

  -- with the test of the order, for every two monomials
  pub product_place-is : (a b : Monomial) → length a ≡ v → length b ≡ v → product_place n v a b ≡ position_of n v (a ⊕ b)
  unfolding product_place
  product_place-is a b la lb = go (leb (order a + order b) n) refl
    where
      go : (t : Bool) → leb (order a + order b) n ≡ t
          → or_zero t (D1 n v (C1 n v a + C1 n v b) + D2 n v (C2 n v a + C2 n v b)) ≡ position_of n v (a ⊕ b)
      go true e = sym (product-place a b la lb (leb→le (order a + order b) n (subst T (sym e) tt)))
      go false e =
          sym (position_of-none (a ⊕ b) (λ _ o. subst T e (le→leb (order a + order b) n (omega (arith, order-⊕ a b)))))
