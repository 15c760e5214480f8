-- Where a monomial stands: after the blocks of smaller C2, at the rank of its C1; and back from a place to
-- the codes of the monomial there.
use Rattle.std.proofs.Common.{◌≡◌, refl, sym, ap, ap₂, ◌∙◌, subst, List, [], ◌∷◌, ◌++◌, map, ℕ, zero, suc, ◌+◌, ◌-◌, ◌^◌, ◌≤◌, ◌<◌, arith, length, get_or, take, drop, length-append, length-take, length-drop, take-append-drop, take_at, drop_at, leb, leb→le, le→leb}
use Rattle.std.proofs.Math.Nat.{one-le-pow}
use Rattle.std.proofs.Math.ListN.{length-map, get_or-map}
use Rattle.algebra.specs.Polynomial.{Monomial, order}
use Rattle.monomial.specs.Enumeration.{upto}
use Rattle.monomial.specs.Count.{half}
use Rattle.monomial.specs.Table.{digits, digit_sum, code, block, monomial_of, monomials_of, monomials, C1, C2}
use Rattle.monomial.proofs.Upto.{upto-at, inside, locate, only-true, only-false, only-member}
use Rattle.monomial.proofs.Digits.{length_digits, order-digits, order-append, code-order, digits-code, code-digits}
use Rattle.monomial.proofs.Blocks.{rank, block_at, block_back}

get_d_any {ℓ} : {A : Type ℓ} (l : List A) (i : ℕ) (d e : A) → i < length l → get_or l i d ≡ get_or l i e
get_d_any [] i d e h = absurd (omega arith)
get_d_any (x ∷ l) zero d e h = refl
get_d_any (x ∷ l) (suc i) d e h = get_d_any l i d e (omega arith)

pub codes-positive : (n k : ℕ) → zero < (n + 1) ^ k
codes-positive n k = one-le-pow k (n + 1) (omega arith)

module _ (n v : ℕ) where
  -- the digit sums of first and of second codes
  abbrev pub order1 : ℕ → ℕ
  order1 x = digit_sum (n + 1) (half v) x

  abbrev pub order2 : ℕ → ℕ
  order2 y = digit_sum (n + 1) (v - half v) y

  -- how many monomials stand before those of second code y
  abbrev pub before : ℕ → ℕ
  before y = length (upto (monomials_of n v) y)

  -- ---- the monomial of two codes

  pub length-monomial_of : (y x : ℕ) → length (monomial_of n v y x) ≡ v
  unfolding monomial_of
  length-monomial_of y x =
      let s = digits (n + 1) (half v) x in
      let t = digits (n + 1) (v - half v) y in
      omega (arith, length-append s t, length_digits (n + 1) (half v) x, length_digits (n + 1) (v - half v) y)

  pub order-monomial_of : (y x : ℕ) → order (monomial_of n v y x) ≡ order1 x + order2 y
  unfolding monomial_of
  order-monomial_of y x =
      order-append (digits (n + 1) (half v) x) (digits (n + 1) (v - half v) y)
      ∙ ap₂ ◌+◌ (order-digits (n + 1) (half v) x) (order-digits (n + 1) (v - half v) y)

  pub C1-monomial_of : (y x : ℕ) → x < (n + 1) ^ half v → C1 n v (monomial_of n v y x) ≡ x
  unfolding C1 monomial_of
  C1-monomial_of y x l =
      ap (code (n + 1)) (take_at (digits (n + 1) (half v) x) _ (half v) (length_digits (n + 1) (half v) x))
      ∙ code-digits (n + 1) (half v) x (omega arith) l

  pub C2-monomial_of : (y x : ℕ) → y < (n + 1) ^ (v - half v) → C2 n v (monomial_of n v y x) ≡ y
  unfolding C2 monomial_of
  C2-monomial_of y x l =
      ap (code (n + 1)) (drop_at (digits (n + 1) (half v) x) _ (half v) (length_digits (n + 1) (half v) x))
      ∙ code-digits (n + 1) (v - half v) y (omega arith) l

  -- the codes of a monomial of order at most n, and the monomial again from them
  pub record Coded (m : Monomial) : Type 0 where
    pub first : C1 n v m < (n + 1) ^ half v
    pub second : C2 n v m < (n + 1) ^ (v - half v)
    pub orders : order1 (C1 n v m) + order2 (C2 n v m) ≡ order m
    pub again : monomial_of n v (C2 n v m) (C1 n v m) ≡ m

  pub coded : (m : Monomial) → length m ≡ v → order m ≤ n → Coded m
  unfolding C1 C2 monomial_of
  coded m e l =
      let h = half v in
      let whole : order (take h m) + order (drop h m) ≡ order m =
      sym (order-append (take h m) (drop h m)) ∙ ap order (take-append-drop h m) in
      let lp : length (take h m) ≡ h = length-take h m ∙ omega arith in
      let lq : length (drop h m) ≡ v - h = length-drop h m ∙ omega arith in
      let p = code-order (n + 1) (take h m) (omega arith) in
      let q = code-order (n + 1) (drop h m) (omega arith) in
      let c1 = code (n + 1) (take h m) in
      let c2 = code (n + 1) (drop h m) in
      record {
        first = subst (λ (z : ℕ). c1 < (n + 1) ^ z) lp p.1;
        second = subst (λ (z : ℕ). c2 < (n + 1) ^ z) lq q.1;
        orders = ap₂ (λ (y z : ℕ). digit_sum (n + 1) y c1 + digit_sum (n + 1) z c2) (sym lp) (sym lq)
            ∙ ap₂ ◌+◌ p.0 q.0
            ∙ whole;
        again = ap₂ (λ (y z : ℕ). digits (n + 1) y c1 ++ digits (n + 1) z c2) (sym lp) (sym lq)
            ∙ ap₂ ◌++◌ (digits-code (n + 1) (take h m) (omega arith)) (digits-code (n + 1) (drop h m) (omega arith))
            ∙ take-append-drop h m;
      }

  -- ---- the block of a second code

  pub monomials_of-low : (y : ℕ) → order2 y ≤ n
      → monomials_of n v y ≡ map (monomial_of n v y) (block (n + 1) (half v) (n - order2 y))
  unfolding monomials_of
  monomials_of-low y l = only-true (leb (order2 y) n) _ (le→leb (order2 y) n l)

  pub monomials_of-high : (y : ℕ) → n < order2 y → monomials_of n v y ≡ []
  unfolding monomials_of
  monomials_of-high y l = only-false (leb (order2 y) n) _ (λ t. omega (arith, leb→le (order2 y) n t))

  monomials_of-member : (y j : ℕ) → j < length (monomials_of n v y) → order2 y ≤ n
  unfolding monomials_of
  monomials_of-member y j l = leb→le (order2 y) n (only-member (leb (order2 y) n) _ j l)

  pub length-monomials_of : (y : ℕ) → order2 y ≤ n
      → length (monomials_of n v y) ≡ length (block (n + 1) (half v) (n - order2 y))
  length-monomials_of y l =
      ap length (monomials_of-low y l) ∙ length-map (block (n + 1) (half v) (n - order2 y)) (monomial_of n v y)

  monomials_of-at : (y j : ℕ) → order2 y ≤ n → j < length (block (n + 1) (half v) (n - order2 y))
      → get_or (monomials_of n v y) j [] ≡ monomial_of n v y (get_or (block (n + 1) (half v) (n - order2 y)) j 0)
  monomials_of-at y j o l =
      let bl = block (n + 1) (half v) (n - order2 y) in
      ap (λ (m : List Monomial). get_or m j []) (monomials_of-low y o)
      ∙ get_d_any (map (monomial_of n v y) bl) j [] (monomial_of n v y 0) (omega (arith, length-map bl (monomial_of n v y)))
      ∙ get_or-map (monomial_of n v y) bl j 0

  -- ---- from codes to the place, and back

  pub address : (x y : ℕ) → x < (n + 1) ^ half v → y < (n + 1) ^ (v - half v) → order1 x + order2 y ≤ n
      → (before y + rank (n + 1) (half v) x < length (monomials n v))
      × (get_or (monomials n v) (before y + rank (n + 1) (half v) x) [] ≡ monomial_of n v y x)
  unfolding monomials
  address x y lx ly o =
      let r = rank (n + 1) (half v) x in
      let q = block_at (n + 1) (half v) (n - order2 y) x lx (omega arith) in
      let l : r < length (monomials_of n v y) = omega (arith, length-monomials_of y (omega arith), q.0) in (
        inside (monomials_of n v) ((n + 1) ^ (v - half v)) y r ly l,
        upto-at (monomials_of n v) [] ((n + 1) ^ (v - half v)) y r ly l
            ∙ monomials_of-at y r (omega arith) q.0
            ∙ ap (monomial_of n v y) q.1,
      )

  -- the codes of the monomial at index p
  pub record At (p : ℕ) : Type 0 where
    pub x : ℕ
    pub y : ℕ
    pub x_small : x < (n + 1) ^ half v
    pub y_small : y < (n + 1) ^ (v - half v)
    pub low : order1 x + order2 y ≤ n
    pub index : p ≡ before y + rank (n + 1) (half v) x
    pub is : get_or (monomials n v) p [] ≡ monomial_of n v y x

  pub address_back : (p : ℕ) → p < length (monomials n v) → At p
  unfolding monomials
  address_back p l =
      let r = locate (monomials_of n v) ((n + 1) ^ (v - half v)) p l in
      let y = r.0 in
      let o = monomials_of-member y r.1 r.3 in
      let j : r.1 < length (block (n + 1) (half v) (n - order2 y)) = omega (arith, r.3, length-monomials_of y o) in
      let q = block_back (n + 1) (half v) (n - order2 y) r.1 j in
      record {
        x = q.0;
        y = y;
        x_small = q.1;
        y_small = r.2;
        low = omega (arith, q.2, o);
        index = r.4 ∙ ap (λ (z : ℕ). before y + z) q.3;
        is = ap (λ (z : ℕ). get_or (upto (monomials_of n v) ((n + 1) ^ (v - half v))) z []) r.4
            ∙ upto-at (monomials_of n v) [] ((n + 1) ^ (v - half v)) y r.1 r.2 r.3
            ∙ monomials_of-at y r.1 o j
            ∙ ap (monomial_of n v y) q.4;
      }
