-- The positions by order: those of the orders from a to b stand together, and each position of such
-- an order stands among them.
use Rattle.std.proofs.Common.{◌≡◌, refl, sym, ap, ◌∙◌, Bool, true, false, List, [], ◌∷◌, ◌++◌, ℕ, zero, suc, ◌+◌, ◌-◌, ◌≤◌, ◌<◌, arith, eqb, eqb→eq, length, get_or, length-append, get_or-append-add, eq-eqb}
use Rattle.std.proofs.Math.Decide.{dec_lt}
use Rattle.std.proofs.Math.ListN.{get_or-append}
use Rattle.algebra.specs.Polynomial.{order}
use Rattle.monomial.specs.Enumeration.{only}
use Rattle.series.specs.Image.{position, monomial_at}
use Rattle.product.specs.Pairs.{order_of, pick, by_order}
use Rattle.product.proofs.Ordered.{by_order-at, by_order-few, listed_below}
use Rattle.powers.specs.Powers.{places, Ordered}
use Rattle.powers.specs.Gathering.{listed_at}
use Rattle.powers.proofs.Places.{position-place, length-places, places-at, placed_places}

-- ---- the positions

-- position q is number q - 1 of them
pub position_at : (N q : ℕ) → 1 ≤ q → q ≤ N → position (get_or (places N) (q - 1) 0) ≡ q
position_at N q l h =
    ap position (places-at N (q - 1) (omega arith)) ∙ omega (arith, position-place (q - 1 + 1))

-- ---- what passes a test is picked

-- the word x is number i of the list es
abbrev Among : ℕ → List ℕ → Type 0
Among x es = (i : ℕ) × (i < length es) × (get_or es i 0 ≡ x)

among_later : (x : ℕ) (xs es : List ℕ) → Among x es → Among x (xs ++ es)
among_later x xs es a = (
  length xs + a.0,
  omega (arith, length-append xs es, a.1),
  get_or-append-add xs es a.0 0 ∙ a.2,
)

picked : (f : ℕ → Bool) (es : List ℕ) (i : ℕ) → i < length es → f (get_or es i 0) ≡ true
    → Among (get_or es i 0) (pick f es)
unfolding pick only
picked f [] i l t = absurd (omega arith)
picked f (x ∷ es) zero l t = rw t (0, omega arith, refl)
picked f (x ∷ es) (suc i) l t =
    among_later (get_or es i 0) (only (f x) (x ∷ [])) (pick f es) (picked f es i (omega arith) t)

-- all that are picked pass
pick-passes : (f : ℕ → Bool) (es : List ℕ) (k : ℕ) → k < length (pick f es)
    → f (get_or (pick f es) k 0) ≡ true
unfolding pick only
pick-passes f [] k l = absurd (omega arith)
pick-passes f (x ∷ es) k l = go (f x) refl k l (pick-passes f es)
  where
    go : (b : Bool) → f x ≡ b → (j : ℕ) → j < length (only b (x ∷ []) ++ pick f es)
        → ((i : ℕ) → i < length (pick f es) → f (get_or (pick f es) i 0) ≡ true)
        → f (get_or (only b (x ∷ []) ++ pick f es) j 0) ≡ true
    go true e zero u ih = e
    go true e (suc j) u ih = ih j (omega arith)
    go false e j u ih = ih j u

-- ---- by order

module _ (n v : ℕ) (es : List ℕ) where
  -- from where those of order a begin, no order is lower
  pub above_at : (a b k : ℕ) → length (by_order n v es a) ≤ k → k < length (by_order n v es b)
      → a ≤ order_of n v (get_or (by_order n v es b) k 0)
  unfolding by_order
  above_at a zero k l h = absurd (omega arith)
  above_at a (suc b) k l h = go (dec_lt k (length (by_order n v es b))) (dec_lt b a) (above_at a b k l)
    where
      test : ℕ → Bool
      test x = eqb (order_of n v x) b

      low : List ℕ
      low = by_order n v es b

      go : Dec (k < length low) → Dec (b < a) → (k < length low → a ≤ order_of n v (get_or low k 0))
          → a ≤ order_of n v (get_or (low ++ pick test es) k 0)
      go (yes u) d ih = rw (get_or-append low (pick test es) 0 k u) (ih u)
      go (no u) (yes d) ih =
          absurd (omega (arith, (by_order-at n v es (suc b) a k (omega arith) h).0))
      go (no u) (no d) ih =
          let j = k - length low in
          let e : length low + j ≡ k = omega arith in
          let m : j < length (pick test es) = omega (arith, length-append low (pick test es)) in
          let t : order_of n v (get_or (pick test es) j 0) ≡ b =
          eqb→eq (order_of n v (get_or (pick test es) j 0)) b (rw (pick-passes test es j m) tt) in
          let r : get_or (low ++ pick test es) k 0 ≡ get_or (pick test es) j 0 =
          ap (λ (x : ℕ). get_or (low ++ pick test es) x 0) (sym e)
          ∙ get_or-append-add low (pick test es) j 0 in
          omega (arith, ap (order_of n v) r, t)

  -- an entry of order o is listed where those of order o are
  pub listed_found : (i : ℕ) → i < length es
      → let o = order_of n v (get_or es i 0) in
      (k : ℕ) × (length (by_order n v es o) ≤ k) × (k < length (by_order n v es (suc o)))
      × (get_or (by_order n v es (suc o)) k 0 ≡ get_or es i 0)
  unfolding by_order
  listed_found i l =
      let o = order_of n v (get_or es i 0) in
      let low = by_order n v es o in
      let a = picked (λ x. eqb (order_of n v x) o) es i l (eq-eqb o o refl) in (
        length low + a.0,
        omega arith,
        omega (arith, length-append low (pick (λ x. eqb (order_of n v x) o) es), a.1),
        get_or-append-add low (pick (λ x. eqb (order_of n v x) o) es) a.0 0 ∙ a.2,
      )

-- ---- the list of positions

module _ {n v N ps : ℕ} {w starts : List ℕ} (s : Ordered n v N ps w starts) where
  abbrev ordered : ℕ → List ℕ
  ordered o = by_order n v (places N) o

  -- no more than N
  pub start-few : (o : ℕ) → length (by_order n v (places N) o) ≤ N
  start-few o = omega (arith, by_order-few n v (places N) o, length-places N)

  pub start-ascends : (a b : ℕ) → a ≤ b
      → length (by_order n v (places N) a) ≤ length (by_order n v (places N) b)
  start-ascends a b l = go (dec_lt (length (ordered b)) (length (ordered a)))
    where
      go : Dec (length (ordered b) < length (ordered a)) → length (ordered a) ≤ length (ordered b)
      go (yes u) = absurd (omega (arith, (by_order-at n v (places N) a b (length (ordered b)) l u).0))
      go (no u) = omega arith

  module _ (b : ℕ) (few : b ≤ suc n) where
    listed-is : (k : ℕ) → k < length (by_order n v (places N) b)
        → listed_at w ps k ≡ position (get_or (by_order n v (places N) b) k 0)
    listed-is k h =
        let a = by_order-at n v (places N) b (suc n) k few h in
        s.place k (omega (arith, a.0, start-few (suc n))) ∙ ap position a.1

    pub listed-low : (k : ℕ) → k < length (by_order n v (places N) b) → 1 ≤ listed_at w ps k
    listed-low k h =
        omega (arith, listed-is k h, (listed_below n v N (places N) b k (placed_places N) h).low)

    pub listed-high : (k : ℕ) → k < length (by_order n v (places N) b) → listed_at w ps k ≤ N
    listed-high k h =
        omega (arith, listed-is k h, (listed_below n v N (places N) b k (placed_places N) h).high)

    order_is : (k : ℕ) → k < length (by_order n v (places N) b)
        → order (monomial_at n v (listed_at w ps k))
        ≡ order_of n v (get_or (by_order n v (places N) b) k 0)
    unfolding order_of
    order_is k h = ap (λ (x : ℕ). order (monomial_at n v x)) (listed-is k h)

    pub listed-order : (k : ℕ) → k < length (by_order n v (places N) b)
        → order (monomial_at n v (listed_at w ps k)) < b
    listed-order k h =
        omega (arith, order_is k h, (listed_below n v N (places N) b k (placed_places N) h).order)

    pub listed-least : (a k : ℕ) → length (by_order n v (places N) a) ≤ k
        → k < length (by_order n v (places N) b)
        → a ≤ order (monomial_at n v (listed_at w ps k))
    listed-least a k l h = omega (arith, order_is k h, above_at n v (places N) a b k l h)

  -- a position is listed among those of its order
  pub listed-where : (q a b : ℕ) → 1 ≤ q → q ≤ N → b ≤ suc n
      → a ≤ order (monomial_at n v q) → order (monomial_at n v q) < b
      → (k : ℕ) × (length (by_order n v (places N) a) ≤ k) × (k < length (by_order n v (places N) b))
      × (listed_at w ps k ≡ q)
  unfolding order_of
  listed-where q a b l h few la lb =
      let e : position (get_or (places N) (q - 1) 0) ≡ q = position_at N q l h in
      let f = listed_found n v (places N) (q - 1) (omega (arith, length-places N)) in
      let o : order_of n v (get_or (places N) (q - 1) 0) ≡ order (monomial_at n v q) =
      ap (λ (x : ℕ). order (monomial_at n v x)) e in
      let o' = order_of n v (get_or (places N) (q - 1) 0) in (
        f.0,
        omega (arith, f.1, start-ascends a o' (omega (arith, o))),
        omega (arith, f.2, start-ascends (suc o') b (omega (arith, o))),
        listed-is (suc o') (omega (arith, o)) f.0 f.2 ∙ ap position f.3 ∙ e,
      )
