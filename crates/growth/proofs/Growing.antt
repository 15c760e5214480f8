-- Lists of the orders below o, with the entries of order o behind them, are lists of the orders up to o.
use Rattle.std.proofs.Common.{◌≡◌, refl, sym, ap, ap₂, ◌∙◌, subst, Bool, true, false, List, [], ◌∷◌, ◌++◌, append-nil, ℕ, zero, suc, ◌+◌, ◌-◌, ◌*◌, ◌%◌, ◌≤◌, ◌<◌, mod-lt, arith, eqb, ltb, eqb→eq, length, get_or, length-append, get_or-append-add, eq-eqb, ne_eqb}
use Rattle.std.proofs.Math.Decide.{ℕ_discrete, dec_lt, le_ind}
use Rattle.std.proofs.Math.ListN.{get_or-append}
use Rattle.algebra.specs.Polynomial.{order}
use Rattle.monomial.specs.Enumeration.{only}
use Rattle.linear.specs.Matrix.{Matrix, element}
use Rattle.series.specs.Image.{position, coefficient, monomial_at, entry_of}
use Rattle.product.specs.Pairs.{order_of, codes_of, pick, by_order}
use Rattle.product.specs.Regions.{Placed, Listed}
use Rattle.product.proofs.Ordered.{pick-append, by_order-few}
use Rattle.powers.specs.Powers.{places}
use Rattle.walk.specs.Walking.{list_at, row}
use Rattle.powers.proofs.Places.{length-places, placed_places, placed_append}
use Rattle.turn.specs.Vectors.{dot, word_at}
use Rattle.growth.specs.Growth.{entries_of, positions_of_order, Lists, GrowIn, Grown}
use Rattle.growth.specs.Appending.{size_of, Behind, Carried}
use Rattle.growth.proofs.Appends.{entries_of-few}

-- ---- tests that all or none pass

pick-none : (f : ℕ → Bool) (es : List ℕ) → ((i : ℕ) → i < length es → f (get_or es i 0) ≡ false)
    → pick f es ≡ []
unfolding pick only
pick-none f [] h = refl
pick-none f (x ∷ es) h = rw (h 0 (omega arith)) (pick-none f es (λ i u. h (suc i) (omega arith)))

pick_all : (f : ℕ → Bool) (es : List ℕ) → ((i : ℕ) → i < length es → f (get_or es i 0) ≡ true)
    → pick f es ≡ es
unfolding pick only
pick_all f [] h = refl
pick_all f (x ∷ es) h =
    rw (h 0 (omega arith)) (ap (λ (s : List ℕ). x ∷ s) (pick_all f es (λ i u. h (suc i) (omega arith))))

-- ---- by order

module _ (n v o : ℕ) (ys new : List ℕ)
    (below : (i : ℕ) → i < length ys → order_of n v (get_or ys i 0) < o)
    (is : (i : ℕ) → i < length new → order_of n v (get_or new i 0) ≡ o) where
  old_none : (a : ℕ) → o ≤ a → pick (λ w. eqb (order_of n v w) a) ys ≡ []
  old_none a l =
      pick-none (λ w. eqb (order_of n v w) a) ys
      (λ i u. ne_eqb (order_of n v (get_or ys i 0)) a (λ e. absurd (omega (arith, below i u, e))))

  new_none : (a : ℕ) → (a ≡ o → ⊥) → pick (λ w. eqb (order_of n v w) a) new ≡ []
  new_none a d =
      pick-none (λ w. eqb (order_of n v w) a) new
      (λ i u. ne_eqb (order_of n v (get_or new i 0)) a (λ e. d (sym e ∙ is i u)))

  new-all : (a : ℕ) → a ≡ o → pick (λ w. eqb (order_of n v w) a) new ≡ new
  new-all a d =
      pick_all (λ w. eqb (order_of n v w) a) new
      (λ i u. eq-eqb (order_of n v (get_or new i 0)) a (is i u ∙ sym d))

  -- the old ones have no order from o on
  pub same_after : (a : ℕ) → o ≤ a → by_order n v ys a ≡ by_order n v ys o
  unfolding by_order
  same_after a l =
      le_ind (λ (x : ℕ). by_order n v ys x ≡ by_order n v ys o) refl
      (λ x k p. ap₂ ◌++◌ p (old_none x k) ∙ append-nil _) a l

  pub grown-before : (a : ℕ) → a ≤ o → by_order n v (ys ++ new) a ≡ by_order n v ys a
  unfolding by_order
  grown-before zero l = refl
  grown-before (suc a) l =
      ap₂ ◌++◌ (grown-before a (omega arith))
      (pick-append (λ w. eqb (order_of n v w) a) ys new
      ∙ ap (λ (s : List ℕ). pick (λ w. eqb (order_of n v w) a) ys ++ s) (new_none a (λ e. absurd (omega arith)))
      ∙ append-nil _)

  pub grown-after : (a : ℕ) → o < a → by_order n v (ys ++ new) a ≡ by_order n v ys o ++ new
  unfolding by_order
  grown-after zero l = absurd (omega arith)
  grown-after (suc a) l = go (ℕ_discrete a o) (grown-after a)
    where
      go : Dec (a ≡ o) → (o < a → by_order n v (ys ++ new) a ≡ by_order n v ys o ++ new)
          → by_order n v (ys ++ new) (suc a) ≡ by_order n v ys o ++ new
      go (yes e) ih =
          ap₂ ◌++◌ (grown-before a (omega arith) ∙ same_after a (omega arith))
          (pick-append (λ w. eqb (order_of n v w) a) ys new
          ∙ ap₂ ◌++◌ (old_none a (omega arith)) (new-all a e))
      go (no d) ih =
          ap₂ ◌++◌ (ih (omega arith))
          (pick-append (λ w. eqb (order_of n v w) a) ys new
          ∙ ap₂ ◌++◌ (old_none a (omega arith)) (new_none a d))
          ∙ append-nil _

-- ---- entries of one order

-- the entry w stands at one of the positions 1 to N and has the order o
abbrev pub Sits : ℕ → ℕ → ℕ → ℕ → ℕ → Type 0
Sits n v N o w = ((1 ≤ position w) × (position w ≤ N)) × (order_of n v w ≡ o)

abbrev pub AllSit : ℕ → ℕ → ℕ → ℕ → List ℕ → Type 0
AllSit n v N o [] = Unit {0}
AllSit n v N o (w ∷ es) = Sits n v N o w × AllSit n v N o es

module _ (n v N o : ℕ) where
  sit_append : (xs ys : List ℕ) → AllSit n v N o xs → AllSit n v N o ys → AllSit n v N o (xs ++ ys)
  sit_append [] ys a b = b
  sit_append (x ∷ xs) ys a b = (a.0, sit_append xs ys a.1 b)

  pub sit_at : (es : List ℕ) (i : ℕ) → AllSit n v N o es → i < length es → Sits n v N o (get_or es i 0)
  sit_at [] i a h = absurd (omega arith)
  sit_at (x ∷ es) zero a h = a.0
  sit_at (x ∷ es) (suc i) a h = sit_at es i a.1 (omega arith)

  sit_placed : (es : List ℕ) → AllSit n v N o es → Placed N es
  sit_placed [] a = tt
  sit_placed (x ∷ es) a = (a.0.0, sit_placed es a.1)

  sit_only : (x : ℕ) (b : Bool) → eqb (order_of n v x) o ≡ b → (1 ≤ position x) × (position x ≤ N)
      → AllSit n v N o (only b (x ∷ []))
  unfolding only
  sit_only x true e p = ((p, eqb→eq (order_of n v x) o (rw e tt)), tt)
  sit_only x false e p = tt

  pub sit_pick : (es : List ℕ) → Placed N es → AllSit n v N o (pick (λ x. eqb (order_of n v x) o) es)
  unfolding pick
  sit_pick [] p = tt
  sit_pick (x ∷ es) p =
      sit_append (only (eqb (order_of n v x) o) (x ∷ [])) (pick (λ y. eqb (order_of n v y) o) es)
      (sit_only x (eqb (order_of n v x) o) refl p.0) (sit_pick es p.1)

  sit_entry : (w c : ℕ) → c < 65536 → Sits n v N o w → AllSit n v N o (entry_of (position w) c)
  unfolding entry_of only order_of
  sit_entry w c u s = go (ltb 0 c)
    where
      same : (q x : ℕ) → x < 65536 → position (q * 65536 + x) ≡ q
      same q x h = omega arith

      go : (b : Bool) → AllSit n v N o (only b ((position w * 65536 + c) ∷ []))
      go true =
          let e = same (position w) c u in (
            (
              (omega (arith, e, s.0.0), omega (arith, e, s.0.1)),
              ap (λ (z : ℕ). order (monomial_at n v z)) e ∙ s.1,
            ),
            tt,
          )
      go false = tt

  pub sit_entries : (g : ℕ → ℕ) → ((q : ℕ) → g q < 65536) → (es : List ℕ) → AllSit n v N o es
      → AllSit n v N o (entries_of g es)
  unfolding entries_of
  sit_entries g h [] a = tt
  sit_entries g h (x ∷ es) a =
      sit_append (entry_of (position x) (g (position x))) (entries_of g es)
      (sit_entry x (g (position x)) (h (position x)) a.0) (sit_entries g h es a.1)

-- ---- two lists one after another

-- what holds of the numbers of either list holds of those of both
both : (P : ℕ → ℕ → Type 0) (s t : List ℕ)
    → ((i : ℕ) → i < length s → P i (get_or s i 0))
    → ((i : ℕ) → i < length t → P (length s + i) (get_or t i 0))
    → (i : ℕ) → i < length (s ++ t) → P i (get_or (s ++ t) i 0)
both P s t a b i h = go (dec_lt i (length s))
  where
    go : Dec (i < length s) → P i (get_or (s ++ t) i 0)
    go (yes u) = rw (get_or-append s t 0 i u) (a i u)
    go (no u) =
        let j = i - length s in
        let e : length s + j ≡ i = omega arith in
        let m : j < length t = omega (arith, length-append s t) in
        subst (λ (x : ℕ). P x (get_or (s ++ t) x 0)) e (rw (get_or-append-add s t j 0) (b j m))

both_is : (P : ℕ → ℕ → Type 0) (s t z : List ℕ) → z ≡ s ++ t
    → ((i : ℕ) → i < length s → P i (get_or s i 0))
    → ((i : ℕ) → i < length t → P (length s + i) (get_or t i 0))
    → (i : ℕ) → i < length z → P i (get_or z i 0)
both_is P s t z e a b i h =
    subst (λ (x : List ℕ). P i (get_or x i 0)) (sym e) (both P s t a b i (omega (arith, ap length e)))

-- ---- the lists

module _ {n v N o : ℕ} {f : ℕ → ℕ → ℕ} {w w' : List ℕ} {ends ends₁ ends' : List (List ℕ)}
    {ys : ℕ → List ℕ}
    (few : n ≤ 10) (low : o ≤ n) (small : (k q : ℕ) → f k q < 65536)
    (l : Lists n v N o w ends ys)
    (b : Behind n v N o f (positions_of_order n v N o) w w' ends ends₁)
    (c : Carried n v o ends₁ ends') where
  -- the new entries of list k
  abbrev fresh : ℕ → List ℕ
  fresh k = entries_of (f k) (positions_of_order n v N o)

  all-sit : (k : ℕ) → AllSit n v N o (fresh k)
  all-sit k =
      sit_entries n v N o (f k) (small k) (positions_of_order n v N o) (sit_pick n v N o (places N) (placed_places N))

  few_grown : (k : ℕ) → k < v
      → length (ys k ++ fresh k) ≤ length (by_order n v (places N) (suc o))
  unfolding by_order
  few_grown k h =
      omega (
        arith,
        length-append (ys k) (fresh k),
        length-append (by_order n v (places N) o) (positions_of_order n v N o),
        entries_of-few (f k) (positions_of_order n v N o),
        l.few k h,
      )

  module _ (k : ℕ) (h : k < v) where
    is : (i : ℕ) → i < length (fresh k)
        → order_of n v (get_or (fresh k) i 0) ≡ o
    is i u = (sit_at n v N o (fresh k) i (all-sit k) u).1

    after : (a : ℕ) → o < a
        → by_order n v (ys k ++ fresh k) a
        ≡ by_order n v (ys k) o ++ fresh k
    after a u = grown-after n v o (ys k) (fresh k) (λ i. l.below k i h) is a u

    same : (a : ℕ) → o ≤ a → by_order n v (ys k) a ≡ by_order n v (ys k) o
    same a u = same_after n v o (ys k) (fresh k) (λ i. l.below k i h) is a u

    size : size_of ends k o ≡ length (by_order n v (ys k) o)
    size = (l.listed k h).end o low ∙ ap length (same (suc o) (omega arith))

    code-old : (i : ℕ) → i < length (by_order n v (ys k) o)
        → get_or w' (list_at N k + i) 0 ≡ codes_of n v (get_or (by_order n v (ys k) o) i 0)
    code-old i u =
        let e = same (suc n) (omega arith) in
        b.code_kept k i h (omega (arith, size))
        ∙ (l.listed k h).code i (omega (arith, ap length e))
        ∙ ap (λ (s : List ℕ). codes_of n v (get_or s i 0)) e

    factor-old : (i : ℕ) → i < length (by_order n v (ys k) o)
        → get_or w' (list_at N k + (N + 1) + i) 0 ≡ coefficient (get_or (by_order n v (ys k) o) i 0)
    factor-old i u =
        let e = same (suc n) (omega arith) in
        b.factor_kept k i h (omega (arith, size))
        ∙ (l.listed k h).factor i (omega (arith, ap length e))
        ∙ ap (λ (s : List ℕ). coefficient (get_or s i 0)) e

    code-new : (i : ℕ) → i < length (fresh k)
        → get_or w' (list_at N k + (length (by_order n v (ys k) o) + i)) 0
        ≡ codes_of n v (get_or (fresh k) i 0)
    code-new i u = ap (λ (x : ℕ). get_or w' (list_at N k + (x + i)) 0) (sym size) ∙ b.code k i h u

    factor-new : (i : ℕ) → i < length (fresh k)
        → get_or w' (list_at N k + (N + 1) + (length (by_order n v (ys k) o) + i)) 0
        ≡ coefficient (get_or (fresh k) i 0)
    factor-new i u = ap (λ (x : ℕ). get_or w' (list_at N k + (N + 1) + (x + i)) 0) (sym size) ∙ b.factor k i h u

    end_grown : (j : ℕ) → j ≤ n
        → size_of ends' k j
        ≡ length (by_order n v (ys k ++ fresh k) (suc j))
    end_grown j u = go (dec_lt j o)
      where
        go : Dec (j < o) → size_of ends' k j
            ≡ length (by_order n v (ys k ++ fresh k) (suc j))
        go (yes d) =
            c.below k j h d
            ∙ b.ends_kept k j (λ z e. absurd (omega arith))
            ∙ (l.listed k h).end j u
            ∙ sym (ap length (grown-before n v o (ys k) (fresh k)
            (λ i. l.below k i h) is (suc j) (omega arith)))
        go (no d) =
            c.above k j h (omega arith) u
            ∙ b.counted k h
            ∙ ap (λ (x : ℕ). x + length (fresh k)) size
            ∙ sym (length-append (by_order n v (ys k) o) (fresh k))
            ∙ sym (ap length (after (suc j) (omega arith)))

    listed-grown : Listed n v N (ys k ++ fresh k) (list_at N k) w' (row ends' k)
    listed-grown = record {
      few = omega (arith, few_grown k h, by_order-few n v (places N) (suc o), length-places N);
      placed = placed_append N (ys k) (fresh k) (l.listed k h).placed
          (sit_placed n v N o (fresh k) (all-sit k));
      apart = (l.listed k h).apart;
      inside = omega (arith, (l.listed k h).inside, b.outside.size);
      code = both_is (λ i x. get_or w' (list_at N k + i) 0 ≡ codes_of n v x) (by_order n v (ys k) o)
          (fresh k) _ (after (suc n) (omega arith)) code-old code-new;
      factor = both_is (λ i x. get_or w' (list_at N k + (N + 1) + i) 0 ≡ coefficient x) (by_order n v (ys k) o)
          (fresh k) _ (after (suc n) (omega arith)) factor-old factor-new;
      ends_in = omega (arith, (l.listed k h).ends_in, b.ends_size.words k, c.ends_size.words k);
      end = end_grown;
    }

  pub lists-grown : Lists n v N (suc o) w' ends' (λ k. ys k ++ fresh k)
  lists-grown = record {
    listed = listed-grown;
    below = λ k i h u.
        both (λ j x. order_of n v x < suc o) (ys k) (fresh k)
        (λ j z. omega (arith, l.below k j h z))
        (λ j z. omega (arith, is k h j z)) i u;
    few = few_grown;
  }

-- ---- growing

pub grown : {n v N E p o ps : ℕ} {m : Matrix} {t ws w w' starts : List ℕ} {ends ends₁ ends' : List (List ℕ)}
    → GrowIn n v N E p o ps m t ws w ends starts
    → Behind n v N o (λ k q. dot v (element m k) (word_at N ws q) % p) (positions_of_order n v N o) w w' ends ends₁
    → Carried n v o ends₁ ends'
    → Grown n v N p o m ws w w' ends ends'
grown {n} {v} {N} {E} {p} {o} {ps} {m} {t} {ws} g b c = record {
  outside = b.outside;
  ends_in = c.ends_size.rows ∙ b.ends_size.rows ∙ g.ends_in;
  lists = λ ys l.
      lists-grown g.table.right.allowed.n_high g.order_high
      (λ k q.
      let less = mod-lt (dot v (element m k) (word_at N ws q)) {m = p} g.modulus_low in
      omega (arith, less, g.modulus_high)) l b c;
}
