-- The row of one entry x of the first factor: the listed entries that go with x are those whose order, with
-- that of x, is within the cut; each leads to the place of the product (002, 12).
use Rattle.std.proofs.Common.{◌≡◌, refl, sym, ap, ap₂, ◌∙◌, subst, Bool, List, [], ◌∷◌, ℕ, zero, suc, ◌+◌, ◌-◌, ◌*◌, ◌/◌, ◌%◌, ◌≤◌, ◌<◌, add-zero, mul_comm, mul-zero, zero-mul, mod-lt, arith, eqb, leb, ltb, eqb→eq, length, get_or, lt-ltb, le-ltb, le-leb}
use Rattle.std.proofs.Math.Decide.{ℕ_discrete, dec_le}
use borrow.Author.Tests.{lt-leb}
use Rattle.algebra.specs.Sum.{sum_over, sum_to}
use Rattle.algebra.specs.Polynomial.{Monomial, ◌⊕◌, order, indicator}
use Rattle.algebra.proofs.Sums.{sum-cong, sum-scale, sum_to-ext}
use Rattle.algebra.proofs.Booleans.{indicator-no}
use Rattle.algebra.proofs.Monomials.{order-⊕}
use Rattle.monomial.specs.Count.{count, codes, words}
use Rattle.monomial.specs.Table.{C1, C2, product_place}
use Rattle.monomial.proofs.Bounds.{codes-bound}
use Rattle.series.specs.Image.{position, coefficient, monomial_at}
use Rattle.product.specs.Pairs.{order_of, codes_of, by_order, pair_sum, cut_sum, pairs_within, sum_at}
use Rattle.counts.specs.Tables.{Right}
use Rattle.product.specs.Regions.{Ready, Listed, Added, EntryIn}
use Rattle.product.specs.Rows.{Rowed, place_with, value_with, RowIn}
use Rattle.product.proofs.Ordered.{sum-by_order, length-by_order, by_order-at, by_order-few, Below, listed_below}
use Rattle.series.proofs.Positions.{length-monomial_at}
use Rattle.product.proofs.PairSums.{found, sum-placed}
use Rattle.product.proofs.TableWords.{first_word, second_word, first_small, first-sum, second-sum, D1-word, D2-word, product_place-low, product_place-inside}
use Rattle.product.proofs.Accumulate.{row-bound}

-- ---- sums by index

sum_to-front : (f : ℕ → ℕ) (m : ℕ) → sum_to f (suc m) ≡ f 0 + sum_to (λ i. f (suc i)) m
unfolding sum_to
sum_to-front f zero = omega arith
sum_to-front f (suc m) = omega (arith, sum_to-front f m)

pub sum_to-list : (s : List ℕ) (f : ℕ → ℕ) → sum_to (λ k. f (get_or s k 0)) (length s) ≡ sum_over s f
unfolding sum_to sum_over
sum_to-list [] f = refl
sum_to-list (x ∷ s) f = sum_to-front (λ k. f (get_or (x ∷ s) k 0)) (length s) ∙ ap (λ (z : ℕ). f x + z) (sum_to-list s f)

-- ---- the words of two codes

codes-low : (a b : ℕ) → a < 65536 → (a + b * 65536) % 65536 ≡ a
codes-low a b l = omega arith

codes-high : (a b : ℕ) → a < 65536 → (a + b * 65536) / 65536 ≡ b
codes-high a b l = omega arith

module _ (n v cut os cs : ℕ) (t w ends : List ℕ) (x : ℕ) (ready : Ready n v (count n v) (codes n v) os t w) (cut_low : cut ≤ n)
    (low : 1 ≤ position x) (high : position x ≤ count n v) (within : order_of n v x ≤ cut) where
  abbrev N : ℕ
  N = count n v

  abbrev E : ℕ
  E = codes n v

  abbrev mx : Monomial
  mx = monomial_at n v (position x)

  right : Right n v t
  right = ready.right

  long_x : length (monomial_at n v (position x)) ≡ v
  long_x = length-monomial_at n v (position x) low high

  pub order-word : get_or w (os + position x) 0 ≡ order_of n v x
  unfolding order_of
  order-word = ready.orders (position x) low high

  module _ (ys : List ℕ) (listed : Listed n v (count n v) ys cs w ends) where
    abbrev o : ℕ
    o = suc (cut - order_of n v x)

    -- the entries that go with x
    abbrev go_with : List ℕ
    go_with = by_order n v ys (suc (cut - order_of n v x))

    pub limit : get_or ends (cut - order_of n v x) 0 ≡ length (by_order n v ys (suc (cut - order_of n v x)))
    limit = listed.end (cut - order_of n v x) (omega arith)

    pub limit_few : length (by_order n v ys (suc (cut - order_of n v x))) ≤ count n v
    limit_few = omega (arith, by_order-few n v ys (suc (cut - order_of n v x)), listed.few)

    module _ (k : ℕ) (l : k < length (by_order n v ys (suc (cut - order_of n v x)))) where
      abbrev y : ℕ
      y = get_or (by_order n v ys (suc (cut - order_of n v x))) k 0

      abbrev my : Monomial
      my = monomial_at n v (position y)

      good : Below n v (count n v) (suc (cut - order_of n v x)) y
      good = listed_below n v N ys o k listed.placed l

      in_all : (k < length (by_order n v ys (suc n))) × (get_or (by_order n v ys (suc n)) k 0 ≡ y)
      in_all = by_order-at n v ys o (suc n) k (omega arith) l

      long_y : length my ≡ v
      long_y = length-monomial_at n v (position y) good.low good.high

      both : order mx + order my ≤ n
      unfolding order_of
      both = omega (arith, good.order, within)

      first_code : C1 n v my < 65536
      first_code = omega (arith, first_small n v t right (position y) good.low good.high, codes-bound n v right.allowed)

      pub code-word : get_or w (cs + k) 0 ≡ C1 n v my + C2 n v my * 65536
      unfolding codes_of
      code-word = listed.code k in_all.0 ∙ ap (codes_of n v) in_all.1

      pub code-first : get_or w (cs + k) 0 % 65536 ≡ C1 n v my
      code-first = ap (λ (z : ℕ). z % 65536) code-word ∙ codes-low (C1 n v my) (C2 n v my) first_code

      pub code-second : get_or w (cs + k) 0 / 65536 ≡ C2 n v my
      code-second = ap (λ (z : ℕ). z / 65536) code-word ∙ codes-high (C1 n v my) (C2 n v my) first_code

      pub factor-word : get_or w (cs + (N + 1) + k) 0 ≡ coefficient y
      factor-word = listed.factor k in_all.0 ∙ ap coefficient in_all.1

      pub first-inside : N + N + C1 n v mx + get_or w (cs + k) 0 % 65536 < words n v
      unfolding words
      first-inside = omega (arith, code-first, first-sum n v t right mx my long_x long_y both)

      pub second-inside : N + N + E + C2 n v mx + get_or w (cs + k) 0 / 65536 < words n v
      unfolding words
      second-inside = omega (arith, code-second, second-sum n v t right mx my long_x long_y both)

      pub place_is : place_with t w (N + N + C1 n v mx) (N + N + E + C2 n v mx) cs k ≡ product_place n v mx my
      unfolding place_with
      place_is =
          ap₂ (λ (a b : ℕ). get_or t (N + N + C1 n v mx + a) 0 + get_or t (N + N + E + C2 n v mx + b) 0) code-first code-second
          ∙ ap₂ ◌+◌ (D1-word n v t right mx my long_x long_y both) (D2-word n v t right mx my long_x long_y both)
          ∙ sym (product_place-low n v t right mx my long_x long_y both)

      pub place_inside : product_place n v mx my ≤ count n v
      place_inside = (product_place-inside n v t right mx my long_x long_y both).1

      pub value_is : value_with w (coefficient x) (cs + (N + 1)) k ≡ coefficient x * coefficient y
      unfolding value_with
      value_is = ap (λ (z : ℕ). coefficient x * z) factor-word

    -- ---- what the row asks

    pub row-asks : (a : ℕ) → ((j : ℕ) → j < N + 1 → sum_at w j ≤ a * 4294967296) → a + N ≤ 2147483648
        → RowIn t w (N + 1) (N + N + C1 n v mx) (N + N + E + C2 n v mx) (coefficient x) cs (cs + (N + 1))
        (length (by_order n v ys (suc (cut - order_of n v x)))) a
    row-asks a bound room =
        record {
          codes_apart = listed.apart;
          coefficients_apart = omega (arith, listed.apart);
          codes_in = omega (arith, limit_few, listed.inside);
          coefficients_in = omega (arith, limit_few, listed.inside);
          first_in = λ k l. omega (arith, first-inside k l, right.long);
          second_in = λ k l. omega (arith, second-inside k l, right.long);
          inside = λ k l. omega (arith, place_is k l, place_inside k l);
          factor = omega (arith, mod-lt x {m = 65536} (omega arith));
          coefficients = λ k l. omega (arith, factor-word k l, mod-lt (y k l) {m = 65536} (omega arith));
          sums = bound;
          few = omega (arith, limit_few);
        }

    -- ---- what the row adds

    term : ℕ → ℕ → ℕ
    term j z = coefficient x * coefficient z * indicator (eqb (product_place n v mx (monomial_at n v (position z))) j)

    -- a pair that leads to j has the order of the monomial there
    term-cut : (j z : ℕ) → 1 ≤ j → j ≤ N → 1 ≤ position z → position z ≤ N
        → term j z * indicator (ltb (order_of n v z) (suc (cut - order_of n v x))) ≡ term j z * indicator (leb (order (monomial_at n v j)) cut)
    unfolding term order_of
    term-cut j z l h zl zh = go (ℕ_discrete (product_place n v mx mz) j)
      where
        mz : Monomial
        mz = monomial_at n v (position z)

        long_z : length mz ≡ v
        long_z = length-monomial_at n v (position z) zl zh

        c : ℕ
        c = coefficient x * coefficient z

        i : ℕ
        i = indicator (eqb (product_place n v mx mz) j)

        tests : (oj : ℕ) → oj ≡ order mx + order mz → Dec (oj ≤ cut) → ltb (order mz) (suc (cut - order mx)) ≡ leb oj cut
        tests oj e (yes u) = lt-ltb (order mz) (suc (cut - order mx)) (omega (arith, within)) ∙ sym (le-leb oj cut u)
        tests oj e (no u) = le-ltb (order mz) (suc (cut - order mx)) (omega (arith, within)) ∙ sym (lt-leb oj cut (omega arith))

        go : Dec (product_place n v mx mz ≡ j)
            → c * i * indicator (ltb (order mz) (suc (cut - order mx))) ≡ c * i * indicator (leb (order (monomial_at n v j)) cut)
        go (yes e) =
            let oj = order (monomial_at n v j) in
            let f = found n v mx mz j long_x long_z l h e (dec_le (order (mx ⊕ mz)) n) in
            ap (λ (b : Bool). c * i * indicator b) (tests oj (ap order f ∙ order-⊕ mx mz) (dec_le oj cut))
        go (no e) =
            let zero-i : i ≡ 0 = indicator-no (eqb (product_place n v mx mz) j) (λ t. e (eqb→eq (product_place n v mx mz) j t)) in
            no_term zero-i (indicator (ltb (order mz) (suc (cut - order mx)))) ∙ sym (no_term zero-i (indicator (leb (order (monomial_at n v j)) cut)))
          where
            no_term : i ≡ 0 → (a : ℕ) → c * i * a ≡ 0
            no_term q a = ap (λ (y : ℕ). c * y * a) q ∙ ap (λ (y : ℕ). y * a) (mul-zero c) ∙ zero-mul a

    -- the row adds what the pairs of x give
    pub row-sum : (j : ℕ) → 1 ≤ j → j ≤ N
        → sum_to (λ k. value_with w (coefficient x) (cs + (N + 1)) k * indicator (eqb (place_with t w (N + N + C1 n v mx) (N + N + E + C2 n v mx) cs k) j))
        (length (by_order n v ys (suc (cut - order_of n v x))))
        ≡ cut_sum n v cut (x ∷ []) ys j
    unfolding cut_sum pair_sum term sum_over
    row-sum j l h =
        sum_to-ext _ (λ k. term j (get_or go_with k 0)) (length go_with)
        (λ k u. ap₂ (λ (a b : ℕ). a * indicator (eqb b j)) (value_is k u) (place_is k u))
        ∙ sum_to-list go_with (term j)
        ∙ sum-by_order n v ys o (term j)
        ∙ sum-placed N ys _ _ listed.placed (λ z zl zh. term-cut j z l h zl zh)
        ∙ sum-cong ys (λ z. mul_comm (term j z) (indicator (leb (order (monomial_at n v j)) cut)))
        ∙ sum-scale (indicator (leb (order (monomial_at n v j)) cut)) ys (term j)
        ∙ mul_comm (indicator (leb (order (monomial_at n v j)) cut)) (sum_over ys (term j))
        ∙ ap (λ (z : ℕ). z * indicator (leb (order (monomial_at n v j)) cut)) (sym (add-zero (sum_over ys (term j))))

    -- and as many pairs as it has entries
    pub row-pairs : length (by_order n v ys (suc (cut - order_of n v x))) ≡ pairs_within n v cut (x ∷ []) ys
    unfolding pairs_within sum_over
    row-pairs =
        length-by_order n v ys o
        ∙ sum-cong ys (λ z. ap indicator (test z (dec_le (order_of n v x + order_of n v z) cut)))
        ∙ sym (add-zero _)
      where
        test : (z : ℕ) → Dec (order_of n v x + order_of n v z ≤ cut)
            → ltb (order_of n v z) (suc (cut - order_of n v x)) ≡ leb (order_of n v x + order_of n v z) cut
        test z (yes u) = lt-ltb (order_of n v z) (suc (cut - order_of n v x)) (omega arith) ∙ sym (le-leb _ cut u)
        test z (no u) = le-ltb (order_of n v z) (suc (cut - order_of n v x)) (omega arith) ∙ sym (lt-leb _ cut (omega arith))

    pub row-added : (a : ℕ) (w' : List ℕ) (b : ℕ)
        → ((j : ℕ) → j < N + 1 → sum_at w j ≤ a * 4294967296) → a + N ≤ 2147483648
        → b ≡ a + length (by_order n v ys (suc (cut - order_of n v x)))
        → Rowed (N + 1) (place_with t w (N + N + C1 n v mx) (N + N + E + C2 n v mx) cs) (value_with w (coefficient x) (cs + (N + 1)))
        (length (by_order n v ys (suc (cut - order_of n v x)))) w w'
        → Added n v N cut (x ∷ []) ys w w' a b
    row-added a w' b bound room e rowed =
        record {
          size = rowed.size;
          rest = rowed.rest;
          sums = λ j l h. rowed.sums j ∙ ap (λ (z : ℕ). sum_at w j + z) (row-sum j l h);
          bound = λ j l. subst (λ (z : ℕ). sum_at w' j ≤ z * 4294967296) (sym e)
              (row-bound t w (N + 1) (N + N + C1 n v mx) (N + N + E + C2 n v mx) (coefficient x) cs (cs + (N + 1)) (length go_with) a (row-asks a bound room) w' (length go_with) (omega arith) rowed j l);
          pairs = e ∙ ap (λ (z : ℕ). a + z) row-pairs;
        }

-- ---- the same in the words that the code reads

pub record EntryFacts (n v N E cut os cs : ℕ) (t w ends : List ℕ) (x a : ℕ) : Type 0 where
  pub row : RowIn t w (N + 1) (N + N + get_or t (position x - 1) 0) (N + N + E + get_or t (N + (position x - 1)) 0) (coefficient x) cs (cs + (N + 1))
      (get_or ends (cut - get_or w (os + position x) 0) 0) a
  pub added : (w' : List ℕ) (b : ℕ) → b ≡ a + get_or ends (cut - get_or w (os + position x) 0) 0
      → Rowed (N + 1) (place_with t w (N + N + get_or t (position x - 1) 0) (N + N + E + get_or t (N + (position x - 1)) 0) cs) (value_with w (coefficient x) (cs + (N + 1)))
      (get_or ends (cut - get_or w (os + position x) 0) 0) w w'
      → (ys : List ℕ) → Listed n v N ys cs w ends → Added n v N cut (x ∷ []) ys w w' a b

module _ (n v cut os cs : ℕ) (t w ends : List ℕ) (x a : ℕ) where
  facts_at : EntryIn n v (count n v) (codes n v) cut os cs t w ends x a → EntryFacts n v (count n v) (codes n v) cut os cs t w ends x a
  facts_at p =
      record {
        row = rw (first, second, od, limit n v cut os cs t w ends x p.ready p.cut_low p.low p.high p.order p.second.0 p.second.1)
            (row-asks n v cut os cs t w ends x p.ready p.cut_low p.low p.high p.order p.second.0 p.second.1 a p.bound p.room);
        added = λ w' b e r ys l.
            let lim = limit n v cut os cs t w ends x p.ready p.cut_low p.low p.high p.order ys l in
            row-added n v cut os cs t w ends x p.ready p.cut_low p.low p.high p.order ys l a w' b p.bound p.room
            (rw (od, lim) at e) (rw (first, second, od, lim) at r);
      }
    where
      first : get_or t (position x - 1) 0 ≡ C1 n v (monomial_at n v (position x))
      first = first_word n v t p.ready.right (position x) p.low p.high

      second : get_or t (count n v + (position x - 1)) 0 ≡ C2 n v (monomial_at n v (position x))
      second = second_word n v t p.ready.right (position x) p.low p.high

      od : get_or w (os + position x) 0 ≡ order_of n v x
      od = order-word n v cut os cs t w ends x p.ready p.cut_low p.low p.high p.order

  pub entry-facts : (N E : ℕ) → EntryIn n v N E cut os cs t w ends x a → EntryFacts n v N E cut os cs t w ends x a
  entry-facts N E p = go N E p.ready.N_is p.ready.E_is p
    where
      go : (N E : ℕ) → N ≡ count n v → E ≡ codes n v → EntryIn n v N E cut os cs t w ends x a → EntryFacts n v N E cut os cs t w ends x a
      go N E e f =
          subst (λ (z : ℕ). EntryIn n v z E cut os cs t w ends x a → EntryFacts n v z E cut os cs t w ends x a) (sym e)
          (subst (λ (z : ℕ). EntryIn n v (count n v) z cut os cs t w ends x a → EntryFacts n v (count n v) z cut os cs t w ends x a) (sym f) facts_at)
