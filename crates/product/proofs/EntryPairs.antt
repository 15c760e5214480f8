-- The pairs of one entry x with the listed entries that go with it, by the words that stand for them: where
-- each leads, what order its product has, how many there are, and what they add at a position.
use Rattle.std.proofs.Common.{◌≡◌, refl, sym, ap, ◌∙◌, subst, List, [], ◌∷◌, ℕ, suc, ◌+◌, ◌-◌, ◌*◌, ◌/◌, ◌%◌, ◌≤◌, ◌<◌, arith, eqb, length, get_or}
use Rattle.std.proofs.Math.Decide.{dec_le}
use Rattle.algebra.specs.Sum.{sum_to}
use Rattle.algebra.specs.Polynomial.{Monomial, ◌⊕◌, order, indicator}
use Rattle.algebra.proofs.Monomials.{order-⊕}
use Rattle.monomial.specs.Count.{count, codes, words}
use Rattle.monomial.specs.Table.{C1, C2, product_place}
use Rattle.monomial.proofs.Bounds.{codes-bound}
use Rattle.series.specs.Image.{position, coefficient, monomial_at}
use Rattle.series.proofs.Positions.{length-monomial_at}
use Rattle.product.specs.Pairs.{order_of, by_order, cut_sum, pairs_within}
use Rattle.product.specs.Regions.{Ready, Listed}
use Rattle.product.specs.Rows.{place_with, value_with, HeadIn}
use Rattle.product.proofs.Ordered.{Below, listed_below, by_order-at}
use Rattle.product.proofs.PairSums.{found}
use Rattle.product.proofs.TableWords.{first_word, second_word, product_place-inside}
use Rattle.product.proofs.EntryRow.{order-word, limit, limit_few, first-inside, second-inside}
use Rattle.product.proofs.EntryRow.{place_is, row-sum, row-pairs}

-- d1 and d2 are where the codes of x lead in the table, lim how many entries go with x
pub record PairFacts (n v N cut cs : ℕ) (t w : List ℕ) (x : ℕ) (ys : List ℕ) (d1 d2 lim : ℕ) : Type 0 where
  pub few : lim ≤ N
  pub listed : (k : ℕ) → k < lim → k < length (by_order n v ys (suc n))
  pub first_in : (k : ℕ) → k < lim → d1 + get_or w (cs + k) 0 % 65536 < length t
  pub second_in : (k : ℕ) → k < lim → d2 + get_or w (cs + k) 0 / 65536 < length t
  pub place_low : (k : ℕ) → k < lim → 1 ≤ place_with t w d1 d2 cs k
  pub place_high : (k : ℕ) → k < lim → place_with t w d1 d2 cs k ≤ N
  pub place_order : (k : ℕ) → k < lim
      → order (monomial_at n v (place_with t w d1 d2 cs k))
      ≡ order_of n v x + order_of n v (get_or (by_order n v ys (suc n)) k 0)
  pub within : (k : ℕ) → k < lim
      → order_of n v x + order_of n v (get_or (by_order n v ys (suc n)) k 0) ≤ cut
  pub sum : (j : ℕ) → 1 ≤ j → j ≤ N
      → sum_to
      (λ k. value_with w (coefficient x) (cs + (N + 1)) k * indicator (eqb (place_with t w d1 d2 cs k) j)) lim
      ≡ cut_sum n v cut (x ∷ []) ys j
  pub pairs : lim ≡ pairs_within n v cut (x ∷ []) ys

module _ (n v cut os cs : ℕ) (t w ends : List ℕ) (x : ℕ) (ys : List ℕ) (cut_low : cut ≤ n)
    (within : order_of n v x ≤ cut) where
  module _ (ready : Ready n v (count n v) (codes n v) os t w) (low : 1 ≤ position x)
      (high : position x ≤ count n v) (listed : Listed n v (count n v) ys cs w ends) where
    abbrev N : ℕ
    N = count n v

    abbrev mx : Monomial
    mx = monomial_at n v (position x)

    first : get_or t (position x - 1) 0 ≡ C1 n v (monomial_at n v (position x))
    first = first_word n v t ready.right (position x) low high

    second : get_or t (count n v + (position x - 1)) 0 ≡ C2 n v (monomial_at n v (position x))
    second = second_word n v t ready.right (position x) low high

    od : get_or w (os + position x) 0 ≡ order_of n v x
    od = order-word n v cut os cs t w ends x ready cut_low low high within

    lim : get_or ends (cut - order_of n v x) 0 ≡ length (by_order n v ys (suc (cut - order_of n v x)))
    lim = limit n v cut os cs t w ends x ready cut_low low high within ys listed

    few_lim : length (by_order n v ys (suc (cut - order_of n v x))) ≤ count n v
    few_lim = limit_few n v cut os cs t w ends x ready cut_low low high within ys listed

    module _ (k : ℕ) (l : k < length (by_order n v ys (suc (cut - order_of n v x)))) where
      abbrev y : ℕ
      y = get_or (by_order n v ys (suc (cut - order_of n v x))) k 0

      abbrev my : Monomial
      my = monomial_at n v (position y)

      abbrev place : ℕ
      place = place_with t w (count n v + count n v + C1 n v mx) (count n v + count n v + codes n v + C2 n v mx) cs k

      good : Below n v (count n v) (suc (cut - order_of n v x)) y
      good = listed_below n v N ys (suc (cut - order_of n v x)) k listed.placed l

      in_all : (k < length (by_order n v ys (suc n))) × (get_or (by_order n v ys (suc n)) k 0 ≡ y)
      in_all = by_order-at n v ys (suc (cut - order_of n v x)) (suc n) k (omega arith) l

      is : place_with t w (count n v + count n v + C1 n v mx) (count n v + count n v + codes n v + C2 n v mx) cs k
          ≡ product_place n v mx my
      is = place_is n v cut os cs t w ends x ready cut_low low high within ys listed k l

      within_y : order_of n v x + order_of n v y ≤ cut
      within_y = omega (arith, good.order)

      inside : (1 ≤ product_place n v mx my) × (product_place n v mx my ≤ count n v)
      unfolding order_of
      inside =
          product_place-inside n v t ready.right mx my (length-monomial_at n v (position x) low high)
          (length-monomial_at n v (position y) good.low good.high) (omega (arith, within_y))

      order_is : order (monomial_at n v place) ≡ order_of n v x + order_of n v y
      unfolding order_of
      order_is =
          ap (λ (z : ℕ). order (monomial_at n v z)) is
          ∙ ap order
          (found n v mx my (product_place n v mx my) (length-monomial_at n v (position x) low high)
          (length-monomial_at n v (position y) good.low good.high) inside.0 inside.1
          refl (dec_le (order (mx ⊕ my)) n))
          ∙ order-⊕ mx my

    facts_at : PairFacts n v (count n v) cut cs t w x ys (count n v + count n v + get_or t (position x - 1) 0)
        (count n v + count n v + codes n v + get_or t (count n v + (position x - 1)) 0)
        (get_or ends (cut - get_or w (os + position x) 0) 0)
    facts_at =
        let R = ready.right in
        rw (first, second, od, lim) (record {
          few = few_lim;
          listed = λ k l. (in_all k l).0;
          first_in = λ k l. omega (arith, first-inside n v cut os cs t w ends x ready cut_low low high within ys listed k l, R.long);
          second_in = λ k l. omega (arith, second-inside n v cut os cs t w ends x ready cut_low low high within ys listed k l, R.long);
          place_low = λ k l. omega (arith, is k l, (inside k l).0);
          place_high = λ k l. omega (arith, is k l, (inside k l).1);
          place_order = λ k l. order_is k l ∙ ap (λ (z : ℕ). order_of n v x + order_of n v z) (sym (in_all k l).1);
          within = λ k l. omega (arith, within_y k l, ap (order_of n v) (in_all k l).1);
          sum = row-sum n v cut os cs t w ends x ready cut_low low high within ys listed;
          pairs = row-pairs n v cut os cs t w ends x ready cut_low low high within ys listed;
        })

    head_at : HeadIn (count n v) (codes n v) cut os t w ends x
    unfolding words
    head_at = record {
      low = low;
      high = high;
      few = ready.right.allowed.few;
      few_codes = codes-bound n v ready.right.allowed;
      table_here = omega (arith, ready.right.long);
      orders_in = ready.inside;
      order_in = omega (arith, od);
      ends_in = omega (arith, cut_low, listed.ends_in);
    }

  pub pair_facts : {N E : ℕ} → Ready n v N E os t w → 1 ≤ position x → position x ≤ N
      → Listed n v N ys cs w ends
      → HeadIn N E cut os t w ends x
      × PairFacts n v N cut cs t w x ys (N + N + get_or t (position x - 1) 0)
      (N + N + E + get_or t (N + (position x - 1)) 0) (get_or ends (cut - get_or w (os + position x) 0) 0)
  pair_facts {N} {E} r = go N E r.N_is r.E_is r
    where
      T : ℕ → ℕ → Type 0
      T N E =
          Ready n v N E os t w → 1 ≤ position x → position x ≤ N → Listed n v N ys cs w ends
          → HeadIn N E cut os t w ends x
          × PairFacts n v N cut cs t w x ys (N + N + get_or t (position x - 1) 0)
          (N + N + E + get_or t (N + (position x - 1)) 0) (get_or ends (cut - get_or w (os + position x) 0) 0)

      go : (N E : ℕ) → N ≡ count n v → E ≡ codes n v → T N E
      go N E e f =
          subst (λ (z : ℕ). T z E) (sym e)
          (subst (λ (z : ℕ). T (count n v) z) (sym f) (λ r l h d. (head_at r l h d, facts_at r l h d)))
