-- One product of derivatives, from what it asks to the sums grown by its coefficients: the
-- derivative of the second factor is listed, that of the first copied, and the rows added. Each
-- step is told what it asks by those before.
use Rattle.std.proofs.Common.{◌≡◌, sym, ap, ap₂, ◌∙◌, subst, List, ◌++◌, ℕ, suc, ◌+◌, ◌*◌, ◌≤◌, ◌<◌, mul-le-mul, mul-one, arith, leb, le→leb, length, get_or, take, drop, length-append, get_or-take, length-take-le, drop_at}
use Rattle.algebra.specs.Polynomial.{Polynomial, order, coefficient_of, scale, mul, derivative}
use Rattle.algebra.specs.Agreement.{Agree}
use Rattle.algebra.proofs.Booleans.{indicator-yes}
use Rattle.algebra.proofs.Modulo.{mod-cong}
use Rattle.algebra.proofs.Ring.{one-scale}
use Rattle.algebra.proofs.Agreement.{agree_trans, agree_exact, agree_mul}
use Rattle.algebra.proofs.Within.{within_scale, within_derivative}
use Rattle.monomial.specs.Count.{count}
use Rattle.series.specs.Image.{monomial_at, entries, polynomial, image}
use Rattle.series.specs.Series.{IsSeries}
use Rattle.series.specs.Over.{over}
use Rattle.series.specs.Faults.{first_fault}
use Rattle.series.proofs.Series.{fault_none_to_series}
use Rattle.series.proofs.Positions.{order-monomial_at}
use Rattle.series.proofs.Reading.{polynomial-within}
use Rattle.series.proofs.Writing.{length-image, image-fault_none, read_image}
use Rattle.series.proofs.Over.{over-in, over-above, length_over}
use Rattle.product.specs.Pairs.{pair_sum, cut_sum, sum_at}
use Rattle.product.specs.Regions.{Placed, Listed, Added, RowsIn, source_entries}
use Rattle.product.specs.List.{SortIn, Sorted}
use Rattle.product.specs.Core.{SeriesIn}
use Rattle.derivation.specs.Derivative.{DerivativeIn}
use Rattle.product.proofs.SumsKept.{sum_at-over}
use Rattle.product.proofs.Accumulate.{kept}
use Rattle.product.proofs.AddRows.{pairs_within-few}
use Rattle.product.proofs.PairSums.{pair_sum-is}
use Rattle.product.proofs.Prepared.{checked, count-few, source_entries_are, source_low, source_high}
use Rattle.product.proofs.Prepared.{source_order, ready_same, listed_same}
use Rattle.bracket.specs.Sums.{Factors, HalfIn, Grown}
use Rattle.bracket.proofs.Growing.{grown-agree}

-- ---- the image of a derivative

module _ {n v N E p : ℕ} {t a b : List ℕ} (q : Factors n v N E p t a b) (R : Polynomial)
    (rest : List ℕ) {r : List ℕ} (e : r ≡ image p n v R ++ rest) where
  positive : 0 < p
  positive = omega (arith, q.modulus_low)

  long_image : length (image p n v R) ≡ N + 1
  long_image =
      length-image p n v positive q.modulus_high R ∙ ap (λ (z : ℕ). z + 1) (sym q.N_is)

  pub written-series : SeriesIn p N r
  written-series =
      record {
        long = omega (arith, ap length e, length-append (image p n v R) rest, long_image);
        good = ap (first_fault p N) e
            ∙ subst (λ (k : ℕ). first_fault p k (image p n v R ++ rest) ≡ k + 1) (sym q.N_is)
            (image-fault_none p n v positive q.modulus_high R rest);
      }

  pub written-drop : drop (N + 1) r ≡ rest
  written-drop = ap (drop (N + 1)) e ∙ drop_at (image p n v R) rest (N + 1) long_image

-- ---- the steps

module _ {n v N E p i j f : ℕ} {t a b result w : List ℕ} {s : ℕ}
    (q : HalfIn n v N E p i j f t a b result w s) where
  abbrev P : Polynomial
  P = polynomial n v a

  abbrev Q : Polynomial
  Q = polynomial n v b

  abbrev z : Factors n v N E p t a b
  z = q.factors

  pub few : N ≤ 8008
  few = omega (arith, z.N_is, z.right.allowed.few)

  pub inside : 7 * (N + 1) ≤ length w
  inside = omega (arith, q.summing.ready.inside)

  pub second-asks : DerivativeIn n v N E j 1 p b t result
  second-asks =
      record {
        right = z.right;
        N_is = z.N_is;
        E_is = z.E_is;
        variable = q.second_variable;
        series = z.second.good;
        long = z.second.long;
        room = q.summing.result_in;
        factor = z.modulus_low;
        modulus_high = z.modulus_high;
      }

  module _ {r1 : List ℕ}
      (e1 : r1
      ≡ image p n v (scale 1 (derivative j (polynomial n v b))) ++ drop (N + 1) result) where
    series1 : SeriesIn p N r1
    series1 = written-series z (scale 1 (derivative j Q)) _ e1

    pub sort_asks : SortIn n v N (6 * (N + 1)) (3 * (N + 1)) t r1 w
    sort_asks =
        record {
          ready = (E, q.summing.ready);
          image = checked p N r1 series1;
          apart = omega arith;
          inside = omega (arith, inside);
          orders_apart = λ k l u h. omega arith;
        }

    pub first-asks : DerivativeIn n v N E i f p a t r1
    first-asks =
        record {
          right = z.right;
          N_is = z.N_is;
          E_is = z.E_is;
          variable = q.first_variable;
          series = z.first.good;
          long = z.first.long;
          room = series1.long;
          factor = q.factor;
          modulus_high = z.modulus_high;
        }

    module _ {w1 ends : List ℕ}
        (o : Sorted n v N (6 * (N + 1)) (3 * (N + 1)) t r1 w w1 ends) {r2 : List ℕ}
        (e2 : r2 ≡ image p n v (scale f (derivative i (polynomial n v a))) ++ drop (N + 1) r1) where
      series2 : SeriesIn p N r2
      series2 = written-series z (scale f (derivative i P)) _ e2

      pub copy_asks : (2 * (N + 1) + (N + 1) ≤ length w1) × (N + 1 ≤ length r2)
      copy_asks = (omega (arith, o.outside.size, inside), series2.long)

      module _ {w2 : List ℕ} (e3 : w2 ≡ over w1 (2 * (N + 1)) (take (N + 1) r2)) {m : ℕ}
          (em : m ≡ get_or r2 0 0) where
        long2 : length (take (N + 1) r2) ≡ N + 1
        long2 = length-take-le (N + 1) r2 series2.long

        size2 : length w2 ≡ length w1
        size2 =
            ap length e3
            ∙ length_over w1 (2 * (N + 1)) (take (N + 1) r2) (omega (arith, long2, copy_asks.0))

        above2 : (k : ℕ) → 3 * (N + 1) ≤ k → get_or w2 k 0 ≡ get_or w1 k 0
        above2 k l =
            ap (λ (x : List ℕ). get_or x k 0) e3
            ∙ over-above w1 (2 * (N + 1)) (take (N + 1) r2) k (omega (arith, copy_asks.0))
            (omega (arith, long2))

        here2 : (k : ℕ) → k < N + 1 → get_or w2 (2 * (N + 1) + k) 0 ≡ get_or r2 k 0
        here2 k l =
            ap (λ (x : List ℕ). get_or x (2 * (N + 1) + k) 0) e3
            ∙ over-in w1 (2 * (N + 1)) (take (N + 1) r2) k (omega (arith, copy_asks.0))
            (omega (arith, long2))
            ∙ get_or-take (N + 1) r2 k 0 l

        room2 : 2 * (N + 1) + (N + 1) ≤ length w2
        room2 = omega (arith, size2, copy_asks.0)

        -- list and copy stand behind the sums
        sums2 : (k : ℕ) → k < N + 1 → sum_at w2 k ≡ sum_at w k
        unfolding sum_at
        sums2 k l =
            ap (λ (x : List ℕ). sum_at x k) e3
            ∙ sum_at-over w1 (2 * (N + 1)) (take (N + 1) r2) k (omega (arith, copy_asks.0))
            (omega arith)
            ∙ ap₂ (λ (x y : ℕ). x + y * 4294967296) (o.outside.below (2 * k) (omega arith))
            (o.outside.below (2 * k + 1) (omega arith))

        listed2 : Listed n v N (entries r1) (3 * (N + 1)) w2 ends
        listed2 =
            listed_same n v N E (6 * (N + 1)) (3 * (N + 1)) t w1 w2 size2 (entries r1) ends
            (λ k l u. above2 k l) o.listed

        ask : RowsIn n v N E n (6 * (N + 1)) (3 * (N + 1)) t w2 ends (2 * (N + 1))
            (get_or r2 0 0) s
        ask =
            record {
              cut_low = omega arith;
              ready = ready_same n v N E (6 * (N + 1)) 0 t w1 w2 size2
                  (λ k l u. above2 k (omega arith)) (o.ready E z.E_is);
              second = (entries r1, listed2);
              apart = omega arith;
              inside = omega (arith, room2, count-few p N r2 series2);
              few = count-few p N r2 series2;
              low = source_low p N r2 series2 w2 (2 * (N + 1)) here2 room2;
              high = source_high p N r2 series2 w2 (2 * (N + 1)) here2 room2;
              order = source_order p N r2 series2 w2 (2 * (N + 1)) here2 room2 n v z.N_is;
              bound = λ k l. omega (arith, sums2 k l, q.summing.bound k l);
              room = omega (arith, q.room, mul-le-mul few few);
            }

        pub rows-ask : RowsIn n v N E n (6 * (N + 1)) (3 * (N + 1)) t w2 ends (2 * (N + 1)) m s
        rows-ask =
            subst
            (λ (k : ℕ). RowsIn n v N E n (6 * (N + 1)) (3 * (N + 1)) t w2 ends (2 * (N + 1)) k s)
            (sym em) ask

        -- ---- what is left

        source : source_entries w2 (2 * (N + 1)) m ≡ entries r2
        source =
            ap (source_entries w2 (2 * (N + 1))) em
            ∙ source_entries_are p N r2 series2 w2 (2 * (N + 1)) here2 room2

        module _ {w3 : List ℕ} {s' : ℕ}
            (done : (ys : List ℕ) → Listed n v N ys (3 * (N + 1)) w2 ends
            → Added n v N n (source_entries w2 (2 * (N + 1)) m) ys w2 w3 s s') where
          added : Added n v N n (entries r2) (entries r1) w2 w3 s s'
          added =
              subst (λ (x : List ℕ). Added n v N n x (entries r1) w2 w3 s s') source
              (done (entries r1) listed2)

          placed : (r : List ℕ) → SeriesIn p N r → Placed (count n v) (entries r)
          placed r x =
              subst (λ (k : ℕ). Placed k (entries r)) z.N_is (checked p N r x).placed

          -- no pair that adds to a place is above order n
          cut_is : (k : ℕ) → 1 ≤ k → k ≤ N
              → cut_sum n v n (entries r2) (entries r1) k
              ≡ coefficient_of (monomial_at n v k) (mul (polynomial n v r2) (polynomial n v r1))
          unfolding cut_sum polynomial
          cut_is k l h =
              let o = order (monomial_at n v k) in
              let u : k ≤ count n v = omega (arith, z.N_is) in
              ap (λ (x : ℕ). pair_sum n v (entries r2) (entries r1) k * x)
              (indicator-yes (leb o n) (le→leb o n (order-monomial_at n v k l u)))
              ∙ mul-one _
              ∙ pair_sum-is n v (entries r2) (entries r1) k (placed r2 series2) (placed r1 series1)
              l u

          exact : Grown n v N p (mul (polynomial n v r2) (polynomial n v r1)) w w3 s s' 1
          exact =
              record {
                size = added.size ∙ size2 ∙ o.outside.size;
                kept = λ k l.
                    kept w2 w3 (2 * (N + 1)) k added.rest (omega arith)
                    ∙ above2 k (omega arith)
                    ∙ o.outside.above k (omega arith);
                sums = λ k l h.
                    mod-cong p
                    (added.sums k l h ∙ ap₂ ◌+◌ (sums2 k (omega arith)) (cut_is k l h));
                bound = added.bound;
                few = omega (
                  arith,
                  added.pairs,
                  pairs_within-few n v n (entries r1) (entries r2) N (checked p N r1 series1).few,
                  mul-le-mul (checked p N r2 series2).few few,
                  mul-le-mul few few,
                );
              }

          -- the derivatives are read back up to order n
          read : (c k : ℕ) (ws rest : List ℕ) → SeriesIn p N ws
              → Agree p (suc n)
              (polynomial n v (image p n v (scale c (derivative k (polynomial n v ws))) ++ rest))
              (scale c (derivative k (polynomial n v ws)))
          read c k ws rest x =
              let y = fault_none_to_series p N ws x.good x.long in
              let i = subst (λ (k : ℕ). IsSeries p k ws) z.N_is y in
              read_image p n v (omega (arith, z.modulus_low)) z.modulus_high
              (scale c (derivative k (polynomial n v ws))) rest
              (within_scale v c (derivative k (polynomial n v ws))
              (within_derivative v k (polynomial n v ws) (polynomial-within n v i)))

          agrees : Agree p (suc n) (mul (polynomial n v r2) (polynomial n v r1))
              (mul (scale f (derivative i (polynomial n v a))) (derivative j (polynomial n v b)))
          agrees =
              agree_mul p
              (subst (λ (x : List ℕ). Agree p (suc n) (polynomial n v x) (scale f (derivative i P)))
              (sym e2) (read f i a (drop (N + 1) r1) z.first))
              (agree_trans p
              (subst (λ (x : List ℕ). Agree p (suc n) (polynomial n v x) (scale 1 (derivative j Q)))
              (sym e1) (read 1 j b (drop (N + 1) result) z.second))
              (agree_exact p _ _ (one-scale (derivative j Q))))

          pub half-grown : Grown n v N p
              (mul (scale f (derivative i (polynomial n v a))) (derivative j (polynomial n v b))) w
              w3 s s' 1
          half-grown = grown-agree z.N_is agrees exact
