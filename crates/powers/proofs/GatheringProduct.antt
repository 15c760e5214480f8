-- One product of a walk: the sums are 0 but at the places of the orders that the product can have,
-- so that the entries of those places are all of its terms.
use Rattle.std.proofs.Common.{◌≡◌, sym, ap, ◌∙◌, subst, List, map, ℕ, suc, ◌+◌, ◌-◌, ◌*◌, ◌/◌, ◌%◌, ◌≤◌, ◌<◌, mul-le-mul, mul-zero, zero-mul, add-one, arith, leb, leb→le, length, get_or, take, drop, drop-drop}
use Rattle.std.proofs.Math.Nat.{zero-mod}
use Rattle.std.proofs.Math.Decide.{ℕ_discrete, dec_le, dec_lt}
use Rattle.algebra.specs.Polynomial.{Polynomial, order, indicator, coefficient_of, mul}
use Rattle.algebra.proofs.Booleans.{indicator-no}
use Rattle.monomial.specs.Count.{count}
use Rattle.series.specs.Image.{position, monomial_at, term_of}
use Rattle.product.specs.Pairs.{order_of, by_order, pair_sum, cut_sum, pairs_within, sum_at}
use Rattle.product.specs.Rows.{put}
use Rattle.product.specs.Regions.{Placed, Listed, Added, RowsIn, source_entries}
use Rattle.product.proofs.Accumulate.{length-put, drop-put, sum-put_same, sum-put_other, kept}
use Rattle.product.proofs.Ordered.{placed_from}
use Rattle.product.proofs.Sources.{length-source, source_at}
use Rattle.product.proofs.PairSums.{pair_sum-is}
use Rattle.product.proofs.AddRows.{ready_kept, listed_kept, pairs_within-few}
use Rattle.powers.specs.Powers.{Clean, places, Ordered, PowerIn, Powered}
use Rattle.powers.specs.Gathering.{Possible, Room, Made, listed_at, GatherIn, Gathered}
use Rattle.powers.specs.Collecting.{CollectIn, Collected}
use Rattle.powers.proofs.GatheringOrders.{no_constant, pair_sum-none}
use Rattle.powers.proofs.GatheringPlaces.{start-few, start-ascends, listed-low, listed-high}
use Rattle.powers.proofs.GatheringPlaces.{listed-order, listed-least, listed-where}

module _ {n v N E lo wanted cut os cs ps : ℕ} {t w ends starts : List ℕ}
    {src m dst p : ℕ}
    (q : PowerIn n v N E lo wanted cut os cs ps t w ends starts src m dst p) where
  small : N ≤ 8008
  small = omega (arith, q.multiply.ready.N_is, q.multiply.ready.right.allowed.few)

  same-N : N ≡ count n v
  same-N = q.multiply.ready.N_is

  sums_none : (j : ℕ) → j < N + 1 → sum_at w j ≡ 0
  unfolding sum_at
  sums_none j l =
      omega (arith, q.clean.zero (2 * j) (omega arith), q.clean.zero (2 * j + 1) (omega arith))

  pub rows-ask : RowsIn n v N E cut os cs t w ends src m 0
  rows-ask = record {
    cut_low = q.multiply.cut_low;
    ready = q.multiply.ready;
    second = q.multiply.second;
    apart = q.multiply.apart;
    inside = q.multiply.inside;
    few = q.multiply.few;
    low = q.multiply.low;
    high = q.multiply.high;
    order = q.multiply.order;
    bound = λ j l. omega (arith, sums_none j l);
    room = omega (arith, small, mul-le-mul small small);
  }

  -- the larger of two orders
  pub larger_in : (b : ℕ) → (lo ≤ wanted → b ≡ wanted) × (wanted ≤ lo → b ≡ lo)
      → (lo ≤ b) × (b ≤ suc cut) × (b < length starts)
  larger_in b larger = go (dec_le lo wanted)
    where
      go : Dec (lo ≤ wanted) → (lo ≤ b) × (b ≤ suc cut) × (b < length starts)
      go (yes u) =
          let e = larger.0 u in (
            omega (arith, e),
            omega (arith, e, q.wanted_low),
            omega (arith, e, q.wanted_low, q.multiply.cut_low, q.ordered.starts_in),
          )
      go (no u) =
          let e = larger.1 (omega arith) in (
            omega (arith, e),
            omega (arith, e, q.least),
            omega (arith, e, q.least, q.multiply.cut_low, q.ordered.starts_in),
          )

  -- ---- the source

  long_source : length (source_entries w src m) ≡ m
  long_source = length-source w src m q.multiply.inside

  source_is : (i : ℕ) → i < m → get_or (source_entries w src m) i 0 ≡ get_or w (src + 1 + i) 0
  source_is = source_at w src m q.multiply.inside

  placed_source : Placed (count n v) (source_entries w src m)
  placed_source =
      placed_from (count n v) (source_entries w src m)
      (λ i h.
      let k : i < m = omega (arith, long_source) in
      rw (source_is i k) (q.multiply.low i k, omega (arith, q.multiply.high i k, same-N)))

  source_order : (i : ℕ) → i < length (source_entries w src m)
      → lo ≤ suc (order_of n v (get_or (source_entries w src m) i 0))
  source_order i h =
      let k : i < m = omega (arith, long_source) in
      rw (source_is i k) (q.source i k)

  -- ---- the rows added, and place 0 made 0

  module _ {w1 : List ℕ} {pairs : ℕ} {ys : List ℕ} (l : Listed n v N ys cs w ends)
      (added : Added n v N cut (source_entries w src m) ys w w1 0 pairs) where
    abbrev w2 : List ℕ
    w2 = put w1 0 0

    size2 : length w2 ≡ length w
    size2 = length-put w1 0 0 ∙ added.size

    rest2 : drop (2 * (N + 1)) w2 ≡ drop (2 * (N + 1)) w
    rest2 = drop-put w1 0 0 (2 * (N + 1)) (omega arith) ∙ added.rest

    above2 : (i : ℕ) → 2 * (N + 1) ≤ i → get_or w2 i 0 ≡ get_or w i 0
    above2 i u = kept w w2 (2 * (N + 1)) i rest2 u

    ordered2 : Ordered n v N ps w2 starts
    ordered2 =
        let o = q.ordered in
        record {
          apart = o.apart;
          inside = omega (arith, o.inside, size2);
          place = λ k h. ap position (above2 (ps + 1 + k) (omega (arith, o.apart))) ∙ o.place k h;
          starts_in = o.starts_in;
          start = o.start;
        }

    few_cut : suc cut ≤ suc n
    few_cut = omega (arith, q.multiply.cut_low)

    module _ {from b mid to : ℕ} (ef : from ≡ get_or starts lo 0)
        (larger : (lo ≤ wanted → b ≡ wanted) × (wanted ≤ lo → b ≡ lo)) (em : mid ≡ get_or starts b 0)
        (et : to ≡ get_or starts (cut + 1) 0) where
      from_is : from ≡ length (by_order n v (places N) lo)
      from_is = ef ∙ q.ordered.start lo (omega (arith, q.least, few_cut))

      to_is : to ≡ length (by_order n v (places N) (suc cut))
      to_is =
          et ∙ ap (λ (x : ℕ). get_or starts x 0) (add-one cut) ∙ q.ordered.start (suc cut) few_cut

      between : (lo ≤ b) × (b ≤ suc cut)
      between = ((larger_in b larger).0, (larger_in b larger).1)

      mid_is : mid ≡ length (by_order n v (places N) b)
      mid_is = em ∙ q.ordered.start b (omega (arith, between, few_cut))

      room : Room N dst p (put w1 0 0)
      room = record {
        small = omega (arith, small);
        apart = q.multiply.result_apart;
        inside = omega (arith, q.multiply.result_in, size2);
        modulus_low = q.multiply.modulus_low;
        modulus_high = q.multiply.modulus_high;
      }

      -- a listed position of the orders from lo to cut
      possible : (k : ℕ) → from ≤ k → k < to → Possible n v N lo cut (listed_at (put w1 0 0) ps k)
      possible k a b =
          let late : length (by_order n v (places N) lo) ≤ k = omega (arith, from_is) in
          let early : k < length (by_order n v (places N) (suc cut)) = omega (arith, to_is) in
          record {
            low = listed-low ordered2 (suc cut) few_cut k early;
            high = listed-high ordered2 (suc cut) few_cut k early;
            least = listed-least ordered2 (suc cut) few_cut lo k late early;
            most = omega (arith, listed-order ordered2 (suc cut) few_cut k early);
          }

      pub ascends : from ≤ to
      ascends = omega (arith, from_is, to_is, start-ascends ordered2 lo (suc cut) q.least)

      many : to ≤ N
      many = omega (arith, to_is, start-few ordered2 (suc cut))

      pub gather_asks : GatherIn n v N lo cut ps from mid to dst p (put w1 0 0)
      gather_asks = record {
        room = room;
        low = omega (arith, from_is, mid_is, start-ascends ordered2 lo b between.0);
        high = omega (arith, mid_is, to_is, start-ascends ordered2 b (suc cut) between.1);
        many = many;
        apart = q.ordered.apart;
        below = q.below;
        place = possible;
      }

      few_source : length (source_entries w src m) ≤ 8008
      few_source = omega (arith, long_source, q.multiply.few, small)

      -- the number of pairs is small
      pub pairs_few : pairs ≤ 8008 * 8008
      pairs_few =
          omega (
            arith,
            added.pairs,
            pairs_within-few n v cut ys (source_entries w src m) N l.few,
            long_source,
            small,
            mul-le-mul (few_source) small,
          )

      -- ---- the sums after the rows

      placed_listed : Placed (count n v) ys
      placed_listed = subst (λ (z : ℕ). Placed z ys) same-N l.placed

      sum-at : (j : ℕ) → 1 ≤ j → j ≤ N → sum_at w2 j ≡ cut_sum n v cut (source_entries w src m) ys j
      sum-at j a b =
          sum-put_other w1 0 j 0 (λ e. omega arith) ∙ added.sums j a b
          ∙ omega (arith, sums_none j (omega arith))

      origin : length (by_order n v ys 1) ≡ 0
      origin = sym (l.end 0 (omega arith)) ∙ q.origin

      sum_below : (j : ℕ) → 1 ≤ j → j ≤ N → order (monomial_at n v j) < lo
          → cut_sum n v cut (source_entries w src m) ys j ≡ 0
      unfolding cut_sum
      sum_below j a b u =
          ap (λ (z : ℕ). z * indicator (leb (order (monomial_at n v j)) cut))
          (pair_sum-none n v (source_entries w src m) ys j lo placed_source placed_listed a
          (omega (arith, same-N))
          source_order (no_constant n v ys origin) u)
          ∙ zero-mul (indicator (leb (order (monomial_at n v j)) cut))

      sum-above : (j : ℕ) → cut < order (monomial_at n v j)
          → cut_sum n v cut (source_entries w src m) ys j ≡ 0
      unfolding cut_sum
      sum-above j u =
          ap (λ (z : ℕ). pair_sum n v (source_entries w src m) ys j * z)
          (indicator-no (leb (order (monomial_at n v j)) cut)
          (λ t. omega (arith, leb→le (order (monomial_at n v j)) cut t)))
          ∙ mul-zero (pair_sum n v (source_entries w src m) ys j)

      abbrev P : Polynomial
      P = mul (map (term_of n v) (source_entries w src m)) (map (term_of n v) ys)

      coefficient-at : (j : ℕ) → 1 ≤ j → j ≤ N
          → sum_at w2 j % p
          ≡ coefficient_of (monomial_at n v j) P * indicator (leb (order (monomial_at n v j)) cut) % p
      unfolding cut_sum
      coefficient-at j a b =
          ap (λ (z : ℕ). z % p)
          (sum-at j a b
          ∙ ap (λ (z : ℕ). z * indicator (leb (order (monomial_at n v j)) cut))
          (pair_sum-is n v (source_entries w src m) ys j placed_source placed_listed a
          (omega (arith, same-N))))

      source2 : source_entries w2 src m ≡ source_entries w src m
      unfolding source_entries
      source2 =
          let d = src + 1 - 2 * (N + 1) in
          let e : 2 * (N + 1) + d ≡ src + 1 = omega (arith, q.multiply.apart) in
          ap (take m)
          (ap (λ (x : ℕ). drop x w2) (sym e) ∙ sym (drop-drop d (2 * (N + 1)) w2)
          ∙ ap (drop d) rest2
          ∙ drop-drop d (2 * (N + 1)) w
          ∙ ap (λ (x : ℕ). drop x w) e)

      source_same : (i : ℕ) → get_or w2 (src + 1 + i) 0 ≡ get_or w (src + 1 + i) 0
      source_same i = above2 (src + 1 + i) (omega (arith, q.multiply.apart))

      -- where there are no more pairs than positions
      pub collect_asks : 2 * pairs ≤ to - from
          → CollectIn n v N E lo cut os cs t (put w1 0 0) ends src m dst p ys
      collect_asks u = record {
        room = room;
        cut_low = q.multiply.cut_low;
        ready = ready_kept n v N E os cs t w w2 size2 rest2 q.multiply.ready;
        listed = listed_kept n v N E os cs t w w2 size2 rest2 ys ends l;
        origin = origin;
        orders_below = q.orders_below;
        codes_below = q.codes_below;
        source_above = q.source_above;
        source_in = omega (arith, q.multiply.inside, size2);
        low = λ i h. rw (source_same i) (q.multiply.low i h);
        high = λ i h. rw (source_same i) (q.multiply.high i h);
        order = λ i h. rw (source_same i) (q.multiply.order i h);
        least = λ i h. rw (source_same i) (q.source i h);
        sums = λ j a b. sum-at j a b ∙ ap (λ (z : List ℕ). cut_sum n v cut z ys j) (sym source2);
        few =
            omega (
              arith,
              ap (λ (z : List ℕ). pairs_within n v cut z ys) source2,
              added.pairs,
              many,
            );
      }

      -- ---- the sums after the entries are made

      module _ {w3 : List ℕ} (M : Made n v N lo cut dst p (put w1 0 0) w3)
          (none : (j : ℕ) → 1 ≤ j → j ≤ N → sum_at w3 j ≡ 0) (r : ℕ) (few : r ≤ get_or w3 dst 0)
          (early : (i : ℕ) → i < r
          → order (monomial_at n v (position (get_or w3 (dst + 1 + i) 0))) < wanted) where
        ended : (j : ℕ) → j ≤ N → Dec (j ≡ 0) → sum_at w3 j ≡ 0
        ended j b (yes e) =
            omega (
              arith,
              M.less j b,
              ap (sum_at w2) e
                  ∙ sum-put_same w1 0 0
                  (omega (arith, added.size, q.multiply.result_apart, q.multiply.result_in)),
            )
        ended j b (no e) = none j (omega arith) b

        clean3 : Clean N w3
        unfolding sum_at
        clean3 =
            record {
              zero = λ i h. go i h (ended (i / 2) (omega arith) (ℕ_discrete (i / 2) 0)) (dec_lt (2 * (i / 2)) i);
            }
          where
            go : (i : ℕ) → i < 2 * (N + 1) → sum_at w3 (i / 2) ≡ 0 → Dec (2 * (i / 2) < i)
                → get_or w3 i 0 ≡ 0
            go i h z (yes u) =
                let e : 2 * (i / 2) + 1 ≡ i = omega arith in
                rw (← e) (omega (arith, z))
            go i h z (no u) =
                let e : 2 * (i / 2) ≡ i = omega arith in
                rw (← e) (omega (arith, z))

        pub powered : Powered n v N lo wanted cut src m dst p ys w w3 r
        unfolding order_of
        powered = record {
          size = M.size ∙ size2;
          few = M.few;
          low = λ i h. (M.entry i h).low;
          high = λ i h. (M.entry i h).high;
          least = λ i h. (M.entry i h).least;
          coefficient = λ j a b.
              let z : sum_at w3 j % p ≡ 0 = ap (λ (x : ℕ). x % p) (none j a b) ∙ zero-mod p in
              omega (arith, M.gone j b, z) ∙ coefficient-at j a b;
          order = λ i h. (M.entry i h).most;
          before = λ i a b. M.before i a b ∙ above2 i a;
          after = λ i a. M.after i a ∙ above2 i (omega (arith, q.multiply.result_apart));
          clean = clean3;
          first = few;
          early = early;
        }

      -- the sums at all listed positions are taken, and the others were 0
      gathered_none : {w3 : List ℕ} {r : ℕ}
          → Gathered n v N lo cut ps from mid to dst p (put w1 0 0) w3 r
          → (j : ℕ) → 1 ≤ j → j ≤ N → sum_at w3 j ≡ 0
      gathered_none {w3} g j a b = go (dec_lt o lo) (dec_lt cut o)
        where
          o : ℕ
          o = order (monomial_at n v j)

          was_none : sum_at w2 j ≡ 0 → sum_at w3 j ≡ 0
          was_none z = omega (arith, g.made.less j b, z)

          go : Dec (o < lo) → Dec (cut < o) → sum_at w3 j ≡ 0
          go (yes d) f = was_none (sum-at j a b ∙ sum_below j a b d)
          go (no d) (yes f) = was_none (sum-at j a b ∙ sum-above j f)
          go (no d) (no f) =
              let k =
              listed-where ordered2 j lo (suc cut) a b few_cut (omega arith) (omega arith) in
              ap (sum_at w3) (sym k.3)
              ∙ g.taken k.0 (omega (arith, k.1, from_is)) (omega (arith, k.2, to_is))

      -- the positions listed before `mid` are of an order that is not wanted
      gathered_early : {w3 : List ℕ} {r : ℕ}
          → Gathered n v N lo cut ps from mid to dst p (put w1 0 0) w3 r
          → (i : ℕ) → i < r → order (monomial_at n v (position (get_or w3 (dst + 1 + i) 0))) < wanted
      gathered_early {w3} g i h = go (dec_le lo wanted)
        where
          x : (k : ℕ) × (from ≤ k) × (k < mid) × (position (get_or w3 (dst + 1 + i) 0) ≡ listed_at w2 ps k)
          x = g.early i h

          go : Dec (lo ≤ wanted) → order (monomial_at n v (position (get_or w3 (dst + 1 + i) 0))) < wanted
          go (yes u) =
              omega (
                arith,
                ap (λ (z : ℕ). order (monomial_at n v z)) x.3,
                listed-order ordered2 b (omega (arith, between, few_cut)) x.0
                    (omega (arith, x.2, mid_is)),
                larger.0 u,
              )
          go (no u) =
              let e : b ≡ lo = larger.1 (omega arith) in
              let same : mid ≡ length (by_order n v (places N) lo) =
              mid_is ∙ ap (λ (z : ℕ). length (by_order n v (places N) z)) e in
              absurd (omega (arith, x.1, x.2, from_is, same))

      -- one of the two ways that the entries are made, which the loops go by

      pub by_pairs : 2 * pairs ≤ to - from → {w3 : List ℕ}
          → ((lo' : ℕ) (zs : List ℕ) → CollectIn n v N E lo' cut os cs t (put w1 0 0) ends src m dst p zs
          → Collected n v N lo' cut dst p (put w1 0 0) w3)
          → Powered n v N lo wanted cut src m dst p ys w w3 0
      by_pairs u C =
          let g = C lo ys (collect_asks u) in
          powered g.made g.none 0 (omega arith) (λ i h. absurd (omega arith))

      pub by_positions : {w3 : List ℕ} {r : ℕ}
          → ((n' v' N' lo' cut' : ℕ) → GatherIn n' v' N' lo' cut' ps from mid to dst p (put w1 0 0)
          → Gathered n' v' N' lo' cut' ps from mid to dst p (put w1 0 0) w3 r)
          → Powered n v N lo wanted cut src m dst p ys w w3 r
      by_positions {w3} {r} G =
          let g = G n v N lo cut gather_asks in
          powered g.made (gathered_none g) r g.few (gathered_early g)
