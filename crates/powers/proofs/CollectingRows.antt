-- The sums of all pairs turned into entries, row by row. Each sum is at most what the pairs of the rows that
-- are left give to its place: nothing, when no row is left.
use Rattle.std.proofs.Common.{◌≡◌, sym, ap, ap₂, ◌∙◌, List, [], ◌∷◌, ℕ, suc, ◌+◌, ◌-◌, ◌*◌, ◌/◌, ◌%◌, ◌≤◌, ◌<◌, add-one, arith, eqb, length, get_or, set, drop, drop-cons}
use Rattle.std.proofs.Math.Seq.{drop-length}
use Rattle.algebra.specs.Sum.{sum_to}
use Rattle.algebra.specs.Polynomial.{indicator}
use Rattle.algebra.proofs.Sums.{sum_to-ext}
use Rattle.series.specs.Image.{position, coefficient}
use Rattle.product.specs.Pairs.{order_of, cut_sum, pairs_within, sum_at}
use Rattle.product.specs.Regions.{source_entries}
use Rattle.product.specs.Rows.{place_with, value_with, HeadIn}
use Rattle.product.proofs.Sources.{length-source, source_at}
use Rattle.product.proofs.AddRows.{cut_sum-append, cut_sum-none, pairs_within-append}
use Rattle.product.proofs.EntryPairs.{PairFacts, pair_facts}
use Rattle.powers.specs.Gathering.{Possible, Drawn}
use Rattle.powers.specs.Collecting.{TakeRowIn, RowTaken, CollectIn, Collected}
use Rattle.powers.proofs.GatheringPlaces.{above_at}
use Rattle.powers.proofs.Drawing.{drawn_none, made-sums, made}

-- the rows of the first i entries are done, with entries up to word e
pub record Rows (n v N lo cut dst p : ℕ) (ys w : List ℕ) (src m : ℕ) (w' : List ℕ) (e i : ℕ)
    : Type 0 where
  pub high : i ≤ m
  pub drawn : Drawn n v N lo cut dst p w w' e
  pub few : e + pairs_within n v cut (drop i (source_entries w src m)) ys ≤ dst + 1 + N
  pub left : (j : ℕ) → 1 ≤ j → j ≤ N → sum_at w' j ≤ cut_sum n v cut (drop i (source_entries w src m)) ys j

module _ {n v N E lo cut os cs : ℕ} {t w ends : List ℕ} {src m dst p : ℕ} {ys : List ℕ}
    (g : CollectIn n v N E lo cut os cs t w ends src m dst p ys) where
  abbrev xs : List ℕ
  xs = source_entries w src m

  long : length (source_entries w src m) ≡ m
  long = length-source w src m g.source_in

  pub rows_none : Rows n v N lo cut dst p ys w src m w (dst + 1) 0
  rows_none = record {
    high = omega arith;
    drawn = drawn_none n v N lo cut dst p w;
    few = omega (arith, g.few);
    left = λ j a b. omega (arith, g.sums j a b);
  }

  module _ {w' : List ℕ} {e i : ℕ} (h : Rows n v N lo cut dst p ys w src m w' e i) where
    pub rows-size : length w' ≡ length w
    rows-size = h.drawn.size

    module _ (l : i < m) where
      pub rows-read : get_or w' (src + 1 + i) 0 ≡ get_or w (src + 1 + i) 0
      rows-read = h.drawn.after (src + 1 + i) (omega (arith, g.source_above))

      module _ (x : ℕ) (is : x ≡ get_or w' (src + 1 + i) 0) where
        x-is : get_or w (src + 1 + i) 0 ≡ x
        x-is = sym (is ∙ rows-read)

        low : 1 ≤ position x
        low = rw x-is at (g.low i l)

        high : position x ≤ N
        high = rw x-is at (g.high i l)

        within : order_of n v x ≤ cut
        within = rw x-is at (g.order i l)

        least : lo ≤ suc (order_of n v x)
        least = rw x-is at (g.least i l)

        next : drop i (source_entries w src m) ≡ x ∷ drop (i + 1) (source_entries w src m)
        next =
            drop-cons xs i 0 (omega (arith, long))
            ∙ ap₂ (λ (a : ℕ) (k : ℕ). a ∷ drop k xs) (source_at w src m g.source_in i l ∙ x-is) (sym (add-one i))

        facts : HeadIn N E cut os t w ends x
            × PairFacts n v N cut cs t w x ys (N + N + get_or t (position x - 1) 0)
            (N + N + E + get_or t (N + (position x - 1)) 0)
            (get_or ends (cut - get_or w (os + position x) 0) 0)
        facts = pair_facts n v cut os cs t w ends x ys g.cut_low within g.ready low high g.listed

        order_same : get_or w' (os + position x) 0 ≡ get_or w (os + position x) 0
        order_same =
            h.drawn.before (os + position x) (omega (arith, g.ready.apart))
            (omega (arith, g.orders_below, high))

        -- what reading the head of the row asks
        pub rows_head : HeadIn N E cut os t w' ends x
        rows_head =
            let f = facts.0 in
            record {
              low = f.low;
              high = f.high;
              few = f.few;
              few_codes = f.few_codes;
              table_here = f.table_here;
              orders_in = omega (arith, f.orders_in, rows-size);
              order_in = omega (arith, f.order_in, order_same);
              ends_in = f.ends_in;
            }

        module _ (d1 d2 lim : ℕ)
            (head : (d1 ≡ N + N + get_or t (position x - 1) 0)
            × (d2 ≡ N + N + E + get_or t (N + (position x - 1)) 0)
            × (lim ≡ get_or ends (cut - get_or w' (os + position x) 0) 0)) where
          F : PairFacts n v N cut cs t w x ys d1 d2 lim
          F = rw (head.0, head.1, head.2, order_same) facts.1

          code_same : (k : ℕ) → k < lim → get_or w' (cs + k) 0 ≡ get_or w (cs + k) 0
          code_same k u =
              h.drawn.before (cs + k) (omega (arith, g.listed.apart))
              (omega (arith, g.codes_below, F.few))

          place_same : (k : ℕ) → k < lim → place_with t w' d1 d2 cs k ≡ place_with t w d1 d2 cs k
          unfolding place_with
          place_same k u =
              ap (λ (z : ℕ). get_or t (d1 + z % 65536) 0 + get_or t (d2 + z / 65536) 0) (code_same k u)

          -- a pair leads to a position of an order that the product can have
          possible : (k : ℕ) → k < lim → Possible n v N lo cut (place_with t w d1 d2 cs k)
          possible k u = record {
            low = F.place_low k u;
            high = F.place_high k u;
            least =
                omega (
                  arith,
                  least,
                  F.place_order k u,
                  above_at n v ys 1 (suc n) k (omega (arith, g.origin)) (F.listed k u),
                );
            most = omega (arith, F.place_order k u, F.within k u);
          }

          pairs_split : pairs_within n v cut (drop i (source_entries w src m)) ys
              ≡ lim + pairs_within n v cut (drop (i + 1) (source_entries w src m)) ys
          pairs_split =
              ap (λ (z : List ℕ). pairs_within n v cut z ys) next
              ∙ pairs_within-append n v cut ys (x ∷ []) (drop (i + 1) xs)
              ∙ omega (arith, F.pairs)

          pub row-asks : TakeRowIn n v N lo cut dst p w t w' d1 d2 cs lim e
          row-asks = record {
            room = g.room;
            drawn = h.drawn;
            codes_apart = g.listed.apart;
            codes_below = omega (arith, g.codes_below, F.few);
            few = omega (arith, h.few, pairs_split);
            first_in = λ k u. rw (code_same k u) (F.first_in k u);
            second_in = λ k u. rw (code_same k u) (F.second_in k u);
            place = λ k u. rw (place_same k u) (possible k u);
          }

          module _ {w'' : List ℕ} {e' : ℕ}
              (r : RowTaken n v N lo cut dst p w t d1 d2 cs lim e w' w'' e') where
            value : ℕ → ℕ
            value = value_with w (coefficient x) (cs + (N + 1))

            row_at : (j : ℕ) → 1 ≤ j → j ≤ N
                → sum_to (λ k. value k * indicator (eqb (place_with t w' d1 d2 cs k) j)) lim
                ≡ cut_sum n v cut (x ∷ []) ys j
            unfolding value
            row_at j a b =
                sum_to-ext _ _ lim
                (λ k u. ap (λ (z : ℕ). value k * indicator (eqb z j)) (place_same k u))
                ∙ F.sum j a b

            sum-split : (j : ℕ)
                → cut_sum n v cut (drop i (source_entries w src m)) ys j
                ≡ cut_sum n v cut (x ∷ []) ys j
                + cut_sum n v cut (drop (i + 1) (source_entries w src m)) ys j
            sum-split j =
                ap (λ (z : List ℕ). cut_sum n v cut z ys j) next
                ∙ cut_sum-append n v cut ys (x ∷ []) (drop (i + 1) xs) j

            left-now : (j : ℕ) → 1 ≤ j → j ≤ N
                → sum_at w'' j ≤ cut_sum n v cut (drop (i + 1) (source_entries w src m)) ys j
            left-now j a b =
                let o = r.off value j (cut_sum n v cut (drop i xs) ys j) b (h.left j a b)
                (omega (arith, row_at j a b, sum-split j)) in
                omega (arith, o, row_at j a b, sum-split j)

            pub rows_more : Rows n v N lo cut dst p ys w src m w'' e' (i + 1)
            rows_more = record {
              high = omega arith;
              drawn = r.drawn;
              few = omega (arith, r.few, h.few, pairs_split);
              left = left-now;
            }

    pub rows_few : (dst + 1 ≤ e) × (e ≤ dst + 1 + N)
    rows_few = (h.drawn.begun, omega (arith, h.few))

    pub rows-done : i ≡ m → Collected n v N lo cut dst p w (set w' dst (e - dst - 1))
    rows-done all = record {
      made = made g.room h.drawn rows_few.1;
      none = λ j a b.
          let z : cut_sum n v cut (drop i xs) ys j ≡ 0 =
          ap (λ (s : List ℕ). cut_sum n v cut s ys j)
          (ap (λ (k : ℕ). drop k xs) (all ∙ sym long) ∙ drop-length xs)
          ∙ cut_sum-none n v cut ys j in
          omega (arith, made-sums g.room h.drawn rows_few.1 j b, h.left j a b, z);
    }
