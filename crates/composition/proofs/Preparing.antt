-- Orders, marks and the series 1 stand in regions of their own, so that each is written without
-- changing the others. The digit sums of the codes, which the orders are made of, lie below them,
-- where the sums are made 0 at last.
use Rattle.std.proofs.Common.{ℕ, suc, ◌+◌, ◌-◌, ◌*◌, ◌≤◌, ◌<◌, ◌≡◌, sym, ap, ◌∙◌, List, [], ◌∷◌, map, mul-le-mul, mod-eq_of_lt, arith, leb, length, get_or, take, drop, set, length-set, replicate, drop-cons, get_or-set_same, get_or-set_other}
use Rattle.std.proofs.Math.ListN.{length-replicate}
use Rattle.std.proofs.Math.ListN.{get_or-replicate}
use Rattle.algebra.specs.Sum.{sum_over}
use Rattle.algebra.specs.Polynomial.{Monomial, trim, weigh, constant, one}
use Rattle.algebra.specs.Agreement.{Agree, Test}
use Rattle.algebra.proofs.Trim.{trim-order_zero}
use Rattle.algebra.proofs.Modulo.{mod-cong}
use Rattle.monomial.specs.Count.{count}
use Rattle.series.specs.Image.{position, monomial_at, term_of}
use Rattle.series.specs.Over.{over}
use Rattle.series.proofs.Positions.{order-first, count-positive}
use Rattle.series.proofs.Over.{length_over, over-in, over-above}
use Rattle.product.specs.Pairs.{order_of}
use Rattle.product.specs.Regions.{Ready, source_entries}
use Rattle.product.specs.List.{OrdersIn, OrdersFilled}
use Rattle.product.proofs.Prepared.{ready_same}
use Rattle.substitution.specs.Marks.{outer_terms, OrdersAt, Marked}
use Rattle.powers.specs.Powers.{PositionsIn, PositionsListed}
use Rattle.walk.specs.Walking.{lower_half, Source}
use Rattle.composition.specs.Setup.{orders_at, marks_at, top_at, PrepareIn, Prepared}

-- ---- the series 1 in two words

module _ (p n v N cut : ℕ) (w : List ℕ) (at : ℕ) (N_is : N ≡ count n v) (inside : at + 2 ≤ length w)
    (number : get_or w at 0 ≡ 1) (word : get_or w (at + 1) 0 ≡ 65537) where
  entry-word : (i : ℕ) → i < get_or w at 0 → get_or w (at + 1 + i) 0 ≡ 65537
  entry-word i l =
      let e : at + 1 + i ≡ at + 1 = omega arith in
      ap (λ (k : ℕ). get_or w k 0) e ∙ word

  entries-are : source_entries w at (get_or w at 0) ≡ 65537 ∷ []
  unfolding source_entries
  entries-are =
      let l : at + 1 < length w = omega arith in
      ap (λ (m : ℕ). take m (drop (at + 1) w)) number
      ∙ ap (take 1) (drop-cons w (at + 1) 0 l)
      ∙ ap (λ (x : ℕ). x ∷ []) word

  one-agrees : Agree p (suc cut) (map (term_of n v) (65537 ∷ [])) one
  one-agrees = record {
    tested = λ φ t. mod-cong p (unfold weigh sum_over term_of constant trim in at-origin φ t);
  }
    where
      at-origin : (φ : Monomial → ℕ) → Test p (suc cut) φ
          → 1 * φ (monomial_at n v 1) + 0 ≡ 1 * φ [] + 0
      at-origin φ t =
          let m = monomial_at n v 1 in
          let e : φ m ≡ φ [] =
          sym (t.trimmed m)
          ∙ ap φ (trim-order_zero m (omega (arith, order-first n v))) in
          omega arith

  pub source_one : Source p n v N 0 cut w at one
  source_one = record {
    inside = omega arith;
    few = omega (arith, N_is, count-positive n v);
    low = λ i l. rw (entry-word i l) (omega arith);
    high = λ i l. rw (entry-word i l) (omega (arith, N_is, count-positive n v));
    least = λ i l. omega arith;
    order = λ i l. rw (entry-word i l) low-order;
    agrees = rw entries-are one-agrees;
  }
    where
      low-order : order_of n v 65537 ≤ cut
      low-order = unfold order_of in omega (arith, order-first n v)

-- ---- the regions

module _ {n v N E c : ℕ} {t outer w : List ℕ} (q : PrepareIn n v N E c t outer w)
  where
    pub few_words : N ≤ 8008
    few_words = omega (arith, q.table.N_is, q.table.right.allowed.few)

    -- one inner component, so that the codes end below the orders
    wide : 1 * (N + 1) ≤ v * (N + 1)
    wide =
        let l : 1 ≤ v = q.table.right.allowed.v_low in
        let k : N + 1 ≤ N + 1 = omega arith in
        mul-le-mul l k

    pub orders_ask : OrdersIn n v N E 0 (orders_at v N) t w
    orders_ask = record {
      right = q.table.right;
      N_is = q.table.N_is;
      E_is = q.table.E_is;
      apart = omega arith;
      inside = omega (arith, q.work_in);
      sums_inside = omega (arith, q.work_in, q.sums_in, wide);
      sums_apart = λ i l a b. omega (arith, q.sums_in, wide);
    }

    module _ {w1 : List ℕ} (f : OrdersFilled n v N E 0 (orders_at v N) t w w1) where
      pub marks_room : marks_at v N + N < length w1
      marks_room = omega (arith, f.size, q.work_in)

      pub orders_filled : OrdersAt n v N (orders_at v N) (marks_at v N) w1
      orders_filled = record { apart = omega arith; orders = f.ready.orders }

      module _ {w2 : List ℕ} (m : Marked n v N (outer_terms n v c outer) (marks_at v N) w1 w2) where
        size2 : length w2 ≡ length w
        size2 = m.outside.size ∙ f.size

        ready2 : Ready n v N E (orders_at v N) t w2
        ready2 =
            ready_same n v N E (orders_at v N) 0 t w1 w2 m.outside.size
            (λ i a b. m.outside.below i (omega arith)) f.ready

        pub positions_ask : PositionsIn n v N E (orders_at v N) (marks_at v N) t w2
        positions_ask = record {
          ready = ready2;
          apart = omega arith;
          inside = omega (arith, size2, q.work_in);
        }

        module _ {w3 starts : List ℕ}
            (g : PositionsListed n v N (marks_at v N) w2 w3 starts) where
          size3 : length w3 ≡ length w
          size3 = g.outside.size ∙ size2

          pub sums_room : 2 * (N + 1) ≤ length w3
          sums_room = omega (arith, size3, q.work_in)

          module _ {w4 : List ℕ} (z : w4 ≡ over w3 0 (replicate (2 * (N + 1) - 0) 0)) where
            zeros : List ℕ
            zeros = replicate (2 * (N + 1) - 0) 0

            long : length (replicate {A = ℕ} (2 * (N + 1) - 0) 0) ≡ 2 * (N + 1)
            long = length-replicate {A = ℕ} (2 * (N + 1) - 0) 0 ∙ omega arith

            size4 : length w4 ≡ length w
            size4 =
                ap length z
                ∙ length_over w3 0 (replicate (2 * (N + 1) - 0) 0) (omega (arith, long, sums_room))
                ∙ size3

            pub top_room : top_at n v N + 2 ≤ length w4
            top_room = omega (arith, size4, q.work_in)

            zero4 : (i : ℕ) → i < 2 * (N + 1) → get_or w4 i 0 ≡ 0
            zero4 i l =
                let e : 0 + i ≡ i = omega arith in
                ap (λ (x : List ℕ). get_or x i 0) z
                ∙ rw e at
                (over-in w3 0 (replicate (2 * (N + 1) - 0) 0) i (omega arith) (omega (arith, long))
                ∙ get_or-replicate (2 * (N + 1) - 0) i 0 0 (omega arith))

            kept4 : (i : ℕ) → 2 * (N + 1) ≤ i → get_or w4 i 0 ≡ get_or w3 i 0
            kept4 i l =
                ap (λ (x : List ℕ). get_or x i 0) z
                ∙ over-above w3 0 (replicate (2 * (N + 1) - 0) 0) i (omega arith) (omega (arith, long))

            w5 : List ℕ
            w5 = set (set w4 (top_at n v N) 1) (top_at n v N + 1) 65537

            size5 : length w5 ≡ length w
            unfolding w5
            size5 =
                length-set (set w4 (top_at n v N) 1) (top_at n v N + 1) 65537
                ∙ length-set w4 (top_at n v N) 1
                ∙ size4

            other : (i : ℕ) → (i ≡ top_at n v N → ⊥) → (i ≡ top_at n v N + 1 → ⊥)
                → get_or w5 i 0 ≡ get_or w4 i 0
            unfolding w5
            other i a b =
                get_or-set_other (set w4 (top_at n v N) 1) (top_at n v N + 1) i 65537 0 b
                ∙ get_or-set_other w4 (top_at n v N) i 1 0 a

            number5 : get_or w5 (top_at n v N) 0 ≡ 1
            unfolding w5
            number5 =
                get_or-set_other (set w4 (top_at n v N) 1) (top_at n v N + 1) (top_at n v N) 65537 0
                (λ e. omega arith)
                ∙ get_or-set_same w4 (top_at n v N) 1 0 (omega (arith, top_room))

            word5 : get_or w5 (top_at n v N + 1) 0 ≡ 65537
            unfolding w5
            word5 =
                get_or-set_same (set w4 (top_at n v N) 1) (top_at n v N + 1) 65537 0
                (omega (arith, top_room, length-set w4 (top_at n v N) 1))

            -- the regions from the lists on, up to the products
            middle : (i : ℕ) → 2 * (N + 1) ≤ i → i < top_at n v N → get_or w5 i 0 ≡ get_or w3 i 0
            middle i a b = other i (λ e. omega arith) (λ e. omega arith) ∙ kept4 i a

            pub all-prepared : Prepared n v N E c t outer starts w
                (set (set w4 (top_at n v N) 1) (top_at n v N + 1) 65537)
            unfolding w5
            all-prepared = record {
              size = size5;
              ready =
                  ready_same n v N E (orders_at v N) 0 t w2 w5 (size5 ∙ sym size2)
                  (λ i a b. middle i (omega arith) (omega arith) ∙ g.outside.below i (omega arith))
                  ready2;
              marked = λ b k f a h.
                  ap (λ (x : ℕ). leb 11 (x + b))
                  (ap lower_half (middle (marks_at v N + k) (omega arith) (omega arith))
                  ∙ g.lower k a h
                  ∙ mod-eq_of_lt (omega (arith, m.high k a h)))
                  ∙ m.mark b k f a h;
              clean = record { zero = λ i l. other i (λ e. omega arith) (λ e. omega arith) ∙ zero4 i l };
              ordered = record {
                apart = omega arith;
                inside = omega (arith, size5, q.work_in);
                place = λ k l.
                    ap position (middle (marks_at v N + 1 + k) (omega arith) (omega arith))
                    ∙ g.ordered.place k l;
                starts_in = g.ordered.starts_in;
                start = g.ordered.start;
              };
              start = λ p cut.
                  source_one p n v N cut w5 (top_at n v N) q.table.N_is
                  (omega (arith, size5, q.work_in)) number5 word5;
              above = λ i l.
                  other i (λ e. omega arith) (λ e. omega arith)
                  ∙ kept4 i (omega arith)
                  ∙ g.outside.above i (omega arith)
                  ∙ m.outside.above i (omega arith)
                  ∙ f.rest i (λ a b. omega (arith, q.sums_in, wide)) (λ a b. omega arith);
            }
