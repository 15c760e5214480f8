-- The positions of one order, one after another: each is read from the list of positions, and the vector
-- there, times the matrix, is put behind the lists.
use Rattle.std.proofs.Common.{◌≡◌, refl, sym, ap, ◌∙◌, List, [], ◌∷◌, ◌++◌, ℕ, suc, ◌+◌, ◌-◌, ◌*◌, ◌%◌, ◌≤◌, ◌<◌, mod-lt, add-one, arith, length, get_or, take, length-append, get_or-append-add, take-suc, take_all, length-take-le}
use Rattle.linear.specs.Matrix.{Matrix, element, at}
use Rattle.series.specs.Image.{position}
use Rattle.product.specs.Pairs.{by_order}
use Rattle.product.proofs.Ordered.{by_order-at, by_order-few, listed_below}
use Rattle.powers.specs.Powers.{places}
use Rattle.powers.proofs.Places.{length-places, placed_places}
use Rattle.turn.specs.Vectors.{dot, word_at, Gathered, Applied}
use Rattle.growth.specs.Growth.{GrowIn, entries_of, positions_of_order}
use Rattle.turn.proofs.Combining.{dot-cong}
use Rattle.growth.specs.Appending.{size_of, Behind}
use Rattle.growth.specs.Steps.{AllIn}
use Rattle.growth.proofs.Appends.{entries_of-few, entries_of-one, behind_none, behind_more, behind_same}

-- the coefficients of m times the vectors of ws
abbrev pub times : ℕ → ℕ → ℕ → Matrix → List ℕ → ℕ → ℕ → ℕ
times v N p m ws k q = dot v (element m k) (word_at N ws q) % p

-- the positions up to number k of the list are done
pub record Ordering (n v N o p : ℕ) (m : Matrix) (ws w₀ w : List ℕ) (ends₀ ends : List (List ℕ)) (to k : ℕ) : Type 0 where
  pub low : length (by_order n v (places N) o) ≤ k
  pub high : k ≤ to
  pub to_is : to ≡ length (by_order n v (places N) (suc o))
  pub behind : Behind n v N o (λ i q. dot v (element m i) (word_at N ws q) % p)
      (take (k - length (by_order n v (places N) o)) (positions_of_order n v N o)) w₀ w ends₀ ends

module _ {n v N E p o ps : ℕ} {m : Matrix} {t ws w₀ starts : List ℕ} {ends₀ : List (List ℕ)}
    (g : GrowIn n v N E p o ps m t ws w₀ ends₀ starts) where
  abbrev before : ℕ
  before = length (by_order n v (places N) o)

  abbrev these : List ℕ
  these = positions_of_order n v N o

  next_start : length (by_order n v (places N) (suc o))
      ≡ length (by_order n v (places N) o) + length (positions_of_order n v N o)
  unfolding by_order
  next_start = length-append (by_order n v (places N) o) (positions_of_order n v N o)

  pub few_positions : N ≤ 8008
  few_positions = omega (arith, g.table.N_is, g.table.right.allowed.few)

  few_listed : length (by_order n v (places N) (suc o)) ≤ N
  few_listed = omega (arith, by_order-few n v (places N) (suc o), length-places N)

  pub ordering_none : {to k : ℕ} → to ≡ get_or starts (o + 1) 0 → k ≡ get_or starts o 0
      → Ordering n v N o p m ws w₀ w₀ ends₀ ends₀ to k
  ordering_none {to} {k} et ek =
      record {
        low = omega (arith, k-is);
        high = omega (arith, k-is, to_is, next_start);
        to_is = to_is;
        behind = rw z behind_none;
      }
    where
      k-is : k ≡ before
      k-is = ek ∙ g.ordered.start o (omega (arith, g.order_high))

      to_is : to ≡ length (by_order n v (places N) (suc o))
      to_is =
          et ∙ ap (λ (x : ℕ). get_or starts x 0) (add-one o)
          ∙ g.ordered.start (suc o) (omega (arith, g.order_high))

      z : take (k - length (by_order n v (places N) o)) (positions_of_order n v N o) ≡ []
      z = ap (λ (x : ℕ). take x these) {x = k - before} {y = 0} (omega (arith, k-is))

  module _ {w : List ℕ} {ends : List (List ℕ)} {to k : ℕ} (s : Ordering n v N o p m ws w₀ w ends₀ ends to k) where
    pub ordering_inside : ps + N < length w
    ordering_inside = omega (arith, g.ordered.inside, s.behind.outside.size)

    pub to_few : to ≤ N
    to_few = omega (arith, s.to_is, few_listed)

    pub ordering_done : to ≤ k
        → Behind n v N o (λ i q. dot v (element m i) (word_at N ws q) % p)
        (positions_of_order n v N o) w₀ w ends₀ ends
    ordering_done h =
        let e : take (k - before) these ≡ these =
        take_all (k - before) these (omega (arith, s.to_is, next_start, s.high)) in
        rw e at s.behind

    module _ (l : k < to) where
      abbrev j : ℕ
      j = k - length (by_order n v (places N) o)

      j-small : k - length (by_order n v (places N) o) < length (positions_of_order n v N o)
      j-small = omega (arith, s.to_is, next_start, s.low)

      listed : k < length (by_order n v (places N) (suc o))
      listed = omega (arith, s.to_is)

      word_same : get_or w (ps + 1 + k) 0 ≡ get_or w₀ (ps + 1 + k) 0
      word_same = s.behind.outside.above (ps + 1 + k) (omega (arith, g.behind))

      -- the position read is the next one of order o
      here : position (get_or w (ps + 1 + k) 0) ≡ position (get_or (by_order n v (places N) (suc o)) k 0)
      here =
          let r = by_order-at n v (places N) (suc o) (suc n) k (omega (arith, g.order_high)) listed in
          ap position word_same
          ∙ g.ordered.place k (omega (arith, few_listed, listed))
          ∙ ap position r.1

      these-here : get_or (by_order n v (places N) (suc o)) k 0
          ≡ get_or (positions_of_order n v N o) (k - length (by_order n v (places N) o)) 0
      unfolding by_order
      these-here =
          let e : before + j ≡ k = omega (arith, s.low) in
          ap (λ (x : ℕ). get_or (by_order n v (places N) o ++ these) x 0) (sym e)
          ∙ get_or-append-add (by_order n v (places N) o) these j 0

      module _ {q : ℕ} (eq : q ≡ position (get_or w (ps + 1 + k) 0)) where
        pub position-low : 1 ≤ q
        position-low = omega (arith, eq, here, (listed_below n v N (places N) (suc o) k (placed_places N) listed).low)

        pub position-high : q ≤ N
        position-high = omega (arith, eq, here, (listed_below n v N (places N) (suc o) k (placed_places N) listed).high)

        x-is : position (get_or (positions_of_order n v N o) (k - length (by_order n v (places N) o)) 0) ≡ q
        x-is = sym (eq ∙ here ∙ ap position these-here)

        -- each list has room for one entry more
        old_size : (i : ℕ) → i < v → size_of ends₀ i o ≤ length (by_order n v (places N) o)
        old_size i h =
            let ys = g.lists.0 in
            let y = g.lists.1 in
            omega (
              arith,
              (y.listed i h).end o g.order_high,
              by_order-few n v (ys i) (suc o),
              y.few i h,
            )

        room : (i : ℕ) → i < v → size_of ends i o ≤ N
        room i h =
            omega (
              arith,
              s.behind.counted i h,
              old_size i h,
              entries_of-few (times v N p m ws i) (take j these),
              length-take-le j these (omega (arith, j-small)),
              to_few,
              s.low,
            )

        module _ {x y : List ℕ} (G : Gathered N v q ws x) (A : Applied p v m x y) where
          y-is : (i : ℕ) → i < v → at y i ≡ times v N p m ws i q
          y-is i h =
              A.row i h
              ∙ ap (λ (z : ℕ). z % p) (dot-cong v (element m i) (at x) (word_at N ws q) G.word)

          pub all-asks : AllIn n v N E o q t w ends y
          all-asks =
              record {
                table = g.table;
                low = position-low;
                high = position-high;
                order_high = g.order_high;
                rows_in = omega (arith, s.behind.ends_size.rows, g.ends_in, g.table.right.allowed.v_high);
                ends_in = λ i h.
                    omega (arith, s.behind.ends_size.words i, (g.lists.1.listed i h).ends_in);
                room = room;
                inside = omega (arith, g.behind, ordering_inside);
                small = λ i h.
                    let d = mod-lt (dot v (element m i) (word_at N ws q)) g.modulus_low in
                    omega (arith, y-is i h, d, g.modulus_high);
              }

          pub ordering_more : {w' : List ℕ} {ends' : List (List ℕ)}
              → Behind n v N o (λ i z. at y i) (q * 65536 ∷ []) w w' ends ends'
              → Ordering n v N o p m ws w₀ w' ends₀ ends' to (k + 1)
          ordering_more {w'} {ends'} b =
              record {
                low = omega (arith, s.low);
                high = omega arith;
                to_is = s.to_is;
                behind = rw more (behind_more s.behind (behind_same same b));
              }
            where
              more : take (k + 1 - length (by_order n v (places N) o)) (positions_of_order n v N o)
                  ≡ take j these ++ get_or these j 0 ∷ []
              more =
                  let e : k + 1 - before ≡ suc j = omega (arith, s.low) in
                  ap (λ (z : ℕ). take z these) e ∙ take-suc these j 0 j-small

              same : (i : ℕ) → i < v
                  → entries_of (λ z. at y i) (q * 65536 ∷ [])
                  ≡ entries_of (times v N p m ws i) (get_or these j 0 ∷ [])
              same i h =
                  entries_of-one (λ z. at y i) (q * 65536) q (at y i) (omega arith) refl
                  ∙ sym (entries_of-one (times v N p m ws i) (get_or these j 0) q (at y i) x-is (sym (y-is i h)))
