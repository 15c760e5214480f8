-- A listed map made parts by position. D1 and D2 at the codes of a listed entry lead back to its position, so
-- a word sums the coefficients of the entries at one position.
use Rattle.std.proofs.Common.{◌≡◌, refl, sym, ap, ap₂, ◌∙◌, Bool, true, false, List, [], ◌∷◌, ℕ, zero, suc, ◌+◌, ◌-◌, ◌*◌, ◌/◌, ◌%◌, ◌≤◌, ◌<◌, add-zero, zero-add, mul-one, mul-zero, mod-lt, mod-eq_of_lt, mul-le-mul_right, add-one, arith, eqb, ltb, eqb→eq, length, get_or, set, take, drop, replicate, length-set, length-drop, get_or-set_same, get_or-set_other, get_or-take, get_or-drop, length-take-le, eq-eqb, lt-ltb}
use Rattle.std.proofs.Math.Nat.{mod-add-mod}
use Rattle.std.proofs.Math.Decide.{ℕ_discrete}
use Rattle.std.proofs.Math.ListN.{length-replicate, get_or-replicate}
use borrow.Rule.Slice.PartMut.{put_mid}
use Rattle.algebra.specs.Sum.{sum_to}
use Rattle.algebra.specs.Polynomial.{Monomial, order, indicator}
use Rattle.algebra.proofs.Sums.{sum_to-ext}
use Rattle.algebra.proofs.Booleans.{indicator-yes, indicator-no}
use Rattle.linear.specs.Columns.{All}
use Rattle.linear.proofs.Lists.{all_append}
use Rattle.monomial.specs.Enumeration.{only}
use Rattle.monomial.specs.Count.{count}
use Rattle.monomial.specs.Table.{C1, C2}
use Rattle.monomial.proofs.Bounds.{codes-bound}
use Rattle.series.specs.Image.{position, coefficient, coefficient_at, monomial_at}
use Rattle.series.specs.Over.{over}
use Rattle.series.proofs.Positions.{length-monomial_at, order-monomial_at}
use Rattle.series.proofs.Over.{length_over, over_below, over-above, over-in}
use Rattle.product.specs.Pairs.{order_of, codes_of, pick, by_order}
use Rattle.product.specs.Regions.{Listed}
use Rattle.product.specs.Rows.{place_with}
use Rattle.product.proofs.Ordered.{sum-by_order, by_order-few, Below, listed_below}
use Rattle.product.proofs.PairSums.{sum-placed, position_of-monomial_at}
use Rattle.product.proofs.EntryRow.{sum_to-list}
use Rattle.counts.specs.Tables.{Tabled}
use Rattle.substitution.proofs.Codes.{C1-below, C2-below, place-words}
use Rattle.walk.specs.Walking.{list_at, row}
use Rattle.turn.specs.Vectors.{word_at}
use Rattle.product.proofs.Whole.{drop-same}
use Rattle.walk.proofs.Parts.{put-over}
use Rattle.turn.proofs.PartWords.{place-before}
use Rattle.growth.specs.Appending.{size_of}
use Rattle.growth.specs.Spreading.{listed_place, listed_sum, AddListedIn, AddedListed, SpreadIn, Spread}

-- ---- one list, added to a part

module _ {N E cs m p : ℕ} {t w part₀ : List ℕ} (a : AddListedIn N E cs m p t w part₀) where
  pub added_none : AddedListed N E cs 0 p t w part₀ part₀
  unfolding listed_sum sum_to
  added_none = record {
    size = refl;
    word = λ q h. sym (ap (λ (x : ℕ). x % p) (add-zero (get_or part₀ q 0)) ∙ mod-eq_of_lt (a.residue q h));
  }

  -- the codes as they are read
  pub place_read : (j : ℕ) {lo hi q : ℕ} → lo ≡ get_or w (cs + j) 0 % 65536 → hi ≡ get_or w (cs + j) 0 / 65536
      → q ≡ get_or t (N + N + lo) 0 + get_or t (N + N + E + hi) 0 → q ≡ listed_place N E t w cs j
  unfolding place_with
  place_read j el eh e = e ∙ ap₂ (λ (x y : ℕ). get_or t (N + N + x) 0 + get_or t (N + N + E + y) 0) el eh

  module _ {part : List ℕ} {j : ℕ} (I : AddedListed N E cs j p t w part₀ part) where
    pub added_residue : (q : ℕ) → q ≤ N → get_or part q 0 < p
    added_residue q h =
        let z : 0 < p = omega (arith, a.residue 0 (omega arith)) in
        rw (I.word q h) (mod-lt _ z)

    module _ (l : j < m) {q x : ℕ} (eq : q ≡ listed_place N E t w cs j)
        (ex : x ≡ (get_or part q 0 + get_or w (cs + (N + 1) + j) 0) % p) where
      abbrev y : ℕ
      y = get_or w (cs + (N + 1) + j) 0

      sum_more : (z : ℕ) → listed_sum N E t w cs (j + 1) z
          ≡ listed_sum N E t w cs j z
          + get_or w (cs + (N + 1) + j) 0 * indicator (eqb (listed_place N E t w cs j) z)
      unfolding listed_sum sum_to
      sum_more z = rw (add-one j)

      place_inside : q < length part
      place_inside = omega (arith, a.place_in j l, a.size, I.size)

      pub added_more : AddedListed N E cs (j + 1) p t w part₀ (set part q x)
      added_more = record {
        size = length-set part q x ∙ I.size;
        word = λ z h. go z h (ℕ_discrete z q);
      }
        where
          go : (z : ℕ) → z ≤ N → Dec (z ≡ q)
              → get_or (set part q x) z 0 ≡ (get_or part₀ z 0 + listed_sum N E t w cs (j + 1) z) % p
          go z h (yes e) =
              let s = get_or part₀ z 0 + listed_sum N E t w cs j z in
              let one : indicator (eqb (listed_place N E t w cs j) z) ≡ 1 =
              indicator-yes (eqb (listed_place N E t w cs j) z)
              (rw (eq-eqb (listed_place N E t w cs j) z (sym eq ∙ sym e)) tt) in
              ap (λ (i : ℕ). get_or (set part q x) i 0) e
              ∙ get_or-set_same part q x 0 place_inside
              ∙ ex
              ∙ ap (λ (i : ℕ). (get_or part i 0 + y) % p) (sym e)
              ∙ ap (λ (i : ℕ). (i + y) % p) (I.word z h)
              ∙ mod-add-mod s p y
              ∙ ap (λ (i : ℕ). i % p)
              (omega (arith, sum_more z, ap (λ (i : ℕ). y * i) one, mul-one y))
          go z h (no e) =
              let none : indicator (eqb (listed_place N E t w cs j) z) ≡ 0 =
              indicator-no (eqb (listed_place N E t w cs j) z)
              (λ u. e (sym (eqb→eq (listed_place N E t w cs j) z u) ∙ sym eq)) in
              get_or-set_other part q z x 0 e
              ∙ I.word z h
              ∙ ap (λ (i : ℕ). i % p)
              (omega (arith, sum_more z, ap (λ (i : ℕ). y * i) none, mul-zero y))

-- ---- the entries of a list

all_from : (P : ℕ → Type 0) (es : List ℕ) → ((i : ℕ) → i < length es → P (get_or es i 0)) → All P es
all_from P [] h = tt
all_from P (x ∷ es) h = (h 0 (omega arith), all_from P es (λ i l. h (suc i) (omega arith)))

all-at : (P : ℕ → Type 0) (es : List ℕ) → All P es → (i : ℕ) → i < length es → P (get_or es i 0)
all-at P [] a i l = absurd (omega arith)
all-at P (x ∷ es) a zero l = a.0
all-at P (x ∷ es) a (suc i) l = all-at P es a.1 i (omega arith)

all-only : (P : ℕ → Type 0) (b : Bool) (x : ℕ) → P x → All P (only b (x ∷ []))
unfolding only
all-only P true x h = (h, tt)
all-only P false x h = tt

all-pick : (P : ℕ → Type 0) (f : ℕ → Bool) (es : List ℕ) → All P es → All P (pick f es)
unfolding pick
all-pick P f [] a = tt
all-pick P f (x ∷ es) a =
    all_append P (only (f x) (x ∷ [])) (pick f es) (all-only P (f x) x a.0) (all-pick P f es a.1)

all-by_order : (P : ℕ → Type 0) (n v : ℕ) (es : List ℕ) (o : ℕ) → All P es → All P (by_order n v es o)
unfolding by_order
all-by_order P n v es zero a = tt
all-by_order P n v es (suc o) a =
    all_append P (by_order n v es o) (pick (λ w. eqb (order_of n v w) o) es)
    (all-by_order P n v es o a) (all-pick P (λ w. eqb (order_of n v w) o) es a)

module _ {n v N E : ℕ} {t : List ℕ} (g : Tabled n v N E t) {w ends ys : List ℕ} {cs : ℕ}
    (L : Listed n v N ys cs w ends) where
  abbrev all : List ℕ
  all = by_order n v ys (suc n)

  module _ (j : ℕ) (l : j < length (by_order n v ys (suc n))) where
    abbrev q : ℕ
    q = position (get_or (by_order n v ys (suc n)) j 0)

    abbrev mono : Monomial
    mono = monomial_at n v (position (get_or (by_order n v ys (suc n)) j 0))

    good : Below n v N (suc n) (get_or (by_order n v ys (suc n)) j 0)
    good = listed_below n v N ys (suc n) j L.placed l

    abbrev high : q ≤ count n v
    high = omega (arith, good.high, g.N_is)

    long : length mono ≡ v
    long = length-monomial_at n v q good.low high

    low-order : order mono ≤ n
    low-order = order-monomial_at n v q good.low high

    first_small : C1 n v mono < 65536
    first_small =
        omega (arith, C1-below g mono long low-order, g.E_is, codes-bound n v g.right.allowed)

    code-word : get_or w (cs + j) 0 ≡ C1 n v mono + C2 n v mono * 65536
    unfolding codes_of
    code-word = L.code j l

    first_code : get_or w (cs + j) 0 % 65536 ≡ C1 n v mono
    first_code = omega (arith, code-word, first_small)

    second-code : get_or w (cs + j) 0 / 65536 ≡ C2 n v mono
    second-code = omega (arith, code-word, first_small)

    listed-first : get_or w (cs + j) 0 % 65536 < E
    listed-first = omega (arith, first_code, C1-below g mono long low-order)

    listed-second : get_or w (cs + j) 0 / 65536 < E
    listed-second = omega (arith, second-code, C2-below g mono long low-order)

    -- the codes lead to the entry's position
    place_is : listed_place N E t w cs j ≡ position (get_or (by_order n v ys (suc n)) j 0)
    unfolding place_with
    place_is =
        ap₂ (λ (x y : ℕ). get_or t (N + N + x) 0 + get_or t (N + N + E + y) 0) first_code second-code
        ∙ place-words g mono long low-order
        ∙ position_of-monomial_at n v q good.low high

    place_in : listed_place N E t w cs j ≤ N
    place_in = omega (arith, place_is, good.high)

  term : ℕ → ℕ → ℕ
  term z x = coefficient x * indicator (eqb (position x) z)

  -- every order is at most n
  term-all : (z x : ℕ) → 1 ≤ position x → position x ≤ N
      → term z x * indicator (ltb (order_of n v x) (suc n)) ≡ term z x
  unfolding order_of
  term-all z x low high =
      let h = order-monomial_at n v (position x) low (omega (arith, g.N_is)) in
      let o = order (monomial_at n v (position x)) in
      ap (λ (i : ℕ). term z x * i)
      (indicator-yes (ltb o (suc n)) (rw (lt-ltb o (suc n) (omega arith)) tt))
      ∙ mul-one (term z x)

  listed-sum : (z : ℕ) → listed_sum N E t w cs (length (by_order n v ys (suc n))) z ≡ coefficient_at ys z
  unfolding listed_sum coefficient_at term
  listed-sum z =
      sum_to-ext _ (λ j. term z (get_or all j 0)) (length all)
      (λ j l. ap₂ (λ (x y : ℕ). x * indicator (eqb y z)) (L.factor j l) (place_is j l))
      ∙ sum_to-list all (term z)
      ∙ sum-by_order n v ys (suc n) (term z)
      ∙ sum-placed N ys _ (term z) L.placed (term-all z)

-- ---- part after part

-- from the words us: the parts before part k are made, and all other words are those of us
pub record SpreadUpto (n v N E p : ℕ) (t w : List ℕ) (ends : List (List ℕ)) (us ws : List ℕ) (k : ℕ) : Type 0 where
  pub upto : k ≤ v
  pub size : length ws ≡ length us
  pub done : (i q : ℕ) → i < k → q ≤ N
      → word_at N ws q i ≡ listed_sum N E t w (list_at N i) (size_of ends i n) q % p
  pub todo : (x : ℕ) → k * (N + 1) ≤ x → get_or ws x 0 ≡ get_or us x 0

pub spread_none : (n v N E p : ℕ) (t w : List ℕ) (ends : List (List ℕ)) (us : List ℕ) → SpreadUpto n v N E p t w ends us us 0
spread_none n v N E p t w ends us = record {
  upto = omega arith;
  size = refl;
  done = λ i q l h. absurd (omega arith);
  todo = λ x l. refl;
}

-- the parts are 0 at first
module _ {n v N E p : ℕ} {t w ws₀ us : List ℕ} {ends : List (List ℕ)} (g : SpreadIn n v N E p t w ends ws₀)
    (cleared : us ≡ over ws₀ 0 (replicate (v * (N + 1) - 0) 0)) where
  abbrev r : ℕ
  r = N + 1

  abbrev ys : ℕ → List ℕ
  ys = g.lists.0

  abbrev zeros : List ℕ
  zeros = replicate (v * (N + 1) - 0) 0

  zeros-size : length (replicate {A = ℕ} (v * (N + 1) - 0) 0) ≡ v * (N + 1)
  zeros-size = length-replicate {A = ℕ} (v * (N + 1) - 0) 0 ∙ omega arith

  cleared_size : length us ≡ length ws₀
  cleared_size =
      ap length cleared ∙ length_over ws₀ 0 zeros (omega (arith, zeros-size, g.parts_in))

  cleared_zero : (x : ℕ) → x < v * (N + 1) → get_or us x 0 ≡ 0
  cleared_zero x h =
      ap (λ (s : List ℕ). get_or s x 0) cleared
      ∙ (rw (zero-add x) at (over-in ws₀ 0 zeros x (omega arith) (omega (arith, zeros-size))))
      ∙ get_or-replicate (v * (N + 1) - 0) x 0 0 (omega arith)

  cleared_behind : (x : ℕ) → v * (N + 1) ≤ x → get_or us x 0 ≡ get_or ws₀ x 0
  cleared_behind x h =
      ap (λ (s : List ℕ). get_or s x 0) cleared
      ∙ over-above ws₀ 0 zeros x (omega arith) (omega (arith, zeros-size))

  pub spread_size : {ws : List ℕ} {k : ℕ} → SpreadUpto n v N E p t w ends us ws k
      → length ws ≡ length ws₀
  spread_size I = I.size ∙ cleared_size

  module _ {ws : List ℕ} {k : ℕ} (I : SpreadUpto n v N E p t w ends us ws k) (l : k < v) where
    L : Listed n v N (ys k) (list_at N k) w (row ends k)
    L = g.lists.1.listed k l

    fits : k * (N + 1) + (N + 1) ≤ v * (N + 1)
    fits = omega (arith, mul-le-mul_right {m = k + 1} {n = v} r (omega arith))

    pub part-inside : (k * (N + 1)) + (N + 1) ≤ length ws
    part-inside = omega (arith, fits, spread_size I, g.parts_in)

    pub list_inside : list_at N k + (N + 1) + (N + 1) ≤ length w
    list_inside = L.inside

    -- part k as it is lent
    lent : (q : ℕ) → q ≤ N → get_or (take ((k * (N + 1)) + (N + 1) - (k * (N + 1))) (drop (k * (N + 1)) ws)) q 0 ≡ 0
    lent q h =
        get_or-take ((k * (N + 1)) + (N + 1) - (k * (N + 1))) (drop (k * (N + 1)) ws) q 0 (omega arith)
        ∙ get_or-drop (k * (N + 1)) ws q 0
        ∙ I.todo ((k * (N + 1)) + q) (omega arith)
        ∙ cleared_zero ((k * (N + 1)) + q) (omega (arith, fits))

    module _ {m : ℕ} (em : m ≡ size_of ends k n) where
      m-is : m ≡ length (by_order n v (ys k) (suc n))
      m-is = em ∙ L.end n (omega arith)

      listed : {j : ℕ} → j < m → j < length (by_order n v (ys k) (suc n))
      listed h = omega (arith, m-is)

      pub part-asks : AddListedIn N E (list_at N k) m p t w (take ((k * (N + 1)) + (N + 1) - (k * (N + 1))) (drop (k * (N + 1)) ws))
      part-asks = record {
        modulus_high = g.modulus_high;
        size =
            length-take-le ((k * (N + 1)) + (N + 1) - (k * (N + 1))) (drop (k * (N + 1)) ws)
            (omega (arith, length-drop (k * (N + 1)) ws, part-inside))
            ∙ omega arith;
        few = omega (arith, m-is, by_order-few n v (ys k) (suc n), L.few);
        inside = L.inside;
        first_code = λ j h. listed-first g.table L j (listed h);
        second_code = λ j h. listed-second g.table L j (listed h);
        place_in = λ j h. place_in g.table L j (listed h);
        factor = λ j h.
            rw (L.factor j (listed h))
            (all-at (λ x. coefficient x < p) (by_order n v (ys k) (suc n))
            (all-by_order (λ x. coefficient x < p) n v (ys k) (suc n)
            (all_from (λ x. coefficient x < p) (ys k) (λ i u. g.lists.2 k i l u))) j (listed h));
        residue = λ q h. omega (arith, lent q h, g.modulus_low);
      }

      module _ (part : List ℕ)
          (d : AddedListed N E (list_at N k) m p t w (take ((k * (N + 1)) + (N + 1) - (k * (N + 1))) (drop (k * (N + 1)) ws)) part) where
        part-size : length part ≡ N + 1
        part-size = d.size ∙ part-asks.size

        is_over : put_mid (k * (N + 1)) ((k * (N + 1)) + (N + 1) - (k * (N + 1))) ws part ≡ over ws (k * (N + 1)) part
        is_over = put-over (k * (N + 1)) ((k * (N + 1)) + (N + 1) - (k * (N + 1))) ws part (omega (arith, part-size))

        abbrev ws' : List ℕ
        ws' = put_mid (k * (N + 1)) ((k * (N + 1)) + (N + 1) - (k * (N + 1))) ws part

        read : (x : ℕ) → get_or (put_mid (k * (N + 1)) ((k * (N + 1)) + (N + 1) - (k * (N + 1))) ws part) x 0 ≡ get_or (over ws (k * (N + 1)) part) x 0
        read x = ap (λ (s : List ℕ). get_or s x 0) is_over

        pub spread_more : SpreadUpto n v N E p t w ends us (put_mid (k * (N + 1)) ((k * (N + 1)) + (N + 1) - (k * (N + 1))) ws part)
            (k + 1)
        spread_more = record {
          upto = omega arith;
          size =
              ap length is_over
              ∙ length_over ws (k * (N + 1)) part (omega (arith, part-size, part-inside))
              ∙ I.size;
          done = λ i q h u. go i q h u (ℕ_discrete i k);
          todo = λ x a.
              read x
              ∙ over-above ws (k * (N + 1)) part x (omega (arith, part-inside))
              (omega (arith, part-size))
              ∙ I.todo x (omega arith);
        }
          where
            go : (i q : ℕ) → i < k + 1 → q ≤ N → Dec (i ≡ k)
                → word_at N (put_mid (k * (N + 1)) ((k * (N + 1)) + (N + 1) - (k * (N + 1))) ws part) q i
                ≡ listed_sum N E t w (list_at N i) (size_of ends i n) q % p
            go i q h u (yes e) =
                let z : i * (N + 1) + q ≡ (k * (N + 1)) + q =
                omega (arith, ap (λ (x : ℕ). x * (N + 1)) e) in
                ap (λ (x : ℕ). get_or ws' x 0) z
                ∙ read ((k * (N + 1)) + q)
                ∙ over-in ws (k * (N + 1)) part q (omega (arith, part-inside)) (omega (arith, part-size))
                ∙ d.word q u
                ∙ ap (λ (x : ℕ). x % p) (omega (arith, lent q u))
                ∙ ap₂ (λ (x y : ℕ). listed_sum N E t w (list_at N x) y q % p) (sym e)
                (em ∙ ap (λ (x : ℕ). size_of ends x n) (sym e))
            go i q h u (no e) =
                read (i * (N + 1) + q)
                ∙ over_below ws (k * (N + 1)) part (i * (N + 1) + q) (omega (arith, part-inside))
                (omega (arith, place-before N i k q (omega arith) u))
                ∙ I.done i q (omega arith) u

  pub spread_all : {ws : List ℕ} {k : ℕ} → SpreadUpto n v N E p t w ends us ws k → v ≤ k
      → Spread n v N p w ends ws₀ ws
  spread_all {ws} {k} I h = record {
    size = spread_size I;
    rest =
        let e : k ≡ v = omega (arith, I.upto) in
        drop-same (v * (N + 1)) ws₀ ws (spread_size I)
        (λ x l. I.todo x (omega (arith, ap (λ (z : ℕ). z * (N + 1)) e)) ∙ cleared_behind x l);
    word = λ zs Z small i q l low high.
        I.done i q (omega arith) high
        ∙ ap (λ (x : ℕ). x % p)
        (ap (λ (x : ℕ). listed_sum N E t w (list_at N i) x q) ((Z.listed i l).end n (omega arith))
        ∙ listed-sum g.table (Z.listed i l) q);
  }
