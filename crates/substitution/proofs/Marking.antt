-- Marking a stored monomial and its beginnings with 11 less its order, from the longest to the
-- shortest, up to one whose mark is as large: that one begins a monomial of no larger order, and so
-- do all shorter beginnings, since a beginning of a beginning is one. The constant's mark is 11
-- throughout, so that every climb ends.
use Rattle.std.proofs.Common.{ℕ, suc, ◌+◌, ◌≤◌, ◌<◌, ◌≡◌, refl, sym, ap, ap₂, ◌∙◌, Bool, true, false, ◌&&◌, ◌||◌, List, [], ◌∷◌, ◌++◌, arith, T, ltb, leb, length, get_or, set, length-set, length-append, get_or-set_same, get_or-set_other, lt-ltb, le-ltb, le-leb, leb-true, leb-false}
use Rattle.std.proofs.Math.Decide.{ℕ_discrete, dec_lt, dec_le}
use borrow.Author.Tests.{lt-leb}
use Rattle.algebra.specs.Polynomial.{Monomial, Polynomial, order, same, add}
use Rattle.algebra.proofs.Booleans.{true_of, or_right}
use Rattle.algebra.proofs.Trim.{trim-order_zero, trim_to_same}
use Rattle.monomial.specs.Count.{count}
use Rattle.monomial.specs.Table.{position_of}
use Rattle.series.specs.Image.{position, monomial_at, term_of}
use Rattle.series.proofs.Positions.{length-monomial_at, order-monomial_at, monomial_at-once}
use Rattle.series.proofs.Positions.{order-first, count-positive}
use Rattle.product.specs.Regions.{Outside}
use Rattle.substitution.specs.Walk.{letters, begins, begun, low_terms, shorter}
use Rattle.counts.specs.Tables.{Tabled}
use Rattle.substitution.specs.Marks.{Marks, Climbs}
use Rattle.substitution.proofs.Letters.{length-letters, letters-same}
use Rattle.substitution.proofs.Beginnings.{begins-refl, begins-rest, begins-shorter}
use Rattle.substitution.proofs.Beginnings.{begins-unique, begins-between, begun-extends}
use Rattle.substitution.proofs.Beginnings.{or_false}
use Rattle.substitution.proofs.Truncated.{begun-low_more}
use Rattle.substitution.proofs.Shorter.{length-shorter, order-shorter, letters-shorter}
use Rattle.substitution.proofs.Codes.{place_inside, monomial_at-position_of}

-- ---- words that do not change outside a region

pub outside_refl : (w : List ℕ) (a b : ℕ) → Outside w w a b
outside_refl w a b = record { size = refl; below = λ i l. refl; above = λ i l. refl }

pub outside_trans : {w u x : List ℕ} {a b : ℕ} → Outside w u a b → Outside u x a b
    → Outside w x a b
outside_trans f g = record {
  size = g.size ∙ f.size;
  below = λ i l. g.below i l ∙ f.below i l;
  above = λ i l. g.above i l ∙ f.above i l;
}

pub outside_set : (w : List ℕ) (a b i x : ℕ) → a ≤ i → i < b → Outside w (set w i x) a b
outside_set w a b i x la lb = record {
  size = length-set w i x;
  below = λ j l. get_or-set_other w i j x 0 (λ e. omega arith);
  above = λ j l. get_or-set_other w i j x 0 (λ e. omega arith);
}

-- ---- the constant's position

module _ (n v N : ℕ) (N_is : N ≡ count n v) where
  pub order-positive : (q : ℕ) → 2 ≤ q → q ≤ N → 0 < order (monomial_at n v q)
  order-positive q l h = go (ℕ_discrete (order (monomial_at n v q)) 0)
    where
      go : Dec (order (monomial_at n v q) ≡ 0) → 0 < order (monomial_at n v q)
      go (no e) = omega arith
      go (yes e) =
          let s : T (same (monomial_at n v q) (monomial_at n v 1)) =
          trim_to_same (monomial_at n v q) (monomial_at n v 1)
          (trim-order_zero (monomial_at n v q) (omega arith)
          ∙ sym (trim-order_zero (monomial_at n v 1) (omega (arith, order-first n v)))) in
          absurd
          (omega (
            arith,
            monomial_at-once n v q 1 (omega arith) (omega arith) (omega arith)
                (omega (arith, count-positive n v)) s,
          ))

  -- letters say the position
  letters-once : (q r : ℕ) → 1 ≤ q → q ≤ N → 1 ≤ r → r ≤ N
      → letters (monomial_at n v q) ≡ letters (monomial_at n v r) → q ≡ r
  letters-once q r a b c d e =
      monomial_at-once n v q r a (omega arith) c (omega arith)
      (letters-same (monomial_at n v q) (monomial_at n v r) e)

-- ---- a climb

and_false : (b : Bool) → b && false ≡ false
and_false true = refl
and_false false = refl

-- d is a beginning of e that is longer than order k
abbrev Longer : ℕ → Monomial → Monomial → Bool
Longer k e d = begins (letters d) (letters e) && ltb k (order d)

-- no beginning is longer than the whole
longer-none : (e d : Monomial) → Longer (order e) e d ≡ false
longer-none e d = go (begins (letters d) (letters e)) refl
  where
    go : (b : Bool) → begins (letters d) (letters e) ≡ b → b && ltb (order e) (order d) ≡ false
    go false q = refl
    go true q =
        let r = begins-rest (letters d) (letters e) (rw q tt) in
        le-ltb (order e) (order d)
        (omega (
          arith,
          ap length r.1,
          length-append (letters d) r.0,
          length-letters 0 e,
          length-letters 0 d,
        ))

-- one letter less: only the beginning of that many letters comes in
longer-less : (k : ℕ) (e d : Monomial) → (T (begins (letters d) (letters e)) → order d ≡ suc k → ⊥)
    → Longer k e d ≡ Longer (suc k) e d
longer-less k e d other = go (begins (letters d) (letters e)) refl (dec_lt (suc k) (order d))
  where
    go : (b : Bool) → begins (letters d) (letters e) ≡ b → Dec (suc k < order d)
        → b && ltb k (order d) ≡ b && ltb (suc k) (order d)
    go false q l = refl
    go true q (yes l) =
        lt-ltb k (order d) (omega arith) ∙ sym (lt-ltb (suc k) (order d) l)
    go true q (no l) =
        let ne : order d ≡ suc k → ⊥ = other (rw q tt) in
        le-ltb k (order d) (omega arith) ∙ sym (le-ltb (suc k) (order d) (omega arith))

-- the monomial of x is marked, with its beginnings that are longer than the one at position q: they
-- begin a monomial of the order of x's
pub record Climbing (n v N ms x : ℕ) (w₀ w : List ℕ) (q : ℕ) : Type 0 where
  pub low : 1 ≤ q
  pub high : q ≤ N
  pub begins_x : T (begins (letters (monomial_at n v q)) (letters (monomial_at n v (position x))))
  pub constant : get_or w (ms + 1) 0 ≡ 11
  pub outside : Outside w₀ w (ms + 1) (ms + N + 1)
  pub bounded : (i : ℕ) → 1 ≤ i → i ≤ N → get_or w (ms + i) 0 ≤ 11
  pub mark : (P : Polynomial) → Marks n v N P ms w₀ → (b i : ℕ) → b ≤ 10 → 2 ≤ i → i ≤ N
      → leb 11 (get_or w (ms + i) 0 + b)
      ≡ begun (low_terms b P) (monomial_at n v i)
      || (leb (order (monomial_at n v (position x))) b
      && (begins (letters (monomial_at n v i)) (letters (monomial_at n v (position x)))
      && ltb (order (monomial_at n v q)) (order (monomial_at n v i))))

module _ {n v N E : ℕ} {t : List ℕ} (g : Tabled n v N E t) (ms x u : ℕ)
    (u-is : u + order (monomial_at n v (position x)) ≡ 11) (w₀ : List ℕ)
    (inside : ms + N < length w₀) where
  abbrev m : ℕ → Monomial
  m q = monomial_at n v q

  abbrev e : Monomial
  e = monomial_at n v (position x)

  pub climb_start : {Q : Polynomial} → 1 ≤ position x → position x ≤ N → Marks n v N Q ms w₀
      → Climbing n v N ms x w₀ w₀ (position x)
  climb_start l h K = record {
    low = l;
    high = h;
    begins_x = begins-refl (letters e);
    constant = K.constant;
    outside = outside_refl w₀ (ms + 1) (ms + N + 1);
    bounded = K.high;
    mark = λ P M b i f k j.
        M.mark b i f k j
        ∙ sym (or_false (begun (low_terms b P) (m i)))
        ∙ ap (λ (d : Bool). begun (low_terms b P) (m i) || d)
        (sym
        (ap (λ (d : Bool). leb (order e) b && d) (longer-none e (m i))
        ∙ and_false (leb (order e) b)));
  }

  module _ (w : List ℕ) (q : ℕ) (c : Climbing n v N ms x w₀ w q) where
    abbrev high : q ≤ count n v
    high = omega (arith, c.high, g.N_is)

    long : length (m q) ≡ v
    long = length-monomial_at n v q c.low high

    small : order (m q) ≤ n
    small = order-monomial_at n v q c.low high

    -- the constant's mark is the largest
    pub climb_above : get_or w (ms + q) 0 < u → 2 ≤ q
    climb_above z = go (ℕ_discrete q 1)
      where
        go : Dec (q ≡ 1) → 2 ≤ q
        go (yes k) =
            absurd (omega (arith, c.constant, ap (λ (i : ℕ). get_or w (ms + i) 0) k, u-is))
        go (no k) = omega (arith, c.low)

    pub climb_inside : ms + q < length w
    climb_inside = omega (arith, c.high, c.outside.size)

    module _ (z : get_or w (ms + q) 0 < u) (r : ℕ) (is : r ≡ position_of n v (shorter (m q))) where
      some : 0 < order (m q)
      some = order-positive n v N g.N_is q (climb_above z) c.high

      shorter-long : length (shorter (m q)) ≡ v
      shorter-long = length-shorter (m q) ∙ long

      shorter-small : order (shorter (m q)) ≤ n
      shorter-small = omega (arith, order-shorter (m q) some, small)

      at-r : m r ≡ shorter (m q)
      at-r =
          ap (monomial_at n v) is
          ∙ monomial_at-position_of g (shorter (m q)) shorter-long shorter-small

      fewer : suc (order (m r)) ≡ order (m q)
      fewer = ap (λ (d : Monomial). suc (order d)) at-r ∙ order-shorter (m q) some

      pub climb_less : order (m r) < order (m q)
      climb_less = omega (arith, fewer)

      in_range : (1 ≤ r) × (r ≤ N)
      in_range =
          let p = place_inside g (shorter (m q)) shorter-long shorter-small in
          (omega (arith, p.0), omega (arith, p.1))

      begins-r : T (begins (letters (m r)) (letters e))
      begins-r =
          let k = letters-shorter (m q) some in
          let b : T (begins (letters (shorter (m q)) ++ k.0 ∷ []) (letters e)) =
          rw k.1 at c.begins_x in
          rw at-r (begins-shorter (letters (shorter (m q))) (k.0 ∷ []) (letters e) b)

      -- of the beginnings of e, only the one at q has as many letters
      pub alone : (i : ℕ) → 2 ≤ i → i ≤ N → (i ≡ q → ⊥) → T (begins (letters (m i)) (letters e))
          → order (m i) ≡ suc (order (m r)) → ⊥
      alone i a b ne bi o =
          ne
          (letters-once n v N g.N_is i q (omega arith) b c.low c.high
          (begins-unique (letters (m i)) (letters (m q)) (letters e) bi c.begins_x
          (length-letters 0 (m i) ∙ o ∙ fewer ∙ sym (length-letters 0 (m q)))))

      mark_at : (P : Polynomial) → Marks n v N P ms w₀ → (b i : ℕ) → b ≤ 10 → 2 ≤ i → i ≤ N
          → Dec (i ≡ q)
          → leb 11 (get_or (set w (ms + q) u) (ms + i) 0 + b)
          ≡ begun (low_terms b P) (m i) || (leb (order e) b && Longer (order (m r)) e (m i))
      mark_at P M b i f a h (yes k) =
          let new : Longer (order (m r)) e (m q) ≡ true =
          ap₂ ◌&&◌ (true_of (begins (letters (m q)) (letters e)) c.begins_x)
          (lt-ltb (order (m r)) (order (m q)) climb_less) in
          ap (λ (j : ℕ). leb 11 (get_or (set w (ms + q) u) (ms + j) 0 + b)) k
          ∙ ap (λ (y : ℕ). leb 11 (y + b)) (get_or-set_same w (ms + q) u 0 climb_inside)
          ∙ here (dec_le (order e) b)
          ∙ sym
          (ap
          (λ (j : ℕ).
          begun (low_terms b P) (m j) || (leb (order e) b && Longer (order (m r)) e (m j))) k
          ∙ ap (λ (d : Bool). begun (low_terms b P) (m q) || (leb (order e) b && d)) new)
        where
          B : Bool
          B = begun (low_terms b P) (m q)

          -- below the order of e the smaller mark said nothing either
          here : Dec (order e ≤ b) → leb 11 (u + b) ≡ B || (leb (order e) b && true)
          here (yes l) =
              le-leb 11 (u + b) (omega (arith, u-is))
              ∙ sym
              (ap (λ (d : Bool). B || (d && true)) (le-leb (order e) b l)
              ∙ true_of (B || true) (or_right B true tt))
          here (no l) =
              let no-e : leb (order e) b ≡ false = lt-leb (order e) b (omega arith) in
              let unmarked : B || false ≡ false =
              ap (λ (d : Bool). B || (d && Longer (order (m q)) e (m q))) (sym no-e)
              ∙ sym (c.mark P M b q f (climb_above z) c.high)
              ∙ lt-leb 11 (get_or w (ms + q) 0 + b) (omega (arith, u-is)) in
              lt-leb 11 (u + b) (omega (arith, u-is))
              ∙ sym (ap (λ (d : Bool). B || (d && true)) no-e ∙ unmarked)
      mark_at P M b i f a h (no k) =
          ap (λ (y : ℕ). leb 11 (y + b))
          (get_or-set_other w (ms + q) (ms + i) u 0 (λ j. k (omega arith)))
          ∙ c.mark P M b i f a h
          ∙ ap (λ (d : Bool). begun (low_terms b P) (m i) || (leb (order e) b && d))
          (ap (λ (o : ℕ). Longer o e (m i)) (sym fewer)
          ∙ sym (longer-less (order (m r)) e (m i) (alone i a h k)))

      bounded_at : (i : ℕ) → 1 ≤ i → i ≤ N → Dec (i ≡ q)
          → get_or (set w (ms + q) u) (ms + i) 0 ≤ 11
      bounded_at i a h (yes k) =
          omega (
            arith,
            u-is,
            ap (λ (j : ℕ). get_or (set w (ms + q) u) (ms + j) 0) k,
            get_or-set_same w (ms + q) u 0 climb_inside,
          )
      bounded_at i a h (no k) =
          omega (
            arith,
            c.bounded i a h,
            get_or-set_other w (ms + q) (ms + i) u 0 (λ j. k (omega arith)),
          )

      pub climb_step : Climbing n v N ms x w₀ (set w (ms + q) u) r
      climb_step = record {
        low = in_range.0;
        high = in_range.1;
        begins_x = begins-r;
        constant =
            get_or-set_other w (ms + q) (ms + 1) u 0 (λ h. omega (arith, climb_above z))
            ∙ c.constant;
        outside =
            outside_trans c.outside
            (outside_set w (ms + 1) (ms + N + 1) (ms + q) u (omega (arith, c.low))
            (omega (arith, c.high)));
        bounded = λ i a h. bounded_at i a h (ℕ_discrete i q);
        mark = λ P M b i f a h. mark_at P M b i f a h (ℕ_discrete i q);
      }

    -- at a mark as large all is marked

    module _ (large : u ≤ get_or w (ms + q) 0) (P : Polynomial) (M : Marks n v N P ms w₀) (b : ℕ)
        (f : b ≤ 10) where
      abbrev L : Polynomial
      L = low_terms b P

      -- the mark at q stands for a beginning of a monomial of P of no larger order
      begun-q : order (monomial_at n v (position x)) ≤ b → 2 ≤ q
          → T (begun (low_terms b P) (monomial_at n v q))
      begun-q o l = go (begun L (m q)) refl
        where
          none : Longer (order (m q)) e (m q) ≡ false
          none =
              ap (λ (d : Bool). begins (letters (m q)) (letters e) && d)
              (le-ltb (order (m q)) (order (m q)) (omega arith))
              ∙ and_false (begins (letters (m q)) (letters e))

          go : (d : Bool) → begun L (m q) ≡ d → T d
          go true k = tt
          go false k =
              let no-mark : leb 11 (get_or w (ms + q) 0 + b) ≡ false =
              c.mark P M b q f l c.high
              ∙ ap₂ (λ (y d : Bool). y || (leb (order e) b && d)) k none
              ∙ and_false (leb (order e) b) in
              absurd (omega (arith, u-is, leb-false 11 (get_or w (ms + q) 0 + b) no-mark))

      -- so does a beginning of e that is not longer than the monomial at q
      begun-i : order (monomial_at n v (position x)) ≤ b → (i : ℕ) → 2 ≤ i → i ≤ N
          → T (begins (letters (monomial_at n v i)) (letters (monomial_at n v (position x))))
          → order (monomial_at n v i) ≤ order (monomial_at n v q)
          → T (begun (low_terms b P) (monomial_at n v i))
      begun-i oe i a h bi o =
          let oi = order-positive n v N g.N_is i a h in
          let l : 2 ≤ q =
          above_one (omega (arith, oi)) (ℕ_discrete q 1) in
          let s = begins-rest (letters (m i)) (letters (m q))
          (begins-between (letters (m i)) (letters (m q)) (letters e) bi c.begins_x
          (omega (arith, length-letters 0 (m i), length-letters 0 (m q)))) in
          begun-extends L (record { rest = s.0; is = s.1 }) (begun-q oe l)
        where
          above_one : 0 < order (m q) → Dec (q ≡ 1) → 2 ≤ q
          above_one o (yes k) =
              absurd (omega (arith, ap (λ (j : ℕ). order (m j)) k, order-first n v))
          above_one o (no k) = omega (arith, c.low)

      more : (i : ℕ) → begun (low_terms b (add P (term_of n v x ∷ []))) (monomial_at n v i)
          ≡ begun (low_terms b P) (monomial_at n v i)
          || (leb (order (monomial_at n v (position x))) b
          && begins (letters (monomial_at n v i)) (letters (monomial_at n v (position x))))
      unfolding term_of
      more i = begun-low_more b P (term_of n v x) (m i)

      whole : (i : ℕ) → 2 ≤ i → i ≤ N
          → begun (low_terms b P) (monomial_at n v i)
          || (leb (order (monomial_at n v (position x))) b
          && Longer (order (monomial_at n v q)) (monomial_at n v (position x))
          (monomial_at n v i))
          ≡ begun (low_terms b (add P (term_of n v x ∷ []))) (monomial_at n v i)
      whole i a h = go (leb (order e) b) refl ∙ sym (more i)
        where
          -- beginnings of e that are not longer than the monomial at q are marked already
          old : order e ≤ b → (d : Bool) → begins (letters (m i)) (letters e) ≡ d
              → Dec (order (m q) < order (m i))
              → begun L (m i) || (d && ltb (order (m q)) (order (m i))) ≡ begun L (m i) || d
          old oe false k o = refl
          old oe true k (yes o) =
              ap (λ (d : Bool). begun L (m i) || d) (lt-ltb (order (m q)) (order (m i)) o)
          old oe true k (no o) =
              let y : begun L (m i) ≡ true =
              true_of (begun L (m i)) (begun-i oe i a h (rw k tt) (omega arith)) in
              ap (λ (d : Bool). d || ltb (order (m q)) (order (m i))) y
              ∙ sym (ap (λ (d : Bool). d || true) y)

          go : (d : Bool) → leb (order e) b ≡ d
              → begun L (m i) || (d && Longer (order (m q)) e (m i))
              ≡ begun L (m i) || (d && begins (letters (m i)) (letters e))
          go false k = refl
          go true k =
              old (leb-true (order e) b k) (begins (letters (m i)) (letters e)) refl
              (dec_lt (order (m q)) (order (m i)))

    pub climb_done : u ≤ get_or w (ms + q) 0 → Climbs n v N ms x w₀ w
    climb_done large = record {
      marks = λ P M. record {
        inside = omega (arith, c.outside.size);
        constant = c.constant;
        high = c.bounded;
        mark = λ b i f a h. c.mark P M b i f a h ∙ whole large P M b f i a h;
      };
      outside = c.outside;
    }
