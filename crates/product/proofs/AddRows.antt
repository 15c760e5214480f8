-- Rows one after another: what is added grows entry by entry, and what stands from word 2 (N + 1) on stays.
use Rattle.std.proofs.Common.{◌≡◌, refl, sym, ap, ◌∙◌, subst, Bool, true, false, List, [], ◌∷◌, ◌++◌, ℕ, suc, ◌+◌, ◌*◌, ◌≤◌, ◌<◌, add-mul, mul-le-mul, le_refl, zero-mul, add-one, arith, leb, length, get_or, take, drop, take-suc, length-take-le}
use Rattle.std.proofs.Math.Seq.{take-length}
use Rattle.algebra.specs.Sum.{sum_over}
use Rattle.algebra.specs.Polynomial.{order, indicator}
use Rattle.algebra.proofs.Sums.{sum-append}
use Rattle.series.specs.Image.{monomial_at}
use Rattle.product.specs.Pairs.{order_of, pair_sum, cut_sum, pairs_within, sum_at}
use Rattle.product.specs.Regions.{Ready, Listed, Added, EntryIn, RowsIn, source_entries}
use Rattle.product.proofs.Accumulate.{kept}
use Rattle.product.proofs.Sources.{length-source, source_at}

-- ---- what stands above the sums is read as before

module _ (n v N E os cs : ℕ) (t w w' : List ℕ) (size : length w' ≡ length w) (rest : drop (2 * (N + 1)) w' ≡ drop (2 * (N + 1)) w) where
  pub ready_kept : Ready n v N E os t w → Ready n v N E os t w'
  ready_kept r =
      record {
        right = r.right;
        N_is = r.N_is;
        E_is = r.E_is;
        apart = r.apart;
        inside = omega (arith, r.inside);
        orders = λ q l h. kept w w' (2 * (N + 1)) (os + q) rest (omega (arith, r.apart)) ∙ r.orders q l h;
      }

  pub listed_kept : (ys ends : List ℕ) → Listed n v N ys cs w ends → Listed n v N ys cs w' ends
  listed_kept ys ends l =
      record {
        few = l.few;
        placed = l.placed;
        apart = l.apart;
        inside = omega (arith, l.inside);
        code = λ k h. kept w w' (2 * (N + 1)) (cs + k) rest (omega (arith, l.apart)) ∙ l.code k h;
        factor = λ k h. kept w w' (2 * (N + 1)) (cs + (N + 1) + k) rest (omega (arith, l.apart)) ∙ l.factor k h;
        ends_in = l.ends_in;
        end = l.end;
      }

-- ---- sums over more entries of the first factor

module _ (n v cut : ℕ) (ys : List ℕ) where
  pub cut_sum-append : (xs zs : List ℕ) (j : ℕ) → cut_sum n v cut (xs ++ zs) ys j ≡ cut_sum n v cut xs ys j + cut_sum n v cut zs ys j
  unfolding cut_sum pair_sum
  cut_sum-append xs zs j =
      ap (λ (z : ℕ). z * indicator (leb (order (monomial_at n v j)) cut)) (sum-append xs zs _)
      ∙ add-mul _ _ (indicator (leb (order (monomial_at n v j)) cut))

  pub cut_sum-none : (j : ℕ) → cut_sum n v cut [] ys j ≡ 0
  unfolding cut_sum pair_sum sum_over
  cut_sum-none j = zero-mul _

  pub pairs_within-append : (xs zs : List ℕ) → pairs_within n v cut (xs ++ zs) ys ≡ pairs_within n v cut xs ys + pairs_within n v cut zs ys
  unfolding pairs_within
  pairs_within-append xs zs = sum-append xs zs _

  pub pairs_within-none : pairs_within n v cut [] ys ≡ 0
  unfolding pairs_within sum_over
  pairs_within-none = refl

  indicator-few : (zs : List ℕ) (x : ℕ) → sum_over zs (λ y. indicator (leb (order_of n v x + order_of n v y) cut)) ≤ length zs
  unfolding sum_over indicator
  indicator-few [] x = omega arith
  indicator-few (z ∷ zs) x = go (leb (order_of n v x + order_of n v z) cut) (indicator-few zs x)
    where
      go : (b : Bool) → sum_over zs (λ y. indicator (leb (order_of n v x + order_of n v y) cut)) ≤ length zs
          → indicator b + sum_over zs (λ y. indicator (leb (order_of n v x + order_of n v y) cut)) ≤ suc (length zs)
      go true ih = omega arith
      go false ih = omega arith

  -- at most as many pairs as there are
  pub pairs_within-few : (xs : List ℕ) (N : ℕ) → length ys ≤ N → pairs_within n v cut xs ys ≤ length xs * N
  unfolding pairs_within sum_over
  pairs_within-few [] N h = omega arith
  pairs_within-few (x ∷ xs) N h = omega (arith, pairs_within-few xs N h, indicator-few ys x)

module _ (n v N cut : ℕ) (ys : List ℕ) where
  pub added_none : (w : List ℕ) (a : ℕ) → ((j : ℕ) → j < N + 1 → sum_at w j ≤ a * 4294967296) → Added n v N cut [] ys w w a a
  added_none w a b =
      record {
        size = refl;
        rest = refl;
        sums = λ j l h. omega (arith, cut_sum-none n v cut ys j);
        bound = b;
        pairs = omega (arith, pairs_within-none n v cut ys);
      }

  pub added_more : (xs zs w w' w'' : List ℕ) (a b c : ℕ) → Added n v N cut xs ys w w' a b → Added n v N cut zs ys w' w'' b c
      → Added n v N cut (xs ++ zs) ys w w'' a c
  added_more xs zs w w' w'' a b c p q =
      record {
        size = q.size ∙ p.size;
        rest = q.rest ∙ p.rest;
        sums = λ j l h. omega (arith, q.sums j l h, p.sums j l h, cut_sum-append n v cut ys xs zs j);
        bound = q.bound;
        pairs = omega (arith, q.pairs, p.pairs, pairs_within-append n v cut ys xs zs);
      }

-- ---- the loop over the entries of the first factor

-- after i entries of the m, with b pairs so far
abbrev pub Rows : (n v N cut cs : ℕ) (w ends : List ℕ) (src m a : ℕ) (w' : List ℕ) (b i : ℕ) → Type 0
Rows n v N cut cs w ends src m a w' b i =
    (i ≤ m)
    × ((ys : List ℕ) → Listed n v N ys cs w ends → Added n v N cut (take i (source_entries w src m)) ys w w' a b)

module _ (n v N E cut os cs : ℕ) (t w ends : List ℕ) (src m a : ℕ) (p : RowsIn n v N E cut os cs t w ends src m a) where
  long_source : length (source_entries w src m) ≡ m
  long_source = length-source w src m p.inside

  pub rows_none : Rows n v N cut cs w ends src m a w a 0
  rows_none = (omega arith, λ ys l. added_none n v N cut ys w a p.bound)

  module _ (w' : List ℕ) (b i : ℕ) (r : Rows n v N cut cs w ends src m a w' b i) where
    one : Added n v N cut (take i (source_entries w src m)) p.second.0 w w' a b
    one = r.1 p.second.0 p.second.1

    pub rows-size : length w' ≡ length w
    rows-size = one.size

    pub rows-read : i < m → get_or w' (src + 1 + i) 0 ≡ get_or w (src + 1 + i) 0
    rows-read h = kept w w' (2 * (N + 1)) (src + 1 + i) one.rest (omega (arith, p.apart))

    pub rows_few : b ≤ a + i * N
    rows_few =
        omega (
          arith,
          one.pairs,
          pairs_within-few n v cut p.second.0 (take i (source_entries w src m)) N p.second.1.few,
          ap (λ (z : ℕ). z * N) (length-take-le i (source_entries w src m) (omega (arith, long_source, r.0))),
        )

    pub rows-entry : i < m → EntryIn n v N E cut os cs t w' ends (get_or w' (src + 1 + i) 0) b
    rows-entry h =
        record {
          cut_low = p.cut_low;
          ready = ready_kept n v N E os cs t w w' one.size one.rest p.ready;
          second = (p.second.0, listed_kept n v N E os cs t w w' one.size one.rest p.second.0 ends p.second.1);
          low = rw (rows-read h) (p.low i h);
          high = rw (rows-read h) (p.high i h);
          order = rw (rows-read h) (p.order i h);
          bound = one.bound;
          room = omega (arith, rows_few, p.room, p.few, mul-le-mul (add-one_le_m h) (le_refl N));
        }
      where
        add-one_le_m : i < m → i + 1 ≤ N
        add-one_le_m h = omega (arith, p.few)

    pub rows_more : i < m → (w'' : List ℕ) (c : ℕ)
        → ((ys : List ℕ) → Listed n v N ys cs w' ends → Added n v N cut (get_or w' (src + 1 + i) 0 ∷ []) ys w' w'' b c)
        → Rows n v N cut cs w ends src m a w'' c (i + 1)
    rows_more h w'' c add = (
      omega arith,
      λ ys l.
          let g = r.1 ys l in
          let k = add ys (listed_kept n v N E os cs t w w' g.size g.rest ys ends l) in
          let e : take (i + 1) (source_entries w src m) ≡ take i (source_entries w src m) ++ (get_or w' (src + 1 + i) 0 ∷ []) =
          ap (λ (z : ℕ). take z (source_entries w src m)) (add-one i)
          ∙ take-suc (source_entries w src m) i 0 (omega (arith, long_source))
          ∙ ap (λ (z : ℕ). take i (source_entries w src m) ++ (z ∷ [])) (source_at w src m p.inside i h ∙ sym (rows-read h)) in
          subst (λ (z : List ℕ). Added n v N cut z ys w w'' a c) (sym e)
          (added_more n v N cut ys (take i (source_entries w src m)) (get_or w' (src + 1 + i) 0 ∷ []) w w' w'' a b c g k),
    )

  pub rows-done : (w' : List ℕ) (b i : ℕ) → Rows n v N cut cs w ends src m a w' b i → i ≡ m
      → (ys : List ℕ) → Listed n v N ys cs w ends → Added n v N cut (source_entries w src m) ys w w' a b
  rows-done w' b i r e ys l =
      subst (λ (z : List ℕ). Added n v N cut z ys w w' a b)
      (ap (λ (z : ℕ). take z (source_entries w src m)) (e ∙ sym long_source) ∙ take-length (source_entries w src m)) (r.1 ys l)
