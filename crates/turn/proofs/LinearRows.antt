-- The linear part of a map, row by row: the coefficient of a variable is what is stored at the
-- variable's position, and a matrix of eight rows of eight is its entries.
use Rattle.std.proofs.Common.{◌≡◌, refl, sym, ap, ◌∙◌, subst, cond, ◌&&◌, List, [], map, ℕ, zero, suc, ◌+◌, ◌*◌, ◌-◌, ◌%◌, ◌≤◌, ◌<◌, mod-eq_of_lt, arith, ltb, length, get_or, set, take, drop, replicate, length-set, length-take, length-drop, ext_get_or, get_or-set_same, get_or-set_other, lt-ltb, le-ltb}
use Rattle.std.proofs.Math.Decide.{ℕ_discrete, dec_lt}
use Rattle.std.proofs.Math.ListN.{length-map, get_or-replicate}
use Rattle.algebra.specs.Polynomial.{Polynomial, coefficient_of}
use Rattle.algebra.specs.Substitution.{unit_of}
use Rattle.algebra.proofs.Trim.{same-sym}
use Rattle.algebra.proofs.Weigh.{coefficient-same}
use Rattle.algebra.proofs.Modulo.{mod-cong}
use Rattle.linear.specs.Matrix.{Matrix, element, range, square, at}
use Rattle.linear.proofs.Lists.{length-range}
use Rattle.linear.proofs.Squares.{square-element}
use Rattle.linear.proofs.Stores.{row-zeros}
use Rattle.monomial.specs.Count.{count}
use Rattle.series.specs.Image.{entries, coefficient_at, monomial_at, polynomial, component, map_of}
use Rattle.series.specs.Series.{IsSeries, IsMap}
use Rattle.series.proofs.Entries.{coefficient_at-reduced}
use Rattle.series.proofs.Reading.{coefficient_of-polynomial}
use Rattle.series.proofs.Maps.{map_of-inside}
use Rattle.inversion.specs.Linear.{linear_part}
use Rattle.turn.specs.Variables.{PositionOf, LinearRow}
use Rattle.turn.proofs.PartWords.{component-is}

-- ---- one row

-- what is stored at the position of variable j
pub stored_variable : {p n v N j q : ℕ} (N_is : N ≡ count n v) (ws : List ℕ) → IsSeries p N ws
    → 0 < p → PositionOf n v N j q
    → coefficient_at (entries ws) q ≡ coefficient_of (unit_of j) (polynomial n v ws) % p
stored_variable {p} {n} {v} {N} {j} {q} N_is ws s pos P =
    let m = monomial_at n v q in
    let s' : IsSeries p (count n v) ws = subst (λ (z : ℕ). IsSeries p z ws) N_is s in
    sym
    (mod-cong p
    (coefficient-same (unit_of j) m (polynomial n v ws) (same-sym m (unit_of j) P.is)
    ∙ coefficient_of-polynomial n v s' q P.low (omega (arith, N_is, P.high)))
    ∙ mod-eq_of_lt (coefficient_at-reduced pos s.ascending q))

-- ---- all rows

module _ {A : Type 0} where
  length-rows : (f : ℕ → List A) (a n w i : ℕ) → ((k : ℕ) → length (f k) ≡ w) → i < n
      → length (get_or (map f (range a n)) i []) ≡ w
  unfolding range
  length-rows f a zero w i h l = absurd (omega arith)
  length-rows f a (suc n) w zero h l = h a
  length-rows f a (suc n) w (suc i) h l = length-rows f (suc a) n w i h (omega arith)

-- a matrix of v rows of v is its entries
matrix_is : (v : ℕ) (m : Matrix) (f : ℕ → ℕ → ℕ) → length m ≡ v
    → ((i : ℕ) → i < v → length (get_or m i []) ≡ v)
    → ((i j : ℕ) → i < v → j < v → element m i j ≡ f i j) → m ≡ square v f
matrix_is v m f size rows e =
    ext_get_or [] m (square v f)
    (size ∙ sym (unfold square in length-map (range 0 v) _ ∙ length-range 0 v))
    (λ i l.
    ext_get_or 0 (get_or m i []) (get_or (square v f) i [])
    (rows i (omega arith) ∙ sym (long i (omega arith)))
    (λ j h.
    let lj : j < v = omega (arith, rows i (omega arith)) in
    e i j (omega arith) lj ∙ sym (square-element v f i j (omega arith) lj)))
  where
    long : (i : ℕ) → i < v → length (get_or (square v f) i []) ≡ v
    long i l =
        unfold square in
        length-rows (λ i. map (f i) (range 0 v)) 0 v v i
        (λ k. length-map (range 0 v) (f k) ∙ length-range 0 v) l

-- the rows before i are those of the map, and zeros follow
pub record LinearUpto (p n v : ℕ) (ws : List ℕ) (r : Matrix) (i : ℕ) : Type 0 where
  pub size : length r ≡ 8
  pub done : (k : ℕ) → k < i → LinearRow p n v (component n v k ws) (get_or r k [])
  pub later : (k : ℕ) → i ≤ k → k < 8 → get_or r k [] ≡ replicate 8 0

pub linear-none : (p n v : ℕ) (ws : List ℕ)
    → LinearUpto p n v ws (replicate 8 (replicate 8 0)) 0
linear-none p n v ws = record {
  size = refl;
  done = λ k l. absurd (omega arith);
  later = λ k l h. get_or-replicate 8 k (replicate 8 0) [] h;
}

pub linear-more : {p n v i : ℕ} {ws row : List ℕ} {r : Matrix} → i < 8
    → LinearUpto p n v ws r i → LinearRow p n v (component n v i ws) row
    → LinearUpto p n v ws (set r i row) (i + 1)
linear-more {p} {n} {v} {i} {ws} {row} {r} h L R = record {
  size = length-set r i row ∙ L.size;
  done = λ k l. at_row k (omega arith) (ℕ_discrete k i);
  later = λ k l m.
      get_or-set_other r i k row [] (λ e. omega arith) ∙ L.later k (omega arith) m;
}
  where
    at_row : (k : ℕ) → k ≤ i → Dec (k ≡ i)
        → LinearRow p n v (component n v k ws) (get_or (set r i row) k [])
    at_row k l (yes e) =
        rw (e, get_or-set_same r i row [] (omega (arith, L.size))) R
    at_row k l (no d) = rw (get_or-set_other r i k row [] d) (L.done k (omega arith))

pub linear-all : {p n v : ℕ} {ws : List ℕ} {r : Matrix} → v ≤ 8
    → LinearUpto p n v ws r v → r ≡ linear_part p v (map_of n v ws)
unfolding linear_part
linear-all {p} {n} {v} {ws} {r} few L =
    matrix_is 8 r f L.size (λ i l. long i l (dec_lt i v))
    (λ i j li lj. value i j li lj (dec_lt i v) (dec_lt j v))
  where
    f : ℕ → ℕ → ℕ
    f i j = cond (ltb i v && ltb j v) (coefficient_of (unit_of j) (map_of n v ws i) % p) 0

    long : (i : ℕ) → i < 8 → Dec (i < v) → length (get_or r i []) ≡ 8
    long i l (yes h) = (L.done i h).size
    long i l (no h) = ap length (L.later i (omega arith) l)

    value : (i j : ℕ) → i < 8 → j < 8 → Dec (i < v) → Dec (j < v) → element r i j ≡ f i j
    value i j li lj (yes h) (yes k) =
        (L.done i h).coefficient j k
        ∙ ap (λ (P : Polynomial). coefficient_of (unit_of j) P % p) (sym (map_of-inside n v ws i h))
        ∙ sym (rw (lt-ltb i v h, lt-ltb j v k))
    value i j li lj (yes h) (no k) =
        (L.done i h).unused j (omega arith) lj
        ∙ sym (rw (lt-ltb i v h, le-ltb j v (omega arith)))
    value i j li lj (no h) d =
        ap (λ (x : List ℕ). at x j) (L.later i (omega arith) li)
        ∙ row-zeros 8 j
        ∙ sym (rw (le-ltb i v (omega arith)))

-- ---- the words of one component, as a part of the slice

module _ {p n v N : ℕ} (N_is : N ≡ count n v) {ws : List ℕ} (S : IsMap p n v ws) (i : ℕ)
    (l : i < v) where
  -- the words of component i, as they are lent
  pub map-part : take (i * (N + 1) + (N + 1) - i * (N + 1)) (drop (i * (N + 1)) ws)
      ≡ component n v i ws
  map-part =
      let k : i * (N + 1) + (N + 1) - i * (N + 1) ≡ N + 1 = omega arith in
      ap (λ (x : ℕ). take x (drop (i * (N + 1)) ws)) k ∙ sym (component-is n v N N_is ws i)

  pub map-series : IsSeries p N (component n v i ws)
  map-series = subst (λ (z : ℕ). IsSeries p z (component n v i ws)) (sym N_is) (S.each i l)

  pub map-inside : i * (N + 1) + (N + 1) ≤ length ws
  map-inside =
      omega (
        arith,
        map-series.long,
        ap length (component-is n v N N_is ws i),
        length-take (N + 1) (drop (i * (N + 1)) ws),
        length-drop (i * (N + 1)) ws,
      )
