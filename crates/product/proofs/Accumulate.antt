-- Sums of 64 bits, each held in two words of 32 bits, and one row of pairs added to them: an entry of the
-- first factor with each of the first `lim` listed entries of the second. The bound of the sums counts pairs
-- alone: each adds less than 2^32.
use Rattle.std.proofs.Common.{◌≡◌, refl, sym, ap, ◌∙◌, Bool, true, false, ◌≢◌, List, ℕ, zero, suc, ◌+◌, ◌-◌, ◌*◌, ◌/◌, ◌%◌, ◌≤◌, ◌<◌, mul-le-mul, le_trans, div-add-mod', add-zero, mul-one, mul-zero, arith, length, get_or, set, drop, length-set, get_or-set_same, get_or-set_other, drop-set-lt, get_or-drop, eqb, eqb→eq}
use Rattle.std.proofs.Math.Decide.{ℕ_discrete}
use Rattle.std.proofs.Math.Dec.{eqb_refl}
use Rattle.algebra.specs.Sum.{sum_to}
use Rattle.algebra.specs.Polynomial.{indicator}
use Rattle.algebra.proofs.Booleans.{indicator-yes, indicator-no}
use Rattle.product.specs.Pairs.{sum_at}
use Rattle.product.specs.Rows.{put, add_at, Rowed, place_with, value_with, RowIn}

pub length-put : (w : List ℕ) (p s : ℕ) → length (put w p s) ≡ length w
unfolding put
length-put w p s = rw (length-set, length-set)

pub drop-put : (w : List ℕ) (p s r : ℕ) → 2 * p + 1 < r → drop r (put w p s) ≡ drop r w
unfolding put
drop-put w p s r h =
    drop-set-lt r (set w (2 * p) (s % 4294967296)) (2 * p + 1) (s / 4294967296) h ∙ drop-set-lt r w (2 * p) (s % 4294967296) (omega arith)

pub sum-put_same : (w : List ℕ) (p s : ℕ) → 2 * p + 1 < length w → sum_at (put w p s) p ≡ s
unfolding sum_at put
sum-put_same w p s h =
    let l = set w (2 * p) (s % 4294967296) in
    let a : get_or (set l (2 * p + 1) (s / 4294967296)) (2 * p) 0 ≡ s % 4294967296 =
    get_or-set_other l (2 * p + 1) (2 * p) (s / 4294967296) 0 (λ e. omega arith) ∙ get_or-set_same w (2 * p) (s % 4294967296) 0 (omega arith) in
    let b : get_or (set l (2 * p + 1) (s / 4294967296)) (2 * p + 1) 0 ≡ s / 4294967296 =
    get_or-set_same l (2 * p + 1) (s / 4294967296) 0 (omega (arith, length-set w (2 * p) (s % 4294967296))) in
    omega (arith, a, b, div-add-mod' s 4294967296)

pub sum-put_other : (w : List ℕ) (p j s : ℕ) → j ≢ p → sum_at (put w p s) j ≡ sum_at w j
unfolding sum_at put
sum-put_other w p j s h =
    let l = set w (2 * p) (s % 4294967296) in
    let a : get_or (set l (2 * p + 1) (s / 4294967296)) (2 * j) 0 ≡ get_or w (2 * j) 0 =
    get_or-set_other l (2 * p + 1) (2 * j) (s / 4294967296) 0 (λ e. omega arith) ∙ get_or-set_other w (2 * p) (2 * j) (s % 4294967296) 0 (λ e. h (omega arith)) in
    let b : get_or (set l (2 * p + 1) (s / 4294967296)) (2 * j + 1) 0 ≡ get_or w (2 * j + 1) 0 =
    get_or-set_other l (2 * p + 1) (2 * j + 1) (s / 4294967296) 0 (λ e. h (omega arith)) ∙ get_or-set_other w (2 * p) (2 * j + 1) (s % 4294967296) 0 (λ e. omega arith) in
    omega (arith, a, b)

hit : (p x : ℕ) → x * indicator (eqb p p) ≡ x
hit p x = ap (λ (i : ℕ). x * i) (indicator-yes (eqb p p) (eqb_refl p)) ∙ mul-one x

miss : (p j x : ℕ) → j ≢ p → x * indicator (eqb p j) ≡ 0
miss p j x h = ap (λ (i : ℕ). x * i) (indicator-no (eqb p j) (λ t. h (sym (eqb→eq p j t)))) ∙ mul-zero x

pub sum-add : (w : List ℕ) (p x j : ℕ) → 2 * p + 1 < length w → sum_at (add_at w p x) j ≡ sum_at w j + x * indicator (eqb p j)
unfolding add_at
sum-add w p x j h = go (ℕ_discrete j p)
  where
    go : Dec (j ≡ p) → sum_at (put w p (sum_at w p + x)) j ≡ sum_at w j + x * indicator (eqb p j)
    go (yes e) = rw (e, hit p x) (sum-put_same w p (sum_at w p + x) h)
    go (no e) = rw (miss p j x e) (sum-put_other w p j (sum_at w p + x) e ∙ sym (add-zero (sum_at w j)))

module _ (r : ℕ) (place value : ℕ → ℕ) where
  pub rowed_none : (w : List ℕ) → Rowed r place value 0 w w
  unfolding sum_to
  rowed_none w = record { size = refl; rest = refl; sums = λ j. sym (add-zero (sum_at w j)) }

  pub rowed_more : (k : ℕ) (w w' : List ℕ) → 2 * r ≤ length w → place k < r → Rowed r place value k w w' →
      Rowed r place value (suc k) w (add_at w' (place k) (value k))
  unfolding sum_to add_at
  rowed_more k w w' l h e =
      record {
        size = size';
        rest = rest';
        sums = λ j. sum-add w' (place k) (value k) j (omega (arith, e.size)) ∙ omega (arith, e.sums j);
      }
    where
      size' : length (add_at w' (place k) (value k)) ≡ length w
      size' = length-put w' (place k) (sum_at w' (place k) + value k) ∙ e.size

      rest' : drop (2 * r) (add_at w' (place k) (value k)) ≡ drop (2 * r) w
      rest' = drop-put w' (place k) (sum_at w' (place k) + value k) (2 * r) (omega arith) ∙ e.rest

-- what stands from word 2r on is read as before
pub kept : (w w' : List ℕ) (r i : ℕ) → drop r w' ≡ drop r w → r ≤ i → get_or w' i 0 ≡ get_or w i 0
kept w w' r i e h =
    let z : r + (i - r) ≡ i = omega arith in
    rw z at (sym (get_or-drop r w' (i - r) 0) ∙ ap (λ (l : List ℕ). get_or l (i - r) 0) e ∙ get_or-drop r w (i - r) 0)

sum_to-bound : (f : ℕ → ℕ) (k b : ℕ) → ((i : ℕ) → i < k → f i ≤ b) → sum_to f k ≤ k * b
unfolding sum_to
sum_to-bound f zero b h = omega arith
sum_to-bound f (suc k) b h = omega (arith, sum_to-bound f k b (λ i l. h i (omega arith)), h k (omega arith))

times-indicator : (x : ℕ) (b : Bool) → x * indicator b ≤ x
unfolding indicator
times-indicator x true = omega (arith, mul-one x)
times-indicator x false = omega (arith, mul-zero x)

-- ---- one row of pairs: an entry of the first factor with each of the first entries of the second

module _ (t w : List ℕ) (r d1 d2 c cs co lim pairs : ℕ) where
  value_small : RowIn t w r d1 d2 c cs co lim pairs → (k : ℕ) → k < lim → value_with w c co k ≤ 4294967296
  unfolding value_with
  value_small a k h = omega (arith, mul-le-mul a.factor (a.coefficients k h))

  pub row-bound : RowIn t w r d1 d2 c cs co lim pairs → (w' : List ℕ) (k : ℕ) → k ≤ lim →
      Rowed r (place_with t w d1 d2 cs) (value_with w c co) k w w' → (j : ℕ) → j < r → sum_at w' j ≤ (pairs + k) * 4294967296
  row-bound a w' k h e j l =
      omega (
        arith,
        e.sums j,
        a.sums j l,
        sum_to-bound (λ i. value_with w c co i * indicator (eqb (place_with t w d1 d2 cs i) j)) k 4294967296
            (λ i u. le_trans (times-indicator (value_with w c co i) (eqb (place_with t w d1 d2 cs i) j)) (value_small a i (omega arith))),
      )

  pub row-code : RowIn t w r d1 d2 c cs co lim pairs → (w' : List ℕ) (k : ℕ) → Rowed r (place_with t w d1 d2 cs) (value_with w c co) k w w' →
      (i : ℕ) → get_or w' (cs + i) 0 ≡ get_or w (cs + i) 0
  row-code a w' k e i = kept w w' (2 * r) (cs + i) e.rest (omega (arith, a.codes_apart))

  pub row-coefficient : RowIn t w r d1 d2 c cs co lim pairs → (w' : List ℕ) (k : ℕ) → Rowed r (place_with t w d1 d2 cs) (value_with w c co) k w w' →
      (i : ℕ) → get_or w' (co + i) 0 ≡ get_or w (co + i) 0
  row-coefficient a w' k e i = kept w w' (2 * r) (co + i) e.rest (omega (arith, a.coefficients_apart))

  -- one turn
  pub row-turn : RowIn t w r d1 d2 c cs co lim pairs → (w' w'' : List ℕ) (k p x : ℕ) → k < lim →
      Rowed r (place_with t w d1 d2 cs) (value_with w c co) k w w' →
      p ≡ get_or t (d1 + get_or w' (cs + k) 0 % 65536) 0 + get_or t (d2 + get_or w' (cs + k) 0 / 65536) 0 → x ≡ c * get_or w' (co + k) 0 →
      w'' ≡ add_at w' p x → Rowed r (place_with t w d1 d2 cs) (value_with w c co) (suc k) w w''
  unfolding place_with value_with
  row-turn a w' w'' k p x h e ep ex ew =
      let pe : p ≡ place_with t w d1 d2 cs k = ep ∙ rw (row-code a w' k e k) in
      let xe : x ≡ value_with w c co k = ex ∙ rw (row-coefficient a w' k e k) in
      let m = rowed_more r (place_with t w d1 d2 cs) (value_with w c co) k w w' (omega (arith, a.codes_apart, a.codes_in)) (a.inside k h) e in
      rw (ew, pe, xe) m

  row-place : RowIn t w r d1 d2 c cs co lim pairs → (w' : List ℕ) (k p : ℕ) → k < lim →
      Rowed r (place_with t w d1 d2 cs) (value_with w c co) k w w' →
      p ≡ get_or t (d1 + get_or w' (cs + k) 0 % 65536) 0 + get_or t (d2 + get_or w' (cs + k) 0 / 65536) 0 → p < r
  unfolding place_with
  row-place a w' k p h e ep =
      let pe : p ≡ place_with t w d1 d2 cs k = ep ∙ rw (row-code a w' k e k) in
      omega (arith, pe, a.inside k h)

  -- the place of entry k is in the sums, and its sum has room for one product more
  pub row_fits : RowIn t w r d1 d2 c cs co lim pairs → (w' : List ℕ) (k p x : ℕ) → k < lim →
      Rowed r (place_with t w d1 d2 cs) (value_with w c co) k w w' →
      p ≡ get_or t (d1 + get_or w' (cs + k) 0 % 65536) 0 + get_or t (d2 + get_or w' (cs + k) 0 / 65536) 0 → x ≡ c * get_or w' (co + k) 0 →
      (2 * p + 1 < length w') × (sum_at w' p + x < 18446744073709551616)
  row_fits a w' k p x h e ep ex =
      let pr = row-place a w' k p h e ep in
      let q = row-coefficient a w' k e k in (
        omega (arith, e.size, a.codes_apart, a.codes_in),
        omega (arith, row-bound a w' k (omega arith) e p pr, ex, mul-le-mul a.factor (a.coefficients k h), a.few, ap (λ (y : ℕ). c * y) q),
      )
