-- Reading an exponent in a right table: it is a digit of one of the codes at the position, which two
-- quotients give, by the weight of the variable and by the next weight.
use Rattle.std.proofs.Common.{cond, ◌≡◌, sym, ap, ap₂, ◌∙◌, Bool, List, ℕ, ◌+◌, ◌-◌, ◌*◌, ◌/◌, ◌%◌, ◌^◌, ◌≤◌, ◌<◌, mod-lt, div-le_self, div-mul-le_self, arith, length, get_or, lt-ltb, le-ltb}
use Rattle.std.proofs.Math.Nat.{one-le-pow, div-div-eq-div-mul}
use Rattle.std.proofs.Math.Nat.{mod-eq-sub-div-mul}
use Rattle.std.proofs.Math.Decide.{dec_lt}
use Rattle.algebra.specs.Polynomial.{Monomial, exponent, order}
use Rattle.algebra.specs.Substitution.{unit_of}
use Rattle.monomial.specs.Count.{count, codes, words, half}
use Rattle.monomial.specs.Table.{C1, C2}
use Rattle.series.specs.Image.{monomial_at}
use Rattle.derivation.specs.Derivative.{reciprocal, Weighed, Located}
use Rattle.counts.specs.Tables.{Right, Tabled}
use Rattle.counts.proofs.Counts.{power_small}
use Rattle.series.proofs.Positions.{length-monomial_at, order-monomial_at}
use Rattle.product.proofs.TableWords.{first_word, second_word}
use Rattle.derivation.proofs.DerivativeDigits.{exponent-first, exponent-second}
use Rattle.derivation.proofs.DerivativeDigits.{C1-unit_low, C2-unit_low, C1-unit_high}
use Rattle.derivation.proofs.DerivativeDigits.{C2-unit_high, power-step}

-- the weight of a variable is a power of n + 1, and so is the next
pub weight_small : {n v N E k at first second : ℕ} {t : List ℕ} → Tabled n v N E t → Weighed n v k at first second
    → (0 < first + second) × (first + second ≤ 14641) × ((first + second) * (n + 1) ≤ 14641)
weight_small {n} {v} {N} {E} {k} {at} {first} {second} t s = go (dec_lt k (half v))
  where
    w : ℕ
    w = first + second

    small : (place : ℕ) → place < 4 → w ≡ (n + 1) ^ place → (0 < w) × (w ≤ 14641) × (w * (n + 1) ≤ 14641)
    small place l e =
        let n_high = t.right.allowed.n_high in (
          omega (arith, e, one-le-pow place (n + 1) (omega arith)),
          omega (arith, e, power_small (n + 1) place (omega arith) (omega arith)),
          omega (
            arith,
            ap (λ (z : ℕ). z * (n + 1)) e,
            power-step (n + 1) place,
            power_small (n + 1) (place + 1) (omega arith) (omega arith),
          ),
        )

    is : w ≡ C1 n v (unit_of k) + C2 n v (unit_of k)
    is = ap₂ ◌+◌ s.first_is s.second_is

    go : Dec (k < half v) → (0 < w) × (w ≤ 14641) × (w * (n + 1) ≤ 14641)
    go (yes l) =
        small k (omega (arith, t.right.allowed.v_high)) (is ∙ omega (arith, C1-unit_low n v k l, C2-unit_low n v k l))
    go (no l) =
        let h : half v ≤ k = omega arith in
        small (k - half v) (omega (arith, t.right.allowed.v_high, s.variable))
        (is ∙ omega (arith, C1-unit_high n v k h, C2-unit_high n v k h))

module _ {n v N E k at first second base r next : ℕ} {t : List ℕ} {q : ℕ} (table : Tabled n v N E t)
    (s : Located n v k at first second base r next) (q_low : 1 ≤ q) (q_in : q ≤ N) where
  right : Right n v t
  right = table.right

  q_high : q ≤ count n v
  q_high = omega (arith, table.N_is)

  abbrev m : Monomial
  m = monomial_at n v q

  abbrev w : ℕ
  w = first + second

  -- word q - 1 of the codes that hold the exponent
  abbrev own : ℕ
  own = get_or t (at + (q - 1)) 0

  size : words n v ≡ count n v + count n v + codes n v + codes n v
  unfolding words
  size = omega arith

  small : (0 < w) × (w ≤ 14641) × (w * (n + 1) ≤ 14641)
  small = weight_small table s.weighed

  long : length m ≡ v
  long = length-monomial_at n v q q_low q_high

  low : order m ≤ n
  low = order-monomial_at n v q q_low q_high

  -- ---- the two halves of the variables

  -- in which codes the exponent stands, and as which digit
  record Half (from place : ℕ) : Type 0 where
    at_is : at ≡ from
    inside : from ≤ count n v
    weight_is : w ≡ (n + 1) ^ place
    digit_is : get_or t (from + (q - 1)) 0 / (n + 1) ^ place % (n + 1) ≡ exponent k m

  first-half : k < half v → Half 0 k
  first-half l =
      record {
        at_is = s.weighed.at_is ∙ ap (λ (b : Bool). cond b 0 (count n v)) (lt-ltb k (half v) l);
        inside = omega arith;
        weight_is = ap₂ ◌+◌ s.weighed.first_is s.weighed.second_is
            ∙ omega (arith, C1-unit_low n v k l, C2-unit_low n v k l);
        digit_is = ap (λ (c : ℕ). c / (n + 1) ^ k % (n + 1)) word
            ∙ sym (exponent-first n v k m long low l);
      }
    where
      word : get_or t (0 + (q - 1)) 0 ≡ C1 n v m
      word =
          let e : 0 + (q - 1) ≡ q - 1 = omega arith in
          ap (λ (z : ℕ). get_or t z 0) e ∙ first_word n v t right q q_low q_high

  second-half : half v ≤ k → Half (count n v) (k - half v)
  second-half l =
      record {
        at_is = s.weighed.at_is ∙ ap (λ (b : Bool). cond b 0 (count n v)) (le-ltb k (half v) l);
        inside = omega arith;
        weight_is = ap₂ ◌+◌ s.weighed.first_is s.weighed.second_is
            ∙ omega (arith, C1-unit_high n v k l, C2-unit_high n v k l);
        digit_is = ap (λ (c : ℕ). c / (n + 1) ^ (k - half v) % (n + 1))
            (second_word n v t right q q_low q_high)
            ∙ sym (exponent-second n v k m long low l s.weighed.variable);
      }

  -- what both halves give
  record Read : Type 0 where
    inside : at + (q - 1) < length t
    digit_is : own / w % (n + 1) ≡ exponent k m

  half-read : {from place : ℕ} → Half from place → Read
  half-read {place = place} h =
      record {
        inside = omega (arith, h.at_is, h.inside, size, q_low, q_high, right.long);
        digit_is = ap₂ (λ (a b : ℕ). get_or t (a + (q - 1)) 0 / b % (n + 1)) h.at_is h.weight_is
            ∙ h.digit_is;
      }

  read : Read
  read = go (dec_lt k (half v))
    where
      go : Dec (k < half v) → Read
      go (yes l) = half-read (first-half l)
      go (no l) = half-read (second-half (omega arith))

  pub own-inside : at + (q - 1) < length t
  own-inside = read.inside

  -- ---- the digit

  pub reciprocals_small : (r ≤ 4294967297) × (next ≤ 4294967297)
  unfolding reciprocal
  reciprocals_small = (
    omega (arith, s.reciprocal_is, div-le_self 4294967296 w),
    omega (arith, s.next_is, div-le_self 4294967296 (w * (n + 1))),
  )

  -- the exponent from the quotients x and y of a code
  pub record Digit (x y : ℕ) : Type 0 where
    pub below : y * base ≤ x
    pub is : x - y * base ≡ exponent k (monomial_at n v q)
    pub few : x - y * base ≤ 10

  pub digit : {c x y : ℕ} → c ≡ get_or t (at + (q - 1)) 0
      → ((d : ℕ) → 0 < d → d ≤ 65536 → r ≡ reciprocal d → x ≡ c / d)
      → ((d : ℕ) → 0 < d → d ≤ 65536 → next ≡ reciprocal d → y ≡ c / d)
      → Digit x y
  digit {c} {x} {y} ce ex ey =
      record {
        below = below;
        is = is;
        few = omega (
          arith,
          is,
          read.digit_is,
          mod-lt (own / w) {m = n + 1} (omega arith),
          right.allowed.n_high,
        );
      }
    where
      xe : x ≡ c / w
      xe = ex w small.0 (omega (arith, small.2)) s.reciprocal_is

      ye : y ≡ c / (w * (n + 1))
      ye =
          ey (w * (n + 1)) (omega (arith, small.0)) (omega (arith, small.2))
          s.next_is

      -- the first quotient less its last digit
      yb : y * base ≡ c / w / (n + 1) * (n + 1)
      yb = ap₂ ◌*◌ (ye ∙ sym (div-div-eq-div-mul c w (n + 1))) s.base_is

      below : y * base ≤ x
      below = omega (arith, yb, xe, div-mul-le_self (c / w) (n + 1))

      is : x - y * base ≡ exponent k m
      is =
          ap₂ ◌-◌ xe yb
          ∙ sym (mod-eq-sub-div-mul (c / w) (n + 1))
          ∙ ap (λ (z : ℕ). z / w % (n + 1)) ce
          ∙ read.digit_is
