-- What the functions that step along the tree read and ask, in the words of a right table: the
-- codes of the monomial at a position, and with one letter less or more the position there.
use Rattle.std.proofs.Common.{ℕ, ◌+◌, ◌-◌, ◌^◌, ◌≤◌, ◌<◌, ◌≡◌, sym, ap₂, ◌∙◌, List, arith, length, get_or}
use Rattle.std.proofs.Math.Nat.{pow-le-pow_right}
use Rattle.algebra.specs.Polynomial.{Monomial, ◌⊕◌, order}
use Rattle.algebra.specs.Substitution.{unit_of}
use Rattle.algebra.proofs.Monomials.{order-⊕, order-unit}
use Rattle.monomial.specs.Count.{count, half}
use Rattle.monomial.specs.Table.{C1, C2, position_of}
use Rattle.monomial.proofs.Address.{coded}
use Rattle.series.specs.Image.{monomial_at}
use Rattle.series.proofs.Positions.{length-monomial_at, order-monomial_at}
use Rattle.substitution.specs.Walk.{shorter}
use Rattle.counts.specs.Tables.{Tabled}
use Rattle.substitution.specs.Marks.{Lowered}
use Rattle.substitution.proofs.Shorter.{length-shorter, order-shorter}
use Rattle.substitution.proofs.Codes.{table_long, C1-word, C2-word, C1-below, C2-below}
use Rattle.substitution.proofs.Codes.{place-words, place_inside, monomial_at-position_of}
use Rattle.substitution.proofs.Codes.{length-child, C1-child, C1-child_same, C2-child}
use Rattle.substitution.proofs.Codes.{C2-child_same, C1-some, C1-shorter, C1-shorter_same}
use Rattle.substitution.proofs.Codes.{C2-shorter, C2-shorter_same}
use Rattle.substitution.proofs.Marking.{order-positive}

-- `first` and `second` are the codes that are read at position q
pub record CodesAt (n v N E : ℕ) (t : List ℕ) (q first second : ℕ) : Type 0 where
  pub table : Tabled n v N E t
  pub low : 1 ≤ q
  pub high : q ≤ N
  pub first_word : first ≡ get_or t (q - 1) 0
  pub second_word : second ≡ get_or t (N + (q - 1)) 0

-- what `Table::codes_at` answers
pub codes_at : {n v N E : ℕ} {t : List ℕ} {q first second : ℕ} → Tabled n v N E t → 1 ≤ q → q ≤ N
    → (first ≡ get_or t (q - 1) 0) × (second ≡ get_or t (N + (q - 1)) 0) × (first < 65536) × (second < 65536)
    → CodesAt n v N E t q first second
codes_at g l h e = record {
  table = g;
  low = l;
  high = h;
  first_word = e.0;
  second_word = e.1;
}

module _ {n v N E : ℕ} {t : List ℕ} {q first second : ℕ}
    (a : CodesAt n v N E t q first second) where
  abbrev m : Monomial
  m = monomial_at n v q

  abbrev g : Tabled n v N E t
  g = a.table

  abbrev l : 1 ≤ q
  l = a.low

  abbrev h : q ≤ N
  h = a.high

  high : q ≤ count n v
  high = omega (arith, g.N_is)

  long : length m ≡ v
  long = length-monomial_at n v q l high

  small : order m ≤ n
  small = order-monomial_at n v q l high

  first_is : first ≡ C1 n v m
  first_is = a.first_word ∙ C1-word g q l h

  second_is : second ≡ C2 n v m
  second_is = a.second_word ∙ C2-word g q l h

  -- a base of at most 11, and codes of at most four digits
  base : (1 ≤ n + 1) × (n + 1 ≤ 11)
  base = (omega arith, omega (arith, g.right.allowed.n_high))

  four : (k : ℕ) → k ≤ 4 → (n + 1) ^ k ≤ (n + 1) ^ 4
  four k u = pow-le-pow_right {n = n + 1} (omega arith) {i = k} {j = 4} u

  first-four : first < (n + 1) ^ 4
  first-four =
      omega (
        arith,
        first_is,
        (coded n v m long small).first,
        four (half v) (omega (arith, g.right.allowed.v_high)),
      )

  second-four : second < (n + 1) ^ 4
  second-four =
      omega (
        arith,
        second_is,
        (coded n v m long small).second,
        four (v - half v) (omega (arith, g.right.allowed.v_high)),
      )

  -- the position that two codes lead to

  module _ (d : Monomial) (ld : length d ≡ v) (o : order d ≤ n) (c1 c2 : ℕ) (e1 : c1 ≡ C1 n v d)
      (e2 : c2 ≡ C2 n v d) where
    to_asks : (N + N + E + E ≤ length t) × (c1 < E) × (c2 < E)
    to_asks = (
      table_long g,
      omega (arith, e1, C1-below g d ld o),
      omega (arith, e2, C2-below g d ld o),
    )

    to_place : get_or t (N + N + c1) 0 + get_or t (N + N + E + c2) 0 ≡ position_of n v d
    to_place =
        ap₂ (λ (x y : ℕ). get_or t (N + N + x) 0 + get_or t (N + N + E + y) 0) e1 e2
        ∙ place-words g d ld o

  -- ---- one letter less

  module _ (two : 2 ≤ q) where
    some : 0 < order m
    some = order-positive n v N g.N_is q two h

    less_long : length (shorter m) ≡ v
    less_long = length-shorter m ∙ long

    less_small : order (shorter m) ≤ n
    less_small = omega (arith, order-shorter m some, small)

    module _ (z : second ≡ 0) where
      none : C2 n v m ≡ 0
      none = sym second_is ∙ z

      pub first-asks : (1 ≤ first) × (first < (n + 1) ^ 4) × (1 ≤ n + 1) × (n + 1 ≤ 11)
      first-asks = (
        omega (arith, first_is, C1-some n v m long small some none),
        first-four,
        base.0,
        base.1,
      )

      module _ (r : ℕ) (f : Lowered (n + 1) first r) where
        r-is : r ≡ C1 n v (shorter m)
        r-is = C1-shorter n v m long small some none r (rw first_is at f)

        same : second ≡ C2 n v (shorter m)
        same = second_is ∙ sym (C2-shorter_same n v m long small some none)

        pub first-place_asks : (N + N + E + E ≤ length t) × (r < E) × (second < E)
        first-place_asks = to_asks (shorter m) less_long less_small r second r-is same

        pub first-place : get_or t (N + N + r) 0 + get_or t (N + N + E + second) 0
            ≡ position_of n v (shorter m)
        first-place = to_place (shorter m) less_long less_small r second r-is same

    module _ (nz : second ≡ 0 → ⊥) where
      not_none : C2 n v m ≡ 0 → ⊥
      not_none z = nz (second_is ∙ z)

      pub second-asks : (1 ≤ second) × (second < (n + 1) ^ 4) × (1 ≤ n + 1) × (n + 1 ≤ 11)
      second-asks = (omega arith, second-four, base.0, base.1)

      module _ (r : ℕ) (f : Lowered (n + 1) second r) where
        r-is_second : r ≡ C2 n v (shorter m)
        r-is_second = C2-shorter n v m long small some not_none r (rw second_is at f)

        same_first : first ≡ C1 n v (shorter m)
        same_first = first_is ∙ sym (C1-shorter_same n v m long small some not_none)

        pub second-place_asks : (N + N + E + E ≤ length t) × (first < E) × (r < E)
        second-place_asks =
            to_asks (shorter m) less_long less_small first r same_first r-is_second

        pub second-place : get_or t (N + N + first) 0 + get_or t (N + N + E + r) 0
            ≡ position_of n v (shorter m)
        second-place = to_place (shorter m) less_long less_small first r same_first r-is_second

  -- ---- one letter more

  module _ (k : ℕ) (kv : k < v) (o : order m < n) where
    abbrev more : Monomial
    more = m ⊕ unit_of k

    more-long : length more ≡ v
    more-long = length-child m k (omega (arith, long)) ∙ long

    more-small : order more ≤ n
    more-small = omega (arith, order-⊕ m (unit_of k), order-unit k)

    -- the position of the longer monomial, and the monomial there
    pub child_inside : (1 ≤ position_of n v (m ⊕ unit_of k)) × (position_of n v (m ⊕ unit_of k) ≤ N)
    child_inside = place_inside g more more-long more-small

    pub child_at : monomial_at n v (position_of n v (m ⊕ unit_of k)) ≡ m ⊕ unit_of k
    child_at = monomial_at-position_of g more more-long more-small

    module _ (w : ℕ) where
      module _ (u : k < half v) (e : w ≡ (n + 1) ^ k) where
        raised : first + w ≡ C1 n v more
        raised = ap₂ ◌+◌ first_is e ∙ sym (C1-child n v m k u)

        kept : second ≡ C2 n v more
        kept = second_is ∙ sym (C2-child_same n v m k u)

        pub child_first_asks : (N + N + E + E ≤ length t) × (first + w < E) × (second < E)
        child_first_asks = to_asks more more-long more-small (first + w) second raised kept

        pub child_first : get_or t (N + N + (first + w)) 0 + get_or t (N + N + E + second) 0
            ≡ position_of n v (m ⊕ unit_of k)
        child_first = to_place more more-long more-small (first + w) second raised kept

      module _ (u : half v ≤ k) (e : w ≡ (n + 1) ^ (k - half v)) where
        raised-second : second + w ≡ C2 n v more
        raised-second = ap₂ ◌+◌ second_is e ∙ sym (C2-child n v m k u)

        kept_first : first ≡ C1 n v more
        kept_first = first_is ∙ sym (C1-child_same n v m k u)

        pub child_second_asks : (N + N + E + E ≤ length t) × (first < E) × (second + w < E)
        child_second_asks =
            to_asks more more-long more-small first (second + w) kept_first raised-second

        pub child_second : get_or t (N + N + first) 0 + get_or t (N + N + E + (second + w)) 0
            ≡ position_of n v (m ⊕ unit_of k)
        child_second =
            to_place more more-long more-small first (second + w) kept_first raised-second
