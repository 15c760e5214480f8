-- The table of the numbers of monomials, compared with the definition; the bound on a power; and a
-- value that is there just where a test holds.
use Rattle.std.proofs.Common.{Option, Some, None, ◌≡◌, refl, Bool, true, false, cond, ◌&&◌, List, [], ℕ, suc, ◌+◌, ◌^◌, ◌≤◌, le_trans, add-one, arith, T, lit<, eqb, eqb→eq, leb, leb→le, length, get_or}
use Rattle.std.proofs.Math.Nat.{pow-le-pow_left, pow-le-pow_right}
use Rattle.algebra.proofs.Booleans.{and_left, and_right}
use Rattle.monomial.specs.Count.{factorial, count}
use Rattle.counts.specs.declared.TheConstants.{COUNTS}
use Rattle.monomial.proofs.Bounds.{all_below, all_below-at}

-- row v of the table
abbrev row : ℕ → List ℕ
row v = get_or COUNTS v []

right : ℕ → ℕ → Bool
right n v = let c = get_or (row v) (suc n) 0 in eqb c (count n v) && leb c 43758

right_everywhere : T (all_below (λ v. all_below (λ n. right n v) 11) 9)
unfolding all_below right count factorial
right_everywhere = tt

begun : ℕ → Bool
begun v = eqb (length (row v)) 12 && eqb (get_or (row v) 0 0) 0

begun_everywhere : T (all_below begun 9)
unfolding all_below begun
begun_everywhere = tt

-- place n + 1 of row v holds N
pub listed-count : (n v : ℕ) → n ≤ 10 → v ≤ 8
    → (get_or (row v) (n + 1) 0 ≡ count n v) × (get_or (row v) (n + 1) 0 ≤ 43758)
unfolding right
listed-count n v l k =
    let c = get_or (row v) (suc n) 0 in
    let at : T (right n v) =
    all_below-at (λ m. right m v) 11 n
    (all_below-at (λ u. all_below (λ m. right m u) 11) 9 v right_everywhere (omega arith))
    (omega arith) in
    rw add-one
    (eqb→eq c (count n v) (and_left (eqb c (count n v)) _ at), leb→le c 43758 (and_right (eqb c (count n v)) _ at))

pub listed-row : (v : ℕ) → v ≤ 8 → (length (row v) ≡ 12) × (get_or (row v) 0 0 ≡ 0) × ((i : ℕ) → i ≤ 10
    → (get_or (row v) (i + 1) 0 ≡ count i v) × (get_or (row v) (i + 1) 0 ≤ 43758))
unfolding begun
listed-row v k =
    let at : T (begun v) = all_below-at begun 9 v begun_everywhere (omega arith) in (
      eqb→eq (length (row v)) 12 (and_left (eqb (length (row v)) 12) _ at),
      eqb→eq (get_or (row v) 0 0) 0 (and_right (eqb (length (row v)) 12) _ at),
      λ i l. listed-count i v l k,
    )

pub power-bound : (b j k : ℕ) → b ≤ 11 → j ≤ k → b ^ j ≤ 11 ^ k
power-bound b j k l m = le_trans (pow-le-pow_left l j) (pow-le-pow_right (lit< tt) m)

-- E, and each power of its base that a table needs
pub power_small : (b j : ℕ) → b ≤ 11 → j ≤ 4 → b ^ j ≤ 14641
power_small b j l m = power-bound b j 4 l m

-- ---- a value that is there just where a test holds

pub none_where : {A : Type 0} (b : Bool) (x : A) (r : Option A) → r ≡ cond b (Some x) None → r ≡ None → b ≡ false
none_where true x r e h = cc
none_where false x r e h = refl

pub some_where : {A : Type 0} (b : Bool) (x y : A) (r : Option A) → r ≡ cond b (Some x) None → r ≡ Some y
    → (b ≡ true) × (y ≡ x)
some_where true x y r e h = (refl, cc)
some_where false x y r e h = absurd (cc)
