-- What work space has room for.
use Rattle.std.proofs.Common.{ℕ, ◌+◌, ◌*◌, ◌≤◌, mul-le-mul, arith, T, leb, leb→le}
use Rattle.monomial.specs.Count.{factorial, count, codes}
use Rattle.monomial.proofs.Bounds.{all_below, all_below-at}

-- the two sections of places are never four times as long as a series
room-everywhere : T (all_below (λ n. all_below (λ v. leb (codes n v) (4 * (count n v + 1))) 9) 11)
unfolding all_below count factorial codes
room-everywhere = tt

pub codes-room : (n v : ℕ) → n ≤ 10 → v ≤ 8 → codes n v ≤ 4 * (count n v + 1)
codes-room n v a b =
    leb→le (codes n v) (4 * (count n v + 1))
    (all_below-at (λ u. leb (codes n u) (4 * (count n u + 1))) 9 v
    (all_below-at (λ m. all_below (λ u. leb (codes m u) (4 * (count m u + 1))) 9) 11 n room-everywhere (omega (arith, a)))
    (omega (arith, b)))

-- W has seven regions
pub seven_regions : (n v N : ℕ) → 1 ≤ n → 1 ≤ v → 7 * (N + 1) ≤ (n + 2 * v + 4) * (N + 1) + 2 * v * v
seven_regions n v N a b =
    let q : 7 ≤ n + 2 * v + 4 = omega (arith, a, b) in
    let k : N + 1 ≤ N + 1 = omega arith in
    let m : 7 * (N + 1) ≤ (n + 2 * v + 4) * (N + 1) = mul-le-mul q k in
    le-more (7 * (N + 1)) ((n + 2 * v + 4) * (N + 1)) (2 * v * v) m
  where
    le-more : (x y z : ℕ) → x ≤ y → x ≤ y + z
    le-more x y z l = omega (arith, l)

-- W has n + 2 v + 4 regions and two words more
pub two_more : (n v N : ℕ) → 1 ≤ v → (n + 2 * v + 4) * (N + 1) + 2 ≤ (n + 2 * v + 4) * (N + 1) + 2 * v * v
two_more n v N l =
    let q : 2 ≤ 2 * v = omega (arith, l) in
    let s : 2 * 1 ≤ 2 * v * v = mul-le-mul q l in
    add-more ((n + 2 * v + 4) * (N + 1)) (2 * v * v) (omega (arith, s))
  where
    add-more : (x y : ℕ) → 2 ≤ y → x + 2 ≤ x + y
    add-more x y h = omega (arith, h)
