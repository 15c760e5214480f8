-- The order of the monomials, as 01 words it: blocks by ascending C2, inside a block by ascending order,
-- inside one order by ascending C1.
use Rattle.std.proofs.Common.{◌≡◌, sym, ap, ap₂, ◌∙◌, [], ℕ, suc, ◌+◌, ◌-◌, ◌^◌, ◌<◌, arith, length, get_or}
use Rattle.std.proofs.Math.Decide.{dec_lt}
use Rattle.algebra.specs.Polynomial.{Monomial, order}
use Rattle.monomial.specs.Enumeration.{upto}
use Rattle.monomial.specs.Count.{half}
use Rattle.monomial.specs.Table.{digit_sum, hit, of_order, block, monomials_of, monomials, C1, C2, Before, by_C2, by_order, by_C1}
use Rattle.monomial.proofs.Upto.{upto-mono, length-suc}
use Rattle.monomial.proofs.Blocks.{rank, hit-yes, block_at}
use Rattle.monomial.proofs.Address.{order1, order2, before, At, address_back, order-monomial_of, length-monomials_of}
use Rattle.monomial.proofs.Places.{C1-at, C2-at}

module _ (b h : ℕ) where
  -- codes of one digit sum stand in their own order
  rank_same : (x z : ℕ) → digit_sum b h x ≡ digit_sum b h z → x < z → rank b h x < rank b h z
  rank_same x z e l =
      let s = digit_sum b h z in
      let f = hit b h s in
      let m = upto-mono f (suc x) z l in
      omega (
        arith,
        m,
        length-suc f x,
        ap length (hit-yes b h s x e),
        ap (λ (w : ℕ). length (upto (of_order b h) w)) e,
        ap (λ (w : ℕ). length (upto (hit b h w) x)) e,
      )

  -- codes of a smaller digit sum stand before
  rank-smaller : (x z : ℕ) → x < b ^ h → digit_sum b h x < digit_sum b h z → rank b h x < rank b h z
  unfolding block
  rank-smaller x z lx l =
      let a = block_at b h (digit_sum b h x) x lx (omega arith) in
      let m = upto-mono (of_order b h) (suc (digit_sum b h x)) (digit_sum b h z) l in
      omega (arith, a.0, m)

module _ (n v : ℕ) where
  -- the next block begins where a block ends
  before-suc : (y : ℕ) → before n v (suc y) ≡ before n v y + length (monomials_of n v y)
  before-suc y = length-suc (monomials_of n v) y

  pub ascending : (i j : ℕ) → i < j → j < length (monomials n v)
      → Before n v (get_or (monomials n v) i []) (get_or (monomials n v) j [])
  ascending i j l lj =
      let li : i < length (monomials n v) = omega arith in
      go (dec_lt a.y c.y) (dec_lt c.y a.y) (dec_lt (order1 n v a.x) (order1 n v c.x))
      (dec_lt (order1 n v c.x) (order1 n v a.x)) (dec_lt a.x c.x) (dec_lt c.x a.x)
    where
      a : At n v i
      a = address_back n v i (omega arith)

      c : At n v j
      c = address_back n v j lj

      m : Monomial
      m = get_or (monomials n v) i []

      k : Monomial
      k = get_or (monomials n v) j []

      second : C2 n v m ≡ a.y
      second = C2-at n v i (omega arith)

      second' : C2 n v k ≡ c.y
      second' = C2-at n v j lj

      first : C1 n v m ≡ a.x
      first = C1-at n v i (omega arith)

      first' : C1 n v k ≡ c.x
      first' = C1-at n v j lj

      orders : order m ≡ order1 n v a.x + order2 n v a.y
      orders = ap order a.is ∙ order-monomial_of n v a.y a.x

      orders' : order k ≡ order1 n v c.x + order2 n v c.y
      orders' = ap order c.is ∙ order-monomial_of n v c.y c.x

      -- a later block stands later
      blocks : c.y < a.y → j < i
      blocks u =
          let q = block_at (n + 1) (half v) (n - order2 n v c.y) c.x c.x_small (omega (arith, c.low)) in
          omega (
            arith,
            upto-mono (monomials_of n v) (suc c.y) a.y u,
            before-suc c.y,
            length-monomials_of n v c.y (omega (arith, c.low)),
            q.0,
            a.index,
            c.index,
          )

      go : Dec (a.y < c.y) → Dec (c.y < a.y) → Dec (order1 n v a.x < order1 n v c.x)
          → Dec (order1 n v c.x < order1 n v a.x) → Dec (a.x < c.x) → Dec (c.x < a.x) → Before n v m k
      go (yes u) _ _ _ _ _ = by_C2 (omega (arith, second, second'))
      go (no u) (yes w) _ _ _ _ = absurd (omega (arith, blocks w))
      go (no u) (no w) (yes s) _ _ _ =
          let e : a.y ≡ c.y = omega arith in
          by_order (second ∙ e ∙ sym second') (omega (arith, orders, orders', ap (order2 n v) e))
      go (no u) (no w) (no s) (yes t) _ _ =
          let e : a.y ≡ c.y = omega arith in
          absurd (omega (arith, rank-smaller (n + 1) (half v) c.x a.x c.x_small t, a.index, c.index, ap (before n v) e))
      go (no u) (no w) (no s) (no t) (yes p) _ =
          let e : a.y ≡ c.y = omega arith in
          let d : order1 n v a.x ≡ order1 n v c.x = omega arith in
          by_C1 (second ∙ e ∙ sym second') (orders ∙ ap₂ ◌+◌ d (ap (order2 n v) e) ∙ sym orders') (omega (arith, first, first'))
      go (no u) (no w) (no s) (no t) (no p) (yes q) =
          let e : a.y ≡ c.y = omega arith in
          absurd (omega (arith, rank_same (n + 1) (half v) c.x a.x (omega arith) q, a.index, c.index, ap (before n v) e))
      go (no u) (no w) (no s) (no t) (no p) (no q) =
          let e : a.y ≡ c.y = omega arith in
          let d : a.x ≡ c.x = omega arith in
          absurd (omega (arith, a.index, c.index, ap (before n v) e, ap (rank (n + 1) (half v)) d))
