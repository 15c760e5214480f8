-- Filling D1 and D2: a code's place is where it first stands. All first codes stand in the block of C2 = 0,
-- one after another, and a second code first stands where its block begins.
use Rattle.std.proofs.Common.{◌≡◌, sym, ap, ◌∙◌, ◌≢◌, List, Bool, ℕ, zero, suc, ◌+◌, ◌-◌, ◌^◌, ◌≤◌, ◌<◌, add-one, arith, le-leb, length, get_or, set, leb}
use Rattle.std.proofs.Math.Nat.{pow-le-pow_right}
use Rattle.std.proofs.Math.Decide.{dec_lt, dec_le, ℕ_discrete}
use borrow.Author.Tests.{lt-leb}
use Rattle.monomial.specs.Count.{count, half, codes}
use Rattle.monomial.specs.Table.{block, or_zero, D1, D2}
use Rattle.builder.specs.Build.{C1s, order_start, filled}
use Rattle.monomial.proofs.Blocks.{block_at, block_back}
use Rattle.monomial.proofs.Address.{order1, codes-positive}
use Rattle.monomial.proofs.Places.{D1-low, D1-none, D2-none}
use Rattle.builder.proofs.BuildOrder.{codes-at_first}
use Rattle.builder.proofs.BuildBlocks.{block-length, block-mono, block-first, block-all}
use Rattle.builder.proofs.BuildFilled.{filled-set, filled-ext, filled-again}

-- a place p where it is at most i, and 0 otherwise
unfoldable pub up_to_place : ℕ → ℕ → ℕ
up_to_place i p = or_zero (leb p i) p

place_in : (i p : ℕ) → p ≤ i → up_to_place i p ≡ p
unfolding up_to_place
place_in i p l = ap (λ (t : Bool). or_zero t p) (le-leb p i l)

place_out : (i p : ℕ) → i < p → up_to_place i p ≡ 0
unfolding up_to_place
place_out i p l = ap (λ (t : Bool). or_zero t p) (lt-leb p i l)

-- the place p of the code c where c is below y, and 0 otherwise
unfoldable pub below_code : ℕ → ℕ → ℕ → ℕ
below_code y c p = or_zero (leb (suc c) y) p

code_in : (y c p : ℕ) → c < y → below_code y c p ≡ p
unfolding below_code
code_in y c p l = ap (λ (t : Bool). or_zero t p) (le-leb (suc c) y l)

code_out : (y c p : ℕ) → y ≤ c → below_code y c p ≡ 0
unfolding below_code
code_out y c p l = ap (λ (t : Bool). or_zero t p) (lt-leb (suc c) y (omega arith))

module _ (n v : ℕ) where
  -- ---- D1

  pub first-bound : order_start n v (n + 1) ≤ count n v
  first-bound =
      let z : 1 ≤ (n + 1) ^ (v - half v) = codes-positive n (v - half v) in
      omega (arith, block-first n v, block-mono n v 1 ((n + 1) ^ (v - half v)) z, block-all n v)

  block_size : order_start n v (n + 1) ≡ length (block (n + 1) (half v) n)
  block_size = ap (order_start n v) (add-one n) ∙ block-length n v n

  -- the code at an index of the first block stands there first
  pub first_code : (i : ℕ) → i < order_start n v (n + 1)
      → (get_or (C1s n v) i 0 < codes n v) × (D1 n v (get_or (C1s n v) i 0) ≡ i + 1)
  unfolding codes
  first_code i l =
      let b = n + 1 in
      let q = block_back b (half v) n i (omega (arith, block_size)) in
      let x = q.0 in
      let f = codes-at_first n v x q.1 q.2 in
      let e : get_or (C1s n v) i 0 ≡ x = ap (λ (z : ℕ). get_or (C1s n v) z 0) q.3 ∙ sym f.first in (
        omega (arith, e, q.1),
        ap (D1 n v) e ∙ D1-low n v x q.1 q.2 ∙ omega (arith, q.3),
      )

  -- and no other code does
  only_code : (c i : ℕ) → c < codes n v → D1 n v c ≡ i + 1 → c ≡ get_or (C1s n v) i 0
  unfolding codes
  only_code c i l e = go (dec_le (order1 n v c) n)
    where
      go : Dec (order1 n v c ≤ n) → c ≡ get_or (C1s n v) i 0
      go (yes o) =
          let f = codes-at_first n v c l o in
          f.first ∙ ap (λ (z : ℕ). get_or (C1s n v) z 0) (omega (arith, D1-low n v c l o))
      go (no o) = absurd (omega (arith, D1-none n v c (λ _ k. o k)))

  D1-bound : (c : ℕ) → c < codes n v → D1 n v c ≤ order_start n v (n + 1)
  unfolding codes
  D1-bound c l = go (dec_le (order1 n v c) n)
    where
      go : Dec (order1 n v c ≤ n) → D1 n v c ≤ order_start n v (n + 1)
      go (yes o) = omega (arith, D1-low n v c l o, (block_at (n + 1) (half v) n c l o).0, block_size)
      go (no o) = omega (arith, D1-none n v c (λ _ k. o k))

  -- the section D1 with the places up to i in it
  unfoldable pub D1s : ℕ → ℕ → ℕ
  D1s i c = up_to_place i (D1 n v c)

  module _ (at : ℕ) (s : List ℕ) (room : at + codes n v ≤ length s) where
    pub D1s-none : filled at (λ c. 0) (codes n v) s ≡ filled at (D1s 0) (codes n v) (filled at (λ c. 0) (codes n v) s)
    unfolding D1s
    D1s-none =
        filled-ext at (codes n v) s room (λ c. 0) (D1s 0) (λ c l. sym (go (D1 n v c)))
        ∙ sym (filled-again at (codes n v) s room (D1s 0) (λ c. 0))
      where
        go : (p : ℕ) → up_to_place 0 p ≡ 0
        go zero = place_in 0 0 (omega arith)
        go (suc p) = place_out 0 (suc p) (omega arith)

    pub D1s-next : (i : ℕ) → i < order_start n v (n + 1)
        → set (filled at (D1s i) (codes n v) s) (at + get_or (C1s n v) i 0) (i + 1) ≡ filled at (D1s (i + 1)) (codes n v) s
    unfolding D1s
    D1s-next i l =
        let x = get_or (C1s n v) i 0 in
        let f = first_code i l in
        filled-set at (codes n v) s room (D1s (i + 1)) (D1s i) x (i + 1) f.0
        (ap (up_to_place (i + 1)) f.1 ∙ place_in (i + 1) (i + 1) (omega arith))
        (λ c k ne. go c k ne (dec_le (D1 n v c) i))
      where
        go : (c : ℕ) → c < codes n v → c ≢ get_or (C1s n v) i 0 → Dec (D1 n v c ≤ i)
            → up_to_place (i + 1) (D1 n v c) ≡ up_to_place i (D1 n v c)
        go c k ne (yes z) = place_in (i + 1) (D1 n v c) (omega arith) ∙ sym (place_in i (D1 n v c) z)
        go c k ne (no z) =
            let w : i + 1 < D1 n v c = more (ℕ_discrete (D1 n v c) (i + 1)) in
            place_out (i + 1) (D1 n v c) w ∙ sym (place_out i (D1 n v c) (omega arith))
          where
            more : Dec (D1 n v c ≡ i + 1) → i + 1 < D1 n v c
            more (yes q) = absurd (ne (only_code c i k q))
            more (no q) = omega arith

    pub D1s-all : filled at (D1s (order_start n v (n + 1))) (codes n v) s ≡ filled at (D1 n v) (codes n v) s
    unfolding D1s
    D1s-all =
        filled-ext at (codes n v) s room (D1s (order_start n v (n + 1))) (D1 n v)
        (λ c l. place_in (order_start n v (n + 1)) (D1 n v c) (D1-bound c l))

  -- ---- D2

  -- the section D2 with the places of the codes below y in it
  unfoldable pub D2s : ℕ → ℕ → ℕ
  D2s y c = below_code y c (D2 n v c)

  pub seconds_codes : 1 ≤ v → (n + 1) ^ (v - half v) ≤ codes n v
  unfolding codes
  seconds_codes l = pow-le-pow_right {n = n + 1} (omega arith) (omega arith)

  module _ (at : ℕ) (s : List ℕ) (room : at + codes n v ≤ length s) where
    pub D2s-none : filled at (λ c. 0) (codes n v) s ≡ filled at (D2s 0) (codes n v) (filled at (λ c. 0) (codes n v) s)
    unfolding D2s
    D2s-none =
        filled-ext at (codes n v) s room (λ c. 0) (D2s 0) (λ c l. sym (code_out 0 c (D2 n v c) (omega arith)))
        ∙ sym (filled-again at (codes n v) s room (D2s 0) (λ c. 0))

    pub D2s-next : (y p : ℕ) → y < codes n v → p ≡ D2 n v y
        → set (filled at (D2s y) (codes n v) s) (at + y) p ≡ filled at (D2s (y + 1)) (codes n v) s
    unfolding D2s
    D2s-next y p l e =
        filled-set at (codes n v) s room (D2s (y + 1)) (D2s y) y p l (code_in (y + 1) y (D2 n v y) (omega arith) ∙ sym e)
        (λ c k ne. go c ne (dec_lt c y))
      where
        go : (c : ℕ) → c ≢ y → Dec (c < y) → below_code (y + 1) c (D2 n v c) ≡ below_code y c (D2 n v c)
        go c ne (yes z) = code_in (y + 1) c (D2 n v c) (omega arith) ∙ sym (code_in y c (D2 n v c) z)
        go c ne (no z) = code_out (y + 1) c (D2 n v c) (omega arith) ∙ sym (code_out y c (D2 n v c) (omega arith))

    -- codes that no monomial has
    pub D2s-past : (y z : ℕ) → y ≤ z → ((c : ℕ) → y ≤ c → c < z → D2 n v c ≡ 0)
        → filled at (D2s y) (codes n v) s ≡ filled at (D2s z) (codes n v) s
    unfolding D2s
    D2s-past y z l o = filled-ext at (codes n v) s room (D2s y) (D2s z) (λ c _. go c (dec_lt c y) (dec_lt c z))
      where
        go : (c : ℕ) → Dec (c < y) → Dec (c < z) → below_code y c (D2 n v c) ≡ below_code z c (D2 n v c)
        go c (yes k) _ = code_in y c (D2 n v c) k ∙ sym (code_in z c (D2 n v c) (omega arith))
        go c (no k) (yes u) =
            code_out y c (D2 n v c) (omega arith) ∙ sym (o c (omega arith) u) ∙ sym (code_in z c (D2 n v c) u)
        go c (no k) (no u) = code_out y c (D2 n v c) (omega arith) ∙ sym (code_out z c (D2 n v c) (omega arith))

    pub D2s-all : filled at (D2s ((n + 1) ^ (v - half v))) (codes n v) s ≡ filled at (D2 n v) (codes n v) s
    unfolding D2s
    D2s-all = filled-ext at (codes n v) s room (D2s e) (D2 n v) (λ c _. go c (dec_lt c e))
      where
        e : ℕ
        e = (n + 1) ^ (v - half v)

        go : (c : ℕ) → Dec (c < (n + 1) ^ (v - half v)) → below_code ((n + 1) ^ (v - half v)) c (D2 n v c) ≡ D2 n v c
        go c (yes k) = code_in ((n + 1) ^ (v - half v)) c (D2 n v c) k
        go c (no k) =
            code_out ((n + 1) ^ (v - half v)) c (D2 n v c) (omega arith) ∙ sym (D2-none n v c (λ z _. k z))
