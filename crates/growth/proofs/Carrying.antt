-- Ends carried one order, and one list, after another.
use Rattle.std.proofs.Common.{◌≡◌, refl, ap, ◌∙◌, List, [], ℕ, ◌+◌, ◌-◌, ◌≤◌, ◌<◌, arith, length, length-set, get_or, set, take, drop, replicate, length-drop, length-take-le, get_or-set_same, get_or-set_other}
use Rattle.std.proofs.Math.Decide.{ℕ_discrete}
use Rattle.std.proofs.Math.ListN.{length-replicate, get_or-replicate}
use borrow.Rule.Slice.PartMut.{put_mid}
use Rattle.series.specs.Over.{over}
use Rattle.series.proofs.Over.{length_over, over_below, over-in}
use Rattle.walk.specs.Walking.{row}
use Rattle.walk.proofs.Parts.{put-over}
use Rattle.growth.specs.Appending.{size_of, Carried}

-- a row whose words above order o, up to order n, are that of order o; the others are as before
record CarriedRow (n o : ℕ) (r r' : List ℕ) : Type 0 where
  pub size : length r' ≡ length r
  pub above : (j : ℕ) → o ≤ j → j ≤ n → get_or r' j 0 ≡ get_or r o 0
  pub below : (j : ℕ) → j < o → get_or r' j 0 ≡ get_or r j 0

module _ (n o : ℕ) (us : List ℕ) (low : o ≤ n) (inside : n < length us) where
  -- the words above order o, filled with that of order o
  filled_at : (m : ℕ) → m ≡ n - o
      → CarriedRow n o us (put_mid (o + 1) m us (replicate m (get_or us o 0)))
  filled_at m e = record {
    size = ap length is_over ∙ length_over us (o + 1) words (omega (arith, long));
    above = λ j a b. at j a b (ℕ_discrete j o);
    below = λ j h. read j ∙ over_below us (o + 1) words j (omega arith) (omega arith);
  }
    where
      words : List ℕ
      words = replicate m (get_or us o 0)

      long : length (replicate m (get_or us o 0)) ≡ m
      long = length-replicate m (get_or us o 0)

      is_over : put_mid (o + 1) m us (replicate m (get_or us o 0)) ≡ over us (o + 1) (replicate m (get_or us o 0))
      is_over = put-over (o + 1) m us words long

      read : (i : ℕ) → get_or (put_mid (o + 1) m us words) i 0 ≡ get_or (over us (o + 1) words) i 0
      read i = ap (λ (s : List ℕ). get_or s i 0) is_over

      at : (j : ℕ) → o ≤ j → j ≤ n → Dec (j ≡ o) → get_or (put_mid (o + 1) m us words) j 0 ≡ get_or us o 0
      at j a b (yes z) =
          read j
          ∙ over_below us (o + 1) words j (omega arith) (omega arith)
          ∙ ap (λ (x : ℕ). get_or us x 0) z
      at j a b (no z) =
          let i = j - o - 1 in
          let w : j ≡ o + 1 + i = omega arith in
          ap (λ (x : ℕ). get_or (put_mid (o + 1) m us words) x 0) w
          ∙ read (o + 1 + i)
          ∙ over-in us (o + 1) words i (omega arith) (omega (arith, long))
          ∙ get_or-replicate m i (get_or us o 0) 0 (omega arith)

-- the first v lists are carried, and the rows of the others are as before
pub record CarriedFirst (n v o : ℕ) (ends ends' : List (List ℕ)) : Type 0 where
  pub carried : Carried n v o ends ends'
  pub rest : (k : ℕ) → v ≤ k → row ends' k ≡ row ends k

pub carried_none : (n o : ℕ) (ends : List (List ℕ)) → CarriedFirst n 0 o ends ends
carried_none n o ends = record {
  carried = record {
    ends_size = record { rows = refl; words = λ k. refl };
    above = λ k j h l u. absurd (omega arith);
    below = λ k j h l. refl;
  };
  rest = λ k h. refl;
}

module _ {n v o : ℕ} {ends us : List (List ℕ)} {r : List ℕ} (c : CarriedFirst n v o ends us)
    (inside : v < length us) (a : CarriedRow n o (row us v) r) where
  own : row (set us v r) v ≡ r
  own = get_or-set_same us v r [] inside

  other : (k : ℕ) → (k ≡ v → ⊥) → row (set us v r) k ≡ row us k
  other k ne = get_or-set_other us v k r [] (λ e. ne (omega arith))

  before : row us v ≡ row ends v
  before = c.rest v (omega arith)

  size : (k : ℕ) → Dec (k ≡ v) → length (row (set us v r) k) ≡ length (row ends k)
  size k (yes e) = rw e (ap length own ∙ a.size ∙ ap length before)
  size k (no d) = ap length (other k d) ∙ c.carried.ends_size.words k

  above : (k j : ℕ) → k < v + 1 → o ≤ j → j ≤ n → Dec (k ≡ v) → size_of (set us v r) k j ≡ size_of ends k o
  above k j h l u (yes e) =
      rw e (ap (λ (s : List ℕ). get_or s j 0) own ∙ a.above j l u ∙ ap (λ (s : List ℕ). get_or s o 0) before)
  above k j h l u (no d) = ap (λ (s : List ℕ). get_or s j 0) (other k d) ∙ c.carried.above k j (omega arith) l u

  below : (k j : ℕ) → k < v + 1 → j < o → Dec (k ≡ v) → size_of (set us v r) k j ≡ size_of ends k j
  below k j h l (yes e) =
      rw e (ap (λ (s : List ℕ). get_or s j 0) own ∙ a.below j l ∙ ap (λ (s : List ℕ). get_or s j 0) before)
  below k j h l (no d) = ap (λ (s : List ℕ). get_or s j 0) (other k d) ∙ c.carried.below k j (omega arith) l

  carried_row : CarriedFirst n (v + 1) o ends (set us v r)
  carried_row = record {
    carried = record {
      ends_size = record {
        rows = length-set us v r ∙ c.carried.ends_size.rows;
        words = λ k. size k (ℕ_discrete k v);
      };
      above = λ k j h l u. above k j h l u (ℕ_discrete k v);
      below = λ k j h l. below k j h l (ℕ_discrete k v);
    };
    rest = λ k h. other k (λ e. omega arith) ∙ c.rest k (omega arith);
  }

-- `part`, the words of list v above order o, is filled with that of order o
pub carried_more : {n v o : ℕ} {ends us : List (List ℕ)} {part : List ℕ} → CarriedFirst n v o ends us → o ≤ n
    → v < length ends → n < length (row ends v)
    → part ≡ replicate (length (take (n + 1 - (o + 1)) (drop (o + 1) (row us v)))) (size_of us v o)
    → CarriedFirst n (v + 1) o ends (set us v (put_mid (o + 1) (n + 1 - (o + 1)) (row us v) part))
carried_more {n} {v} {o} {ends} {us} {part} c low here inside e =
    let m = n + 1 - (o + 1) in
    let long : length (take m (drop (o + 1) (row us v))) ≡ m =
    length-take-le m (drop (o + 1) (row us v)) (omega (arith, length-drop (o + 1) (row us v), inside, ap length (c.rest v (omega arith)))) in
    let long_row : n < length (row us v) = omega (arith, inside, ap length (c.rest v (omega arith))) in
    carried_row c (omega (arith, here, c.carried.ends_size.rows))
    (rw (e, long) (filled_at n o (row us v) low long_row m (omega arith)))
