-- The sums of one row of pairs turned into entries. A sum that is within a bound, as are the values that the
-- row has at its place, is less by the values of the pairs passed: at the first of them it is made 0.
use Rattle.std.proofs.Common.{◌≡◌, sym, ap, ◌∙◌, List, ℕ, zero, suc, ◌+◌, ◌*◌, ◌/◌, ◌%◌, ◌≤◌, ◌<◌, mul-zero, add-one, arith, eqb, eqb→eq, length, get_or}
use Rattle.std.proofs.Math.Decide.{ℕ_discrete, dec_lt}
use Rattle.algebra.specs.Sum.{sum_to}
use Rattle.algebra.specs.Polynomial.{indicator}
use Rattle.algebra.proofs.Booleans.{indicator-no}
use Rattle.series.specs.Over.{over}
use Rattle.product.specs.Pairs.{sum_at}
use Rattle.product.specs.Rows.{put, place_with}
use Rattle.powers.specs.Gathering.{entry_at, TakeIn, Possible, Drawn}
use Rattle.powers.specs.Collecting.{TakeRowIn, RowTaken}
use Rattle.powers.proofs.Drawing.{take-asks, drawn_own, drawn_other, drawn_few, drawn_more}

sum_to-less : (f : ℕ → ℕ) (a b : ℕ) → a ≤ b → sum_to f a ≤ sum_to f b
unfolding sum_to
sum_to-less f a zero l = let e : a ≡ 0 = omega arith in rw e (omega arith)
sum_to-less f a (suc b) l = go (dec_lt b a) (sum_to-less f a b)
  where
    go : Dec (b < a) → (a ≤ b → sum_to f a ≤ sum_to f b) → sum_to f a ≤ sum_to f b + f b
    go (yes u) ih = let e : a ≡ suc b = omega arith in rw e (omega arith)
    go (no u) ih = omega (arith, ih (omega arith))

-- what the values at place j are
abbrev row_at : (value place : ℕ → ℕ) → ℕ → ℕ → ℕ
row_at value place j k = value k * indicator (eqb (place k) j)

-- the sums of the first k pairs are taken, and their entries stand up to word e
pub record Passing (n v N lo cut dst p : ℕ) (w₀ t : List ℕ) (d1 d2 cs lim i : ℕ) (w w' : List ℕ)
    (e k : ℕ) : Type 0 where
  pub high : k ≤ lim
  pub few : e ≤ i + k
  pub drawn : Drawn n v N lo cut dst p w₀ w' e
  pub off : (value : ℕ → ℕ) (j b : ℕ) → j ≤ N → sum_at w j ≤ b
      → sum_to (λ k. value k * indicator (eqb (place_with t w d1 d2 cs k) j)) lim ≤ b
      → sum_at w' j + sum_to (λ k. value k * indicator (eqb (place_with t w d1 d2 cs k) j)) k ≤ b

module _ {n v N lo cut dst p : ℕ} {w₀ t w : List ℕ} {d1 d2 cs lim i : ℕ}
    (g : TakeRowIn n v N lo cut dst p w₀ t w d1 d2 cs lim i) where
  pub passing_none : Passing n v N lo cut dst p w₀ t d1 d2 cs lim i w w i 0
  unfolding sum_to
  passing_none = record {
    high = omega arith;
    few = omega arith;
    drawn = g.drawn;
    off = λ value j b a l h. omega arith;
  }

  module _ {w' : List ℕ} {e k : ℕ} (h : Passing n v N lo cut dst p w₀ t d1 d2 cs lim i w w' e k) where
    pub passing_size : length w' ≡ length w
    passing_size = h.drawn.size ∙ sym g.drawn.size

    module _ (l : k < lim) where
      -- the codes of the next pair
      pub passing_code : get_or w' (cs + k) 0 ≡ get_or w (cs + k) 0
      passing_code =
          h.drawn.before (cs + k) (omega (arith, g.codes_apart)) (omega (arith, g.codes_below))
          ∙ sym
          (g.drawn.before (cs + k) (omega (arith, g.codes_apart)) (omega (arith, g.codes_below)))

      pub passing_codes : (cs + k < length w') × (d1 + get_or w' (cs + k) 0 % 65536 < length t)
          × (d2 + get_or w' (cs + k) 0 / 65536 < length t)
      passing_codes = (
        omega (arith, passing_size, g.drawn.size, g.codes_below, g.room.inside),
        rw passing_code (g.first_in k l),
        rw passing_code (g.second_in k l),
      )

      free : e < dst + (N + 1)
      free = omega (arith, h.few, g.few)

      module _ (q : ℕ) (is : q ≡ place_with t w' d1 d2 cs k) where
        here : place_with t w d1 d2 cs k ≡ q
        unfolding place_with
        here =
            sym
            (is
            ∙ ap (λ (z : ℕ). get_or t (d1 + z % 65536) 0 + get_or t (d2 + z / 65536) 0) passing_code)

        possible : Possible n v N lo cut q
        possible = rw here at (g.place k l)

        pub passing_take : TakeIn w' e q p
        passing_take = take-asks g.room h.drawn q possible free

        module _ (e' : ℕ) (w'' : List ℕ) (ee : e' ≡ e + length (entry_at w' q p))
            (ew : w'' ≡ over (put w' q 0) e (entry_at w' q p)) where
          off-now : (value : ℕ → ℕ) (j b : ℕ) → j ≤ N → sum_at w j ≤ b
              → sum_to (λ k. value k * indicator (eqb (place_with t w d1 d2 cs k) j)) lim ≤ b
              → Dec (j ≡ q)
              → sum_at w'' j + sum_to (λ k. value k * indicator (eqb (place_with t w d1 d2 cs k) j)) (suc k)
              ≤ b
          unfolding sum_to
          off-now value j b a s r (yes u) =
              omega (
                arith,
                ap (sum_at w'') u ∙ drawn_own g.room h.drawn q possible free ee ew,
                sum_to-less (row_at value (place_with t w d1 d2 cs) j) (suc k) lim (omega arith),
              )
          off-now value j b a s r (no u) =
              let z : value k * indicator (eqb (place_with t w d1 d2 cs k) j) ≡ 0 =
              ap (λ (x : ℕ). value k * x)
              (indicator-no (eqb (place_with t w d1 d2 cs k) j)
              (λ y. u (sym (eqb→eq (place_with t w d1 d2 cs k) j y) ∙ here)))
              ∙ mul-zero (value k) in
              omega (
                arith,
                z,
                drawn_other g.room h.drawn q possible free ee ew j a u,
                h.off value j b a s r,
              )

          pub passing_more : Passing n v N lo cut dst p w₀ t d1 d2 cs lim i w w'' e' (k + 1)
          passing_more = record {
            high = omega arith;
            few = omega (arith, drawn_few g.room h.drawn q possible free ee ew, h.few);
            drawn = drawn_more g.room h.drawn q possible free ee ew;
            off = λ value j b a s r. rw add-one (off-now value j b a s r (ℕ_discrete j q));
          }

    pub passing_done : k ≡ lim → RowTaken n v N lo cut dst p w₀ t d1 d2 cs lim i w w' e
    passing_done all = record {
      few = omega (arith, h.few);
      drawn = h.drawn;
      off = rw all at h.off;
    }
