-- Sums turned into entries, one listed position after another, in two runs: the entries of the first
-- run stand before those of the second.
use Rattle.std.proofs.Common.{◌≡◌, refl, sym, ap, ◌∙◌, List, ℕ, ◌+◌, ◌-◌, ◌*◌, ◌≤◌, ◌<◌, arith, length, get_or, set, get_or-set_same, get_or-set_other}
use Rattle.std.proofs.Math.Decide.{ℕ_discrete, dec_lt}
use Rattle.series.specs.Image.{position}
use Rattle.series.specs.Over.{over}
use Rattle.product.specs.Pairs.{sum_at}
use Rattle.product.specs.Rows.{put}
use Rattle.powers.specs.Gathering.{entry_at, TakeIn, Possible, listed_at, RunIn, RunGathered}
use Rattle.powers.specs.Gathering.{GatherIn, Gathered}
use Rattle.powers.proofs.Drawing.{drawn_none, take-asks, drawn_own, drawn_other, drawn_few}
use Rattle.powers.proofs.Drawing.{drawn_here, drawn_kept, drawn_more, made-sums, made}

module _ {n v N lo cut ps from to dst p : ℕ} {w₀ w : List ℕ} {i : ℕ}
    (g : RunIn n v N lo cut ps from to dst p w₀ w i) where
  -- no position is taken yet
  pub run_none : RunGathered n v N lo cut ps from from dst p w₀ w i w i
  run_none = record {
    drawn = g.drawn;
    more = omega arith;
    few = omega arith;
    origin = λ j a b. absurd (omega arith);
    taken = λ k a b. absurd (omega arith);
    less = λ q a. omega arith;
    kept = λ x a b. refl;
  }

  module _ {w' : List ℕ} {e k : ℕ} (low : from ≤ k)
      (h : RunGathered n v N lo cut ps from k dst p w₀ w i w' e) where
    pub run_size : length w' ≡ length w
    run_size = h.drawn.size ∙ sym g.drawn.size

    -- the next listed position
    module _ (q : ℕ) (l : k < to) (eq : q ≡ listed_at w' ps k) where
      here : listed_at w ps k ≡ q
      here =
          sym
          (eq
          ∙ ap position
          (h.kept (ps + 1 + k) (omega (arith, g.apart))
          (omega (arith, g.many, g.below, g.drawn.begun))))

      possible : Possible n v N lo cut q
      possible = rw here at (g.place k low l)

      free : e < dst + (N + 1)
      free = omega (arith, h.few, g.few)

      pub run_take : TakeIn w' e q p
      run_take = take-asks g.room h.drawn q possible free

      module _ (e' : ℕ) (w'' : List ℕ) (ee : e' ≡ e + length (entry_at w' q p))
          (ew : w'' ≡ over (put w' q 0) e (entry_at w' q p)) where
        own : sum_at w'' q ≡ 0
        own = drawn_own g.room h.drawn q possible free ee ew

        other : (j : ℕ) → j ≤ N → (j ≡ q → ⊥) → sum_at w'' j ≡ sum_at w' j
        other = drawn_other g.room h.drawn q possible free ee ew

        few : e' ≤ e + 1
        few = drawn_few g.room h.drawn q possible free ee ew

        same : (x : ℕ) → 2 * (N + 1) ≤ x → x < e → get_or w'' x 0 ≡ get_or w' x 0
        same = drawn_kept g.room h.drawn q possible free ee ew

        taken-now : (x : ℕ) → from ≤ x → x < k + 1 → Dec (listed_at w ps x ≡ q) → Dec (x ≡ k)
            → sum_at w'' (listed_at w ps x) ≡ 0
        taken-now x a b (yes u) d = ap (sum_at w'') u ∙ own
        taken-now x a b (no ne) (yes d) = absurd (ne (ap (listed_at w ps) d ∙ here))
        taken-now x a b (no ne) (no d) =
            other (listed_at w ps x) (g.place x a (omega arith)).high ne
            ∙ h.taken x a (omega arith)

        less_now : (j : ℕ) → j ≤ N → Dec (j ≡ q) → sum_at w'' j ≤ sum_at w j
        less_now j a (yes u) = omega (arith, ap (sum_at w'') u ∙ own)
        less_now j a (no ne) = omega (arith, other j a ne, h.less j a)

        origin_now : (j : ℕ) → i ≤ j → j < e' → Dec (j < e)
            → (x : ℕ) × (from ≤ x) × (x < k + 1) × (position (get_or w'' j 0) ≡ listed_at w ps x)
        origin_now j a b (yes u) =
            let o = h.origin j a u in (
              o.0,
              o.1,
              omega (arith, o.2),
              ap position (same j (omega (arith, g.room.apart, g.drawn.begun)) u) ∙ o.3,
            )
        origin_now j a b (no u) =
            let is : j ≡ e = omega (arith, few) in (
              k,
              low,
              omega arith,
              rw is (drawn_here g.room h.drawn q possible free ee ew (omega arith)) ∙ sym here,
            )

        pub run_more : RunGathered n v N lo cut ps from (k + 1) dst p w₀ w i w'' e'
        run_more = record {
          drawn = drawn_more g.room h.drawn q possible free ee ew;
          more = omega (arith, h.more, ee);
          few = omega (arith, few, h.few);
          origin = λ j a b. origin_now j a b (dec_lt j e);
          taken = λ x a b. taken-now x a b (ℕ_discrete (listed_at w ps x) q) (ℕ_discrete x k);
          less = λ j a. less_now j a (ℕ_discrete j q);
          kept = λ x a b. same x a (omega (arith, h.more)) ∙ h.kept x a b;
        }

-- ---- both runs

module _ {n v N lo cut ps from mid to dst p : ℕ} {w : List ℕ}
    (g : GatherIn n v N lo cut ps from mid to dst p w) where
  pub first-asks : RunIn n v N lo cut ps from mid dst p w w (dst + 1)
  first-asks = record {
    room = g.room;
    drawn = drawn_none n v N lo cut dst p w;
    ascends = g.low;
    many = omega (arith, g.high, g.many);
    few = omega (arith, g.high, g.many);
    apart = g.apart;
    below = g.below;
    place = λ k a b. g.place k a (omega (arith, g.high));
  }

  module _ {w1 : List ℕ} {i : ℕ} (a : RunGathered n v N lo cut ps from mid dst p w w (dst + 1) w1 i)
    where
      listed1 : (k : ℕ) → k < to → listed_at w1 ps k ≡ listed_at w ps k
      listed1 k l =
          ap position
          (a.kept (ps + 1 + k) (omega (arith, g.apart)) (omega (arith, g.many, g.below)))

      pub second-asks : RunIn n v N lo cut ps mid to dst p w w1 i
      second-asks = record {
        room = g.room;
        drawn = a.drawn;
        ascends = g.high;
        many = g.many;
        few = omega (arith, a.few, g.many);
        apart = g.apart;
        below = g.below;
        place = λ k u l. rw (listed1 k l) (g.place k (omega (arith, g.low)) l);
      }

      module _ {w2 : List ℕ} {e : ℕ} (b : RunGathered n v N lo cut ps mid to dst p w w1 i w2 e) where
        pub gather_few : (dst + 1 ≤ i) × (i ≤ e) × (e ≤ dst + 1 + N)
        gather_few = (a.more, b.more, omega (arith, a.few, b.few, g.many))

        pub gather_size : length w2 ≡ length w
        gather_size = b.drawn.size

        taken-all : (k : ℕ) → from ≤ k → k < to → Dec (k < mid) → sum_at w2 (listed_at w ps k) ≡ 0
        taken-all k u l (yes d) =
            omega (
              arith,
              b.less (listed_at w ps k) (g.place k u l).high,
              a.taken k u d,
            )
        taken-all k u l (no d) = ap (sum_at w2) (sym (listed1 k l)) ∙ b.taken k (omega arith) l

        abbrev w3 : List ℕ
        w3 = set w2 dst (e - dst - 1)

        pub gathered : Gathered n v N lo cut ps from mid to dst p w (set w2 dst (e - dst - 1))
            (i - dst - 1)
        gathered = record {
          made = made g.room b.drawn gather_few.2;
          taken = λ k u l.
              made-sums g.room b.drawn gather_few.2 (listed_at w ps k) (g.place k u l).high
              ∙ taken-all k u l (dec_lt k mid);
          few =
              omega (
                arith,
                get_or-set_same w2 dst (e - dst - 1) 0 (omega (arith, gather_size, g.room.inside)),
                gather_few,
              );
          early = λ j l.
              let o = a.origin (dst + 1 + j) (omega arith) (omega arith) in (
                o.0,
                o.1,
                o.2,
                ap position
                    (get_or-set_other w2 dst (dst + 1 + j) (e - dst - 1) 0 (λ u. omega arith)
                    ∙ b.kept (dst + 1 + j) (omega (arith, g.room.apart)) (omega arith))
                    ∙ o.3,
              );
        }
