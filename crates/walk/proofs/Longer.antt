-- One letter more: the product of the shorter monomial, multiplied by a listed component into the
-- region below, is that of the longer one; its multiples are added to the sums.
use Rattle.std.proofs.Common.{ℕ, ◌+◌, ◌*◌, ◌-◌, ◌≤◌, ◌<◌, ◌≡◌, sym, ap, ◌∙◌, Bool, List, arith, leb, length, get_or}
use Rattle.algebra.specs.Polynomial.{Monomial, Polynomial, indicator, add, scale, mul}
use Rattle.algebra.proofs.Within.{within_mul}
use Rattle.series.specs.Image.{entries, coefficient_at, component, monomial_at}
use Rattle.product.specs.Regions.{Listed}
use Rattle.substitution.specs.Levels.{Level}
use Rattle.walk.specs.declared.Plan.{Plan}
use Rattle.walk.specs.Walking.{list_at, row, inner, Planned, Laid, Sums, Kept}
use Rattle.powers.specs.Powers.{PowerIn, Powered}
use Rattle.walk.specs.Stepping.{weight_at, AddAllIn, AddedAll, StepIn, Stepped}
use Rattle.walk.proofs.Sources.{source_asks, source_multiplied, level_source}
use Rattle.walk.proofs.Frames.{sums_same, list_inside, planned_kept}

module _ {s : Plan} {w : List ℕ} {ys : ℕ → List ℕ} {mark : Monomial → Bool}
    {κ : ℕ → Monomial → ℕ} (lay : Laid s) (P : Planned s w ys mark κ)
    {k lo q at : ℕ} {Q : Polynomial} (S : StepIn s w k lo q at Q) where
  abbrev r : ℕ
  r = s.t.z.count + 1

  abbrev list : ℕ
  list = list_at s.t.z.count k

  abbrev longer : Polynomial
  longer = mul Q (inner s.t.z.n s.t.z.v ys k)

  -- what the numbers of the step are below
  pub step_low : at < length w
  step_low = omega (arith, S.source.inside)

  pub list-low : list_at s.t.z.count k < length w
  list-low = omega (arith, list_inside s k S.variable, S.room, step_low)

  two : 2 * (s.t.z.count + 1) ≤ at - (s.t.z.count + 1)
  two = omega (arith, list_inside s k S.variable, (P.listed k S.variable).apart, S.room)

  module _ (m : ℕ) (e : m ≡ get_or w at 0) where
    pub multiply_asks : PowerIn s.t.z.n s.t.z.v s.t.z.count s.t.z.codes lo s.wanted s.cut
        s.columns.orders
        (list_at s.t.z.count k) s.columns.marks s.t.words.now w (row s.ends.now k) s.starts.now at m
        (at - (s.t.z.count + 1)) s.p
    multiply_asks =
        rw e
        (source_asks P.cut_is S.source (at - r) (ys k) P.ready (P.listed k S.variable)
        (P.origin k S.variable) P.ordered P.clean S.least (omega (arith, two))
        (omega (arith, lay.marks_in, S.room)) (omega (arith, step_low, S.room))
        (omega (arith, lay.orders_in, S.room)) (omega (arith, list_inside s k S.variable, S.room))
        (omega (arith, S.room)) P.wanted_low)

    module _ (w' : List ℕ) (first : ℕ)
        (M : (zs : List ℕ)
        → Listed s.t.z.n s.t.z.v s.t.z.count zs (list_at s.t.z.count k) w (row s.ends.now k)
        → Powered s.t.z.n s.t.z.v s.t.z.count lo s.wanted s.cut at m (at - (s.t.z.count + 1)) s.p zs w w'
        first)
      where
        multiplied : Powered s.t.z.n s.t.z.v s.t.z.count lo s.wanted s.cut at (get_or w at 0)
            (at - (s.t.z.count + 1)) s.p (ys k) w w' first
        multiplied = rw e at (M (ys k) (P.listed k S.variable))

        pub step_kept : Kept s at w w'
        step_kept = record {
          size = multiplied.size;
          fixed = λ j l h. multiplied.before j l (omega (arith, S.room));
          above = λ j h. multiplied.after j (omega (arith, S.room));
          clean = λ z. multiplied.clean;
        }

        level : Level s.p s.t.z.n s.t.z.v s.t.z.count lo s.cut w' (at - (s.t.z.count + 1))
            (mul Q (inner s.t.z.n s.t.z.v ys k))
        level =
            source_multiplied P.cut_is S.source (at - r) (ys k) w' first
            (omega (arith, step_low, S.room)) multiplied

        planned : Planned s w' ys mark κ
        planned = planned_kept lay P step_kept

        pub add-all_asks : {res : List ℕ} {A : ℕ → Polynomial} → Sums s res A
            → AddAllIn s w' res q (at - (s.t.z.count + 1)) first
        add-all_asks {res} {A} U = record {
          cut_is = P.cut_is;
          order_in = omega (arith, planned.ready.inside, S.high);
          outer_in = P.outer_in;
          ascending = P.ascending;
          reduced = λ i l. P.reduced i q l;
          product = (lo, longer, level);
          sums = (A, U);
          few = multiplied.first;
          early = multiplied.early;
        }

        weight_is : (i : ℕ) → i < s.components
            → weight_at s w' q i ≡ κ i (monomial_at s.t.z.n s.t.z.v q)
        weight_is i l =
            ap
            (λ (x : ℕ).
            coefficient_at (entries (component s.t.z.n s.t.z.v i s.outer.now)) q
            * indicator (leb s.least x))
            (planned.ready.orders q S.low S.high)
            ∙ sym (P.coefficient i q l S.low S.high)

        pub stepped : {res res' : List ℕ} {A : ℕ → Polynomial} → Sums s res A
            → AddedAll s w' q (at - (s.t.z.count + 1)) res res'
            → Stepped s ys κ k lo q at Q A w w' res res'
        stepped {res} {res'} {A} U D = record {
          kept = step_kept;
          source =
              level_source P.cut_is level
              (within_mul s.t.z.v Q (inner s.t.z.n s.t.z.v ys k) S.within
              (P.within k S.variable));
          sums =
              sums_same
              (λ i l. ap (λ (x : ℕ). add (A i) (scale x longer)) (weight_is i l))
              (D.sums lo longer A level U);
          size = D.size;
          rest = D.rest;
        }
