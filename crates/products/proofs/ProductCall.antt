-- The product as a call: what its checks say step by step, what its core asks where they passed, what it leaves.
use Rattle.std.proofs.Common.{Ok, ◌≡◌, refl, sym, List, [], ◌∷◌, ◌++◌, ℕ, ◌+◌, arith, length, drop, replicate}
use Rattle.algebra.specs.Polynomial.{mul}
use Rattle.monomial.specs.Count.{count, codes}
use Rattle.answer.specs.declared.Setting.{Setting}
use Rattle.answer.specs.Refusals.{Verdict, passed, outcome}
use Rattle.answer.specs.Sizes.{series_words, work_words}
use Rattle.answer.proofs.Passing.{both_pass}
use Rattle.series.specs.Image.{polynomial, image, pair_count}
use Rattle.counts.specs.Tables.{Right}
use Rattle.product.specs.Core.{SeriesIn, ProductIn}
use Rattle.counts.specs.declared.Sizes.{Sizes}
use Rattle.checks.specs.declared.Kind.TheVariants.{Table, Series, Work}
use Rattle.checks.specs.Settings.{prime_of, extent_of, series_in, image_in, zeros}
use Rattle.checks.specs.Room.{Slice, slice, room, RoomPassed, Decided}
use Rattle.checks.specs.Inputs.{series, inputs, InputsIn}
use Rattle.checks.specs.Calls.{left, write, product_checks, product_call}
use Rattle.checks.proofs.RoomLaws.{room-passed}
use Rattle.checks.proofs.InputLaws.{inputs-passed, series-good}
use Rattle.checks.proofs.CallLaws.{finished_leaves, image-left, zeros-left}
use Rattle.checks.proofs.WorkSpace.{codes-room, seven_regions}

module _ (s : Setting) (t a b : List ℕ) (result work : ℕ) where
  abbrev pub buffers : List Slice
  buffers = slice Table (length t) ∷ slice Series (length a) ∷ slice Series (length b) ∷ slice Series result ∷ slice Work work ∷ []

  -- after 1 and 2
  pub inputs-ready : {z : Sizes} → Decided s (room s buffers) (Ok z)
      → InputsIn s z (length t) (series a ∷ series b ∷ [])
  inputs-ready d =
      let g = room-passed s buffers (sym d.says) in
      record {
        table_long = g.fitting.0;
        arguments = record { sized = d.sized; allowed = g.allowed; long = (g.fitting.1.0, (g.fitting.1.1.0, tt)) };
      }

  -- after all of them
  pub record PairPassed : Type 0 where
    pub roomy : RoomPassed s buffers
    pub right : Right s.n s.v t
    pub first : SeriesIn (prime_of s) (count s.n s.v) a
    pub second : SeriesIn (prime_of s) (count s.n s.v) b

  -- of two series, whatever stands between
  pub pair_passed : room s buffers ≡ passed → inputs s t (series a ∷ series b ∷ []) ≡ passed → PairPassed
  pair_passed h k =
      let g = room-passed s buffers h in
      let i = inputs-passed s t (series a ∷ series b ∷ []) g.allowed g.fitting.0 k in
      record {
        roomy = g;
        right = i.0;
        first = series-good s 1 a g.fitting.1.0 i.1.0;
        second = series-good s 2 b g.fitting.1.1.0 i.1.1.0;
      }

  pub product-passed : product_checks s t a b result work ≡ passed → PairPassed
  unfolding product_checks
  product-passed h =
      let p = both_pass (room s buffers) _ h in
      let q = both_pass (inputs s t (series a ∷ series b ∷ [])) passed p.1 in
      pair_passed p.0 q.0

module _ (s : Setting) (t a b result work : List ℕ) where
  at-setting : PairPassed s t a b (length result) (length work)
      → ProductIn s.n s.v (count s.n s.v) (codes s.n s.v) (work_words s.n s.v) (prime_of s) t a b result work
  unfolding series_words work_words
  at-setting g =
      let f = g.roomy.allowed in
      record {
        right = g.right;
        N_is = refl;
        E_is = refl;
        modulus_low = omega (arith, g.roomy.prime_low);
        modulus_high = omega (arith, g.roomy.prime_high);
        first = g.first;
        second = g.second;
        result_in = g.roomy.fitting.1.1.1.0;
        regions = seven_regions s.n s.v (count s.n s.v) f.n_low f.v_low;
        sums_in = codes-room s.n s.v f.n_high f.v_high;
        work_in = g.roomy.fitting.1.1.1.1.0;
      }

  -- what the core asks, in the sizes that the checks left
  pub pair_ready : {z : Sizes} {w p : ℕ} → z ≡ extent_of s → w ≡ work_words z.n z.v → p ≡ prime_of s
      → PairPassed s t a b (length result) (length work) → ProductIn z.n z.v z.count z.codes w p t a b result work
  pair_ready q h i g = rw (h, q, i) (at-setting g)

  abbrev pub product_says : Verdict
  product_says = product_checks s t a b (length result) (length work)

  pub all-passed : passed ≡ product_says → PairPassed s t a b (length result) (length work)
  all-passed e = product-passed s t a b (length result) (length work) (sym e)

  -- what the core says
  abbrev pub Multiplied : Sizes → ℕ → ℕ → ℕ → List ℕ → List ℕ → Type 0
  Multiplied z w p k result' work' =
      let A = polynomial z.n z.v a in
      let B = polynomial z.n z.v b in
      (k ≡ pair_count z.n A B)
      × ((result' ≡ image p z.n z.v (mul A B) ++ drop (z.count + 1) result)
      × (work' ≡ replicate w 0 ++ drop w work))

  pub product-finished : {z : Sizes} {w p k : ℕ} {result' work' : List ℕ} → Decided s product_says (Ok z)
      → w ≡ work_words z.n z.v → p ≡ prime_of s → Multiplied z w p k result' work'
      → left (outcome (Ok k)) (result' ∷ work' ∷ []) ≡ product_call s t a b result work
  unfolding product_call
  product-finished {result' = r} {work' = x} d h i m =
      let q = rw (h, d.sized, i) at m in
      let g = (all-passed d.says).roomy in
      let P = mul (series_in s a) (series_in s b) in
      finished_leaves product_says _ _ (r ∷ x ∷ []) (write (image_in s P) result ∷ write (zeros s) work ∷ []) d.says q.0
      (image-left s g.prime_low g.prime_high _ result r q.1.0, (zeros-left s work x q.1.1, tt))
