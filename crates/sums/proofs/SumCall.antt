-- Sum and difference as calls: what their checks say, what their core asks where they passed, what they leave.
use Rattle.std.proofs.Common.{Ok, ◌≡◌, refl, sym, ap, ◌∙◌, List, [], ◌∷◌, ◌++◌, ℕ, ◌+◌, ◌-◌, ◌*◌, ◌%◌, ◌≤◌, ◌<◌, mod-eq_of_lt, arith, length, drop}
use Rattle.std.proofs.Math.Nat.{mod_self}
use Rattle.algebra.specs.Polynomial.{add, scale, difference}
use Rattle.residue.specs.Modulus.{Prime}
use Rattle.residue.proofs.Modular.{negate_value}
use Rattle.monomial.specs.Count.{count}
use Rattle.answer.specs.declared.Setting.{Setting}
use Rattle.answer.specs.Refusals.{Verdict, passed, outcome}
use Rattle.answer.specs.Sizes.{series_words}
use Rattle.answer.proofs.Passing.{both_pass}
use Rattle.series.specs.Image.{entries, coefficient_at, packed, image_of}
use Rattle.series.specs.Faults.{first_fault}
use Rattle.series.proofs.Positions.{count-positive}
use Rattle.product.specs.Core.{SeriesIn}
use Rattle.counts.specs.declared.Sizes.{Sizes}
use Rattle.checks.specs.declared.Kind.TheVariants.{Series}
use Rattle.checks.specs.Settings.{prime_of, extent_of, series_in, image_in}
use Rattle.checks.specs.Room.{Slice, slice, room, RoomPassed, Decided}
use Rattle.checks.specs.Inputs.{series, images, ImagesIn}
use Rattle.checks.specs.Calls.{left, leaves, write, sum_checks, sum_call, difference_call}
use Rattle.checks.proofs.RoomLaws.{room-passed, prime_low}
use Rattle.checks.proofs.InputLaws.{images-passed, series-good}
use Rattle.checks.proofs.CallLaws.{finished_leaves}
use Rattle.combination.specs.Terms.{Multiplies}
use Rattle.sums.specs.Combined.{combined_call}
use Rattle.sums.proofs.SumImages.{once, sum-written}

module _ (s : Setting) (a b : List ℕ) (result : ℕ) where
  abbrev pub buffers : List Slice
  buffers = slice Series (length a) ∷ slice Series (length b) ∷ slice Series result ∷ []

  -- after 1 and 2
  pub images-ready : {z : Sizes} → Decided s (room s buffers) (Ok z) → ImagesIn s z (series a ∷ series b ∷ [])
  images-ready d =
      let g = room-passed s buffers (sym d.says) in
      record { sized = d.sized; allowed = g.allowed; long = (g.fitting.0, (g.fitting.1.0, tt)) }

  -- after all of them
  pub record SumPassed : Type 0 where
    pub roomy : RoomPassed s buffers
    pub first : SeriesIn (prime_of s) (count s.n s.v) a
    pub second : SeriesIn (prime_of s) (count s.n s.v) b

  pub sum-passed : sum_checks s a b result ≡ passed → SumPassed
  unfolding sum_checks
  sum-passed h =
      let p = both_pass (room s buffers) _ h in
      let q = both_pass (images s 1 (series a ∷ series b ∷ [])) passed p.1 in
      let g = room-passed s buffers p.0 in
      let i = images-passed s 1 (series a ∷ series b ∷ []) q.0 in
      record {
        roomy = g;
        first = series-good s 1 a g.fitting.0 i.0;
        second = series-good s 2 b g.fitting.1.0 i.1.0;
      }

module _ (s : Setting) (a b result : List ℕ) where
  abbrev pub sum_says : Verdict
  sum_says = sum_checks s a b (length result)

  -- what the core asks
  pub record CombineIn (z : Sizes) (p : ℕ) : Type 0 where
    pub count_in : (0 < z.count) × (z.count < 65535)
    pub result_in : z.count + 1 ≤ length result
    pub first : first_fault p z.count a ≡ z.count + 1
    pub second : first_fault p z.count b ≡ z.count + 1
    pub prime : Prime p × (65280 < p) × (p ≤ 65536)

  all-passed : passed ≡ sum_says → SumPassed s a b (length result)
  all-passed e = sum-passed s a b (length result) (sym e)

  at-setting : SumPassed s a b (length result) → CombineIn (extent_of s) (prime_of s)
  unfolding series_words
  at-setting g =
      let r = g.roomy in
      record {
        count_in = (count-positive s.n s.v, omega (arith, r.allowed.few));
        result_in = r.fitting.1.1.0;
        first = g.first.good;
        second = g.second.good;
        prime = (r.prime, r.prime_low, omega (arith, r.prime_high));
      }

  pub core_ready : {z : Sizes} {p : ℕ} → Decided s sum_says (Ok z) → p ≡ prime_of s → CombineIn z p
  core_ready k i = rw (k.sized, i) (at-setting (all-passed k.says))

  -- what the core says
  abbrev pub Added : ℕ → Sizes → ℕ → List ℕ → Type 0
  Added d z p result' =
      result'
      ≡ image_of z.count (packed (λ i. (coefficient_at (entries a) i + d * coefficient_at (entries b) i) % p) z.count)
      ++ drop (z.count + 1) result

  pub combined-finished : (d : ℕ) {z : Sizes} {p : ℕ} {result' : List ℕ} → Decided s sum_says (Ok z) → p ≡ prime_of s
      → Added d z p result' → left (outcome (Ok 0)) (result' ∷ []) ≡ combined_call d s a b result
  unfolding combined_call
  combined-finished d {result' = r} k i m =
      let q = rw (k.sized, i) at m in
      let g = all-passed k.says in
      let low : 0 < prime_of s = omega (arith, g.roomy.prime_low) in
      let high : prime_of s ≤ 65536 = omega (arith, g.roomy.prime_high) in
      let sum = add (series_in s a) (scale d (series_in s b)) in
      finished_leaves sum_says 0 0 (r ∷ []) (write (image_in s sum) result ∷ []) k.says refl (
        sum-written (prime_of s) s.n s.v low high a result g.first.long g.first.good b g.second.long g.second.good d
            (count s.n s.v) r refl q,
        tt,
      )

-- a term that is the coefficient is once the coefficient, and p less it is p - 1 times it
module _ (s : Setting) (says : ℕ → ℕ → Type 0) where
  pub by-one : ((y z : ℕ) → says y z → z ≡ y) → Multiplies (prime_of s) says 1
  by-one f =
      record {
        positive = omega arith;
        less = omega (arith, prime_low s);
        times = λ y l h z e. f y z e ∙ sym (ap (λ i. i % prime_of s) (omega arith) ∙ mod-eq_of_lt h);
      }

  pub by_negation : ((y z : ℕ) → y < prime_of s → says y z → z ≡ prime_of s - y)
      → Multiplies (prime_of s) says (prime_of s - 1)
  by_negation f =
      let p = prime_of s in
      record {
        positive = omega (arith, prime_low s);
        less = omega (arith, prime_low s);
        times = λ y l h z e.
            let k : p - y + y ≡ p = omega (arith, h) in
            f y z h e
            ∙ negate_value p y (p - y) (omega (arith, l, h)) (ap (λ i. i % p) k ∙ mod_self p);
      }

module _ (s : Setting) (a b result : List ℕ) where
  pub sum_is : combined_call 1 s a b result ≡ sum_call s a b result
  unfolding combined_call sum_call
  sum_is =
      ap (λ (i : List ℕ). leaves (sum_checks s a b (length result)) 0 (write i result ∷ []))
      (once (prime_of s) s.n s.v (series_in s a) (series_in s b))

  pub difference-is : {d : ℕ} → d ≡ prime_of s - 1 → combined_call d s a b result ≡ difference_call s a b result
  unfolding combined_call difference_call difference
  difference-is e = rw e
