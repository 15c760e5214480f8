-- The multiple as a call: what its checks say, what its core asks where they passed, what it leaves.
use Rattle.std.proofs.Common.{Ok, ◌≡◌, refl, sym, List, [], ◌∷◌, ◌++◌, ℕ, ◌+◌, ◌*◌, ◌%◌, ◌≤◌, ◌<◌, arith, ltb, ltb→lt, length, drop, lt-ltb, le-ltb}
use Rattle.algebra.specs.Polynomial.{scale}
use Rattle.residue.specs.Modulus.{Prime}
use Rattle.monomial.specs.Count.{count}
use Rattle.answer.specs.declared.Setting.{Setting}
use Rattle.answer.specs.Refusals.{Verdict, passed, outcome, declined}
use Rattle.answer.specs.Sizes.{series_words}
use Rattle.answer.specs.Checks.{multiplier_check}
use Rattle.answer.proofs.Passing.{both_pass, unless-passed}
use Rattle.series.specs.Image.{entries, coefficient_at, packed, image_of}
use Rattle.series.specs.Faults.{first_fault}
use Rattle.series.proofs.Positions.{count-positive}
use Rattle.product.specs.Core.{SeriesIn}
use Rattle.counts.specs.declared.Sizes.{Sizes}
use Rattle.checks.specs.declared.Kind.TheVariants.{Series}
use Rattle.checks.specs.Settings.{prime_of, extent_of, series_in, image_in}
use Rattle.checks.specs.Room.{Slice, slice, room, RoomPassed, Decided}
use Rattle.checks.specs.Inputs.{series, images, ImagesIn}
use Rattle.checks.specs.Calls.{left, write, multiple_checks, multiple_call}
use Rattle.checks.proofs.RoomLaws.{room-passed}
use Rattle.checks.proofs.InputLaws.{images-passed, series-good}
use Rattle.checks.proofs.CallLaws.{finished_leaves}
use Rattle.sums.proofs.SumImages.{multiple_written}
use Rattle.answer.proofs.Laws.{unless-true, unless-false}

pub multiplier_passed : (p c : ℕ) → c < p → multiplier_check p c ≡ passed
unfolding multiplier_check
multiplier_passed p c l = unless-true (ltb c p) 5 (0 ∷ []) (lt-ltb c p l)

pub multiplier_declined : (p c : ℕ) → p ≤ c → multiplier_check p c ≡ declined 5 (0 ∷ [])
unfolding multiplier_check
multiplier_declined p c l = unless-false (ltb c p) 5 (0 ∷ []) (le-ltb c p l)

module _ (s : Setting) (c : ℕ) (a : List ℕ) (result : ℕ) where
  abbrev pub buffers : List Slice
  buffers = slice Series (length a) ∷ slice Series result ∷ []

  -- after 1 and 2
  pub images-ready : {z : Sizes} → Decided s (room s buffers) (Ok z) → ImagesIn s z (series a ∷ [])
  images-ready d =
      let g = room-passed s buffers (sym d.says) in
      record { sized = d.sized; allowed = g.allowed; long = (g.fitting.0, tt) }

  -- after all of them
  pub record MultiplePassed : Type 0 where
    pub roomy : RoomPassed s buffers
    pub factor : c < prime_of s
    pub first : SeriesIn (prime_of s) (count s.n s.v) a

  pub multiple_passed : multiple_checks s c a result ≡ passed → MultiplePassed
  unfolding multiple_checks multiplier_check
  multiple_passed h =
      let p = both_pass (room s buffers) _ h in
      let u = both_pass (multiplier_check (prime_of s) c) _ p.1 in
      let q = both_pass (images s 1 (series a ∷ [])) passed u.1 in
      let g = room-passed s buffers p.0 in
      record {
        roomy = g;
        factor = ltb→lt c (prime_of s) (unless-passed (ltb c (prime_of s)) 5 (0 ∷ []) u.0);
        first = series-good s 1 a g.fitting.0 (images-passed s 1 (series a ∷ []) q.0).0;
      }

module _ (s : Setting) (c : ℕ) (a result : List ℕ) where
  abbrev pub multiple_says : Verdict
  multiple_says = multiple_checks s c a (length result)

  -- what the core asks
  pub record ScaleIn (z : Sizes) (p : ℕ) : Type 0 where
    pub count_in : (0 < z.count) × (z.count < 65535)
    pub factor : c < p
    pub result_in : z.count + 1 ≤ length result
    pub series : first_fault p z.count a ≡ z.count + 1
    pub prime : Prime p × (65280 < p) × (p ≤ 65536)

  all-passed : passed ≡ multiple_says → MultiplePassed s c a (length result)
  all-passed e = multiple_passed s c a (length result) (sym e)

  at-setting : MultiplePassed s c a (length result) → ScaleIn (extent_of s) (prime_of s)
  unfolding series_words
  at-setting g =
      let r = g.roomy in
      record {
        count_in = (count-positive s.n s.v, omega (arith, r.allowed.few));
        factor = g.factor;
        result_in = r.fitting.1.0;
        series = g.first.good;
        prime = (r.prime, r.prime_low, omega (arith, r.prime_high));
      }

  pub core_ready : {z : Sizes} {p : ℕ} → Decided s multiple_says (Ok z) → p ≡ prime_of s → ScaleIn z p
  core_ready k i = rw (k.sized, i) (at-setting (all-passed k.says))

  -- what the core says
  abbrev pub Scaled : Sizes → ℕ → List ℕ → Type 0
  Scaled z p result' =
      result'
      ≡ image_of z.count (packed (λ i. (c * coefficient_at (entries a) i) % p) z.count) ++ drop (z.count + 1) result

  pub multiple_finished : {z : Sizes} {p : ℕ} {result' : List ℕ} → Decided s multiple_says (Ok z) → p ≡ prime_of s
      → Scaled z p result' → left (outcome (Ok 0)) (result' ∷ []) ≡ multiple_call s c a result
  unfolding multiple_call
  multiple_finished {result' = r} k i m =
      let q = rw (k.sized, i) at m in
      let g = all-passed k.says in
      let low : 0 < prime_of s = omega (arith, g.roomy.prime_low) in
      let high : prime_of s ≤ 65536 = omega (arith, g.roomy.prime_high) in
      finished_leaves multiple_says 0 0 (r ∷ []) (write (image_in s (scale c (series_in s a))) result ∷ []) k.says
      refl (
        multiple_written (prime_of s) s.n s.v low high a result g.first.long g.first.good c (count s.n s.v) r refl q,
        tt,
      )
