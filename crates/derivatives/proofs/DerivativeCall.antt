-- The derivative as a call: what its checks say step by step, what its core asks where they passed, what it leaves.
use Rattle.std.proofs.Common.{Ok, ◌≡◌, refl, sym, ◌&&◌, List, [], ◌∷◌, ◌++◌, ℕ, ◌+◌, ◌-◌, ◌≤◌, ◌<◌, arith, leb, leb→le, length, drop, le-leb}
use Rattle.algebra.specs.Polynomial.{derivative, scale}
use Rattle.algebra.proofs.Booleans.{and_left, and_right}
use Rattle.monomial.specs.Count.{count, codes}
use Rattle.answer.specs.declared.Setting.{Setting}
use Rattle.answer.specs.Refusals.{Verdict, passed, outcome, declined}
use Rattle.answer.specs.Sizes.{series_words}
use Rattle.answer.specs.Checks.{variable_check}
use Rattle.answer.proofs.Passing.{both_pass, unless-passed}
use Rattle.series.specs.Image.{polynomial, image}
use Rattle.derivation.specs.Derivative.{DerivativeIn}
use Rattle.counts.specs.Tables.{Right}
use Rattle.product.specs.Core.{SeriesIn}
use Rattle.counts.specs.declared.Sizes.{Sizes}
use Rattle.checks.specs.declared.Kind.TheVariants.{Table, Series}
use Rattle.checks.specs.Settings.{prime_of, series_in, image_in}
use Rattle.checks.specs.Room.{Slice, slice, room, RoomPassed, Decided}
use Rattle.checks.specs.Inputs.{series, inputs, InputsIn}
use Rattle.checks.specs.Calls.{left, write, derivative_checks, derivative_call}
use Rattle.checks.proofs.TablePassed.{once_written}
use Rattle.checks.proofs.RoomLaws.{room-passed}
use Rattle.checks.proofs.InputLaws.{inputs-passed, series-good}
use Rattle.checks.proofs.CallLaws.{finished_leaves}
use borrow.Author.Tests.{lt-leb}

pub variable-too_low : (v k : ℕ) → k < 1 → variable_check v k ≡ declined 3 (0 ∷ [])
unfolding variable_check
variable-too_low v k l = rw (lt-leb 1 k l)

pub variable-too_high : (v k : ℕ) → 1 ≤ k → v < k → variable_check v k ≡ declined 3 (0 ∷ [])
unfolding variable_check
variable-too_high v k l h = rw (le-leb 1 k l, lt-leb k v h)

pub variable-passed : (v k : ℕ) → 1 ≤ k → k ≤ v → variable_check v k ≡ passed
unfolding variable_check
variable-passed v k l h = rw (le-leb 1 k l, le-leb k v h)

module _ (s : Setting) (k : ℕ) (t a : List ℕ) (result : ℕ) where
  abbrev pub buffers : List Slice
  buffers = slice Table (length t) ∷ slice Series (length a) ∷ slice Series result ∷ []

  -- after 1 and 2
  pub inputs-ready : {z : Sizes} → Decided s (room s buffers) (Ok z) → InputsIn s z (length t) (series a ∷ [])
  inputs-ready d =
      let g = room-passed s buffers (sym d.says) in
      record {
        table_long = g.fitting.0;
        arguments = record { sized = d.sized; allowed = g.allowed; long = (g.fitting.1.0, tt) };
      }

  -- after all of them
  pub record DerivativePassed : Type 0 where
    pub roomy : RoomPassed s buffers
    pub variable_low : 1 ≤ k
    pub variable_high : k ≤ s.v
    pub right : Right s.n s.v t
    pub first : SeriesIn (prime_of s) (count s.n s.v) a

  pub derivative-passed : derivative_checks s k t a result ≡ passed → DerivativePassed
  unfolding derivative_checks variable_check
  derivative-passed h =
      let w = inputs s t (series a ∷ []) in
      let p = both_pass (room s buffers) _ h in
      let u = both_pass (variable_check s.v k) _ p.1 in
      let q = both_pass w passed u.1 in
      let b = unless-passed (leb 1 k && leb k s.v) 3 (0 ∷ []) u.0 in
      let g = room-passed s buffers p.0 in
      let i = inputs-passed s t (series a ∷ []) g.allowed g.fitting.0 q.0 in
      record {
        roomy = g;
        variable_low = leb→le 1 k (and_left (leb 1 k) (leb k s.v) b);
        variable_high = leb→le k s.v (and_right (leb 1 k) (leb k s.v) b);
        right = i.0;
        first = series-good s 1 a g.fitting.1.0 i.1.0;
      }

module _ (s : Setting) (k : ℕ) (t a result : List ℕ) where
  at-setting : DerivativePassed s k t a (length result)
      → DerivativeIn s.n s.v (count s.n s.v) (codes s.n s.v) (k - 1) 1 (prime_of s) a t result
  unfolding series_words
  at-setting g =
      record {
        right = g.right;
        N_is = refl;
        E_is = refl;
        variable = omega (arith, g.variable_low, g.variable_high);
        series = g.first.good;
        long = g.first.long;
        room = g.roomy.fitting.1.1.0;
        factor = omega (arith, g.roomy.prime_low);
        modulus_high = omega (arith, g.roomy.prime_high);
      }

  abbrev pub derivative_says : Verdict
  derivative_says = derivative_checks s k t a (length result)

  pub all-passed : passed ≡ derivative_says → DerivativePassed s k t a (length result)
  all-passed e = derivative-passed s k t a (length result) (sym e)

  -- what the core asks
  pub core_ready : {z : Sizes} {p : ℕ} → Decided s derivative_says (Ok z) → p ≡ prime_of s
      → DerivativeIn z.n z.v z.count z.codes (k - 1) 1 p a t result
  core_ready d i = rw (d.sized, i) (at-setting (all-passed d.says))

  -- what the core says
  abbrev pub Derived : Sizes → ℕ → List ℕ → Type 0
  Derived z p result' =
      result'
      ≡ image p z.n z.v (scale 1 (derivative (k - 1) (polynomial z.n z.v a))) ++ drop (z.count + 1) result

  pub derivative-finished : {z : Sizes} {p : ℕ} {result' : List ℕ} → Decided s derivative_says (Ok z) → p ≡ prime_of s
      → Derived z p result' → left (outcome (Ok 0)) (result' ∷ []) ≡ derivative_call s k t a result
  unfolding derivative_call
  derivative-finished {result' = r} d i m =
      let q = rw (d.sized, i) at m in
      let g = (all-passed d.says).roomy in
      finished_leaves derivative_says 0 0 (r ∷ []) (write (image_in s (derivative (k - 1) (series_in s a))) result ∷ []) d.says refl
      (once_written (prime_of s) s.n s.v (omega (arith, g.prime_low)) (omega (arith, g.prime_high)) result r _ _ refl refl _ q, tt)
