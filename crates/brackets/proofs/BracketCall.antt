-- The bracket as a call: it takes the slices of a product, and asks besides that the variables come in pairs.
use Rattle.std.proofs.Common.{Ok, ◌≡◌, refl, sym, List, [], ◌∷◌, ◌++◌, ℕ, ◌+◌, ◌/◌, ◌<◌, ◌%◌, arith, length, drop, replicate, eq-eqb, ne_eqb}
use Rattle.algebra.specs.Polynomial.{bracket}
use Rattle.answer.specs.declared.Setting.{Setting}
use Rattle.answer.specs.Refusals.{Verdict, passed, outcome, declined}
use Rattle.answer.specs.Sizes.{work_words}
use Rattle.answer.specs.Checks.{even_check}
use Rattle.answer.proofs.Passing.{both_pass}
use Rattle.series.specs.Image.{polynomial, image}
use Rattle.product.specs.Core.{ProductIn}
use Rattle.counts.specs.declared.Sizes.{Sizes}
use Rattle.checks.specs.Settings.{prime_of, series_in, image_in, zeros, bracket_in}
use Rattle.checks.specs.Room.{room, Decided}
use Rattle.checks.specs.Inputs.{series, inputs}
use Rattle.checks.specs.Calls.{left, write, bracket_checks, bracket_call}
use Rattle.checks.proofs.CallLaws.{finished_leaves, image-left, zeros-left}
use Rattle.products.proofs.ProductCall.{buffers, PairPassed, pair_passed, pair_ready}

pub odd_declined : (v : ℕ) → (v % 2 ≡ 0 → ⊥) → even_check v ≡ declined 4 (0 ∷ [])
unfolding even_check
odd_declined v e = rw (ne_eqb (v % 2) 0 e)

pub even_passed : (v : ℕ) → v % 2 ≡ 0 → even_check v ≡ passed
unfolding even_check
even_passed v e = rw (eq-eqb (v % 2) 0 e)

module _ (s : Setting) (t a b : List ℕ) (result work : ℕ) where
  pub bracket-passed : bracket_checks s t a b result work ≡ passed → PairPassed s t a b result work
  unfolding bracket_checks
  bracket-passed h =
      let p = both_pass (room s (buffers s t a b result work)) _ h in
      let u = both_pass (even_check s.v) _ p.1 in
      let q = both_pass (inputs s t (series a ∷ series b ∷ [])) passed u.1 in
      pair_passed s t a b result work p.0 q.0

module _ (s : Setting) (t a b result work : List ℕ) where
  abbrev pub bracket_says : Verdict
  bracket_says = bracket_checks s t a b (length result) (length work)

  pub all-passed : passed ≡ bracket_says → PairPassed s t a b (length result) (length work)
  all-passed e = bracket-passed s t a b (length result) (length work) (sym e)

  -- what the core asks
  pub core_ready : {z : Sizes} {w p : ℕ} → Decided s bracket_says (Ok z) → w ≡ work_words z.n z.v → p ≡ prime_of s
      → ProductIn z.n z.v z.count z.codes w p t a b result work × (1 < p)
  core_ready d h i =
      let g = all-passed d.says in
      (pair_ready s t a b result work d.sized h i g, omega (arith, i, g.roomy.prime_low))

  -- what the core says
  abbrev pub Bracketed : Sizes → ℕ → ℕ → List ℕ → List ℕ → Type 0
  Bracketed z w p result' work' =
      let A = polynomial z.n z.v a in
      let B = polynomial z.n z.v b in
      (result' ≡ image p z.n z.v (bracket p (z.v / 2) A B) ++ drop (z.count + 1) result)
      × (work' ≡ replicate w 0 ++ drop w work)

  pub bracket-finished : {z : Sizes} {w p : ℕ} {result' work' : List ℕ} → Decided s bracket_says (Ok z)
      → w ≡ work_words z.n z.v → p ≡ prime_of s → Bracketed z w p result' work'
      → left (outcome (Ok 0)) (result' ∷ work' ∷ []) ≡ bracket_call s t a b result work
  unfolding bracket_call bracket_in
  bracket-finished {result' = r} {work' = x} d h i m =
      let q = rw (h, d.sized, i) at m in
      let g = (all-passed d.says).roomy in
      let P = bracket_in s (series_in s a) (series_in s b) in
      finished_leaves bracket_says 0 0 (r ∷ x ∷ []) (write (image_in s P) result ∷ write (zeros s) work ∷ []) d.says refl
      (image-left s g.prime_low g.prime_high _ result r q.0, (zeros-left s work x q.1, tt))
