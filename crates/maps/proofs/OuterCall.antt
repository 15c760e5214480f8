-- Substitution and composition as one call: what the checks say step by step, what the core asks where they passed,
-- what the call leaves. The outer argument is of shape k.
use Rattle.std.proofs.Common.{Ok, ◌≡◌, refl, sym, ap, ap₂, ◌∙◌, List, [], ◌∷◌, ◌++◌, ℕ, ◌+◌, ◌*◌, ◌≤◌, ◌<◌, one-mul, zero-mul, arith, length, take, drop, replicate}
use Rattle.algebra.specs.Agreement.{OriginFixing}
use Rattle.algebra.specs.Polynomial.{Polynomial}
use Rattle.algebra.specs.Substitution.{substitute, compose}
use Rattle.monomial.specs.Count.{count}
use Rattle.monomial.specs.Enumeration.{upto}
use Rattle.counts.specs.declared.Sizes.{Sizes}
use Rattle.answer.specs.declared.Setting.{Setting}
use Rattle.answer.specs.Refusals.{Verdict, passed, outcome}
use Rattle.answer.specs.Sizes.{work_words}
use Rattle.answer.specs.Checks.{or_else}
use Rattle.answer.proofs.Passing.{both_pass}
use Rattle.series.specs.Image.{polynomial, component, map_of, image, map_image}
use Rattle.series.specs.Faults.{first_fault}
use Rattle.series.proofs.Maps.{map_of-inside, length-map_image}
use Rattle.series.proofs.Parts.{upto-cong}
use Rattle.series.proofs.Reading.{polynomial-take}
use Rattle.series.proofs.Series.{first_fault-take, fault_none_to_series}
use Rattle.series.proofs.Writing.{length-image}
use Rattle.counts.specs.Tables.{Right}
use Rattle.product.specs.Core.{SeriesIn}
use Rattle.composition.specs.Core.{ComposeIn}
use Rattle.checks.specs.declared.Kind.TheVariants as kind
use Rattle.checks.specs.declared.Shape.{Shape}
use Rattle.checks.specs.declared.Shape.TheVariants.{Series, Map}
use Rattle.checks.specs.Settings.{prime_of, extent_of, series_in, map_in, image_in, zeros}
use Rattle.checks.specs.Room.{Slice, slice, room, RoomPassed, Decided}
use Rattle.checks.specs.Inputs.{kind_of, components_of, Argument, given, map, inputs, constants, InputsIn, ConstantsIn}
use Rattle.checks.specs.Calls.{left, write, substitute_checks, substitute_call, compose_checks, compose_call}
use Rattle.checks.proofs.RoomLaws.{room-passed}
use Rattle.checks.proofs.InputLaws.{inside, inputs-passed, components-good, MapGood, map-good, map-fixing}
use Rattle.checks.proofs.CallLaws.{finished_leaves, zeros-left}
use Rattle.checks.proofs.WorkSpace.{codes-room, two_more}
use Rattle.maps.specs.Outer.{outer_checks, outer_image, outer_call}

abbrev pub buffers : Shape → List ℕ → List ℕ → List ℕ → ℕ → ℕ → List Slice
buffers k t a b result work =
    slice kind.Table (length t) ∷ slice (kind_of k) (length a) ∷ slice kind.Map (length b) ∷ slice (kind_of k) result
    ∷ slice kind.Work work ∷ []

abbrev pub arguments : Shape → List ℕ → List ℕ → List Argument
arguments k a b = given k a ∷ map b ∷ []

module _ (k : Shape) (s : Setting) (t a b : List ℕ) (result work : ℕ) where
  -- after 1 and 2
  pub inputs-ready : {z : Sizes} → Decided s (room s (buffers k t a b result work)) (Ok z)
      → InputsIn s z (length t) (arguments k a b)
  inputs-ready d =
      let g = room-passed s (buffers k t a b result work) (sym d.says) in
      record {
        table_long = g.fitting.0;
        arguments = record { sized = d.sized; allowed = g.allowed; long = (g.fitting.1.0, (g.fitting.1.1.0, tt)) };
      }

  -- after 6 and 7
  pub constants-ready : {z : Sizes} → Decided s (room s (buffers k t a b result work)) (Ok z)
      → passed ≡ inputs s t (arguments k a b) → ConstantsIn s z b
  constants-ready d e =
      let g = room-passed s (buffers k t a b result work) (sym d.says) in
      let i = inputs-passed s t (arguments k a b) g.allowed g.fitting.0 (sym e) in
      record { sized = d.sized; allowed = g.allowed; long = g.fitting.1.1.0; passed_7 = (2, i.1.1.0) }

  -- after all of them
  pub record OuterPassed : Type 0 where
    pub roomy : RoomPassed s (buffers k t a b result work)
    pub right : Right s.n s.v t
    pub outers : (i : ℕ) → i < components_of (extent_of s) k → SeriesIn (prime_of s) (count s.n s.v) (component s.n s.v i a)
    pub inner : MapGood s b
    pub fixing : OriginFixing (prime_of s) (map_in s b)

  pub outer-passed : passed ≡ outer_checks k s t a b result work → OuterPassed
  unfolding outer_checks
  outer-passed h =
      let w = inputs s t (arguments k a b) in
      let p = both_pass (room s (buffers k t a b result work)) _ (sym h) in
      let q = both_pass w (or_else (constants s b) passed) p.1 in
      let c = both_pass (constants s b) passed q.1 in
      let g = room-passed s (buffers k t a b result work) p.0 in
      let i = inputs-passed s t (arguments k a b) g.allowed g.fitting.0 q.0 in
      let f = map-good s 2 b i.1.1.0 in
      record {
        roomy = g;
        right = i.0;
        outers = components-good s 1 k a i.1.0;
        inner = f;
        fixing = map-fixing s b f c.0;
      }

-- ---- what the core asks

components-few : (k : Shape) (s : Setting) → s.v ≤ 8 → components_of (extent_of s) k ≤ 8
components-few Series s l = omega arith
components-few Map s l = l

-- ---- what is written

-- a series is its own first component
first-component : (n v : ℕ) (a : List ℕ) → component n v 0 a ≡ take (count n v + 1) a
unfolding component
first-component n v a = ap (λ (k : ℕ). take (count n v + 1) (drop k a)) (zero-mul (count n v + 1))

first-polynomial : (p n v : ℕ) (a : List ℕ) → count n v + 1 ≤ length a → SeriesIn p (count n v) (component n v 0 a)
    → polynomial n v (component n v 0 a) ≡ polynomial n v a
first-polynomial p n v a l s =
    let N = count n v in
    let f : first_fault p N a ≡ N + 1 =
    sym (first_fault-take p N a) ∙ ap (first_fault p N) (sym (first-component n v a)) ∙ s.good in
    ap (polynomial n v) (first-component n v a) ∙ polynomial-take n v (fault_none_to_series p N a f l)

module _ (s : Setting) (a b : List ℕ) where
  abbrev substituted : Polynomial → List ℕ
  substituted P = image_in s (substitute P (map_in s b))

  abbrev parts : ℕ → List ℕ
  parts k = upto (λ i. image_in s (substitute (series_in s (component s.n s.v i a)) (map_in s b))) k

  outer-image : (m : Shape) → components_of (extent_of s) m * (count s.n s.v + 1) ≤ length a
      → ((i : ℕ) → i < components_of (extent_of s) m
      → SeriesIn (prime_of s) (count s.n s.v) (component s.n s.v i a))
      → parts (components_of (extent_of s) m) ≡ outer_image m s a b
  unfolding map_image compose upto
  outer-image Map l g =
      upto-cong (λ i. substituted (series_in s (component s.n s.v i a))) (λ i. substituted (map_in s a i)) s.v
      (λ i h. ap substituted (sym (map_of-inside s.n s.v a i h)))
  outer-image Series l g =
      ap substituted
      (first-polynomial (prime_of s) s.n s.v a (omega (arith, one-mul (count s.n s.v + 1))) (g 0 (omega arith)))

  outer-length : (m : Shape) → 0 < prime_of s → prime_of s ≤ 65536
      → length (outer_image m s a b) ≡ components_of (extent_of s) m * (count s.n s.v + 1)
  outer-length Map low high = length-map_image (prime_of s) s.n s.v low high (compose (map_in s a) (map_in s b))
  outer-length Series low high =
      length-image (prime_of s) s.n s.v low high (substitute (series_in s a) (map_in s b))
      ∙ sym (one-mul (count s.n s.v + 1))

module _ (k : Shape) (s : Setting) (t a b result work : List ℕ) where
  abbrev components : ℕ
  components = components_of (extent_of s) k

  abbrev says : Verdict
  says = outer_checks k s t a b (length result) (length work)

  -- what the core asks
  abbrev pub Asked : Sizes → ℕ → ℕ → ℕ → Type 0
  Asked z m w p = ComposeIn z.n z.v z.count z.codes m w p t a b result work

  at-setting : OuterPassed k s t a b (length result) (length work)
      → Asked (extent_of s) components (work_words s.n s.v) (prime_of s)
  unfolding work_words
  at-setting g =
      let f = g.roomy.allowed in
      record {
        right = g.right;
        N_is = refl;
        E_is = refl;
        modulus_low = omega (arith, g.roomy.prime_low);
        modulus_high = omega (arith, g.roomy.prime_high);
        few = components-few k s f.v_high;
        outer_in = inside k (length a) refl refl g.roomy.fitting.1.0;
        outers = g.outers;
        inners = g.inner.components;
        fixing = g.fixing;
        result_in = inside k (length result) refl refl g.roomy.fitting.1.1.1.0;
        sums_in = codes-room s.n s.v f.n_high f.v_high;
        regions = two_more s.n s.v (count s.n s.v) f.v_low;
        work_in = g.roomy.fitting.1.1.1.1.0;
      }

  pub all-passed : passed ≡ says → OuterPassed k s t a b (length result) (length work)
  all-passed e = outer-passed k s t a b (length result) (length work) e

  -- in the sizes that the checks left
  pub core_ready : {z : Sizes} {m w p : ℕ} → Decided s says (Ok z) → m ≡ components_of z k → w ≡ work_words z.n z.v
      → p ≡ prime_of s → Asked z m w p
  core_ready d c h i = rw (c, h, d.sized, i) (at-setting (all-passed d.says))

  -- what the core says
  abbrev pub Composed : Sizes → ℕ → ℕ → ℕ → List ℕ → List ℕ → Type 0
  Composed z m w p result' work' =
      let f = map_of z.n z.v b in
      let P : ℕ → Polynomial = λ i. polynomial z.n z.v (component z.n z.v i a) in
      (result' ≡ upto (λ i. image p z.n z.v (substitute (P i) f)) m ++ drop (m * (z.count + 1)) result)
      × (work' ≡ replicate w 0 ++ drop w work)

  outer-left : OuterPassed k s t a b (length result) (length work) → (new : List ℕ)
      → new ≡ parts s a b components ++ drop (components * (count s.n s.v + 1)) result
      → new ≡ outer_image k s a b ++ drop (length (outer_image k s a b)) result
  outer-left g new h =
      h
      ∙ ap₂ (λ (x : List ℕ) (y : ℕ). x ++ drop y result)
      (outer-image s a b k (inside k (length a) refl refl g.roomy.fitting.1.0) g.outers)
      (sym (outer-length s a b k (omega (arith, g.roomy.prime_low)) (omega (arith, g.roomy.prime_high))))

  pub outer-finished : {z : Sizes} {m w p : ℕ} {result' work' : List ℕ} → Decided s says (Ok z) → m ≡ components_of z k
      → w ≡ work_words z.n z.v → p ≡ prime_of s → Composed z m w p result' work'
      → left (outcome (Ok 0)) (result' ∷ work' ∷ []) ≡ outer_call k s t a b result work
  unfolding outer_call
  outer-finished {result' = r} {work' = x} d c h i n =
      let q = rw (c, h, d.sized, i) at n in
      finished_leaves says 0 0 (r ∷ x ∷ []) (write (outer_image k s a b) result ∷ write (zeros s) work ∷ []) d.says refl
      (outer-left (all-passed d.says) r q.0, (zeros-left s work x q.1, tt))

module _ (s : Setting) (t a b result work : List ℕ) where
  pub substitute_is : outer_call Series s t a b result work ≡ substitute_call s t a b result work
  unfolding outer_call outer_checks substitute_call substitute_checks
  substitute_is = refl

  pub compose_is : outer_call Map s t a b result work ≡ compose_call s t a b result work
  unfolding outer_call outer_checks compose_call compose_checks
  compose_is = refl
