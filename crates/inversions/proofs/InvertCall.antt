-- Inversion as a call: what its checks say step by step, what the pieces of the core ask where they passed, what the
-- call leaves where the linear part is singular and where it is not.
use Rattle.std.proofs.Common.{Option, None, Ok, Err, ◌≡◌, refl, sym, ap, ◌∙◌, List, [], ◌∷◌, ◌++◌, ℕ, ◌+◌, ◌*◌, ◌≤◌, ◌<◌, arith, ne_eqb, length, drop, replicate, length-append, length-drop}
use Rattle.std.specs.Option.{ok_or}
use Rattle.algebra.specs.Agreement.{OriginFixing}
use Rattle.linear.specs.Matrix.{Matrix, Held}
use Rattle.linear.specs.Determinant.{determinant}
use Rattle.linear.specs.Answer.{SmallPrime, Regular, Inverted}
use Rattle.monomial.specs.Count.{count}
use Rattle.counts.specs.declared.Sizes.{Sizes}
use Rattle.answer.specs.declared.Setting.{Setting}
use Rattle.answer.specs.declared.Refusal.{Refusal}
use Rattle.answer.specs.declared.Refusal.TheVariants.{Singular}
use Rattle.answer.specs.Refusals.{Verdict, passed, declined, outcome, number, place}
use Rattle.answer.specs.Sizes.{map_words, work_words}
use Rattle.answer.specs.Checks.{or_else, first_of}
use Rattle.answer.proofs.Laws.{or_else-last}
use Rattle.answer.proofs.Passing.{both_pass}
use Rattle.series.specs.Image.{map_of}
use Rattle.series.specs.Series.{IsMap}
use Rattle.counts.specs.Tables.{Right, Tabled}
use Rattle.inversion.specs.Linear.{linear_part, determinant_of, singular_check}
use Rattle.inversion.specs.Inverse.{inverse}
use Rattle.inversion.proofs.LinearPart.{linear_part-held}
use Rattle.iteration.specs.Core.{InvertIn}
use Rattle.checks.specs.declared.Kind.TheVariants.{Table, Map, Work}
use Rattle.checks.specs.Settings.{prime_of, map_in, zeros, inverse_in}
use Rattle.checks.specs.Room.{Slice, slice, room, RoomPassed, Decided}
use Rattle.checks.specs.Inputs.{map, inputs, constants, singular, InputsIn, ConstantsIn}
use Rattle.checks.specs.Calls.{left, write, invert_checks, invert_call}
use Rattle.checks.proofs.RoomLaws.{room-passed}
use Rattle.checks.proofs.InputLaws.{inputs-passed, MapGood, map-good, map-fixing}
use Rattle.checks.proofs.CallLaws.{finished_leaves, zeros-left}
use Rattle.checks.proofs.WorkSpace.{codes-room, two_more}
use Rattle.inversions.specs.Origin.{origin_checks}

-- the last check stands after the others
last_check : (r i c z : Verdict) → or_else (first_of (r ∷ i ∷ c ∷ [])) z ≡ first_of (r ∷ i ∷ c ∷ z ∷ [])
last_check (declined n at) i c z = refl
last_check passed (declined n at) c z = refl
last_check passed passed (declined n at) z = refl
last_check passed passed passed z = sym (or_else-last z)

module _ (s : Setting) (t f : List ℕ) (result work : ℕ) where
  abbrev buffers : List Slice
  buffers = slice Table (length t) ∷ slice Map (length f) ∷ slice Map result ∷ slice Work work ∷ []

  abbrev I : Verdict
  I = inputs s t (map f ∷ [])

  -- after 1 and 2
  pub inputs-ready : {z : Sizes} → Decided s (room s buffers) (Ok z) → InputsIn s z (length t) (map f ∷ [])
  inputs-ready d =
      let g = room-passed s buffers (sym d.says) in
      record {
        table_long = g.fitting.0;
        arguments = record { sized = d.sized; allowed = g.allowed; long = (g.fitting.1.0, tt) };
      }

  -- after 6 and 7
  pub constants-ready : {z : Sizes} → Decided s (room s buffers) (Ok z) → passed ≡ I → ConstantsIn s z f
  constants-ready d e =
      let g = room-passed s buffers (sym d.says) in
      let i = inputs-passed s t (map f ∷ []) g.allowed g.fitting.0 (sym e) in
      record { sized = d.sized; allowed = g.allowed; long = g.fitting.1.0; passed_7 = (1, i.1.0) }

  -- after all but the last
  pub record OriginPassed : Type 0 where
    pub roomy : RoomPassed s buffers
    pub right : Right s.n s.v t
    pub good : MapGood s f
    pub fixing : OriginFixing (prime_of s) (map_in s f)

  pub origin_passed : origin_checks s t f result work ≡ passed → OriginPassed
  unfolding origin_checks
  origin_passed h =
      let p = both_pass (room s buffers) (first_of (I ∷ constants s f ∷ [])) h in
      let q = both_pass I (first_of (constants s f ∷ [])) p.1 in
      let k = both_pass (constants s f) passed q.1 in
      let g = room-passed s buffers p.0 in
      let i = inputs-passed s t (map f ∷ []) g.allowed g.fitting.0 q.0 in
      let x = map-good s 1 f i.1.0 in
      record { roomy = g; right = i.0; good = x; fixing = map-fixing s f x k.0 }

  pub invert_order : or_else (origin_checks s t f result work) (singular s f) ≡ invert_checks s t f result work
  unfolding origin_checks invert_checks
  invert_order = last_check (room s buffers) I (constants s f) (singular s f)

-- what stands before the unchanged words has the length of the words that it replaced
length_before : (new old s : List ℕ) (k : ℕ) → new ≡ s ++ drop k old → length new ≡ length old → k ≤ length old
    → length s ≡ k
length_before new old s k e h l =
    omega (arith, ap length e, length-append s (drop k old), length-drop k old)

module _ (s : Setting) (t f result work : List ℕ) where
  abbrev origin_says : Verdict
  origin_says = origin_checks s t f (length result) (length work)

  pub all-passed : passed ≡ origin_says → OriginPassed s t f (length result) (length work)
  all-passed e = origin_passed s t f (length result) (length work) (sym e)

  -- what the call says: one of the first checks, or the last
  pub invert_says : or_else origin_says (singular s f) ≡ invert_checks s t f (length result) (length work)
  invert_says = invert_order s t f (length result) (length work)

  module _ {z : Sizes} {p : ℕ} (d : Decided s origin_says (Ok z)) (i : p ≡ prime_of s) where
    abbrev g : OriginPassed s t f (length result) (length work)
    g = all-passed d.says

    -- ---- what the pieces of the core ask

    pub record LinearIn : Type 0 where
      pub map : IsMap p z.n z.v f
      pub small_prime : SmallPrime p
      pub positive : 0 < p
      pub few : z.v ≤ 8

    pub linear_asks : LinearIn
    linear_asks =
        record {
          map = rw (d.sized, i) g.good.is_map;
          small_prime = rw i (record { prime = g.roomy.prime; small = g.roomy.prime_high });
          positive = omega (arith, i, g.roomy.prime_low);
          few = rw d.sized g.right.allowed.v_high;
        }

    pub held : {l : Matrix} → l ≡ linear_part p z.v (map_of z.n z.v f) → Held p z.v l
    held e =
        rw (e, d.sized, i)
        (linear_part-held (prime_of s) s.v g.right.allowed.v_high (map_in s f) (omega (arith, g.roomy.prime_low)))

    -- ---- refusal 9

    pub singular_says : {l : Matrix} {o : Option Matrix} {r : Refusal} → l ≡ linear_part p z.v (map_of z.n z.v f)
        → Inverted p z.v l o → o ≡ None → Err r ≡ ok_or o Singular
        → declined (number r) (place r) ≡ invert_checks s t f (length result) (length work)
    unfolding singular singular_check determinant_of
    singular_says {l} {o} {r} e h n k =
        let x : r ≡ Singular = cc (rw n at k) in
        let y : determinant p z.v l ≡ 0 = rw n at h in
        let u = rw (e, d.sized, i) at y in
        rw (x, ← invert_says, ← d.says, u)

    pub regular_says : {l m : Matrix} → l ≡ linear_part p z.v (map_of z.n z.v f) → Regular p z.v l m
        → passed ≡ invert_checks s t f (length result) (length work)
    unfolding singular singular_check determinant_of
    regular_says {l} e h =
        let u = rw (e, d.sized, i) at h.regular in
        rw (← invert_says, ← d.says, ne_eqb (determinant (prime_of s) s.v (linear_part (prime_of s) s.v (map_in s f))) 0 u)

    -- ---- the inverse

    pub iteration_asks : {l m : Matrix} {w : ℕ} → l ≡ linear_part p z.v (map_of z.n z.v f) → Regular p z.v l m
        → w ≡ work_words z.n z.v → InvertIn z.n z.v z.count z.codes w p m t f result work
    unfolding map_words work_words
    iteration_asks {l} {m} e h j =
        let a = g.right.allowed in
        let q = rw (e, d.sized, i) at h in
        rw (j, d.sized, i) (record {
          right = g.right;
          N_is = refl;
          E_is = refl;
          modulus = record { prime = g.roomy.prime; small = g.roomy.prime_high };
          map_within = g.roomy.fitting.1.0;
          components = g.good.components;
          fixing = g.fixing;
          inverse = q.inverse;
          held = q.held;
          result_in = g.roomy.fitting.1.1.0;
          sums_in = codes-room s.n s.v a.n_high a.v_high;
          regions = two_more s.n s.v (count s.n s.v) a.v_low;
          work_in = g.roomy.fitting.1.1.1.0;
        })

    -- what the core says
    abbrev pub Undone : ℕ → List ℕ → List ℕ → Type 0
    Undone w result' work' =
        (result' ≡ inverse p z.n z.v f ++ drop (z.v * (z.count + 1)) result)
        × (work' ≡ replicate w 0 ++ drop w work)

    inverse_left : (new : List ℕ) → length new ≡ length result
        → new ≡ inverse (prime_of s) s.n s.v f ++ drop (s.v * (count s.n s.v + 1)) result
        → new ≡ inverse_in s f ++ drop (length (inverse_in s f)) result
    unfolding inverse_in map_words
    inverse_left new l x =
        let k = s.v * (count s.n s.v + 1) in
        let w = inverse (prime_of s) s.n s.v f in
        x ∙ ap (λ (j : ℕ). w ++ drop j result) (sym (length_before new result w k x l g.roomy.fitting.1.1.0))

    pub invert_finished : {l m : Matrix} {w : ℕ} {result' work' : List ℕ} → l ≡ linear_part p z.v (map_of z.n z.v f)
        → Regular p z.v l m → w ≡ work_words z.n z.v → length result' ≡ length result → Undone w result' work'
        → left (outcome (Ok 0)) (result' ∷ work' ∷ []) ≡ invert_call s t f result work
    unfolding invert_call
    invert_finished {result' = r} {work' = x} e h j k m =
        let q = rw (j, d.sized, i) at m in
        finished_leaves _ 0 0 (r ∷ x ∷ []) (write (inverse_in s f) result ∷ write (zeros s) work ∷ []) (regular_says e h) refl
        (inverse_left r k q.0, (zeros-left s work x q.1, tt))
