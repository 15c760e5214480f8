-- A verdict whose numbers fit their bits is read back whole, and so is the number that a call reports.
use Rattle.std.proofs.Common.{◌≡◌, refl, sym, ◌∙◌, subst, Bool, true, false, List, [], ◌∷◌, ℕ, zero, suc, ◌+◌, ◌*◌, ◌%◌, ◌<◌, arith, ne_eqb}
use Rattle.monomial.specs.Enumeration.{upto}
use Rattle.answer.specs.Refusals.{Verdict, passed, declined, refused, answered}
use Rattle.answer.specs.Checks.{or_else, first_of, unless}
use Rattle.series.proofs.Verdicts.{first_below, first_below-suc}
use Rattle.encoding.specs.Encoding.{wide, encoded, number_of, argument_of, component_of, place_of, told, outcome_of, Tells}

-- the numbers of a verdict fit their bits, a place 40 of them; refusal 7 has three numbers, any other one
pub data Fits : Verdict → Type 0 where
  fits_passed : Fits passed
  fits_one : {n w : ℕ} → (0 < n) × (n < 256) × (n ≡ 7 → ⊥) × (w < 1099511627776) → Fits (declined n (w ∷ []))
  fits_three : {a c w : ℕ} → (a < 256) × (c < 256) × (w < 1099511627776) → Fits (declined 7 (a ∷ c ∷ w ∷ []))

-- ---- numbers that fit are read back

-- r holds the number k, the argument a, the component c and the place w
record Holds (r k a c w : ℕ) : Type 0 where
  number : number_of r ≡ k
  argument : argument_of r ≡ a
  component : component_of r ≡ c
  place : place_of r ≡ w

holds : {r k a c w : ℕ} → r ≡ k + (a * 256 + c * 65536 + w * 16777216) → (k < 256) × (a < 256) × (c < 256)
    → Holds r k a c w
holds e l =
    record {
      number = omega arith;
      argument = omega arith;
      component = omega arith;
      place = omega arith;
    }

reads : {r k a c w : ℕ} → Holds r k a c w → outcome_of r ≡ told k a c w
reads h = rw (h.number, h.argument, h.component, h.place)

-- a refusal with one number
told-one : (k w : ℕ) → 0 < k → (k ≡ 7 → ⊥) → told k 0 0 w ≡ refused k (w ∷ [])
told-one k w l d = rw (ne_eqb k 0 (λ e. omega arith), ne_eqb k 7 d)

pub tells : {w : Verdict} → Fits w → (k : ℕ) → (w ≡ passed → k < 1099511627776)
    → Tells (encoded (answered w k)) (answered w k)
tells fits_passed k b =
    let l = b refl in
    let h : Holds (wide k) 0 0 0 k = holds (omega arith) (omega arith) in
    record { read = reads h; unused = λ d. (h.argument, h.component) }
tells (fits_one {n} {w} l) k b =
    let h : Holds (n + wide w) n 0 0 w = holds (omega arith) (omega arith) in
    record { read = reads h ∙ told-one n w l.0 l.2; unused = λ d. (h.argument, h.component) }
tells (fits_three {a} {c} {w} l) k b =
    let h : Holds (7 + (a % 256 * 256 + c % 256 * 65536 + wide w)) 7 a c w = holds (omega arith) (omega arith) in
    record { read = reads h; unused = λ d. absurd (d h.number) }

-- a call that reports 0
pub tells_nothing : {w : Verdict} → Fits w → Tells (encoded (answered w 0)) (answered w 0)
tells_nothing f = tells f 0 (λ e. omega arith)

-- ---- checks one after another

pub or_else-fits : {w x : Verdict} → Fits w → (w ≡ passed → Fits x) → Fits (or_else w x)
or_else-fits fits_passed f = f refl
or_else-fits (fits_one h) f = fits_one h
or_else-fits (fits_three h) f = fits_three h

pub both : {w x : Verdict} → Fits w → Fits x → Fits (or_else w x)
both f g = or_else-fits f (λ e. g)

pub last : {w : Verdict} → Fits w → Fits (first_of (w ∷ []))
last f = both f fits_passed

pub unless-fits : (t : Bool) {n : ℕ} {at : List ℕ} → (t ≡ false → Fits (declined n at)) → Fits (unless t n at)
unless-fits true f = fits_passed
unless-fits false f = f refl

pub first_below-fits : (g : ℕ → Verdict) (m : ℕ) → ((i : ℕ) → i < m → Fits (g i)) → Fits (first_below g m)
unfolding upto
first_below-fits g zero f = fits_passed
first_below-fits g (suc m) f =
    subst Fits (sym (first_below-suc g m))
    (both (first_below-fits g m (λ i l. f i (omega arith))) (f m (omega arith)))
