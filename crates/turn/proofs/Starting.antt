-- Minus the identity map by position: the parts are cleared, and then the residue of −1 is written
-- at the position of variable j in part j.
use Rattle.std.proofs.Common.{◌≡◌, refl, sym, ap, ap₂, ◌∙◌, Bool, true, false, List, ℕ, ◌+◌, ◌*◌, ◌-◌, ◌%◌, ◌≤◌, ◌<◌, mod-eq_of_lt, mod-lt, mul-zero, mul-one, zero-mul, mul-le-mul_right, suc-mul, arith, T, leb, le→leb, length, get_or, set, replicate, length-set, get_or-set_same, get_or-set_other}
use Rattle.std.proofs.Math.Nat.{zero-mod}
use Rattle.std.proofs.Math.Decide.{ℕ_discrete}
use Rattle.std.proofs.Math.ListN.{length-replicate, get_or-replicate}
use Rattle.algebra.specs.Polynomial.{Monomial, order, same, indicator, coefficient_of, scale}
use Rattle.algebra.specs.Substitution.{unit_of, variable}
use Rattle.algebra.proofs.Booleans.{indicator-yes, indicator-no}
use Rattle.algebra.proofs.Monomials.{order-unit}
use Rattle.algebra.proofs.Trim.{same-order}
use Rattle.algebra.proofs.Weigh.{coefficient-scale}
use Rattle.algebra.proofs.Modulo.{mod-cong}
use Rattle.monomial.specs.Count.{count}
use Rattle.series.specs.Image.{monomial_at}
use Rattle.series.specs.Over.{over}
use Rattle.series.proofs.Over.{length_over, over-in, over-above}
use Rattle.inversion.proofs.Places.{coefficient-variable_at}
use Rattle.turn.specs.Vectors.{word_at}
use Rattle.turn.specs.Variables.{PositionOf, Started}
use Rattle.product.proofs.Whole.{drop-same}
use Rattle.turn.proofs.PartWords.{place-before, place-part, place-word}
use Rattle.turn.proofs.PartWords.{component-word, component-whole}
use Rattle.turn.proofs.Positions.{variable-here, variable-elsewhere}

-- minus variable j at position q
abbrev minus_at : ℕ → ℕ → ℕ → ℕ → ℕ → ℕ
minus_at p n v j q = (p - 1) * indicator (same (monomial_at n v q) (unit_of j))

-- the first k parts are done, and the others are zeros
pub record StartedUpto (p n v N : ℕ) (ws us : List ℕ) (k : ℕ) : Type 0 where
  pub size : length us ≡ length ws
  pub done : (j q : ℕ) → j < k → 1 ≤ q → q ≤ N → word_at N us q j ≡ minus_at p n v j q
  pub later : (j q : ℕ) → k ≤ j → j < v → q ≤ N → word_at N us q j ≡ 0
  pub rest : (z : ℕ) → v * (N + 1) ≤ z → get_or us z 0 ≡ get_or ws z 0

-- the same, seen from the cleared words, and from those before them
pub started_self : {p n v N : ℕ} {ws us : List ℕ} → StartedUpto p n v N ws us 0
    → StartedUpto p n v N us us 0
started_self S = record {
  size = refl;
  done = S.done;
  later = S.later;
  rest = λ z l. refl;
}

pub started_since : {p n v N k : ℕ} {ws us us' : List ℕ} → StartedUpto p n v N ws us 0
    → StartedUpto p n v N us us' k → StartedUpto p n v N ws us' k
started_since R S = record {
  size = S.size ∙ R.size;
  done = S.done;
  later = S.later;
  rest = λ z l. S.rest z l ∙ R.rest z l;
}

module _ (p n v N : ℕ) (ws : List ℕ) (inside : v * (N + 1) ≤ length ws) where
  abbrev zeros : List ℕ
  zeros = replicate (v * (N + 1) - 0) 0

  long : length zeros ≡ v * (N + 1)
  long = length-replicate {A = ℕ} (v * (N + 1) - 0) 0 ∙ omega arith

  pub started_none : (us : List ℕ) → us ≡ over ws 0 (replicate (v * (N + 1) - 0) 0)
      → StartedUpto p n v N ws us 0
  started_none us e = record {
    size = ap length e ∙ length_over ws 0 zeros (omega (arith, long));
    done = λ j q l. absurd (omega arith);
    later = λ j q l h a. cleared (j * (N + 1) + q) (place-before N j v q h a);
    rest = λ z l.
        ap (λ (x : List ℕ). get_or x z 0) e
        ∙ over-above ws 0 zeros z (omega arith) (omega (arith, long));
  }
    where
      cleared : (z : ℕ) → z < v * (N + 1) → get_or us z 0 ≡ 0
      cleared z l =
          let i : z ≡ 0 + z = omega arith in
          ap₂ (λ (x : List ℕ) (k : ℕ). get_or x k 0) e i
          ∙ over-in ws 0 zeros z (omega arith) (omega (arith, long))
          ∙ get_or-replicate (v * (N + 1) - 0) z 0 0 (omega arith)

  module _ (N_is : N ≡ count n v) where
    module _ {us : List ℕ} {k q : ℕ} (l : k < v) (S : StartedUpto p n v N ws us k)
        (P : PositionOf n v N k q) where
      abbrev place : ℕ
      place = k * (N + 1) + q

      abbrev next : List ℕ
      next = set us place (p - 1)

      kept : (j r : ℕ) → r ≤ N → (j ≡ k → ⊥) → word_at N next r j ≡ word_at N us r j
      kept j r h n' =
          get_or-set_other us place (j * (N + 1) + r) (p - 1) 0
          (λ e. n' (place-part N j k r q h P.high e))

      pub started_more : StartedUpto p n v N ws (set us (k * (N + 1) + q) (p - 1)) (k + 1)
      started_more = record {
        size = length-set us place (p - 1) ∙ S.size;
        done = λ j r h a b. at-word j r a b (omega arith) (ℕ_discrete j k) (ℕ_discrete r q);
        later = λ j r h m a.
            kept j r a (λ e. omega arith) ∙ S.later j r (omega arith) m a;
        rest = λ z h.
            get_or-set_other us place z (p - 1) 0
            (λ e. omega (arith, place-before N k v q l P.high))
            ∙ S.rest z h;
      }
        where
          at-word : (j r : ℕ) → 1 ≤ r → r ≤ N → j ≤ k → Dec (j ≡ k) → Dec (r ≡ q)
              → word_at N next r j ≡ minus_at p n v j r
          at-word j r a b h (no d) s = kept j r b d ∙ S.done j r (omega arith) a b
          at-word j r a b h (yes e) (yes s) =
              let i = variable-here N_is P r s in
              ap₂ (λ (x y : ℕ). word_at N next x y) s e
              ∙ get_or-set_same us place (p - 1) 0
              (omega (arith, S.size, place-before N k v q l P.high))
              ∙ sym
              (ap (λ (x : ℕ). (p - 1) * indicator (same (monomial_at n v r) (unit_of x))) e
              ∙ ap (λ (x : ℕ). (p - 1) * x) i
              ∙ mul-one (p - 1))
          at-word j r a b h (yes e) (no s) =
              let i = variable-elsewhere N_is P r a b s in
              ap (λ (x : ℕ). word_at N next r x) e
              ∙ get_or-set_other us place (k * (N + 1) + r) (p - 1) 0
              (λ u. s (place-word N k k r q b P.high u))
              ∙ S.later k r (omega arith) l b
              ∙ sym
              (ap (λ (x : ℕ). (p - 1) * indicator (same (monomial_at n v r) (unit_of x))) e
              ∙ ap (λ (x : ℕ). (p - 1) * x) i
              ∙ mul-zero (p - 1))

    -- every part is done
    pub started_all : {us : List ℕ} → 0 < p → StartedUpto p n v N ws us v
        → Started p n v N ws us
    started_all {us} pos S = record {
      size = S.size;
      rest = drop-same (v * (N + 1)) ws us S.size S.rest;
      vectors = λ wanted cut some. record {
        each = λ j l. record {
          size =
              component-whole n v N N_is us j
              (omega (arith, S.size, suc-mul j (N + 1), mul-le-mul_right (N + 1) l));
          small = λ q a h.
              rw
              (component-word n v N N_is us j q h
              ∙ S.done j q l a h
              ∙ minus (monomial_at n v q) j cut some)
              (mod-lt _ pos);
          residue = λ q a h o.
              component-word n v N N_is us j q h
              ∙ S.done j q l a h
              ∙ minus (monomial_at n v q) j cut some;
        };
      };
    }
      where
        minus : (m : Monomial) (j cut : ℕ) → 1 ≤ cut
            → (p - 1) * indicator (same m (unit_of j))
            ≡ coefficient_of m (scale (p - 1) (variable j)) * indicator (leb (order m) cut) % p
        minus m j cut some = go (same m (unit_of j)) refl
          where
            is : coefficient_of m (scale (p - 1) (variable j))
                ≡ (p - 1) * indicator (same m (unit_of j))
            is =
                coefficient-scale m (p - 1) (variable j)
                ∙ ap (λ (x : ℕ). (p - 1) * x) (coefficient-variable_at m j)

            go : (b : Bool) → same m (unit_of j) ≡ b
                → (p - 1) * indicator (same m (unit_of j))
                ≡ coefficient_of m (scale (p - 1) (variable j)) * indicator (leb (order m) cut) % p
            go true q =
                let t : T (same m (unit_of j)) = rw q tt in
                let one = indicator-yes (same m (unit_of j)) t in
                let low = indicator-yes (leb (order m) cut)
                (le→leb (order m) cut
                (omega (arith, same-order m (unit_of j) t, order-unit j))) in
                let unit : (p - 1) * 1 * 1 ≡ p - 1 = omega arith in
                let whole : coefficient_of m (scale (p - 1) (variable j))
                * indicator (leb (order m) cut) ≡ p - 1 =
                ap₂ (λ (x y : ℕ). x * y) (is ∙ ap (λ (x : ℕ). (p - 1) * x) one) low ∙ unit in
                ap (λ (x : ℕ). (p - 1) * x) one
                ∙ mul-one (p - 1)
                ∙ sym (mod-cong p whole ∙ mod-eq_of_lt (omega arith))
            go false q =
                let none = indicator-no (same m (unit_of j)) (λ t. absurd (rw q at t)) in
                let z : (p - 1) * indicator (same m (unit_of j)) ≡ 0 =
                ap (λ (x : ℕ). (p - 1) * x) none ∙ mul-zero (p - 1) in
                z
                ∙ sym
                (mod-cong p
                (ap (λ (x : ℕ). x * indicator (leb (order m) cut)) (is ∙ z) ∙ zero-mul _)
                ∙ zero-mod p)
