-- Maps as words and as polynomials: an image reads back to the map, so words are an origin-fixing
-- map just where their polynomials are, and the tests of undoing say of words what the definitions
-- say of polynomials.
use Rattle.std.proofs.Common.{◌≡◌, sym, subst, ◌∙◌, ◌↔◌, List, [], append-nil, ℕ, suc, ◌≤◌, ◌<◌, arith, T}
use Rattle.std.proofs.Math.Decide.{dec_lt}
use Rattle.algebra.specs.Polynomial.{equal}
use Rattle.algebra.specs.Substitution.{Map, compose, identity}
use Rattle.algebra.specs.Agreement.{Agree, FromOrder, OriginFixing, Within}
use Rattle.algebra.proofs.Trim.{equal-refl, equal_to_eq}
use Rattle.algebra.proofs.Within.{within_compose, within_variable}
use Rattle.algebra.proofs.Agreement.{agree_refl, agree_sym, agree_trans, agree_down}
use Rattle.monomial.specs.Count.{count}
use Rattle.answer.specs.Refusals.{passed}
use Rattle.series.specs.Image.{map_of, map_image}
use Rattle.series.specs.Series.{IsMap}
use Rattle.series.specs.Arguments.{argument_check, constants_check, map_check, constant_check}
use Rattle.series.proofs.Maps.{map_of-within, map_of-beyond, passed_to_map, map_image-agree}
use Rattle.series.proofs.Maps.{length-map_image, map_image-map, read_map_image}
use Rattle.series.proofs.Constants.{passed_to_fixing}
use Rattle.series.proofs.Arguments.{argument_map, constants-map}
use Rattle.inversion.specs.Undoing.{Fixing, IsIdentity, UndoesAfter, UndoesBefore, composed}
use Rattle.inversion.specs.Undoing.{undoes_after, undoes_before, FixingWords}

-- components beyond the last are zero
pub map_of-origin : (p n v : ℕ) (ws : List ℕ)
    → ((i : ℕ) → i < v → FromOrder p 1 (map_of n v ws i)) → OriginFixing p (map_of n v ws)
map_of-origin p n v ws h i = go (dec_lt i v)
  where
    go : Dec (i < v) → FromOrder p 1 (map_of n v ws i)
    go (yes l) = h i l
    go (no l) = rw (map_of-beyond n v ws i (omega arith)) (agree_refl p [])

pub map_of-fixing : {p n v : ℕ} {ws : List ℕ} → IsMap p n v ws
    → ((i : ℕ) → i < v → FromOrder p 1 (map_of n v ws i)) → Fixing p v (map_of n v ws)
map_of-fixing {p} {n} {v} {ws} s h =
    record { origin = map_of-origin p n v ws h; within = λ i l. map_of-within s i }

-- the checks of refusals 7 and 8
pub checked_fixing : (p n v a : ℕ) (ws : List ℕ) → map_check p n v a ws ≡ passed
    → constant_check n v ws ≡ passed → Fixing p v (map_of n v ws)
checked_fixing p n v a ws c d =
    let s = passed_to_map p n v a ws c in
    record { origin = passed_to_fixing s d; within = λ i l. map_of-within s i }

-- the same checks by components
pub argument_map_passed : (p n v a : ℕ) (ws : List ℕ) → argument_check p (count n v) a v ws ≡ passed
    → map_check p n v a ws ≡ passed
argument_map_passed p n v a ws e = sym (argument_map p n v a ws) ∙ e

pub constants-map_passed : (n v : ℕ) (ws : List ℕ) → constants_check (count n v) v ws ≡ passed
    → constant_check n v ws ≡ passed
constants-map_passed n v ws e = sym (constants-map n v ws) ∙ e

pub words-fixing : {p n v : ℕ} {ws : List ℕ} → FixingWords p n v ws → Fixing p v (map_of n v ws)
words-fixing F = record { origin = F.origin; within = λ i l. map_of-within F.is_map i }

module _ (p n v : ℕ) (pos : 0 < p) (small : p ≤ 65536) where
  -- ---- the image of a map

  pub read : (g : Map) (i : ℕ) → i < v → Within v (g i)
      → Agree p (suc n) (map_of n v (map_image p n v g) i) (g i)
  read g i l w =
      subst (λ (x : List ℕ). Agree p (suc n) (map_of n v x i) (g i))
      (append-nil (map_image p n v g)) (read_map_image p n v pos small g [] i l w)

  module _ (g : Map) (w : (i : ℕ) → i < v → Within v (g i)) where
    -- that of an origin-fixing map is one
    pub image-fixing : ((i : ℕ) → i < v → FromOrder p 1 (g i))
        → FixingWords p n v (map_image p n v g)
    image-fixing o = record {
      whole = length-map_image p n v pos small g;
      is_map =
          subst (IsMap p n v) (append-nil (map_image p n v g)) (map_image-map p n v pos small g []);
      origin =
          map_of-origin p n v (map_image p n v g)
          (λ i l. agree_trans p (agree_down p (omega arith) (read g i l (w i l))) (o i l));
    }

    -- it is that of the identity map just where the map is the identity map
    pub identity-image : T (equal (map_image p n v g) (map_image p n v identity)) ↔ IsIdentity p n v g
    identity-image = (
      (λ t.
          let e = equal_to_eq (map_image p n v g) (map_image p n v identity) t in
          record {
            component = λ i l.
                agree_trans p (agree_sym p (read g i l (w i l)))
                (rw e (read identity i l (within_variable v i l)));
          }),
      (λ h.
          rw (map_image-agree p n v g identity h.component)
          (equal-refl (map_image p n v identity))),
    )

  -- ---- the tests

  module _ (f g : List ℕ) (F : Fixing p v (map_of n v f)) (G : Fixing p v (map_of n v g)) where
    pub undoes_after-is :
        T (undoes_after p n v f g) ↔ UndoesAfter p n v (map_of n v f) (map_of n v g)
    unfolding undoes_after composed
    undoes_after-is =
        identity-image (compose (map_of n v g) (map_of n v f))
        (λ i l. within_compose v v (map_of n v g) (map_of n v f) i (G.within i l) F.within)

    pub undoes_before-is :
        T (undoes_before p n v f g) ↔ UndoesBefore p n v (map_of n v f) (map_of n v g)
    unfolding undoes_before composed
    undoes_before-is =
        identity-image (compose (map_of n v f) (map_of n v g))
        (λ i l. within_compose v v (map_of n v f) (map_of n v g) i (F.within i l) G.within)
