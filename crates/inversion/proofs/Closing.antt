-- Term 3 of undoing maps, whole, from what a call tests: the setting is allowed, and the words f
-- pass 7 and 8, as argument a. Words that pass 7 are long enough, and what stands behind them is
-- not looked at. Then `Counting` decides by the determinant.
--
-- A map h whose composition with f is the identity map, f inner or outer, is the one undoing map, so
-- it is what `invert` leaves. Of an outer map a call tests 7 alone, so h could have a constant; but f
-- fixes the origin, so the constant of the composition is that of h, and the identity map has none.
use Rattle.std.proofs.Common.{◌≡◌, sym, ap, ◌∙◌, ◌⊎◌, inl, inr, List, ℕ, ◌≤◌, ◌<◌, arith, length, take}
use Rattle.std.proofs.Math.Decide.{ℕ_discrete}
use Rattle.algebra.specs.Substitution.{Map, compose, identity}
use Rattle.algebra.proofs.Trim.{equal-refl}
use Rattle.algebra.proofs.Within.{within_compose}
use Rattle.algebra.proofs.Agreement.{agree_sym, agree_trans, agree_down}
use Rattle.algebra.proofs.Truncation.{identity-fixes}
use Rattle.residue.specs.Modulus.{Prime}
use Rattle.residue.proofs.Inverses.{prime_positive}
use Rattle.monomial.specs.Count.{count, Allowed}
use Rattle.answer.specs.Refusals.{passed}
use Rattle.answer.specs.Sizes.{map_words}
use Rattle.series.specs.Image.{map_of, map_image}
use Rattle.series.specs.Series.{IsMap}
use Rattle.series.specs.Arguments.{argument_check, constants_check, map_check, constant_check}
use Rattle.series.proofs.Maps.{passed_to_map, map_of-within, map-image}
use Rattle.inversion.specs.Linear.{determinant_of}
use Rattle.inversion.specs.Undoing.{Fixing, IsIdentity, UndoesBefore, composed}
use Rattle.inversion.specs.Inverse.{inverse}
use Rattle.inversion.specs.Closing.{OneUndoes, NoneUndoes}
use Rattle.inversion.proofs.Affine.{substitute-low}
use Rattle.inversion.proofs.LinearPart.{singular_to_declined, regular_to_passed}
use Rattle.inversion.proofs.Inverse.{after-before, none_before}
use Rattle.inversion.proofs.Words.{argument_map_passed, constants-map_passed, checked_fixing}
use Rattle.inversion.proofs.Words.{map_of-fixing, identity-image}
use Rattle.inversion.proofs.Counting.{inverse-image, one-undoes, none_undo}

-- ---- a composition that is the identity map, word for word

module _ (p n v : ℕ) (pos : 0 < p) (small : p ≤ 65536) (outer inner : List ℕ)
    (outer-is : IsMap p n v outer) (inner-is : IsMap p n v inner)
    (e : composed p n v outer inner ≡ map_image p n v identity) where
  composed-identity : IsIdentity p n v (compose (map_of n v outer) (map_of n v inner))
  unfolding composed
  composed-identity =
      (identity-image p n v pos small (compose (map_of n v outer) (map_of n v inner))
      (λ i l.
      within_compose v v (map_of n v outer) (map_of n v inner) i (map_of-within outer-is i)
      (λ j k. map_of-within inner-is j))
      ).0
      (rw e (equal-refl (map_image p n v identity)))

-- the outer map fixes the origin where the inner one and the composition do
outer-fixing : (p n v : ℕ) (outer : List ℕ) (inner : Map) → IsMap p n v outer → Fixing p v inner
    → IsIdentity p n v (compose (map_of n v outer) inner) → Fixing p v (map_of n v outer)
unfolding compose
outer-fixing p n v outer inner s I c =
    map_of-fixing s
    (λ i l.
    agree_trans p (agree_sym p (substitute-low p (map_of n v outer i) inner I.origin))
    (agree_trans p (agree_down p (omega arith) (c.component i l)) (identity-fixes p i)))

-- ---- a map that passes 7 and 8

module _ {p : ℕ} (prime : Prime p) (small : p ≤ 65536) (n v : ℕ) (setting : Allowed n v)
    (a : ℕ) (f : List ℕ)
    (images : map_check p n v a f ≡ passed) (fixes : constant_check n v f ≡ passed) where
  pos : 0 < p
  pos = prime_positive prime

  f-is : IsMap p n v f
  f-is = passed_to_map p n v a f images

  F : Fixing p v (map_of n v f)
  F = checked_fixing p n v a f images fixes

  one : (determinant_of p v (map_of n v f) ≡ 0 → ⊥) → OneUndoes p n v f
  one d =
      let u = one-undoes prime small n v setting.n_low setting.v_high f F d in
      record {
        determinant = d;
        inverted = regular_to_passed p n v f d;
        number_after = ap length u.0;
        number_before = ap length u.1;
        after = u.0;
        before = u.1;
      }

  none : determinant_of p v (map_of n v f) ≡ 0 → NoneUndoes p n v f
  none d =
      let u = none_undo prime small n v setting.n_low setting.v_high f F d in
      record {
        determinant = d;
        refused = singular_to_declined p n v f d;
        number_after = ap length u.0;
        number_before = ap length u.1;
        after = u.0;
        before = u.1;
      }

  -- term 3: one map undoes f, after it and before it, and it is what `invert` leaves; or none does,
  -- and `invert` refuses 9
  pub one-or_none : OneUndoes p n v f ⊎ NoneUndoes p n v f
  one-or_none = go (ℕ_discrete (determinant_of p v (map_of n v f)) 0)
    where
      go : Dec (determinant_of p v (map_of n v f) ≡ 0) → OneUndoes p n v f ⊎ NoneUndoes p n v f
      go (yes d) = inr (none d)
      go (no d) = inl (one d)

  -- ---- a map h whose composition with f is the identity map: then one map undoes f, and it is h

  module _ (b : ℕ) (h : List ℕ) (h-images : map_check p n v b h ≡ passed) where
    h-is : IsMap p n v h
    h-is = passed_to_map p n v b h h-images

    undone : Fixing p v (map_of n v h) → UndoesBefore p n v (map_of n v f) (map_of n v h)
        → (take (map_words n v) h ≡ inverse p n v f) × OneUndoes p n v f
    unfolding map_words
    undone H u = (
      map-image p n v pos small h-is
          ∙ sym
          (inverse-image prime small n v setting.n_low setting.v_high f F (map_of n v h) H u),
      one
          (λ d.
          none_before prime n v setting.n_low setting.v_high (map_of n v f) F d (map_of n v h) H u),
    )

    -- h outer: its call does not test 8 of it
    pub after-is_inverse : composed p n v h f ≡ map_image p n v identity
        → (take (map_words n v) h ≡ inverse p n v f) × OneUndoes p n v f
    after-is_inverse e =
        let c = composed-identity p n v pos small h f h-is f-is e in
        let H = outer-fixing p n v h (map_of n v f) h-is F c in
        undone H
        (after-before prime n v setting.n_low setting.v_high (map_of n v f) (map_of n v h) F H
        c)

    -- h inner
    pub before-is_inverse : constant_check n v h ≡ passed
        → composed p n v f h ≡ map_image p n v identity
        → (take (map_words n v) h ≡ inverse p n v f) × OneUndoes p n v f
    before-is_inverse h-fixes e =
        undone (checked_fixing p n v b h h-images h-fixes)
        (composed-identity p n v pos small f h f-is h-is e)

-- ---- the same from 7 and 8 as the checks of an argument by its components

pub one-or_none_by_components : {p : ℕ} → Prime p → p ≤ 65536 → (n v : ℕ) → Allowed n v
    → (a : ℕ) (f : List ℕ) → argument_check p (count n v) a v f ≡ passed
    → constants_check (count n v) v f ≡ passed → OneUndoes p n v f ⊎ NoneUndoes p n v f
one-or_none_by_components {p} prime small n v setting a f images fixes =
    one-or_none prime small n v setting a f (argument_map_passed p n v a f images)
    (constants-map_passed n v f fixes)
