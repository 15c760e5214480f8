-- A map whose linear part is not singular, composed with its inverse, is the identity map, word for word, the inverse
-- being the outer map or the inner one (proofs of the crate inversion). What stands beyond the words of the inverse (r)
-- is any.
use Rattle.std.proofs.Common.{◌≡◌, sym, ap, subst, ◌∙◌, List, ◌++◌, ℕ, suc, ◌+◌, ◌*◌, ◌≤◌, ◌<◌, mul-le-mul, suc-mul, arith, length, take, drop, length-drop}
use Rattle.std.proofs.Math.Path.{fun_ext}
use Rattle.std.proofs.Math.Decide.{dec_lt}
use Rattle.std.proofs.Math.Seq.{take-append-le, drop-append-le}
use Rattle.algebra.specs.Substitution.{Map, compose}
use Rattle.algebra.specs.Agreement.{OriginFixing}
use Rattle.residue.specs.Modulus.{Prime}
use Rattle.monomial.specs.Count.{count, Allowed}
use Rattle.answer.specs.declared.Setting.{Setting}
use Rattle.series.specs.Image.{component, map_of}
use Rattle.series.specs.Series.{IsMap}
use Rattle.series.proofs.Maps.{map_of-inside, map_of-beyond}
use Rattle.inversion.specs.Linear.{determinant_of}
use Rattle.inversion.specs.Undoing.{Fixing, FixingWords}
use Rattle.inversion.specs.Undoing as Undoings
use Rattle.inversion.proofs.Counting.{inverse-fixing, inverse-composed}
use Rattle.checks.specs.Settings.{prime_of, map_in, map_image_in, identity_in, inverse_in}
use Rattle.calls.proofs.Words.{IsMapIn, FixesIn, composed}

-- ---- words beyond a map are not looked at

module _ (n v : ℕ) (ws r : List ℕ) (whole : length ws ≡ v * (count n v + 1)) where
  component-append : (i : ℕ) → i < v → component n v i (ws ++ r) ≡ component n v i ws
  unfolding component
  component-append i l =
      let c = count n v + 1 in
      let k : suc i * c ≤ v * c = mul-le-mul l (omega arith) in
      let e = suc-mul i c in
      ap (take c) (drop-append-le (i * c) ws r (omega arith))
      ∙ take-append-le c (drop (i * c) ws) r (omega (arith, length-drop (i * c) ws))

  pub map_of-append : map_of n v (ws ++ r) ≡ map_of n v ws
  map_of-append = fun_ext (λ i. go i (dec_lt i v))
    where
      go : (i : ℕ) → Dec (i < v) → map_of n v (ws ++ r) i ≡ map_of n v ws i
      go i (yes l) =
          rw (map_of-inside n v (ws ++ r) i l, map_of-inside n v ws i l, component-append i l)
      go i (no l) =
          rw (map_of-beyond n v (ws ++ r) i (omega arith), map_of-beyond n v ws i (omega arith))

  pub map-append : {p : ℕ} → IsMap p n v ws → IsMap p n v (ws ++ r)
  map-append F = record { each = λ i l. rw (component-append i l) (F.each i l) }

-- ---- the laws

module _ (s : Setting) (prime : Prime (prime_of s)) (small : prime_of s ≤ 65536) (setting : Allowed s.n s.v)
    (f : List ℕ) (F : Fixing (prime_of s) s.v (map_in s f))
    (d : determinant_of (prime_of s) s.v (map_in s f) ≡ 0 → ⊥) where
  fixed : FixingWords (prime_of s) s.n s.v (inverse_in s f)
  unfolding inverse_in
  fixed = inverse-fixing prime small s.n s.v setting.n_low setting.v_high f F d

  module _ (r : List ℕ) where
    pub inverse-same : map_in s (inverse_in s f ++ r) ≡ map_in s (inverse_in s f)
    inverse-same = map_of-append s.n s.v (inverse_in s f) r fixed.whole

    pub inverse-map : IsMapIn s (inverse_in s f ++ r)
    inverse-map = map-append s.n s.v (inverse_in s f) r fixed.whole fixed.is_map

    pub inverse-fixes : FixesIn s (inverse_in s f ++ r)
    inverse-fixes = subst (OriginFixing (prime_of s)) (sym inverse-same) fixed.origin

    -- the inverse undoes f after it
    pub undone_after : composed s (inverse_in s f ++ r) f ≡ identity_in s
    unfolding Undoings.composed inverse_in
    undone_after =
        ap (λ (g : Map). map_image_in s (compose g (map_in s f))) inverse-same
        ∙ (inverse-composed prime small s.n s.v setting.n_low setting.v_high f F d).0

    -- and before it
    pub undone_before : composed s f (inverse_in s f ++ r) ≡ identity_in s
    unfolding Undoings.composed inverse_in
    undone_before =
        ap (λ (g : Map). map_image_in s (compose (map_in s f) g)) inverse-same
        ∙ (inverse-composed prime small s.n s.v setting.n_low setting.v_high f F d).1
