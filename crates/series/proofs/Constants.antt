-- A series has an entry at position 1 if and only if its polynomial has a constant modulo p: that
-- position is the constant's, and the coefficient of an entry is not 0. So the check of constants
-- passes for origin-fixing maps alone.
use Rattle.std.proofs.Common.{◌≡◌, refl, sym, ap, ◌∙◌, Bool, true, false, not, ◌||◌, List, [], ◌∷◌, ◌++◌, append-nil, ℕ, suc, ◌%◌, ◌≤◌, ◌<◌, mod-eq_of_lt, arith, eqb, eqb-true}
use Rattle.std.proofs.Math.Nat.{zero-mod}
use Rattle.std.proofs.Math.Decide.{dec_lt}
use borrow.Author.Tests.{eqb-false}
use Rattle.algebra.specs.Polynomial.{Polynomial, coefficient_of}
use Rattle.algebra.specs.Substitution.{Map}
use Rattle.algebra.specs.Agreement.{FromOrder, OriginFixing}
use Rattle.algebra.proofs.Modulo.{mod-cong}
use Rattle.algebra.proofs.Agreement.{agree_refl}
use Rattle.algebra.proofs.Origin.{from-origin, origin_from}
use Rattle.monomial.specs.Count.{count}
use Rattle.answer.specs.Refusals.{Verdict, passed, declined}
use Rattle.answer.specs.Checks.{unless}
use Rattle.series.specs.Arguments.{constant_check, constants_check}
use Rattle.series.specs.Image.{position, entries, coefficient_at, polynomial, component, map_of, image, map_image}
use Rattle.series.specs.Series.{Ascending, none, next, IsSeries, IsMap}
use Rattle.series.specs.Faults.{any_is_one, has_constant}
use Rattle.series.proofs.Verdicts.{declined_not_passed, all-passed, passed_all, first-declined}
use Rattle.series.proofs.Entries.{coefficient_at-nil, coefficient_at-here, coefficient_at-there, coefficient_at-reduced}
use Rattle.series.proofs.Positions.{count-positive, coefficient_of-first}
use Rattle.series.proofs.Reading.{coefficient_of-polynomial}
use Rattle.series.proofs.Writing.{image-series, coefficient_at-image}
use Rattle.series.proofs.Maps.{map_of-inside, map_of-beyond, component-map_image}

-- ---- entries

no_entry_to_zero : (es : List ℕ) → any_is_one es ≡ false → coefficient_at es 1 ≡ 0
unfolding any_is_one
no_entry_to_zero [] e = coefficient_at-nil 1
no_entry_to_zero (w ∷ es) e = go (eqb (position w) 1) refl e (λ k. no_entry_to_zero es k)
  where
    go : (b : Bool) → eqb (position w) 1 ≡ b → b || any_is_one es ≡ false
        → (any_is_one es ≡ false → coefficient_at es 1 ≡ 0) → coefficient_at (w ∷ es) 1 ≡ 0
    go true t k ih = let z : ◌≡◌ {A = ℕ} 0 1 = cc in absurd (omega arith)
    go false t k ih = coefficient_at-there w es 1 (eqb-false (position w) 1 t) ∙ ih k

zero_to_no_entry : {p N last : ℕ} {es : List ℕ} → Ascending p N last es → coefficient_at es 1 ≡ 0
    → any_is_one es ≡ false
unfolding any_is_one
zero_to_no_entry none z = refl
zero_to_no_entry (next {w = w} {es = es} x r) z =
    go (eqb (position w) 1) refl (λ k. zero_to_no_entry r k)
  where
    go : (b : Bool) → eqb (position w) 1 ≡ b → (coefficient_at es 1 ≡ 0 → any_is_one es ≡ false)
        → b || any_is_one es ≡ false
    go true t ih =
        let c = coefficient_at-here w es 1 (eqb-true (position w) 1 t) in
        absurd (omega (arith, x.nonzero))
    go false t ih = ih (sym (coefficient_at-there w es 1 (eqb-false (position w) 1 t)) ∙ z)

-- ---- series

module _ (n v : ℕ) {p : ℕ} {ws : List ℕ} (s : IsSeries p (count n v) ws) where
  abbrev P : Polynomial
  P = polynomial n v ws

  constant-is : coefficient_of [] (polynomial n v ws) ≡ coefficient_at (entries ws) 1
  constant-is =
      sym (coefficient_of-first n v P)
      ∙ coefficient_of-polynomial n v s 1 (omega arith) (count-positive n v)

  pub no_constant_to_from : has_constant ws ≡ false → FromOrder p 1 (polynomial n v ws)
  unfolding has_constant
  no_constant_to_from e =
      from-origin p P (mod-cong p (constant-is ∙ no_entry_to_zero (entries ws) e))

  pub from_to_no_constant : 0 < p → FromOrder p 1 (polynomial n v ws) → has_constant ws ≡ false
  unfolding has_constant
  from_to_no_constant pos f =
      zero_to_no_entry s.ascending
      (sym (mod-eq_of_lt (coefficient_at-reduced pos s.ascending 1))
      ∙ mod-cong p (sym constant-is)
      ∙ origin_from p P f
      ∙ zero-mod p)

-- ---- maps

unless_not : (b : Bool) (k : ℕ) (at : List ℕ) → unless (not b) k at ≡ passed → b ≡ false
unless_not true k at e = absurd (declined_not_passed e)
unless_not false k at e = refl

module _ (n v : ℕ) (ws : List ℕ) where
  abbrev constant_at : ℕ → Bool
  constant_at i = has_constant (component n v i ws)

  abbrev check_of : ℕ → Verdict
  check_of i = unless (not (constant_at i)) 8 (suc i ∷ [])

  check_of-passed : (i : ℕ) → constant_at i ≡ false → check_of i ≡ passed
  check_of-passed i e = rw e

  -- the first component with a constant is the place
  pub constant_check-first : (i : ℕ) → i < v
      → ((j : ℕ) → j < i → has_constant (component n v j ws) ≡ false)
      → has_constant (component n v i ws) ≡ true → constant_check n v ws ≡ declined 8 (suc i ∷ [])
  unfolding constants_check component
  constant_check-first i l s e =
      first-declined check_of v i l (λ j k. check_of-passed j (s j k)) (rw e)

  pub no_constants_to_passed : ((i : ℕ) → i < v → has_constant (component n v i ws) ≡ false)
      → constant_check n v ws ≡ passed
  unfolding constants_check component
  no_constants_to_passed e = all-passed check_of v (λ i l. check_of-passed i (e i l))

  pub passed_to_no_constants : constant_check n v ws ≡ passed
      → (i : ℕ) → i < v → has_constant (component n v i ws) ≡ false
  unfolding constants_check component
  passed_to_no_constants e i l =
      unless_not (constant_at i) 8 (suc i ∷ []) (passed_all check_of v e i l)

module _ {p n v : ℕ} {ws : List ℕ} (s : IsMap p n v ws) where
  -- every component, also those beyond the last, which are zero
  pub passed_to_fixing : constant_check n v ws ≡ passed → OriginFixing p (map_of n v ws)
  passed_to_fixing e i = go (dec_lt i v)
    where
      go : Dec (i < v) → FromOrder p 1 (map_of n v ws i)
      go (yes l) =
          rw (map_of-inside n v ws i l)
          (no_constant_to_from n v (s.each i l) (passed_to_no_constants n v ws e i l))
      go (no l) = rw (map_of-beyond n v ws i (omega arith)) (agree_refl p [])

  pub fixing_to_passed : 0 < p → ((i : ℕ) → i < v → FromOrder p 1 (map_of n v ws i))
      → constant_check n v ws ≡ passed
  fixing_to_passed pos f =
      no_constants_to_passed n v ws
      (λ i l. from_to_no_constant n v (s.each i l) pos (rw (map_of-inside n v ws i l) at (f i l)))

-- ---- images

module _ (p n v : ℕ) (pos : 0 < p) (small : p ≤ 65536) where
  pub image-no_constant : (P : Polynomial) (rest : List ℕ) → coefficient_of [] P % p ≡ 0
      → has_constant (image p n v P ++ rest) ≡ false
  unfolding has_constant
  image-no_constant P rest z =
      zero_to_no_entry (image-series p n v pos small P rest).ascending
      (coefficient_at-image p n v pos small P rest 1 (omega arith) (count-positive n v)
      ∙ mod-cong p (coefficient_of-first n v P)
      ∙ z)

  pub map_image-fixing : (f : Map) (rest : List ℕ) → ((i : ℕ) → i < v → FromOrder p 1 (f i))
      → constant_check n v (map_image p n v f ++ rest) ≡ passed
  map_image-fixing f rest o =
      no_constants_to_passed n v (map_image p n v f ++ rest)
      (λ i l.
      let P = f i in
      ap has_constant
      (component-map_image p n v pos small f rest i l ∙ sym (append-nil (image p n v P)))
      ∙ image-no_constant P [] (origin_from p P (o i l) ∙ zero-mod p))
