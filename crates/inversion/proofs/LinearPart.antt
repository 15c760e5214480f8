-- The linear part of a composition is the product of the linear parts, and that of the identity map
-- is the identity matrix. So the determinant of a composition is the product of the determinants.
use Rattle.std.proofs.Common.{◌≡◌, refl, sym, ap, ◌∙◌, Bool, true, false, cond, ◌&&◌, not, List, [], ◌∷◌, ℕ, ◌*◌, ◌%◌, ◌≤◌, ◌<◌, mod-lt, mod-eq_of_lt, arith, ltb, eq-eqb, ne_eqb, lt-ltb, le-ltb}
use Rattle.std.proofs.Math.Nat.{mod-mod}
use Rattle.std.proofs.Math.Decide.{dec_lt}
use Rattle.algebra.specs.Polynomial.{coefficient_of}
use Rattle.algebra.specs.Substitution.{Map, compose, unit_of, identity}
use Rattle.algebra.specs.Agreement.{Agree, OriginFixing, Within}
use Rattle.algebra.proofs.Monomials.{order-unit}
use Rattle.algebra.proofs.Modulo.{mod-cong, mod-*}
use Rattle.algebra.proofs.Coefficients.{agree_to_same}
use Rattle.residue.specs.Modulus.{Prime}
use Rattle.linear.specs.Matrix.{element, product, Held, identity_matrix}
use Rattle.linear.proofs.Squares.{square-same, square-element, identity_matrix-element}
use Rattle.linear.proofs.Squares.{product-element}
use Rattle.linear.proofs.Determinants.{unit-below, determinant-congruent, determinant-product}
use Rattle.answer.specs.Refusals.{passed, declined}
use Rattle.answer.specs.Checks.{unless}
use Rattle.series.specs.Image.{map_of}
use Rattle.series.proofs.Verdicts.{declined_not_passed}
use Rattle.inversion.specs.Linear.{linear_part, determinant_of, singular_check}
use Rattle.inversion.proofs.Sums.{below-mod, times_below}
use Rattle.inversion.proofs.Affine.{linear, coefficient-variable, unit-sym}
use Rattle.inversion.proofs.Affine.{linear-substitute}

and_left_false : (a b : Bool) → a ≡ false → a && b ≡ false
and_left_false a b e = rw e

and_right_false : (a b : Bool) → b ≡ false → a && b ≡ false
and_right_false true b e = e
and_right_false false b e = refl

module _ (p v : ℕ) (few : v ≤ 8) (f : Map) where
  abbrev place : ℕ → ℕ → ℕ
  place i j = cond (ltb i v && ltb j v) (coefficient_of (unit_of j) (f i) % p) 0

  place_inside : (i j : ℕ) → i < v → j < v → place i j ≡ linear (f i) j % p
  place_inside i j li lj = rw (lt-ltb i v li, lt-ltb j v lj)

  at : (i j : ℕ) → i < 8 → j < 8 → element (linear_part p v f) i j ≡ place i j
  unfolding linear_part
  at i j li lj = square-element 8 place i j li lj

  pub linear_part-element : (i j : ℕ) → i < v → j < v
      → element (linear_part p v f) i j ≡ coefficient_of (unit_of j) (f i) % p
  linear_part-element i j li lj = at i j (omega arith) (omega arith) ∙ place_inside i j li lj

  pub linear_part-residue : (i j : ℕ) → i < v → j < v
      → coefficient_of (unit_of j) (f i) % p ≡ element (linear_part p v f) i j % p
  linear_part-residue i j li lj =
      sym (mod-mod (linear (f i) j) p) ∙ mod-cong p (sym (linear_part-element i j li lj))

  pub linear_part-held : 0 < p → Held p v (linear_part p v f)
  linear_part-held pos = record {
    residue = λ i j li lj. rw (at i j li lj) (small (ltb i v && ltb j v) _);
    unused_row = λ i j h li lj.
        at i j li lj ∙ unused i j (and_left_false (ltb i v) (ltb j v) (le-ltb i v h));
    unused_column = λ i j h li lj.
        at i j li lj ∙ unused i j (and_right_false (ltb i v) (ltb j v) (le-ltb j v h));
  }
    where
      small : (b : Bool) (x : ℕ) → cond b (x % p) 0 < p
      small true x = mod-lt x pos
      small false x = pos

      unused : (i j : ℕ) → ltb i v && ltb j v ≡ false → place i j ≡ 0
      unused i j e = ap (λ (b : Bool). cond b (coefficient_of (unit_of j) (f i) % p) 0) e

-- only what is below order 2 matters
pub linear_part-agree : (p v : ℕ) (f g : Map) → ((i : ℕ) → i < v → Agree p 2 (f i) (g i))
    → linear_part p v f ≡ linear_part p v g
unfolding linear_part
linear_part-agree p v f g e =
    square-same 8 _ _ (λ i j li lj. inside i j (dec_lt i v))
  where
    inside : (i j : ℕ) → Dec (i < v)
        → cond (ltb i v && ltb j v) (coefficient_of (unit_of j) (f i) % p) 0
        ≡ cond (ltb i v && ltb j v) (coefficient_of (unit_of j) (g i) % p) 0
    inside i j (yes l) =
        ap (λ (x : ℕ). cond (ltb i v && ltb j v) x 0)
        ((agree_to_same p 1 (e i l)).at_low (unit_of j) (omega (arith, order-unit j)))
    inside i j (no l) = rw (le-ltb i v (omega arith))

module _ {p : ℕ} (h : Prime p) (v : ℕ) (few : v ≤ 8) where
  pub linear_part-identity : (i j : ℕ) → i < v → j < v
      → element (linear_part p v identity) i j ≡ element (identity_matrix v) i j
  linear_part-identity i j li lj =
      linear_part-element p v few identity i j li lj
      ∙ mod-cong p (coefficient-variable j i ∙ unit-sym j i)
      ∙ mod-eq_of_lt (unit-below h i j)
      ∙ sym (identity_matrix-element v i j li lj)

  module _ (f g : Map) (w : (i : ℕ) → i < v → Within v (f i)) (o : OriginFixing p g) where
    pub linear_part-compose : (i j : ℕ) → i < v → j < v
        → element (linear_part p v (compose f g)) i j
        ≡ element (product p v (linear_part p v f) (linear_part p v g)) i j
    unfolding compose
    linear_part-compose i j li lj =
        linear_part-element p v few (compose f g) i j li lj
        ∙ linear-substitute p v (f i) g (w i li) o j
        ∙ below-mod p v _ _
        (λ k lk. mod-* p (linear (f i) k) _ _ _ (linear_part-residue p v few f i k li lk)
        (linear_part-residue p v few g k j lk lj))
        ∙ sym (times_below p v (element (linear_part p v f) i) (linear_part p v g) j)
        ∙ sym (product-element p v (linear_part p v f) (linear_part p v g) i j li lj)

    pub determinant-compose :
        determinant_of p v (compose f g) ≡ (determinant_of p v f * determinant_of p v g) % p
    unfolding determinant_of
    determinant-compose =
        determinant-congruent h v (linear_part p v (compose f g))
        (product p v (linear_part p v f) (linear_part p v g))
        (λ i j li lj. mod-cong p (linear_part-compose i j li lj))
        ∙ determinant-product h v (linear_part p v f) (linear_part p v g)

-- ---- refusal 9

module _ (p n v : ℕ) (w : List ℕ) where
  abbrev d : ℕ
  d = determinant_of p v (map_of n v w)

  pub singular_to_declined : determinant_of p v (map_of n v w) ≡ 0
      → singular_check p n v w ≡ declined 9 (0 ∷ [])
  unfolding singular_check
  singular_to_declined e = ap (λ (b : Bool). unless (not b) 9 (0 ∷ [])) (eq-eqb d 0 e)

  pub regular_to_passed : (determinant_of p v (map_of n v w) ≡ 0 → ⊥) → singular_check p n v w ≡ passed
  unfolding singular_check
  regular_to_passed e = ap (λ (b : Bool). unless (not b) 9 (0 ∷ [])) (ne_eqb d 0 e)

  pub passed_to_regular : singular_check p n v w ≡ passed → determinant_of p v (map_of n v w) ≡ 0 → ⊥
  passed_to_regular e z = declined_not_passed (sym (singular_to_declined z) ∙ e)
