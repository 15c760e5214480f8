-- Below order 2 a polynomial is its constant and its linear part: a monomial of order at most 1 is
-- the constant's or one variable. So with an origin-fixing map substituted it is, below order 2,
-- the same combination of the map's components.
use Rattle.std.proofs.Common.{◌≡◌, refl, sym, ap, ap₂, ◌∙◌, ◌⊎◌, inl, inr, List, [], ◌∷◌, ℕ, zero, suc, ◌+◌, ◌*◌, ◌%◌, ◌≤◌, ◌<◌, mul_comm, mul-zero, mul-one, arith, T, length}
use Rattle.std.proofs.Math.Decide.{ℕ_discrete}
use Rattle.algebra.specs.Polynomial.{Monomial, Polynomial, order, trim_cons, trim, same, indicator}
use Rattle.algebra.specs.Polynomial.{coefficient_of, constant, add}
use Rattle.algebra.specs.Substitution.{Map, substitute, unit_of, variable}
use Rattle.algebra.specs.Agreement.{Agree, OriginFixing, Within}
use Rattle.algebra.proofs.Booleans.{indicator-yes, indicator-no}
use Rattle.algebra.proofs.Monomials.{order-unit, unit-inj}
use Rattle.algebra.proofs.Trim.{trim-unit, trim-order_zero, same_to_trim, trim_to_same, same-order}
use Rattle.algebra.proofs.Trim.{same_refl}
use Rattle.algebra.proofs.Weigh.{weigh-constant, weigh-variable, coefficient-add, coefficient-same}
use Rattle.algebra.proofs.Ring.{add_cong}
use Rattle.algebra.proofs.Substitute.{substitute-add, substitute-constant}
use Rattle.algebra.proofs.Within.{within_add, within_constant, within_variable}
use Rattle.algebra.proofs.Modulo.{mod-cong}
use Rattle.algebra.proofs.Agreement.{agree_sym, agree_trans, agree_exact}
use Rattle.algebra.proofs.Truncation.{agree_substitute}
use Rattle.algebra.proofs.Coefficients.{agree_on, agree_to_same, same_to_agree}
use Rattle.algebra.proofs.Enumerate.{all_monomials, all_monomials-enumerates}
use Rattle.algebra.proofs.Represent.{covers_within}
use Rattle.linear.specs.Matrix.{range, unit}
use Rattle.linear.proofs.Squares.{unit-same, unit-other}
use Rattle.algebra.proofs.Sums.{sum-cong}
use Rattle.inversion.specs.Turn.{combination}
use Rattle.inversion.proofs.Sums.{below, below_none, below-unit}
use Rattle.inversion.proofs.Combination.{coefficient-combination, within_combination}
use Rattle.inversion.proofs.Combination.{substitute-combination}

-- ---- monomials of order at most 1

trim_cons-unit : (j : ℕ) → trim_cons 0 (unit_of j) ≡ unit_of (suc j)
unfolding trim_cons unit_of
trim_cons-unit zero = refl
trim_cons-unit (suc j) = refl

abbrev EmptyOrUnit : ℕ → Monomial → Type 0
EmptyOrUnit v e = (trim e ≡ []) ⊎ ((j : ℕ) × (j < v) × (trim e ≡ unit_of j))

pub empty_or_unit : (v : ℕ) (e : Monomial) → length e ≤ v → order e ≤ 1
    → (trim e ≡ []) ⊎ ((j : ℕ) × (j < v) × (trim e ≡ unit_of j))
unfolding trim trim_cons unit_of order
empty_or_unit v [] l h = inl refl
empty_or_unit zero (x ∷ e) l h = absurd (omega arith)
empty_or_unit (suc v) (zero ∷ e) l h = go (empty_or_unit v e (omega arith) (omega arith))
  where
    go : EmptyOrUnit v e → EmptyOrUnit (suc v) (0 ∷ e)
    go (inl q) = inl (ap (trim_cons 0) q)
    go (inr s) =
        inr (suc s.0, omega (arith, s.1), ap (trim_cons 0) s.2 ∙ trim_cons-unit s.0)
empty_or_unit (suc v) (suc zero ∷ e) l h =
    inr (0, omega arith, ap (trim_cons 1) (trim-order_zero e (omega arith)))
empty_or_unit (suc v) (suc (suc x) ∷ e) l h = absurd (omega arith)

-- ---- coefficients of constants and variables

-- the monomial of a variable is not that of the constant
unit-empty : (j : ℕ) → T (same (unit_of j) []) → ⊥
unfolding order
unit-empty j t = omega (arith, same-order (unit_of j) [] t, order-unit j)

empty_unit : (j : ℕ) → T (same [] (unit_of j)) → ⊥
unfolding order
empty_unit j t = omega (arith, same-order [] (unit_of j) t, order-unit j)

same_units : (i j : ℕ) → T (same (unit_of i) (unit_of j)) → i ≡ j
same_units i j t =
    unit-inj i j (sym (trim-unit i) ∙ same_to_trim (unit_of i) (unit_of j) t ∙ trim-unit j)

pub coefficient-variable : (i j : ℕ) → coefficient_of (unit_of i) (variable j) ≡ unit i j
unfolding coefficient_of
coefficient-variable i j = weigh-variable j _ ∙ go (ℕ_discrete i j)
  where
    go : Dec (i ≡ j) → indicator (same (unit_of i) (unit_of j)) ≡ unit i j
    go (yes e) =
        indicator-yes (same (unit_of i) (unit_of j)) (rw e (same_refl (unit_of j)))
        ∙ sym (unit-same i j e)
    go (no n) =
        indicator-no (same (unit_of i) (unit_of j)) (λ t. n (same_units i j t))
        ∙ sym (unit-other i j n)

pub unit-sym : (i j : ℕ) → unit i j ≡ unit j i
unit-sym i j = go (ℕ_discrete i j)
  where
    go : Dec (i ≡ j) → unit i j ≡ unit j i
    go (yes e) = unit-same i j e ∙ sym (unit-same j i (sym e))
    go (no n) = unit-other i j n ∙ sym (unit-other j i (λ e. n (sym e)))

variable-no_constant : (j : ℕ) → coefficient_of [] (variable j) ≡ 0
unfolding coefficient_of
variable-no_constant j = weigh-variable j _ ∙ indicator-no (same [] (unit_of j)) (empty_unit j)

constant-is : (c : ℕ) → coefficient_of [] (constant c) ≡ c
unfolding coefficient_of
constant-is c =
    weigh-constant c _
    ∙ ap (λ (x : ℕ). c * x) (indicator-yes (same [] []) (same_refl []))
    ∙ mul-one c

pub constant-no_variable : (i c : ℕ) → coefficient_of (unit_of i) (constant c) ≡ 0
unfolding coefficient_of
constant-no_variable i c =
    weigh-constant c _
    ∙ ap (λ (x : ℕ). c * x) (indicator-no (same (unit_of i) []) (unit-empty i))
    ∙ mul-zero c

-- ---- the constant and the linear part

-- the coefficients of the variables
abbrev pub linear : Polynomial → ℕ → ℕ
linear P j = coefficient_of (unit_of j) P

unfoldable pub affine_part : ℕ → Polynomial → Polynomial
affine_part v P = add (constant (coefficient_of [] P)) (combination v (linear P) variable)

module _ (v : ℕ) (P : Polynomial) where
  within_affine : Within v (affine_part v P)
  unfolding affine_part
  within_affine =
      within_add v (constant (coefficient_of [] P)) (combination v (linear P) variable)
      (within_constant v (coefficient_of [] P))
      (within_combination v v (linear P) variable (λ j l. within_variable v j l))

  affine_constant : coefficient_of [] (affine_part v P) ≡ coefficient_of [] P
  unfolding affine_part
  affine_constant =
      coefficient-add [] (constant (coefficient_of [] P)) (combination v (linear P) variable)
      ∙ ap₂ ◌+◌ (constant-is (coefficient_of [] P))
      (coefficient-combination [] v (linear P) variable
      ∙ below_none v _
      (λ j l. ap (λ (x : ℕ). linear P j * x) (variable-no_constant j) ∙ mul-zero (linear P j)))
      ∙ omega arith

  affine_variable : (i : ℕ) → i < v → linear (affine_part v P) i ≡ linear P i
  unfolding affine_part
  affine_variable i l =
      coefficient-add (unit_of i) (constant (coefficient_of [] P)) (combination v (linear P) variable)
      ∙ ap₂ ◌+◌ (constant-no_variable i (coefficient_of [] P))
      (coefficient-combination (unit_of i) v (linear P) variable
      ∙ sum-cong (range 0 v)
      (λ j.
      ap (λ (x : ℕ). linear P j * x) (coefficient-variable i j) ∙ mul_comm (linear P j) (unit i j))
      ∙ below-unit v i (linear P) l)
      ∙ omega arith

  pub affine_agrees : (p : ℕ) → Within v P → Agree p 2 P (affine_part v P)
  affine_agrees p w =
      let s : List Monomial = all_monomials v 1 in
      let E = all_monomials-enumerates v 1 in
      agree_on p 1 s (covers_within p v 1 s E P w) (covers_within p v 1 s E _ within_affine)
      (λ m u l. mod-cong p (by_kind m (empty_or_unit v m (omega (arith, E.sized m u)) l)))
    where
      moved : (m d : Monomial) → trim m ≡ trim d
          → coefficient_of d (affine_part v P) ≡ coefficient_of d P
          → coefficient_of m P ≡ coefficient_of m (affine_part v P)
      moved m d e h =
          let t : T (same m d) = trim_to_same m d e in
          coefficient-same m d P t ∙ sym h ∙ sym (coefficient-same m d (affine_part v P) t)

      by_kind : (m : Monomial) → EmptyOrUnit v m
          → coefficient_of m P ≡ coefficient_of m (affine_part v P)
      by_kind m (inl e) = moved m [] (unfold trim in e) affine_constant
      by_kind m (inr s) =
          moved m (unit_of s.0) (s.2 ∙ sym (trim-unit s.0)) (affine_variable s.0 s.1)

-- ---- a map substituted

-- below order 1 a polynomial is its constant
low-constant : (p : ℕ) (P : Polynomial) → Agree p 1 P (constant (coefficient_of [] P))
unfolding trim
low-constant p P =
    same_to_agree p 0
    (record {
      at_low = λ m l.
          let c : Polynomial = constant (coefficient_of [] P) in
          let t : T (same m []) = trim_to_same m [] (trim-order_zero m l) in
          mod-cong p
          (coefficient-same m [] P t
          ∙ sym (constant-is (coefficient_of [] P))
          ∙ sym (coefficient-same m [] c t));
    })

-- and an origin-fixing map leaves it
pub substitute-low : (p : ℕ) (P : Polynomial) (g : Map) → OriginFixing p g
    → Agree p 1 (substitute P g) P
substitute-low p P g o =
    agree_trans p (agree_substitute p g o (low-constant p P))
    (agree_trans p (agree_exact p _ _ (substitute-constant (coefficient_of [] P) g))
    (agree_sym p (low-constant p P)))

module _ (p v : ℕ) (P : Polynomial) (g : Map) (w : Within v P) (o : OriginFixing p g) where
  pub substitute-affine :
      Agree p 2 (substitute P g) (add (constant (coefficient_of [] P)) (combination v (linear P) g))
  unfolding affine_part
  substitute-affine =
      let c : Polynomial = constant (coefficient_of [] P) in
      agree_trans p (agree_substitute p g o (affine_agrees v P p w))
      (agree_exact p _ _
      (substitute-add c (combination v (linear P) variable) g
      ∙ add_cong (substitute c g) c _ _ (substitute-constant (coefficient_of [] P) g)
      (substitute-combination v (linear P) g)))

  -- the coefficients of the variables: a row times a matrix
  pub linear-substitute : (i : ℕ)
      → linear (substitute P g) i % p ≡ below v (λ j. linear P j * linear (g j) i) % p
  linear-substitute i =
      let c : Polynomial = constant (coefficient_of [] P) in
      (agree_to_same p 1 substitute-affine).at_low (unit_of i) (omega (arith, order-unit i))
      ∙ mod-cong p
      (coefficient-add (unit_of i) c (combination v (linear P) g)
      ∙ ap₂ ◌+◌ (constant-no_variable i (coefficient_of [] P))
      (coefficient-combination (unit_of i) v (linear P) g)
      ∙ omega arith)
