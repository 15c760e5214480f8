-- One turn of the inversion. Where f ∘ g agrees with the identity below order k + 1, what it lacks,
-- d = identity − f ∘ g, begins at order k + 1. So f ∘ (g + M d) is f ∘ g + L (M d) below order
-- k + 2, L the linear part of f, and with L M = 1 that is the identity.
use Rattle.std.proofs.Common.{◌≡◌, refl, sym, ap, ◌∙◌, [], ℕ, suc, ◌+◌, ◌-◌, ◌*◌, ◌≤◌, ◌<◌, arith}
use Rattle.algebra.specs.Polynomial.{Monomial, Polynomial, weigh, coefficient_of, constant, add}
use Rattle.algebra.specs.Polynomial.{difference}
use Rattle.algebra.specs.Substitution.{Map, substitute, compose, variable}
use Rattle.algebra.specs.Agreement.{Agree, AgreeMap, FromOrder, OriginFixing, Within}
use Rattle.algebra.proofs.Sums.{sum-cong}
use Rattle.algebra.proofs.Weigh.{weigh-nil, weigh-add, weigh-difference, weigh-constant}
use Rattle.algebra.proofs.Weigh.{coefficient-add, coefficient-difference}
use Rattle.algebra.proofs.Ring.{add-zero}
use Rattle.algebra.proofs.Within.{within_add, within_difference, within_variable}
use Rattle.algebra.proofs.Modulo.{mod-cong, mod-+, mod-zero_left, negate_mod}
use Rattle.algebra.proofs.Agreement.{agree_refl, agree_sym, agree_trans, agree_exact, agree_down}
use Rattle.algebra.proofs.Agreement.{agree_add, agree_difference, agree_to_difference, add-difference}
use Rattle.algebra.proofs.Truncation.{from-add, from-variable, agree_substitute_below}
use Rattle.algebra.proofs.Origin.{origin_from}
use Rattle.linear.specs.Matrix.{Matrix, element, range, product, identity_matrix}
use Rattle.inversion.specs.Linear.{linear_part}
use Rattle.inversion.specs.Undoing.{Fixing, UndoesBefore}
use Rattle.inversion.specs.Turn.{combination, linear_map, turn}
use Rattle.inversion.proofs.Sums.{below}
use Rattle.inversion.proofs.Combination.{coefficient-combination, within_combination}
use Rattle.inversion.proofs.Combination.{agree_combination, from-combination}
use Rattle.inversion.proofs.Combination.{combination-undone}
use Rattle.inversion.proofs.Affine.{linear, substitute-affine}
use Rattle.inversion.proofs.LinearPart.{linear_part-residue}
use Rattle.inversion.proofs.Expansion.{substitute-difference}

-- a sum less its first part
add-less : (p : ℕ) {k : ℕ} (P Q : Polynomial) → 0 < p → Agree p k (difference p (add P Q) P) Q
add-less p P Q pos =
    record {
      tested = λ φ t.
          let a : ℕ = weigh P φ in
          let b : ℕ = weigh Q φ in
          mod-cong p
          (weigh-difference p (add P Q) P φ
          ∙ ap (λ (x : ℕ). x + (p - 1) * a) (weigh-add P Q φ)
          ∙ regroup a b ((p - 1) * a))
          ∙ mod-+ p b b _ 0 refl (negate_mod p a pos)
          ∙ mod-cong p (omega arith);
    }
  where
    regroup : (a b c : ℕ) → a + b + c ≡ b + (a + c)
    regroup a b c = omega arith

module _ (p v : ℕ) (pos : 0 < p) (few : v ≤ 8) (f : Map) (F : Fixing p v f) (m : Matrix)
    (right : product p v (linear_part p v f) m ≡ identity_matrix v) where
  -- what f ∘ g lacks
  abbrev lack : Map → Map
  lack h j = difference p (variable j) (h j)

  -- the linear part of f, of m times anything, is that thing
  restored : {k : ℕ} (h : Map) (i : ℕ) → i < v
      → Agree p k (combination v (linear (f i)) (λ j. combination v (element m j) h)) (h i)
  restored h i l =
      agree_trans p
      (agree_combination p v (linear (f i)) (element (linear_part p v f) i) _ _
      (λ j lj. linear_part-residue p v few f i j l lj) (λ j lj. agree_refl p _))
      (combination-undone p v (linear_part p v f) m right h i l)

  -- ---- the start

  pub linear_map-fixing : Fixing p v (linear_map v m)
  unfolding linear_map
  linear_map-fixing = record {
    origin = λ i. from-combination p v (element m i) variable (λ j l. from-variable p j);
    within = λ i l. within_combination v v (element m i) variable (λ j lj. within_variable v j lj);
  }

  pub linear_map-undoes : UndoesBefore p 1 v f (linear_map v m)
  unfolding compose linear_map
  linear_map-undoes = record {
    component = λ i l.
        agree_trans p
        (substitute-affine p v (f i) (linear_map v m) (F.within i l) linear_map-fixing.origin)
        (agree_trans p (agree_add p (constant-none i) (agree_refl p _)) (restored variable i l));
  }
    where
      constant-none : (i : ℕ) → Agree p 2 (constant (coefficient_of [] (f i))) []
      constant-none i =
          record {
            tested = λ φ t.
                mod-cong p (weigh-constant (coefficient_of [] (f i)) φ)
                ∙ mod-zero_left p _ (φ []) (origin_from p (f i) (F.origin i))
                ∙ mod-cong p (sym (weigh-nil φ));
          }

  -- ---- one turn

  module _ (k : ℕ) (g : Map) (o : OriginFixing p g) (h : UndoesBefore p k v f g) where
    -- what the turn adds
    gain : Map
    gain i = combination v (element m i) (lack (compose f g))

    gain_from : (i : ℕ) → FromOrder p (suc k) (gain i)
    unfolding gain
    gain_from i =
        from-combination p v (element m i) (lack (compose f g))
        (λ j l. agree_to_difference p pos (agree_sym p (h.component j l)))

    pub turn-close : AgreeMap p (suc k) (turn p v m g (compose f g)) g
    unfolding turn gain
    turn-close i =
        agree_trans p (agree_add p (agree_refl p (g i)) (gain_from i))
        (agree_exact p _ _ (add-zero (g i)))

    pub turn-origin : OriginFixing p (turn p v m g (compose f g))
    unfolding turn gain
    turn-origin i = from-add p (o i) (agree_down p (omega arith) (gain_from i))

    pub turn-undoes : UndoesBefore p (suc k) v f (turn p v m g (compose f g))
    unfolding compose turn gain
    turn-undoes = record {
      component = λ i l.
          let P : Polynomial = substitute (f i) (turn p v m g (compose f g)) in
          let Q : Polynomial = substitute (f i) g in
          agree_trans p (agree_sym p (add-difference p P Q pos))
          (agree_trans p
          (agree_add p (agree_refl p Q)
          (agree_trans p
          (substitute-difference p k v pos (turn p v m g (compose f g)) g turn-origin o turn-close
          (f i) (F.within i l))
          (agree_trans p
          (agree_combination p v (linear (f i)) (linear (f i)) _ gain (λ j lj. refl)
          (λ j lj. add-less p (g j) (gain j) pos))
          (restored (lack (compose f g)) i l))))
          (add-difference p (variable i) Q pos));
    }

    -- ---- the turn as code makes it: the composition cut at order k + 1, and the result too

    module _ (c g' : Map)
        (cut : (j : ℕ) → j < v → Agree p (suc (suc k)) (c j) (compose f g j))
        (made : (i : ℕ) → i < v → Agree p (suc (suc k)) (g' i) (turn p v m g c i)) where
      made-whole : (i : ℕ) → i < v
          → Agree p (suc (suc k)) (g' i) (turn p v m g (compose f g) i)
      unfolding turn
      made-whole i l =
          agree_trans p (made i l)
          (agree_add p (agree_refl p (g i))
          (agree_combination p v (element m i) (element m i) _ _ (λ j lj. refl)
          (λ j lj. agree_difference p (agree_refl p (variable j)) (cut j lj))))

      pub turned_from : (i : ℕ) → i < v → FromOrder p 1 (g' i)
      turned_from i l =
          agree_trans p (agree_down p (omega arith) (made-whole i l)) (turn-origin i)

      pub turned_undoes : UndoesBefore p (suc k) v f g'
      unfolding compose
      turned_undoes = record {
        component = λ i l.
            agree_trans p
            (agree_substitute_below p v (f i) g' _ (F.within i l) made-whole)
            (turn-undoes.component i l);
      }

-- ---- the turn at one monomial

pub coefficient-turn : (p v : ℕ) (m : Matrix) (g h : Map) (i : ℕ) (e : Monomial)
    → coefficient_of e (turn p v m g h i)
    ≡ coefficient_of e (g i)
    + below v (λ j. element m i j * (coefficient_of e (variable j) + (p - 1) * coefficient_of e (h j)))
unfolding turn
coefficient-turn p v m g h i e =
    coefficient-add e (g i) _
    ∙ ap (λ (x : ℕ). coefficient_of e (g i) + x)
    (coefficient-combination e v (element m i) (λ j. difference p (variable j) (h j))
    ∙ sum-cong (range 0 v)
    (λ j. ap (λ (x : ℕ). element m i j * x) (coefficient-difference e p (variable j) (h j))))

pub within_turn : (p v : ℕ) (m : Matrix) (g h : Map) (i : ℕ) → Within v (g i)
    → ((j : ℕ) → j < v → Within v (h j)) → Within v (turn p v m g h i)
unfolding turn
within_turn p v m g h i w u =
    within_add v (g i) _ w
    (within_combination v v (element m i) _
    (λ j l. within_difference v p (variable j) (h j) (within_variable v j l) (u j l)))
