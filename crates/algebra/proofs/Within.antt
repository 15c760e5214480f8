-- The operations keep within v variables.
use Rattle.std.proofs.Common.{ℕ, zero, suc, ◌≤◌, ◌<◌, [], ◌∷◌, map, arith, length}
use Rattle.algebra.specs.Polynomial.{Monomial, Term, Polynomial, constant, add, scale}
use Rattle.algebra.specs.Polynomial.{difference, times_term, mul, power, add_below, derivative}
use Rattle.algebra.specs.Polynomial.{pair_bracket, bracket}
use Rattle.algebra.specs.Substitution.{Map, monomial_product, extend, substitute, compose}
use Rattle.algebra.specs.Substitution.{variable}
use Rattle.algebra.specs.Agreement.{Within}
use Rattle.algebra.proofs.Monomials.{length-⊕, length-lower, length-unit}

module _ (v : ℕ) where
  pub within_constant : (c : ℕ) → Within v (constant c)
  unfolding constant
  within_constant c = (omega arith, tt)

  pub within_variable : (i : ℕ) → i < v → Within v (variable i)
  unfolding variable
  within_variable i h = (omega (arith, length-unit i), tt)

  pub within_add : (P Q : Polynomial) → Within v P → Within v Q → Within v (add P Q)
  within_add [] Q g h = h
  within_add (t ∷ P) Q g h = (g.0, within_add P Q g.1 h)

  pub within_scale : (c : ℕ) (P : Polynomial) → Within v P → Within v (scale c P)
  unfolding scale
  within_scale c [] g = tt
  within_scale c (t ∷ P) g = (g.0, within_scale c P g.1)

  pub within_difference : (p : ℕ) (P Q : Polynomial) → Within v P → Within v Q
      → Within v (difference p P Q)
  unfolding difference
  within_difference p P Q g h = within_add P _ g (within_scale _ Q h)

  within_term : (t : Term) (Q : Polynomial) → length t.exponents ≤ v → Within v Q
      → Within v (map (times_term t) Q)
  unfolding times_term
  within_term t [] l h = tt
  within_term t (s ∷ Q) l h =
      (length-⊕ v t.exponents s.exponents l h.0, within_term t Q l h.1)

  pub within_mul : (P Q : Polynomial) → Within v P → Within v Q → Within v (mul P Q)
  unfolding mul
  within_mul [] Q g h = tt
  within_mul (t ∷ P) Q g h =
      within_add (map (times_term t) Q) (mul P Q) (within_term t Q g.0 h)
      (within_mul P Q g.1 h)

  pub within_power : (P : Polynomial) → Within v P → (k : ℕ) → Within v (power P k)
  unfolding power
  within_power P h zero = within_constant 1
  within_power P h (suc k) = within_mul P (power P k) h (within_power P h k)

  pub within_below : (h : ℕ) (F : ℕ → Polynomial) → ((i : ℕ) → i < h → Within v (F i))
      → Within v (add_below h F)
  unfolding add_below
  within_below zero F w = tt
  within_below (suc h) F w =
      within_add (add_below h F) (F h) (within_below h F (λ i l. w i (omega arith)))
      (w h (omega arith))

  pub within_derivative : (i : ℕ) (P : Polynomial) → Within v P → Within v (derivative i P)
  unfolding derivative
  within_derivative i [] g = tt
  within_derivative i (t ∷ P) g =
      (omega (arith, length-lower i t.exponents, g.0), within_derivative i P g.1)

  pub within_bracket : (p h : ℕ) (P Q : Polynomial) → Within v P → Within v Q
      → Within v (bracket p h P Q)
  unfolding bracket pair_bracket
  within_bracket p h P Q g k =
      within_below h _
      (λ i l.
      within_difference p _ _
      (within_mul _ _ (within_derivative _ P g) (within_derivative _ Q k))
      (within_mul _ _ (within_derivative _ P g) (within_derivative _ Q k)))

  -- ---- substitution: of the map only the components of variables that occur matter

  pub within_monomial_product : (u : ℕ) (f : Map) → ((i : ℕ) → i < u → Within v (f i))
      → (e : Monomial) → length e ≤ u → Within v (monomial_product f e)
  unfolding monomial_product
  within_monomial_product u f h [] l = within_constant 1
  within_monomial_product zero f h (k ∷ e) l = absurd (omega arith)
  within_monomial_product (suc u) f h (k ∷ e) l =
      within_mul (power (f 0) k) (monomial_product (λ i. f (suc i)) e)
      (within_power (f 0) (h 0 (omega arith)) k)
      (within_monomial_product u (λ i. f (suc i)) (λ i m. h (suc i) (omega arith)) e (omega arith))

  pub within_substitute : (u : ℕ) (P : Polynomial) (f : Map) → Within u P
      → ((i : ℕ) → i < u → Within v (f i)) → Within v (substitute P f)
  unfolding substitute extend
  within_substitute u [] f w h = tt
  within_substitute u (t ∷ P) f w h =
      within_add (scale t.coefficient (monomial_product f t.exponents)) (substitute P f)
      (within_scale t.coefficient (monomial_product f t.exponents)
      (within_monomial_product u f h t.exponents w.0))
      (within_substitute u P f w.1 h)

  pub within_compose : (u : ℕ) (f g : Map) (i : ℕ) → Within u (f i)
      → ((j : ℕ) → j < u → Within v (g j)) → Within v (compose f g i)
  unfolding compose
  within_compose u f g i w h = within_substitute u (f i) g w h
