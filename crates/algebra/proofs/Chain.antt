-- The chain rule: by the product and power rules at each monomial, and then over the terms.
use Rattle.std.proofs.Common.{ℕ, zero, suc, pred, ◌≤◌, refl, sym, ◌∙◌, [], ◌∷◌, arith, length}
use Rattle.std.proofs.Math.Path.{fun_ext}
use Rattle.algebra.specs.Polynomial.{Monomial, Polynomial, exponent, scale, mul, power}
use Rattle.algebra.specs.Polynomial.{add_below, lower, derivative}
use Rattle.algebra.specs.Substitution.{Map, monomial_product, substitute}
use Rattle.algebra.specs.Agreement.{Within, ◌≐◌}
use Rattle.algebra.proofs.Weigh.{weigh-cong_within, weigh-scale, weigh-mul, weigh-derivative}
use Rattle.algebra.proofs.Weigh.{weigh-extend}
use Rattle.algebra.proofs.Ring.{at, ring-laws, add_cong, mul-cong, zero-scale}
use Rattle.algebra.proofs.Below.{below-cong, below-nil, below-mul, below-extend, below-first}
use Rattle.algebra.proofs.Derivative.{derivative-constant, derivative-mul, derivative-power}

-- what variable i of the monomial e gives
unfoldable pub chain_term : ℕ → Map → Monomial → ℕ → Polynomial
chain_term k f e i =
    scale (exponent i e) (mul (monomial_product f (lower i e)) (derivative k (f i)))

chain_monomial : (k : ℕ) (f : Map) (e : Monomial) (v : ℕ) → length e ≤ v
    → derivative k (monomial_product f e) ≐ add_below v (chain_term k f e)
unfolding monomial_product exponent lower chain_term
chain_monomial k f [] v l =
    derivative-constant k 1
    ∙ sym (below-cong v _ _ (λ i. zero-scale _) ∙ below-nil v)
chain_monomial k f (j ∷ e) zero l = absurd (omega arith)
chain_monomial k f (j ∷ e) (suc v) l =
    derivative-mul k P M
    ∙ add_cong _ _ _ _ first (rest (chain_monomial k g e v (omega arith)))
    ∙ sym (below-first v (chain_term k f (j ∷ e)))
  where
    g : Map
    g i = f (suc i)

    P : Polynomial
    P = power (f 0) j

    M : Polynomial
    M = monomial_product g e

    first : mul (derivative k P) M
        ≐ scale j (mul (mul (power (f 0) (pred j)) M) (derivative k (f 0)))
    first = simp (ring-laws, derivative-power)

    rest : derivative k M ≐ add_below v (chain_term k g e)
        → mul P (derivative k M) ≐ add_below v (λ i. chain_term k f (j ∷ e) (suc i))
    rest h =
        mul-cong P P _ _ refl h
        ∙ sym (below-mul v P (chain_term k g e))
        ∙ below-cong v _ _ (λ i. simp ring-laws)

pub chain_rule : (k : ℕ) (P : Polynomial) (f : Map) (v : ℕ) → Within v P
    → derivative k (substitute P f)
    ≐ add_below v (λ i. mul (substitute (derivative i P) f) (derivative k (f i)))
unfolding substitute chain_term
chain_rule k P f v w =
    fun_ext
    (λ φ.
    simp (weigh-derivative, weigh-extend) (weigh-cong_within v P w _ _
    (λ e l. sym (weigh-derivative k (monomial_product f e) φ)
    ∙ at φ (chain_monomial k f e v l)))
    ∙ sym (weigh-extend (λ e. add_below v (chain_term k f e)) P φ))
    ∙ sym (below-extend v (λ i e. chain_term k f e i) P)
    ∙ below-cong v _ _
    (λ i. fun_ext (λ φ. simp (weigh-mul, weigh-extend, weigh-derivative, weigh-scale)))
