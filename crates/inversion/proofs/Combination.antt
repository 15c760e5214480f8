-- A combination of the components of a map weighs the combination of what they weigh, so its laws
-- are those of sums below v.
use Rattle.std.proofs.Common.{◌≡◌, refl, sym, ap, ◌∙◌, [], ℕ, zero, suc, ◌+◌, ◌*◌, ◌%◌, ◌<◌, mul-zero}
use Rattle.std.proofs.Math.Path.{fun_ext}
use Rattle.algebra.specs.Polynomial.{Monomial, Polynomial, weigh, coefficient_of, scale, add_below}
use Rattle.algebra.specs.Substitution.{Map, monomial_product, substitute, variable}
use Rattle.algebra.specs.Agreement.{Agree, FromOrder, Within, ◌≐◌}
use Rattle.algebra.proofs.Sums.{sum-cong}
use Rattle.algebra.proofs.Weigh.{weigh-nil, weigh-add, weigh-scale, weigh-extend}
use Rattle.algebra.proofs.Ring.{at}
use Rattle.algebra.proofs.Substitute.{substitute-variable}
use Rattle.algebra.proofs.Within.{within_below, within_scale}
use Rattle.algebra.proofs.Modulo.{mod-cong, mod-*}
use Rattle.algebra.proofs.Agreement.{agree_trans}
use Rattle.linear.specs.Matrix.{Matrix, element, range, product, identity_matrix}
use Rattle.inversion.specs.Turn.{combination}
use Rattle.inversion.proofs.Sums.{below, below-mod, below_none, below-zero, below_suc}
use Rattle.inversion.proofs.Sums.{undone}

weigh-add_below : (v : ℕ) (F : ℕ → Polynomial) (φ : Monomial → ℕ)
    → weigh (add_below v F) φ ≡ below v (λ j. weigh (F j) φ)
unfolding add_below
weigh-add_below zero F φ = weigh-nil φ ∙ sym (below-zero (λ j. weigh (F j) φ))
weigh-add_below (suc v) F φ =
    weigh-add (add_below v F) (F v) φ
    ∙ ap (λ (x : ℕ). x + weigh (F v) φ) (weigh-add_below v F φ)
    ∙ sym (below_suc v (λ j. weigh (F j) φ))

pub weigh-combination : (v : ℕ) (a : ℕ → ℕ) (h : Map) (φ : Monomial → ℕ)
    → weigh (combination v a h) φ ≡ below v (λ j. a j * weigh (h j) φ)
unfolding combination
weigh-combination v a h φ =
    weigh-add_below v (λ j. scale (a j) (h j)) φ
    ∙ sum-cong (range 0 v) (λ j. weigh-scale (a j) (h j) φ)

pub coefficient-combination : (m : Monomial) (v : ℕ) (a : ℕ → ℕ) (h : Map)
    → coefficient_of m (combination v a h) ≡ below v (λ j. a j * coefficient_of m (h j))
unfolding coefficient_of
coefficient-combination m v a h = weigh-combination v a h _

pub within_combination : (v u : ℕ) (a : ℕ → ℕ) (h : Map) → ((j : ℕ) → j < v → Within u (h j))
    → Within u (combination v a h)
unfolding combination
within_combination v u a h w = within_below u v _ (λ j l. within_scale u (a j) (h j) (w j l))

pub substitute-combination : (v : ℕ) (a : ℕ → ℕ) (g : Map)
    → substitute (combination v a variable) g ≐ combination v a g
unfolding substitute
substitute-combination v a g =
    fun_ext
    (λ φ.
    weigh-extend (monomial_product g) (combination v a variable) φ
    ∙ weigh-combination v a variable (λ e. weigh (monomial_product g e) φ)
    ∙ sum-cong (range 0 v)
    (λ j.
    ap (λ (x : ℕ). a j * x)
    (sym (weigh-extend (monomial_product g) (variable j) φ) ∙ at φ (substitute-variable j g)))
    ∙ sym (weigh-combination v a g φ))

module _ (p : ℕ) {k : ℕ} (v : ℕ) where
  pub agree_combination : (a b : ℕ → ℕ) (g h : Map) → ((j : ℕ) → j < v → a j % p ≡ b j % p)
      → ((j : ℕ) → j < v → Agree p k (g j) (h j))
      → Agree p k (combination v a g) (combination v b h)
  agree_combination a b g h c e =
      record {
        tested = λ φ t.
            rw (weigh-combination v a g φ, weigh-combination v b h φ)
            (below-mod p v _ _ (λ j l. mod-* p (a j) (b j) _ _ (c j l) ((e j l).tested φ t)));
      }

  pub from-combination : (a : ℕ → ℕ) (h : Map) → ((j : ℕ) → j < v → FromOrder p k (h j))
      → FromOrder p k (combination v a h)
  from-combination a h e =
      agree_trans p (agree_combination a a h (λ j. []) (λ j l. refl) e)
      (record {
        tested = λ φ t.
            mod-cong p
            (weigh-combination v a (λ j. []) φ
            ∙ below_none v _ (λ j l. ap (λ (x : ℕ). a j * x) (weigh-nil φ) ∙ mul-zero (a j))
            ∙ sym (weigh-nil φ));
      })

  -- a matrix times its inverse gives every component back
  pub combination-undone : (m n : Matrix) → product p v m n ≡ identity_matrix v
      → (h : Map) (i : ℕ) → i < v
      → Agree p k (combination v (element m i) (λ j. combination v (element n j) h)) (h i)
  combination-undone m n e h i l =
      record {
        tested = λ φ t.
            mod-cong p
            (weigh-combination v (element m i) (λ j. combination v (element n j) h) φ
            ∙ sum-cong (range 0 v)
            (λ j. ap (λ (x : ℕ). element m i j * x) (weigh-combination v (element n j) h φ)))
            ∙ undone p v m n e (λ j. weigh (h j) φ) i l;
      }
