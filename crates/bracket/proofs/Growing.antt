-- Sums that grow by the coefficients of a polynomial, modulo p: by nothing, by one after another,
-- and by one that agrees with another up to order n.
use Rattle.std.proofs.Common.{◌≡◌, refl, ◌∙◌, List, [], ℕ, suc, ◌+◌, ◌*◌, ◌≤◌, ◌<◌, arith}
use Rattle.algebra.specs.Polynomial.{Polynomial, add}
use Rattle.algebra.specs.Agreement.{Agree}
use Rattle.algebra.proofs.Modulo.{mod-cong, mod-+}
use Rattle.algebra.proofs.Coefficients.{agree_to_same}
use Rattle.algebra.proofs.Weigh.{coefficient-nil, coefficient-add}
use Rattle.monomial.specs.Count.{count}
use Rattle.series.specs.Image.{monomial_at}
use Rattle.series.proofs.Positions.{order-monomial_at}
use Rattle.product.specs.Pairs.{sum_at}
use Rattle.bracket.specs.Sums.{Grown}

pub grown-none : (n v N p : ℕ) {w : List ℕ} {s : ℕ}
    → ((j : ℕ) → j < N + 1 → sum_at w j ≤ s * 4294967296) → Grown n v N p [] w w s s 0
grown-none n v N p {w} bound =
    record {
      size = refl;
      kept = λ i l. refl;
      sums = λ j l h. mod-cong p (omega (arith, coefficient-nil (monomial_at n v j)));
      bound = bound;
      few = omega arith;
    }

module _ {n v N p : ℕ} where
  pub grown-more : {P Q : Polynomial} {w w' w'' : List ℕ} {s s' s'' m m' : ℕ}
      → Grown n v N p P w w' s s' m → Grown n v N p Q w' w'' s' s'' m'
      → Grown n v N p (add P Q) w w'' s s'' (m + m')
  grown-more {P} {Q} {w} {w'} g h =
      record {
        size = h.size ∙ g.size;
        kept = λ i l. h.kept i l ∙ g.kept i l;
        sums = λ j l u.
            let d = monomial_at n v j in
            h.sums j l u
            ∙ mod-+ p _ _ _ _ (g.sums j l u) refl
            ∙ mod-cong p (omega (arith, coefficient-add d P Q));
        bound = h.bound;
        few = omega (arith, g.few, h.few);
      }

  pub grown-agree : {P Q : Polynomial} {w w' : List ℕ} {s s' m : ℕ} → N ≡ count n v
      → Agree p (suc n) P Q → Grown n v N p P w w' s s' m → Grown n v N p Q w w' s s' m
  grown-agree {P} {Q} e a g =
      record {
        size = g.size;
        kept = g.kept;
        sums = λ j l u.
            g.sums j l u
            ∙ mod-+ p _ _ _ _ refl
            ((agree_to_same p n a).at_low (monomial_at n v j)
            (order-monomial_at n v j l (omega (arith, e))));
        bound = g.bound;
        few = g.few;
      }
