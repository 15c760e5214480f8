-- What is left of a word after a beginning of it: a number g(rest) where w is a beginning of u,
-- and else 0. Two monomials are the same where nothing is left.
use Rattle.std.proofs.Common.{ℕ, ◌+◌, ◌≡◌, refl, sym, ap, ap₂, ◌∙◌, Bool, true, false, cond, List, [], ◌∷◌, ◌++◌, T, eqb, eq-eqb, eqb-true}
use Rattle.algebra.specs.Polynomial.{Monomial, same, indicator}
use Rattle.algebra.proofs.Booleans.{indicator-yes, indicator-no}
use Rattle.substitution.specs.Walk.{letters}
use Rattle.substitution.proofs.Letters.{letters-same, same-letters}

unfoldable pub left : (List ℕ → ℕ) → List ℕ → List ℕ → ℕ
left g [] u = g u
left g (a ∷ w) [] = 0
left g (a ∷ w) (b ∷ u) = cond (eqb a b) (left g w u) 0

-- only what is left matters
pub left-ext : (g h : List ℕ → ℕ) (w u : List ℕ) → ((s : List ℕ) → u ≡ w ++ s → g s ≡ h s)
    → left g w u ≡ left h w u
unfolding left
left-ext g h [] u k = k u refl
left-ext g h (a ∷ w) [] k = refl
left-ext g h (a ∷ w) (b ∷ u) k = go (eqb a b) refl (λ q. left-ext g h w u q)
  where
    go : (c : Bool) → eqb a b ≡ c
        → (((s : List ℕ) → u ≡ w ++ s → g s ≡ h s) → left g w u ≡ left h w u)
        → cond c (left g w u) 0 ≡ cond c (left h w u) 0
    go true q r = r (λ s e. k s (ap₂ ◌∷◌ (sym (eqb-true a b q)) e))
    go false q r = refl

pub left-zero : (w u : List ℕ) → left (λ s. 0) w u ≡ 0
unfolding left
left-zero [] u = refl
left-zero (a ∷ w) [] = refl
left-zero (a ∷ w) (b ∷ u) = go (eqb a b) (left-zero w u)
  where
    go : (c : Bool) → left (λ s. 0) w u ≡ 0 → cond c (left (λ s. 0) w u) 0 ≡ 0
    go true r = r
    go false r = refl

pub left-add : (g h : List ℕ → ℕ) (w u : List ℕ)
    → left (λ s. g s + h s) w u ≡ left g w u + left h w u
unfolding left
left-add g h [] u = refl
left-add g h (a ∷ w) [] = refl
left-add g h (a ∷ w) (b ∷ u) = go (eqb a b) (left-add g h w u)
  where
    go : (c : Bool) → left (λ s. g s + h s) w u ≡ left g w u + left h w u
        → cond c (left (λ s. g s + h s) w u) 0 ≡ cond c (left g w u) 0 + cond c (left h w u) 0
    go true r = r
    go false r = refl

pub left-snoc : (g : List ℕ → ℕ) (w : List ℕ) (k : ℕ) (u : List ℕ)
    → left g (w ++ k ∷ []) u ≡ left (λ s. left g (k ∷ []) s) w u
unfolding left
left-snoc g [] k u = refl
left-snoc g (a ∷ w) k [] = refl
left-snoc g (a ∷ w) k (b ∷ u) = ap (λ (x : ℕ). cond (eqb a b) x 0) (left-snoc g w k u)

-- ---- nothing is left, or something

unfoldable pub nothing : List ℕ → ℕ
nothing [] = 1
nothing (a ∷ u) = 0

unfoldable pub something : List ℕ → ℕ
something [] = 0
something (a ∷ u) = 1

left-eq : (w u : List ℕ) → w ≡ u → left nothing w u ≡ 1
unfolding left nothing
left-eq [] [] e = refl
left-eq [] (b ∷ u) e = cc
left-eq (a ∷ w) [] e = cc
left-eq (a ∷ w) (b ∷ u) e =
    let h : a ≡ b = cc in
    rw (eq-eqb a b h) (left-eq w u (cc))

left-ne : (w u : List ℕ) → (w ≡ u → ⊥) → left nothing w u ≡ 0
unfolding left nothing
left-ne [] [] n = absurd (n refl)
left-ne [] (b ∷ u) n = refl
left-ne (a ∷ w) [] n = refl
left-ne (a ∷ w) (b ∷ u) n = go (eqb a b) refl (λ k. left-ne w u k)
  where
    go : (c : Bool) → eqb a b ≡ c → ((w ≡ u → ⊥) → left nothing w u ≡ 0)
        → cond c (left nothing w u) 0 ≡ 0
    go true q r = r (λ e. n (ap₂ ◌∷◌ (eqb-true a b q) e))
    go false q r = refl

pub indicator-same : (a b : Monomial)
    → indicator (same a b) ≡ left nothing (letters a) (letters b)
indicator-same a b = go (same a b) refl
  where
    go : (c : Bool) → same a b ≡ c → indicator c ≡ left nothing (letters a) (letters b)
    go true q =
        indicator-yes true tt
        ∙ sym (left-eq (letters a) (letters b) (same-letters a b (rw q tt)))
    go false q =
        indicator-no false (λ t. t)
        ∙ sym (left-ne (letters a) (letters b)
        (λ e. let t : T (same a b) = letters-same a b e in absurd (rw q at t)))
