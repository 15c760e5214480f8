-- Parts of equal length, one after another in one list: where each stands, and that a list is made
-- of its parts.
use Rattle.std.proofs.Common.{◌≡◌, refl, ap, ap₂, ◌∙◌, List, ◌++◌, append_assoc, ℕ, zero, suc, ◌*◌, ◌<◌, suc-mul, zero-mul, arith, length, take, drop, take_at, drop_at, take-add}
use Rattle.monomial.specs.Enumeration.{upto}
use Rattle.monomial.proofs.Upto.{upto-suc, upto-prefix, length-suc}

module _ {A : Type 0} where
  pub upto-cong : (f g : ℕ → List A) (m : ℕ) → ((i : ℕ) → i < m → f i ≡ g i)
      → upto f m ≡ upto g m
  unfolding upto
  upto-cong f g zero e = refl
  upto-cong f g (suc m) e =
      ap₂ ◌++◌ (upto-cong f g m (λ i l. e i (omega arith))) (e m (omega arith))

  module _ (f : ℕ → List A) (c : ℕ) (each : (i : ℕ) → length (f i) ≡ c) where
    pub length-parts : (m : ℕ) → length (upto f m) ≡ m * c
    unfolding upto
    length-parts zero = omega arith
    length-parts (suc m) = length-suc f m ∙ omega (arith, length-parts m, each m, suc-mul m c)

    pub part_at : (m i : ℕ) → i < m → (rest : List A)
        → take c (drop (i * c) (upto f m ++ rest)) ≡ f i
    part_at m i l rest =
        let r = upto-prefix f (suc i) m l in
        let s : upto f m ++ rest ≡ upto f i ++ (f i ++ (r.0 ++ rest)) =
        ap (λ (x : List A). x ++ rest)
        (r.1 ∙ ap (λ (x : List A). x ++ r.0) (upto-suc f i))
        ∙ append_assoc (upto f i ++ f i) r.0 rest
        ∙ append_assoc (upto f i) (f i) (r.0 ++ rest) in
        ap (λ (x : List A). take c (drop (i * c) x)) s
        ∙ ap (take c) (drop_at (upto f i) _ (i * c) (length-parts i))
        ∙ take_at (f i) _ c (each i)

  -- the first m parts of a list
  pub take-parts : (c m : ℕ) (ws : List A)
      → take (m * c) ws ≡ upto (λ i. take c (drop (i * c) ws)) m
  unfolding upto
  take-parts c zero ws = ap (λ (k : ℕ). take k ws) (zero-mul c)
  take-parts c (suc m) ws =
      ap (λ (k : ℕ). take k ws) (suc-mul m c)
      ∙ take-add (m * c) c ws
      ∙ ap (λ (x : List A). x ++ take c (drop (m * c) ws)) (take-parts c m ws)
