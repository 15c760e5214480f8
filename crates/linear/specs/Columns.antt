-- Columns in order, and exchanged (01, 'The operations': the sign of a choice of columns).
--
-- Glossary
--   All P xs            P holds of every member of the list xs
--   Sorted cs           the columns cs ascend
--   Exchanged q r       r is q with two of its columns exchanged
--   ByExchanges n q r   r is made of q by n exchanges
use Rattle.std.specs.Prelude.{◌≡◌, List, [], ◌∷◌, ◌++◌, ℕ, suc, ◌<◌}

abbrev pub All : {A : Type 0} → (A → Type 0) → List A → Type 0
All P [] = Unit
All P (x ∷ xs) = P x × All P xs

unfoldable pub Sorted : List ℕ → Type 0
Sorted [] = Unit
Sorted (c ∷ cs) = All (λ x. c < x) cs × Sorted cs

pub record Exchanged (q r : List ℕ) : Type 0 where
  pub pre : List ℕ
  pub a : ℕ
  pub mid : List ℕ
  pub b : ℕ
  pub post : List ℕ
  pub before : q ≡ pre ++ a ∷ (mid ++ b ∷ post)
  pub after : r ≡ pre ++ b ∷ (mid ++ a ∷ post)

pub data ByExchanges : ℕ → List ℕ → List ℕ → Type 0 where
  none : {q : List ℕ} → ByExchanges 0 q q
  more : {n : ℕ} {q r s : List ℕ} → Exchanged q r → ByExchanges n r s → ByExchanges (suc n) q s
