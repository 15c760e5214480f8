-- A left inverse and a right inverse of a map agree: f is f ∘ (g ∘ h), which is (f ∘ g) ∘ h, which
-- is h.
use Rattle.std.proofs.Common.{ℕ}
use Rattle.algebra.specs.Substitution.{Map, compose, identity}
use Rattle.algebra.specs.Agreement.{AgreeMap, OriginFixing}
use Rattle.algebra.proofs.Substitute.{substitute-substitute, substitute-variable}
use Rattle.algebra.proofs.Agreement.{agree_sym, agree_trans, agree_exact}
use Rattle.algebra.proofs.Truncation.{agree_substitute, agree_substitute_map}
use Rattle.algebra.proofs.Identity.{substitute-identity}

pub inverse-unique : (p k : ℕ) (f g h : Map) → OriginFixing p h
    → AgreeMap p k (compose f g) identity → AgreeMap p k (compose g h) identity
    → AgreeMap p k f h
unfolding compose
inverse-unique p k f g h o a b i =
    agree_trans p (agree_sym p (substitute-identity p (f i)))
    (agree_trans p (agree_sym p (agree_substitute_map p (f i) (compose g h) identity b))
    (agree_trans p (agree_sym p (agree_exact p _ _ (substitute-substitute (f i) g h)))
    (agree_trans p (agree_substitute p h o (a i)) (agree_exact p _ _ (substitute-variable i h)))))
