-- Tests that hold together, and the number 1 or 0 of a test.
use Rattle.std.proofs.Common.{◌≡◌, refl, Bool, true, false, ◌&&◌, ◌||◌, not, T}
use Rattle.algebra.specs.Polynomial.{indicator}

pub true_of : (b : Bool) → T b → b ≡ true
true_of true t = refl
true_of false t = elim t [ ]

pub and_intro : (a b : Bool) → T a → T b → T (a && b)
and_intro true b s t = t
and_intro false b s t = elim s [ ]

pub and_left : (a b : Bool) → T (a && b) → T a
and_left true b t = tt
and_left false b t = elim t [ ]

pub and_right : (a b : Bool) → T (a && b) → T b
and_right true b t = t
and_right false b t = elim t [ ]

pub or_left : (a b : Bool) → T a → T (a || b)
or_left true b t = tt
or_left false b t = elim t [ ]

pub or_right : (a b : Bool) → T b → T (a || b)
or_right true b t = tt
or_right false b t = t

-- a disjunction whose first part fails
pub or_other : (a b : Bool) → (T a → ⊥) → T (a || b) → T b
or_other true b n t = absurd (n tt)
or_other false b n t = t

pub indicator-yes : (b : Bool) → T b → indicator b ≡ 1
unfolding indicator
indicator-yes true t = refl
indicator-yes false t = elim t [ ]

pub indicator-no : (b : Bool) → (T b → ⊥) → indicator b ≡ 0
unfolding indicator
indicator-no true h = absurd (h tt)
indicator-no false h = refl

pub indicator-not : (b : Bool) → T b → indicator (not b) ≡ 0
unfolding indicator
indicator-not true t = refl
indicator-not false t = elim t [ ]
