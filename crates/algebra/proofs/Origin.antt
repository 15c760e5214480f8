-- A polynomial without constant: the only coefficient to look at is that of the empty monomial.
use Rattle.std.proofs.Common.{ℕ, ◌%◌, ◌≡◌, ◌∙◌, [], arith}
use Rattle.algebra.specs.Polynomial.{Polynomial, order, trim, same, coefficient_of}
use Rattle.algebra.specs.Agreement.{FromOrder}
use Rattle.algebra.proofs.Trim.{trim-order_zero}
use Rattle.algebra.proofs.Weigh.{weigh-nil}
use Rattle.algebra.proofs.Coefficients.{same_to_agree, agree_to_same}

pub from-origin : (p : ℕ) (P : Polynomial) → coefficient_of [] P % p ≡ 0 % p → FromOrder p 1 P
unfolding coefficient_of same trim
from-origin p P h =
    same_to_agree p 0 (record { at_low = λ m l. rw (trim-order_zero m l, weigh-nil) h })

pub origin_from : (p : ℕ) (P : Polynomial) → FromOrder p 1 P → coefficient_of [] P % p ≡ 0 % p
unfolding coefficient_of order
origin_from p P h = (agree_to_same p 0 h).at_low [] (omega arith) ∙ rw weigh-nil
