-- The exponent is the digit that the two quotients give.
use Rattle.std.proofs.Common.{refl, arith}
use Rattle.derivation.proofs.DerivativeExponent.{own-inside, reciprocals_small, Digit, digit}
use Rattle.derivation.proofs.derivative.Variable.exponent_at.Goals as goal
use Rattle.derivation.proofs.derivative.Variable.exponent_at.Goals.{After-quotient-2}

pub bounds-self-self : goal.bounds-self-self
bounds-self-self c = let s = c.args.self in own-inside s.t.right s.located c.requires.0 c.requires.1

pub quotient-requires-clause-r_bound : goal.quotient-requires-clause-r_bound
quotient-requires-clause-r_bound c =
    let s = c.args.self in (reciprocals_small s.t.right s.located c.requires.0 c.requires.1).0

pub quotient-requires-2-clause-r_bound : goal.quotient-requires-2-clause-r_bound
quotient-requires-2-clause-r_bound c =
    let s = c.args.self in (reciprocals_small s.t.right s.located c.requires.0 c.requires.1).1

-- what the two quotients give
read : (c : After-quotient-2) → let s = c.args.self in
    Digit s.t.right s.located c.requires.0 c.requires.1 c.quotient.result c.quotient-2.result
read c =
    let s = c.args.self in
    digit s.t.right s.located c.requires.0 c.requires.1 refl c.quotient.ensures c.quotient-2.ensures

pub overflow_mul-result : goal.overflow_mul-result
overflow_mul-result c = let l = (read (goal.at.overflow_mul-result c).After-quotient-2).below in omega arith

pub overflow_sub-result : goal.overflow_sub-result
overflow_sub-result c = (read (goal.at.overflow_sub-result c).After-quotient-2).below

pub returns : goal.returns
returns c = let l = read (goal.at.returns c).After-quotient-2 in (l.is, l.few)
