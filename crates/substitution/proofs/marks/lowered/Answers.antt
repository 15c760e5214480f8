-- `lowered` meets its contract: each way out takes the power of b that is at most c and of which
-- the next is above c.
use Rattle.std.proofs.Common.{◌-◌, ◌*◌, arith}
use Rattle.std.proofs.Math.Nat.{pow-zero}
use Rattle.substitution.proofs.Shorter.{pow_one}
use Rattle.substitution.proofs.Powers.{pow_two, pow_three}
use Rattle.substitution.proofs.Powers.{lowered_by}
use Rattle.substitution.proofs.marks.lowered.Goals as goal

pub returns-then-c-b : goal.returns-then-c-b
returns-then-c-b c =
    let a = c.args in
    let z = pow-zero a.b in
    lowered_by a.b a.c (a.c - 1) 0 (omega arith) (omega (arith, z))
    (rw (pow_one a.b) (omega arith)) (omega (arith, z))

pub returns-then-c-second : goal.returns-then-c-second
returns-then-c-second c =
    let a = c.args in
    lowered_by a.b a.c (a.c - a.b) 1 (omega arith)
    (rw (pow_one a.b) (omega arith))
    (rw (pow_two a.b) (omega arith))
    (rw (pow_one a.b) (omega arith))

pub returns-then-c-third : goal.returns-then-c-third
returns-then-c-third c =
    let a = c.args in
    lowered_by a.b a.c (a.c - a.b * a.b) 2 (omega arith)
    (rw (pow_two a.b) (omega arith))
    (rw (pow_three a.b) (omega arith))
    (rw (pow_two a.b) (omega arith))

pub returns : goal.returns
returns c =
    let a = c.args in
    lowered_by a.b a.c (a.c - a.b * a.b * a.b) 3 (omega arith)
    (rw (pow_three a.b) (omega arith))
    c.requires.1
    (rw (pow_three a.b) (omega arith))
