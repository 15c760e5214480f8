-- The digits of the two codes, one after the other.
use Rattle.std.proofs.Common.{rules, ℕ, ◌+◌, ◌-◌, List}
use Rattle.monomial.specs.Count.{half}
use Rattle.monomial.specs.Table.{digits, monomial_of}
use Rattle.text.specs.Text.{spaced}
use Rattle.text.proofs.Rows.{spaced-append}
use Rattle.text.proofs.Writings.{room-first, room-then, writes_append}
use Rattle.text.proofs.Writer.exponents.Goals as goal

abbrev first : ℕ → ℕ → ℕ → List ℕ
first n v x = digits (n + 1) (half v) x

abbrev second : ℕ → ℕ → ℕ → List ℕ
second n v y = digits (n + 1) (v - half v) y

pub digits-requires : goal.digits-requires
unfolding monomial_of
digits-requires c =
    let a = c.args in
    let room = rw (spaced-append (first a.z.n a.z.v a.c1) (second a.z.n a.z.v a.c2)) at c.requires.2 in
    rw c.half-half.ensures
    (search rules, room-first a.self.now.at (spaced (first a.z.n a.z.v a.c1)) (spaced (second a.z.n a.z.v a.c2)) room)

pub digits-requires-2 : goal.digits-requires-2
unfolding monomial_of
digits-requires-2 c =
    let a = c.args in
    let room = rw (spaced-append (first a.z.n a.z.v a.c1) (second a.z.n a.z.v a.c2)) at c.requires.2 in
    let half = c.half-half.ensures in
    rw half
    (search rules, room-then (spaced (second a.z.n a.z.v a.c2)) room (rw half at c.digits.ensures))

pub returns : goal.returns
unfolding monomial_of
returns c =
    let a = c.args in
    let e = spaced-append (first a.z.n a.z.v a.c1) (second a.z.n a.z.v a.c2) in
    let half = c.half-half.ensures in
    rw e
    (writes_append (rw e at c.requires.2) (rw half at c.digits.ensures) (rw half at c.digits-2.ensures))
