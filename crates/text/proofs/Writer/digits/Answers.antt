use Rattle.std.proofs.Common.{ap, ℕ, ◌+◌, arith, take_all}
use Rattle.monomial.specs.Table.{digits}
use Rattle.monomial.proofs.Digits.{length_digits}
use Rattle.text.specs.Text.{spaced}
use Rattle.text.proofs.Rows.{digits-left, spaced-more, room-some}
use Rattle.text.proofs.Writings.{writes_nothing, writes_append, room-then}
use Rattle.text.proofs.Writer.digits.Goals as goal

pub loop-i-init : goal.loop-i-init
loop-i-init c =
    let a = c.args in
    (ap (λ (z : ℕ). digits a.base z a.code) (omega arith), unfold spaced in writes_nothing a.self.now)

pub spaced-requires : goal.spaced-requires
spaced-requires c =
    let a = c.args in
    let l = c.loop-i in
    let more = spaced-more a.base a.k l.i a.code l.rest c.loop-i-test.true l.invariant.0 in
    room-then _ (rw more at (room-some a.self.now.at (l.i + 1) (digits a.base a.k a.code) c.requires.1)) l.invariant.1

pub loop-i-preserved : goal.loop-i-preserved
loop-i-preserved c =
    let a = c.args in
    let l = c.loop-i in
    let more = spaced-more a.base a.k l.i a.code l.rest c.loop-i-test.true l.invariant.0 in
    let room = rw more at (room-some a.self.now.at (l.i + 1) (digits a.base a.k a.code) c.requires.1) in (
      digits-left a.base a.k l.i a.code l.rest c.loop-i-test.true l.invariant.0,
      rw more (writes_append room l.invariant.1 c.spaced.ensures),
    )

pub returns : goal.returns
returns c =
    let l = c.loop-i in
    let a = c.args in
    let D = digits a.base a.k a.code in
    rw (take_all l.i D (omega (arith, length_digits a.base a.k a.code))) at l.invariant.1
