-- The invariant: the first i digits are written, and the others are the digits of `rest`.
use Rattle.std.proofs.Common.{◌≡◌, ◌-◌, take, drop}
use Rattle.monomial.specs.Table.{digits}
use Rattle.text.specs.Text.{spaced}
use Rattle.text.specs.Writing.{Writes}
use Rattle.text.proofs.Writer.digits.Given as goal

abbrev pub invariant-loop-i : goal.invariant-loop-i
invariant-loop-i l =
    (drop l.i (digits l.base l.k l.code) ≡ digits l.base (l.k - l.i) l.rest)
    × Writes l.initial.self (spaced (take l.i (digits l.base l.k l.code))) l.self
