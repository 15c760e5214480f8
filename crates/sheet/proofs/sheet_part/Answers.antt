-- The first line is the header; the line of index k is that of the monomial with index k - 1.
use Rattle.std.proofs.Common.{◌≡◌, arith}
use Rattle.text.specs.Text.{header_text}
use Rattle.text.specs.Writing.{Room}
use Rattle.text.proofs.Rows.{length-header_text}
use Rattle.text.proofs.Writings.{writes_same}
use Rattle.sheet.proofs.Parts.{header_printed}
use Rattle.sheet.proofs.sheet_part.Goals as goal

pub returns-then-k-lt1-clause-kept : goal.returns-then-k-lt1-clause-kept
returns-then-k-lt1-clause-kept c =
    let z = c.args.z in
    let a = c.requires.0.ranges in
    let few = a.few in
    let counted = c.requires.0.counted in
    let room : Room c.args.out.now (header_text z.n z.v z.count) =
    omega (arith, length-header_text z.n z.v z.count (omega arith) (omega arith) (omega arith)) in
    writes_same room c.header.ensures

pub returns-then-k-lt1-clause-printed : goal.returns-then-k-lt1-clause-printed
returns-then-k-lt1-clause-printed c =
    let a = c.args in
    let few = c.requires.0.counted in
    let none : a.k ≡ 0 = omega arith in
    rw (none, few)
    (header_printed a.z.n a.z.v (rw (c.requires.2, few) at c.header.ensures.wrote)
    (returns-then-k-lt1-clause-kept c).long)
