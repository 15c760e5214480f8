use Rattle.std.proofs.Common.{◌∙◌, ◌<◌, arith}
use Rattle.monomial.specs.Count
use Rattle.text.proofs.Writings.{writes_same}
use Rattle.sheet.proofs.Parts.{line_end, line_room, printed_more}
use Rattle.sheet.proofs.some_lines.Goals as goal

pub loop-next-preserved : goal.loop-next-preserved
loop-next-preserved c =
    let l = c.loop-next in
    let t = c.requires.0 in
    let p = l.invariant in
    let w = c.monomial_line.ensures.wrote in
    let left : l.next < Count.count c.args.z.n c.args.z.v = omega (arith, t.counted) in
    let kept = writes_same (line_room l.out t.ranges left (omega arith)) c.monomial_line.ensures in record {
      printed = printed_more t.ranges left (omega arith) kept.long w (omega arith) p.printed;
      kept = record { same = kept.same ∙ p.kept.same; long = kept.long ∙ p.kept.long };
      short = omega (arith, line_end t.ranges left (omega arith) kept.long w);
    }
