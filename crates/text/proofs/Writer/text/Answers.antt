-- Copied into its place, the text is written.
use Rattle.std.proofs.Common.{◌≡◌, ◌+◌, ◌-◌, length, arith, refl, drop-drop}
use Rattle.text.specs.Writing.{text_at}
use Rattle.text.proofs.Writer.text.Goals as goal

pub returns : goal.returns
unfolding text_at
returns c =
    let at = c.args.self.now.at in
    let k : at + length c.args.text.now - at ≡ length c.args.text.now = omega arith in
    record {
      same = refl;
      wrote = record { ended = refl; bytes = rw (k, c.copy_from_slice.ensures.after, drop-drop) };
    }
