-- `work_space` meets its contract: W where the setting is in range.
use Rattle.std.proofs.Common.{rules, ◌≡◌, Some, ap}
use Rattle.counts.proofs.Counts.{some_where}
use Rattle.checks.proofs.RoomLaws.{sized, in_range, work_asks, work_is}
use Rattle.checks.proofs.sizes.work_space.Goals as goal

pub work_words-requires : goal.work_words-requires
work_words-requires c =
    let e : c.of.result ≡ Some c.in_ok-z.z = search rules in
    let k = some_where _ _ _ _ c.of.ensures e in
    work_asks (sized (in_range c.args.s.n c.args.s.v k.0) k.1)

pub returns : goal.returns
returns c =
    let e : c.of.result ≡ Some c.in_ok-z.z = search rules in
    let k = some_where _ _ _ _ c.of.ensures e in
    rw k.0 (ap Some (rw k.1 at (work_is k.1 c.work_words.ensures)))
