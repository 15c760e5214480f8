-- `entry_row` meets its contract: the head of the row has the codes of x's monomial and the number of entries
-- that go with x, so the row is the one that `EntryFacts` speaks of.
use Rattle.product.proofs.EntryRow.{EntryFacts, entry-facts}
use Rattle.product.proofs.EntryPairs.{pair_facts}
use Rattle.product.proofs.entry_row.Goals as goal
use Rattle.product.proofs.entry_row.Goals.{Start}

abbrev facts : (s : Start) →
    EntryFacts s.args.t.z.n s.args.t.z.v s.args.t.z.count s.args.t.z.codes s.args.f.cut s.args.f.os s.args.f.cs
    s.args.t.words.now s.args.work.now s.args.f.ends.now s.args.x s.args.pairs
facts s =
    let z = s.args.t.z in
    let f = s.args.f in
    entry-facts z.n z.v f.cut f.os f.cs s.args.t.words.now s.args.work.now f.ends.now s.args.x s.args.pairs z.count
    z.codes s.requires

pub row_head-h-requires : goal.row_head-h-requires
row_head-h-requires c =
    let a = c.args in
    let z = a.t.z in
    let q = c.requires in
    (pair_facts z.n z.v a.f.cut a.f.os a.f.cs a.t.words.now a.work.now a.f.ends.now a.x
    q.second.0 q.cut_low q.order q.ready q.low q.high q.second.1).0

pub row-requires : goal.row-requires
row-requires c =
    let h = c.row_head-h.ensures in
    rw (h.0, h.1, h.2, c.coefficient.ensures.0) (facts (goal.at.row-requires c).Start).row

pub returns : goal.returns
returns c =
    let h = c.row_head-h.ensures in
    let r = c.row in
    (facts (goal.at.returns c).Start).added r.new.work r.result (rw h.2 at r.ensures.0)
    (rw (h.0, h.1, h.2, c.coefficient.ensures.0) at r.ensures.1)
