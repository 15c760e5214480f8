-- `needed` meets its contract: each kind by its own words.
use Rattle.std.proofs.Common.{rules}
use Rattle.monomial.specs.Count.{words}
use Rattle.checks.proofs.RoomLaws.{few_codes, few_count, work_asks, work_of}
use Rattle.checks.proofs.Kind.needed.Goals as goal

pub table-requires : goal.table-requires
table-requires c = (few_count c.requires, few_codes c.requires)

pub work_words-requires : goal.work_words-requires
work_words-requires c = work_asks c.requires

pub returns-in-Table : goal.returns-in-Table
unfolding words
returns-in-Table c = search rules

pub returns-in-Work : goal.returns-in-Work
returns-in-Work c = rw c.in-Work.is (work_of c.args.z c.requires.count_is c.work_words.ensures)
