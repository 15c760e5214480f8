-- Every index is compared, and what the closures answer is as stated.
use Rattle.std.proofs.Common.{rules}
use Rattle.stated.proofs.verdict.judge.Goals as goal

pub returns-clause-words : goal.returns-clause-words
returns-clause-words c i l = search (rules, c.in_default.ensures.right i l)

pub returns-clause-room : goal.returns-clause-room
returns-clause-room c i l = search (rules, c.in_default-compare.ensures.right i l)
