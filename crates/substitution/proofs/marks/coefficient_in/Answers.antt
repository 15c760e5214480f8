-- `coefficient_in` meets its contract: only the entry at the first word of a position that is not below q can
-- be at q.
use Rattle.std.proofs.Common.{sym, ◌∙◌, arith, ltb, ℕ, ◌/◌, ◌+◌, rules}
use Rattle.std.proofs.lemmas.List.Sorted.{IsPartitionPoint-from_clause}
use Rattle.substitution.proofs.Searching.{Narrowed, narrowed_start, part-parted, narrowed_at}
use Rattle.substitution.proofs.Searching.{narrowed_beyond, narrowed_other, narrowed_found}
use Rattle.substitution.proofs.marks.coefficient_in.Goals as goal
use Rattle.substitution.proofs.marks.coefficient_in.Goals.{After-partition_point}

-- where the search is to look
start : (c : After-partition_point) → Narrowed c.args.series.now c.args.q c.first_word-from.result (c.min-to.result + 1)
start c =
    narrowed_start c.requires c.args.q _ c.min-to.result c.first_word-from.ensures
    (omega arith) (omega arith) (λ l. omega arith) (λ l. omega arith)

-- where it ends
ended : (c : After-partition_point) →
    let k = c.first_word-from.result + c.partition_point.result in
    Narrowed c.args.series.now c.args.q k k
ended c =
    let n = start c in
    narrowed_at c.requires n c.partition_point.result c.partition_point.ensures.bound
    (IsPartitionPoint-from_clause (λ (w : ℕ). ltb (w / 65536) c.args.q) _ _ c.partition_point.ensures.partitioned
    (part-parted c.requires n) (λ a r f k. search rules))

pub returns-then-at-m : goal.returns-then-at-m
returns-then-at-m c =
    narrowed_beyond c.requires (ended (goal.at.returns-then-at-m c).After-partition_point) (omega arith)
    (omega arith)

pub returns-then-position-q : goal.returns-then-position-q
returns-then-position-q c =
    narrowed_other c.requires (ended (goal.at.returns-then-position-q c).After-partition_point) (omega arith)
    (omega arith) (λ e. c.if-position-q.true (c.position.ensures.0 ∙ e))

pub returns : goal.returns
returns c =
    c.coefficient.ensures.0
    ∙ narrowed_found c.requires (ended (goal.at.returns c).After-partition_point) (omega arith)
    (omega arith) (sym c.position.ensures.0 ∙ c.if-position-q.false)
