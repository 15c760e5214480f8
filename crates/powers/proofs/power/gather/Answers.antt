-- `gather` meets its contract: the second run goes on where the first ended.
use Rattle.std.proofs.Common.{◌+◌, ◌≤◌, arith}
use Rattle.powers.proofs.Gathering.{first-asks, second-asks, gather_few, gathered}
use Rattle.powers.proofs.power.gather.Goals as goal
use Rattle.powers.proofs.power.gather.Goals.{After-gather_run-e}

pub gather_run-i-requires : goal.gather_run-i-requires
gather_run-i-requires c =
    (_, _, _, _, _, _, _, first-asks c.requires.5)

pub gather_run-e-requires : goal.gather_run-e-requires
gather_run-e-requires c =
    let g = c.requires.5 in
    (_, _, _, _, _, _, _, second-asks g (c.gather_run-i.ensures _ _ _ _ _ _ _ (first-asks g)))

-- the words between which the entries stand
few : (c : After-gather_run-e) →
    let i = c.gather_run-i.result in
    let e = c.gather_run-e.result in
    (c.args.dst + 1 ≤ i) × (i ≤ e) × (e ≤ c.args.dst + 65536)
few c =
    let g = c.requires.5 in
    let a = c.gather_run-i.ensures _ _ _ _ _ _ _ (first-asks g) in
    let b = c.gather_run-e.ensures _ _ _ _ _ _ _ (second-asks g a) in
    let k = gather_few g a b in
    (k.0, k.1, omega (arith, g.room.small, k))

pub overflow_sub-work : goal.overflow_sub-work
overflow_sub-work c = omega (arith, few (goal.at.overflow_sub-work c).After-gather_run-e)

pub overflow_sub-work-2 : goal.overflow_sub-work-2
overflow_sub-work-2 c = omega (arith, few (goal.at.overflow_sub-work-2 c).After-gather_run-e)

pub overflow_cast-work : goal.overflow_cast-work
overflow_cast-work c = omega (arith, few (goal.at.overflow_cast-work c).After-gather_run-e)

pub overflow_sub-result : goal.overflow_sub-result
overflow_sub-result c = omega (arith, few (goal.at.overflow_sub-result c).After-gather_run-e)

pub overflow_sub-result-2 : goal.overflow_sub-result-2
overflow_sub-result-2 c = omega (arith, few (goal.at.overflow_sub-result-2 c).After-gather_run-e)

pub returns : goal.returns
returns c =
    λ n v N lo cut g.
    let a = c.gather_run-i.ensures _ _ _ _ _ _ _ (first-asks g) in
    gathered g a (c.gather_run-e.ensures _ _ _ _ _ _ _ (second-asks g a))
