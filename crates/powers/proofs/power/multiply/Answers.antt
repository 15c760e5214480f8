-- `multiply` meets its contract: the rows are added, and the sums are made entries: those of all pairs, or
-- those of all positions of the orders from lo to cut.
use Rattle.std.proofs.Common.{◌≡◌, refl, ◌≤◌, arith}
use Rattle.product.specs.Rows.{put}
use Rattle.powers.proofs.GatheringProduct.{rows-ask, pairs_few, ascends, gather_asks, collect_asks}
use Rattle.powers.proofs.GatheringProduct.{by_pairs, by_positions}
use Rattle.powers.proofs.power.multiply.Goals as goal
use Rattle.powers.proofs.power.multiply.Goals.{After-max}

larger : (c : After-max) →
    let a = c.args in
    (a.g.lo ≤ a.g.wanted → c.max.result ≡ a.g.wanted) × (a.g.wanted ≤ a.g.lo → c.max.result ≡ a.g.lo)
larger c = ((λ l. omega arith), (λ l. omega arith))

pub rows-pairs-requires : goal.rows-pairs-requires
rows-pairs-requires c =
    rows-ask c.requires

pub overflow_mul-pairs : goal.overflow_mul-pairs
overflow_mul-pairs c =
    let q = c.requires in
    let y = q.multiply.second in
    omega (
      arith,
      pairs_few q y.1 (c.rows-pairs.ensures y.0 y.1) refl (larger (goal.at.overflow_mul-pairs c).After-max) refl refl,
    )

pub overflow_sub-to : goal.overflow_sub-to
overflow_sub-to c =
    let q = c.requires in
    let y = q.multiply.second in
    ascends q y.1 (c.rows-pairs.ensures y.0 y.1) refl (larger (goal.at.overflow_sub-to c).After-max) refl refl

pub collect-requires : goal.collect-requires
unfolding put
collect-requires c =
    let q = c.requires in
    let y = q.multiply.second in
    rw (← c.if-p-known.true) (
      _,
      _,
      collect_asks q y.1 (c.rows-pairs.ensures y.0 y.1) refl (larger (goal.at.collect-requires c).After-max) refl
          refl c.if-pairs-to.true,
    )

pub returns-then-p-known : goal.returns-then-p-known
unfolding put
returns-then-p-known c =
    λ ys l.
    by_pairs c.requires l (c.rows-pairs.ensures ys l) refl (larger (goal.at.returns-then-p-known c).After-max)
    refl refl c.if-pairs-to.true (rw (← c.if-p-known.true) at c.collect.ensures)

pub collect-requires-then-pairs-to : goal.collect-requires-then-pairs-to
unfolding put
collect-requires-then-pairs-to c =
    let q = c.requires in
    let y = q.multiply.second in (
      _,
      _,
      collect_asks q y.1 (c.rows-pairs.ensures y.0 y.1) refl
          (larger (goal.at.collect-requires-then-pairs-to c).After-max) refl refl c.if-pairs-to.true,
    )

pub returns-then-pairs-to : goal.returns-then-pairs-to
unfolding put
returns-then-pairs-to c =
    λ ys l.
    by_pairs c.requires l (c.rows-pairs.ensures ys l) refl (larger (goal.at.returns-then-pairs-to c).After-max)
    refl refl c.if-pairs-to.true c.collect-then-pairs-to.ensures

pub gather-requires : goal.gather-requires
unfolding put
gather-requires c =
    let q = c.requires in
    let y = q.multiply.second in
    rw (← c.if-p-known-2.true) (
      _,
      _,
      _,
      _,
      _,
      gather_asks q y.1 (c.rows-pairs.ensures y.0 y.1) refl (larger (goal.at.gather-requires c).After-max) refl refl,
    )

pub returns-then-p-known-2 : goal.returns-then-p-known-2
unfolding put
returns-then-p-known-2 c =
    λ ys l.
    by_positions c.requires l (c.rows-pairs.ensures ys l) refl
    (larger (goal.at.returns-then-p-known-2 c).After-max) refl refl (rw (← c.if-p-known-2.true) at c.gather.ensures)

pub gather-requires-2 : goal.gather-requires-2
unfolding put
gather-requires-2 c =
    let q = c.requires in
    let y = q.multiply.second in (
      _,
      _,
      _,
      _,
      _,
      gather_asks q y.1 (c.rows-pairs.ensures y.0 y.1) refl (larger (goal.at.gather-requires-2 c).After-max) refl
          refl,
    )

pub returns : goal.returns
unfolding put
returns c =
    λ ys l.
    by_positions c.requires l (c.rows-pairs.ensures ys l) refl (larger (goal.at.returns c).After-max) refl refl
    c.gather-2.ensures
