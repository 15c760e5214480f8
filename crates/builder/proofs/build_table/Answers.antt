-- Each part is written by one call: all positions, D1 and D2; together they are the table.
use Rattle.std.proofs.Common.{◌≡◌, refl, sym, ap, ap₂, ◌∙◌, List, ◌++◌, ℕ, ◌+◌, ◌-◌, ◌≤◌, add-one, arith, length, get_or, drop}
use Rattle.counts.specs.declared.Sizes.{Sizes}
use Rattle.counts.proofs.Counts.{power-bound}
use Rattle.monomial.specs.Count.{count, codes, words, Allowed}
use Rattle.monomial.specs.Table.{D1, D2, table_words}
use Rattle.builder.specs.Build.{order_start, with_codes, filled}
use Rattle.monomial.proofs.Address.{codes-positive}
use Rattle.builder.proofs.BuildWritten.{with_codes-none, with_codes-C1}
use Rattle.builder.proofs.BuildPlaces.{first-bound}
use Rattle.builder.proofs.BuildTable.{table-written}
use Rattle.builder.proofs.build_table.Goals as goal
use Rattle.builder.proofs.build_table.Goals.{After-write_blocks}

-- the sizes are those of an allowed setting, and the table has room
record Sized (z : Sizes) (s : List ℕ) : Type 0 where
  allowed : Allowed z.n z.v
  total : z.count ≡ count z.n z.v
  section : z.codes ≡ codes z.n z.v
  room : count z.n z.v + count z.n z.v + codes z.n z.v + codes z.n z.v ≤ length s

enough : (n v m : ℕ) → words n v ≤ m → count n v + count n v + codes n v + codes n v ≤ m
unfolding words
enough n v m l = omega arith

sized : (n v : ℕ) (z : Sizes) (s : List ℕ)
    → (z.n ≡ n) × (z.v ≡ v) × (z.count ≡ count n v) × (z.codes ≡ codes n v) → Allowed n v × (words n v ≤ length s) → Sized z s
sized n v z s e w = record {
  allowed = rw (e.0, e.1) w.0;
  total = rw (e.0, e.1) e.2;
  section = rw (e.0, e.1) e.3;
  room = rw (e.0, e.1) (enough n v (length s) w.1);
}

pub power-rows-requires : goal.power-rows-requires
power-rows-requires c =
    let w = c.requires.0 in
    (omega (arith, w.n_high), omega (arith, c.half-h.ensures, c.table_sizes-z.ensures.1, w.v_high))

pub power-requires : goal.power-requires
power-requires c =
    let w = c.requires.0 in
    (omega (arith, w.n_high), omega (arith, c.half-h.ensures, c.table_sizes-z.ensures.1, w.v_high))

pub digit_sums-requires : goal.digit_sums-requires
digit_sums-requires c =
    let a = c.args in
    let w = c.requires.0 in
    let p = c.power-rows.ensures.0 in (
      omega (arith, w.n_low),
      omega (arith, p, codes-positive a.n (c.half-h.result - 1)),
      omega (arith, p, power-bound (a.n + 1) (c.half-h.result - 1) 3 (omega (arith, w.n_high)) (omega (arith, c.half-h.ensures, c.table_sizes-z.ensures.1, w.v_high))),
      refl,
    )

pub write_first_block-ends-requires : goal.write_first_block-ends-requires
write_first_block-ends-requires c =
    let e = sized c.args.n c.args.v c.table_sizes-z.result c.args.t.now c.table_sizes-z.ensures c.requires in
    omega (arith, e.total, e.room)

pub write_blocks-requires : goal.write_blocks-requires
write_blocks-requires c =
    let e = sized c.args.n c.args.v c.table_sizes-z.result c.args.t.now c.table_sizes-z.ensures c.requires in
    (omega (arith, e.total, e.room, c.write_first_block-ends.auto.t), c.write_first_block-ends.ensures.0)

-- all positions
positions : (c : After-write_blocks)
    → let z = c.table_sizes-z.result in c.write_blocks.new.t ≡ with_codes z.n z.v (count z.n z.v) c.args.t.now
positions c =
    let s = c.args.t.now in
    let z = c.table_sizes-z.result in
    let e = sized c.args.n c.args.v z s c.table_sizes-z.ensures c.requires in
    let l : count z.n z.v + count z.n z.v ≤ length s = omega (arith, e.room) in
    c.write_blocks.ensures.advances s l
    (c.write_first_block-ends.ensures.1.advances s l (with_codes-none z.n z.v s))
    ∙ ap (λ (j : ℕ). with_codes z.n z.v j s) e.total

-- the last end is that of the first block
ended : (c : After-write_blocks)
    → let z = c.table_sizes-z.result in get_or c.write_first_block-ends.result c.args.n 0 ≡ order_start z.n z.v (z.n + 1)
ended c =
    let z = c.table_sizes-z.result in
    ap (λ (i : ℕ). get_or c.write_first_block-ends.result i 0) (sym c.table_sizes-z.ensures.0)
    ∙ c.write_first_block-ends.ensures.0.end z.n (omega arith)
    ∙ ap (order_start z.n z.v) (sym (add-one z.n))

pub write_d1-requires : goal.write_d1-requires
write_d1-requires c =
    let w = (goal.at.write_d1-requires c).After-write_blocks in
    let z = c.table_sizes-z.result in
    let s = c.args.t.now in
    let e = sized c.args.n c.args.v z s c.table_sizes-z.ensures c.requires in (
      e.allowed,
      e.total,
      e.section,
      ended w,
      omega (arith, e.total, e.section, e.room, c.write_first_block-ends.auto.t, c.write_blocks.auto.t),
      λ i k.
          ap (λ (y : List ℕ). get_or y i 0) (positions w)
          ∙ with_codes-C1 z.n z.v s (omega (arith, e.room)) (count z.n z.v) i (omega arith) (omega (arith, ended w, first-bound z.n z.v)),
    )

pub write_d2-requires : goal.write_d2-requires
write_d2-requires c =
    let z = c.table_sizes-z.result in
    let e = sized c.args.n c.args.v z c.args.t.now c.table_sizes-z.ensures c.requires in (
      omega (arith, e.total, e.section, e.room, c.write_first_block-ends.auto.t, c.write_blocks.auto.t, c.write_d1.auto.t),
      c.write_first_block-ends.ensures.0,
    )

pub returns : goal.returns
returns c =
    let w = (goal.at.returns c).After-write_blocks in
    let z = c.table_sizes-z.result in
    let n = z.n in
    let v = z.v in
    let s = c.args.t.now in
    let e = sized c.args.n c.args.v z s c.table_sizes-z.ensures c.requires in
    c.write_d2.ensures
    ∙ ap (filled (z.count + z.count + z.codes) (D2 n v) (codes n v)) c.write_d1.ensures
    ∙ ap₂ (λ (N E : ℕ). filled (N + N + E) (D2 n v) (codes n v) (filled (N + N) (D1 n v) (codes n v) c.write_blocks.new.t))
    e.total e.section
    ∙ ap (λ (y : List ℕ). filled (count n v + count n v + codes n v) (D2 n v) (codes n v) (filled (count n v + count n v) (D1 n v) (codes n v) y))
    (positions w)
    ∙ table-written n v s
    ∙ ap₂ (λ (n v : ℕ). table_words n v ++ drop (words n v) s) c.table_sizes-z.ensures.0 c.table_sizes-z.ensures.1
