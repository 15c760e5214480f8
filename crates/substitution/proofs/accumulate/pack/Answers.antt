use Rattle.std.proofs.Common.{◌+◌, arith, get_or}
use Rattle.product.proofs.Packing.{entry_of-few}
use Rattle.substitution.proofs.Packs.{packs_none, packs_word, packs_few, packs_more}
use Rattle.substitution.proofs.Packs.{packs_done}
use Rattle.substitution.proofs.accumulate.pack.Goals as goal

pub loop-j-init : goal.loop-j-init
loop-j-init c =
    packs_none c.args.res.now c.args.count c.requires.count_in_bounds.0

pub put-i-requires-clause-c_bound : goal.put-i-requires-clause-c_bound
put-i-requires-clause-c_bound c =
    let l = c.loop-j in
    rw (packs_word c.requires.count_in_bounds.0 l.invariant)
    (c.requires.by_index (l.j + 1) (omega arith) (omega arith))

pub put-i-requires-clause-c_in_bounds : goal.put-i-requires-clause-c_in_bounds
put-i-requires-clause-c_in_bounds c =
    let b = c.requires.count_in_bounds in
    let l = c.loop-j in
    omega (
      arith,
      (packs_few b.0 l.invariant).1,
      l.invariant.size,
      b,
      entry_of-few (l.j + 1) (get_or l.res (l.j + 1) 0),
    )

pub loop-j-preserved : goal.loop-j-preserved
loop-j-preserved c =
    let k = c.put-i in
    packs_more c.requires.count_in_bounds.0 c.loop-j.invariant
    k.new.res k.result (omega arith) k.ensures.value k.ensures.res_after

pub finish-requires-clause-at_bound : goal.finish-requires-clause-at_bound
finish-requires-clause-at_bound c =
    omega (arith, (packs_few c.requires.count_in_bounds.0 c.loop-j.invariant).1)

pub returns : goal.returns
returns c =
    packs_done c.requires.count_in_bounds.0 c.loop-j.invariant (omega arith)
    c.finish.new.res c.finish.ensures
