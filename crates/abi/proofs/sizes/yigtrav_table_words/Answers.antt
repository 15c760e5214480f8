-- `yigtrav_table_words` meets its contract: a setting in range has few monomials and codes, and T is made of their
-- numbers.
use Rattle.std.proofs.Common.{rules, arith, ◌≤◌}
use Rattle.std.proofs.iter.Serving.{serving}
use Rattle.monomial.specs.Count.{words, Allowed}
use Rattle.monomial.proofs.Bounds.{allowed-sound, codes-bound}
use Rattle.counts.proofs.Counts.{some_where}
use Rattle.abi.proofs.sizes.yigtrav_table_words.Goals as goal

pub map_or-requires : goal.map_or-requires
map_or-requires c = λ x e.
    let k = some_where _ _ _ _ c.of.ensures e in
    let a : Allowed c.args.n c.args.v = allowed-sound c.args.n c.args.v (rw k.0 tt) in
    let few : (x.count ≤ 43758) × (x.codes ≤ 14641) = rw k.1 (omega (arith, codes-bound c.args.n c.args.v a)) in
    grind serving

pub returns : goal.returns
unfolding words
returns c = search rules
