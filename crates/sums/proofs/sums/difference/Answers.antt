-- `difference` meets its contract: it is the combination a + (p - 1) b.
use Rattle.std.proofs.Common.{◌∙◌, refl, ◌-◌, rules}
use Rattle.checks.specs.Settings.{prime_of}
use Rattle.sums.proofs.SumCall.{by_negation, difference-is}
use Rattle.sums.proofs.sums.difference.Goals as goal

pub combined-requires : goal.combined-requires
combined-requires c =
    let s = c.args.s in
    record {
      callable = λ y l h. search (rules, c.prime-p.ensures);
      multiplies = (prime_of s - 1, by_negation s _ (λ y z h e. search (rules, c.prime-p.ensures)));
    }

pub returns : goal.returns
returns c =
    let x = c.args in
    c.combined.ensures (prime_of x.s - 1) (by_negation x.s _ (λ y z h e. search (rules, c.prime-p.ensures)))
    ∙ difference-is x.s x.a.now x.b.now x.res.now refl
