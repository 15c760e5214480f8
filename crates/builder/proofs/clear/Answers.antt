-- The part is filled, and the words around it are kept.
use Rattle.std.proofs.Common.{◌≡◌, sym, ap, ◌∙◌, ℕ, ◌+◌, ◌-◌, arith, length, take, drop, replicate, length-drop, ext_get_or, length-take-le}
use Rattle.std.proofs.Math.ListN.{get_or-replicate, length-replicate}
use Rattle.std.proofs.lemmas.Slice.{put_mid-paste}
use Rattle.monomial.specs.Enumeration.{tabulate}
use Rattle.monomial.proofs.Upto.{length-tabulate, get_d_tabulate}
use Rattle.builder.specs.Build.{filled}
use Rattle.builder.proofs.clear.Goals as goal

zeros : (k m : ℕ) → k ≡ m → replicate k 0 ≡ tabulate (λ c. 0) m
zeros k m e =
    ap (λ (n : ℕ). replicate n 0) e
    ∙ ext_get_or 0 (replicate m 0) (tabulate (λ c. 0) m) (length-replicate {A = ℕ} m 0 ∙ sym (length-tabulate (λ c. 0) m))
    (λ i l.
    get_or-replicate m i 0 0 (omega (arith, length-replicate {A = ℕ} m 0))
    ∙ sym (get_d_tabulate (λ c. 0) m i (omega (arith, length-replicate {A = ℕ} m 0))))

pub returns : goal.returns
unfolding filled
returns c =
    let m = c.args.m in
    let long : length (take (c.args.at + m - c.args.at) (drop c.args.at c.args.t.now)) ≡ m =
    omega (arith, length-take-le (c.args.at + m - c.args.at) (drop c.args.at c.args.t.now) (omega (arith, length-drop c.args.at c.args.t.now))) in
    put_mid-paste c.args.at _ c.args.t.now _ (tabulate (λ c. 0) m) m
    (c.fill.ensures.after (λ y e. e) ∙ zeros _ m long) (omega arith) (sym (length-tabulate (λ c. 0) m))
