-- Maps and series as arguments of a call.
use Rattle.std.proofs.Common.{◌≡◌, refl, ◌∙◌, List, [], ◌∷◌, ℕ, ◌+◌, ◌*◌, arith, take, Bor}
use Rattle.monomial.specs.Count.{count}
use Rattle.monomial.specs.Enumeration.{upto}
use Rattle.answer.proofs.Laws.{or_else-last}
use Rattle.series.specs.Image.{component}
use Rattle.series.specs.Faults.{series_check}
use Rattle.series.specs.Arguments.{part, argument_check, arguments_check, map_check, constants_check, constant_check}
use Rattle.series.proofs.Series.{first_fault-take}

pub argument_map : (p n v a : ℕ) (ws : List ℕ)
    → argument_check p (count n v) a v ws ≡ map_check p n v a ws
unfolding argument_check component
argument_map p n v a ws = refl

-- the words behind the first N + 1 do not matter
first-words : (p N a : ℕ) (ws : List ℕ)
    → series_check p N a 1 (take (N + 1) ws) ≡ series_check p N a 1 ws
unfolding series_check
first-words p N a ws = rw (first_fault-take p N ws)

pub argument_series : (p N a : ℕ) (ws : List ℕ) → argument_check p N a 1 ws ≡ series_check p N a 1 ws
unfolding argument_check upto
argument_series p N a ws =
    let z : 0 * (N + 1) ≡ 0 = omega arith in
    or_else-last (series_check p N a 1 (part N (0 * (N + 1)) ws)) ∙ (rw z (first-words p N a ws))

-- one argument alone
pub argument_alone : (p N a k : ℕ) (ws : Bor (List ℕ))
    → arguments_check p N a ((ws, k) ∷ []) ≡ argument_check p N a k ws.now
unfolding arguments_check
argument_alone p N a k ws = or_else-last (argument_check p N a k ws.now)

pub constants-map : (n v : ℕ) (ws : List ℕ) → constants_check (count n v) v ws ≡ constant_check n v ws
unfolding constants_check component
constants-map n v ws = refl
