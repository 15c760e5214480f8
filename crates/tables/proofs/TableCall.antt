-- Building and checking a table as calls: what their checks say, what they leave.
use Rattle.std.proofs.Common.{Ok, ◌≡◌, refl, sym, ap, ◌∙◌, List, [], ◌∷◌, ◌++◌, ℕ, ◌≤◌, length, drop}
use Rattle.monomial.specs.Count.{words, Allowed}
use Rattle.monomial.specs.Table.{table_words}
use Rattle.monomial.proofs.Words.{length-table_words}
use Rattle.counts.specs.declared.Sizes.{Sizes}
use Rattle.answer.specs.declared.Setting.{Setting}
use Rattle.answer.specs.Refusals.{passed, outcome}
use Rattle.checks.specs.declared.Kind.TheVariants.{Table}
use Rattle.checks.specs.Settings.{table_in}
use Rattle.checks.specs.Room.{slice, room, Decided}
use Rattle.checks.specs.Calls.{left, write, build_checks, build_call}
use Rattle.checks.proofs.RoomLaws.{room-passed}
use Rattle.checks.proofs.CallLaws.{finished_leaves}

-- what the builder and the checker ask
pub table-ready : (s : Setting) (table : ℕ) {z : Sizes} → Decided s (room s (slice Table table ∷ [])) (Ok z)
    → Allowed z.n z.v × (words z.n z.v ≤ table)
table-ready s table d =
    let g = room-passed s (slice Table table ∷ []) (sym d.says) in rw d.sized (g.allowed, g.fitting.0)

pub build_finished : (s : Setting) (table table' : List ℕ) {z : Sizes}
    → Decided s (room s (slice Table (length table) ∷ [])) (Ok z)
    → table' ≡ table_words z.n z.v ++ drop (words z.n z.v) table
    → left (outcome (Ok 0)) (table' ∷ []) ≡ build_call s table
unfolding build_call build_checks
build_finished s table t d m =
    let q = rw d.sized at m in
    let h : passed ≡ build_checks s (length table) = rw (← d.says) in
    finished_leaves _ 0 0 (t ∷ []) (write (table_in s) table ∷ []) h refl
    (q ∙ ap (λ (k : ℕ). table_in s ++ drop k table) (sym (length-table_words s.n s.v)), tt)
