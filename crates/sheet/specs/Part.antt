-- The output in parts, so that a small buffer is enough for it. Its lines have indices from 0 on.
--
-- What is decided on the input is the sizes of a sheet, or a refusal: d below. Of the sizes n and v alone are read: N
-- is theirs, whatever the caller's count is.
--
-- output_lines d        how many lines are printed: 1 of a refusal, N + 1 of a sheet
-- output_from d k       the lines with the indices k and up, all of the output where k is 0
-- Ranged d              n and v of a sheet are in 01's ranges
-- Prepared d table      table begins with the table of a sheet
-- Prepared-prop d table this has at most one proof
-- Printed rest last k old new next end   of `last` lines, of which `rest i` are those with the
--                       indices i and up, the first `end` bytes of new are those with the indices
--                       k up to next, and the other bytes are those of old
use Rattle.std.specs.Prelude.{◌≡◌, List, ◌++◌, ℕ, ◌+◌, ◌≤◌, length, take, drop, Result, Ok, Err}
use Rattle.std.specs.Coded.{Unit-prop}
use Rattle.std.proofs.Props.{props}
use Rattle.monomial.specs.Count.{count, Allowed}
use Rattle.answer.specs.declared.Refusal.{Refusal}
use Rattle.answer.specs.Refusals.{number}
use Rattle.counts.specs.declared.Sizes.{Sizes}
use Rattle.text.specs.Text.{Tabled}
use Rattle.sheet.specs.Sheet.{sheet_from, refused_from}

abbrev pub output_lines : Result Sizes Refusal → ℕ
output_lines (Ok z) = count z.n z.v + 1
output_lines (Err r) = 1

abbrev pub output_from : Result Sizes Refusal → ℕ → List ℕ
output_from (Ok z) = sheet_from z.n z.v
output_from (Err r) = refused_from (number r)

abbrev pub Ranged : Result Sizes Refusal → Type 0
Ranged (Ok z) = Allowed z.n z.v
Ranged (Err r) = Unit {0}

abbrev pub Prepared : Result Sizes Refusal → List ℕ → Type 0
Prepared (Ok z) table = Tabled z.n z.v (count z.n z.v) table
Prepared (Err r) table = Unit {0}

pub Prepared-prop : (d : Result Sizes Refusal) (table : List ℕ) → IsProp (Prepared d table)
Prepared-prop (Ok z) table = Prim.hlevel props
Prepared-prop (Err r) table = Unit-prop

pub record Printed (rest : ℕ → List ℕ) (last k : ℕ) (old new : List ℕ) (next end : ℕ)
    : Type 0 where
  pub within : (k ≤ next) × (k ≤ last → next ≤ last)
  pub inside : end ≤ length new
  pub lines : rest k ≡ take end new ++ rest next
  pub others : drop end new ≡ drop end old
