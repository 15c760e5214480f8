-- A part of the output grows line by line: what is printed, followed by the lines that are left,
-- stays the same.
use Rattle.std.proofs.Common.{Result, Ok, Err, IfOk, ◌≡◌, refl, sym, ap, ◌∙◌, List, [], ◌++◌, append-nil, append_assoc, ℕ, suc, ◌+◌, ◌≤◌, ◌<◌, add-one, arith, length, get_or, take, drop-cons, drop-drop}
use Rattle.std.proofs.Math.Seq.{drop-length}
use Rattle.monomial.specs.Count.{count, Allowed}
use Rattle.monomial.specs.Table.{monomials}
use Rattle.monomial.proofs.Size.{length-monomials}
use Rattle.answer.specs.declared.Refusal.{Refusal}
use Rattle.answer.specs.Refusals.{verdict}
use Rattle.counts.specs.declared.Sizes.{Sizes}
use Rattle.line.specs.Line.{line_check, line_order, line_variables}
use Rattle.text.specs.Text.{header_text, monomial_text, refused_text}
use Rattle.text.specs.declared.Writer.{Writer}
use Rattle.text.specs.Writing.{Wrote, Room}
use Rattle.text.proofs.Tables.{length-monomial_text}
use Rattle.text.proofs.Writings.{wrote_take, wrote_drop, wrote_fits}
use Rattle.sheet.specs.Sheet.{lines, lines_from, sheet_text, sheet_from, refused_from, sheet_output}
use Rattle.sheet.specs.Part.{Ranged, Prepared, Printed, output_lines, output_from}

pub printed_none : (rest : ℕ → List ℕ) (last k : ℕ) (old : List ℕ) → Printed rest last k old old k 0
printed_none rest last k old =
    record { within = (omega arith, λ h. h); inside = omega arith; lines = refl; others = refl }

-- the first text of an output, written at the start of a buffer
printed_first : {rest : ℕ → List ℕ} {last end : ℕ} {text old new : List ℕ} → 1 ≤ last
    → rest 0 ≡ text ++ rest 1 → Wrote 0 text old new end → length new ≡ length old
    → Printed rest last 0 old new 1 end
printed_first {rest} {text = text} {old = old} some split w same =
    let fits : 0 + length text ≤ length old = omega (arith, wrote_fits w same) in record {
      within = (omega arith, λ h. some);
      inside = omega (arith, w.ended);
      lines = split ∙ ap (λ (z : List ℕ). z ++ rest 1) (sym (wrote_take 0 text old fits w));
      others = wrote_drop 0 text old fits w;
    }

-- the lines that are left at a monomial: its own, and those after it
lines_from-next : (n v j : ℕ) → j < count n v
    → lines_from n v j
    ≡ monomial_text n v (j + 1) (get_or (monomials n v) j []) ++ lines_from n v (j + 1)
unfolding lines_from lines
lines_from-next n v j h =
    let inside : j < length (monomials n v) = omega (arith, length-monomials n v) in
    rw (drop-cons (monomials n v) j [] inside, add-one j)

-- room for 64 bytes is room for the line of a monomial
pub line_room : {n v next : ℕ} (u : Writer) → Allowed n v → next < count n v → u.at + 64 ≤ length u.out.now
    → Room u (monomial_text n v (next + 1) (get_or (monomials n v) next []))
line_room {n} {v} {next} u a left room = omega (arith, length-monomial_text n v a next left)

module _ {n v next end e : ℕ} {mid new : List ℕ}
    (a : Allowed n v)
    (left : next < count n v)
    (room : end + 64 ≤ length mid)
    (same : length new ≡ length mid)
    (w : Wrote end (monomial_text n v (next + 1) (get_or (monomials n v) next [])) mid new e)
  where
    abbrev text : List ℕ
    text = monomial_text n v (next + 1) (get_or (monomials n v) next [])

    short : length text ≤ 64
    short = length-monomial_text n v a next left

    pub line_end : e ≤ end + 64
    line_end = omega (arith, w.ended, short)

    fits : end + length text ≤ length mid
    fits = omega (arith, short)

    pub printed_more : {j last : ℕ} {old : List ℕ} → next < last
        → Printed (lines_from n v) last j old mid next end
        → Printed (lines_from n v) last j old new (next + 1) e
    printed_more {old = old} more p = record {
      within = (omega (arith, p.within.0), λ h. omega arith);
      inside = omega (arith, line_end);
      lines =
          p.lines
          ∙ ap (λ (z : List ℕ). take end mid ++ z) (lines_from-next n v next left)
          ∙ sym (append_assoc (take end mid) text (lines_from n v (next + 1)))
          ∙ ap (λ (z : List ℕ). z ++ lines_from n v (next + 1))
          (sym (wrote_take end text mid fits w));
      others =
          wrote_drop end text mid fits w
          ∙ rw (
            w.ended,
            ← drop-drop (length text) end mid,
            ← drop-drop (length text) end old,
            p.others,
          );
    }

-- n and v that a table is prepared for are in range
pub prepared_ranged : (d : Result Sizes Refusal) (table : List ℕ) → Prepared d table → Ranged d
prepared_ranged (Ok z) table t = t.ranges
prepared_ranged (Err r) table t = tt

-- ---- the output of a refusal and of a sheet

pub refusal_printed : (k : ℕ) {end : ℕ} {old new : List ℕ}
    → Wrote 0 (refused_text k) old new end → length new ≡ length old
    → Printed (refused_from k) 1 0 old new 1 end
refusal_printed k w same = printed_first (omega arith) (sym (append-nil (refused_text k))) w same

pub header_printed : (n v : ℕ) {end : ℕ} {old new : List ℕ}
    → Wrote 0 (header_text n v (count n v)) old new end → length new ≡ length old
    → Printed (sheet_from n v) (count n v + 1) 0 old new 1 end
unfolding sheet_text
header_printed n v w same = printed_first (omega arith) refl w same

-- the line of a sheet with index k is that of the monomial with index k - 1
pub sheet_lines : (n v : ℕ) {j next end : ℕ} {old new : List ℕ}
    → Printed (lines_from n v) (count n v) j old new next end
    → Printed (sheet_from n v) (count n v + 1) (suc j) old new (next + 1) end
sheet_lines n v {next = next} p = record {
  within = (omega (arith, p.within.0), λ h. omega (arith, p.within.1 (omega arith)));
  inside = p.inside;
  lines = rw (add-one next) p.lines;
  others = p.others;
}

-- ---- the parts one after the other

lines_from-end : (n v : ℕ) → lines_from n v (count n v) ≡ []
unfolding lines_from lines
lines_from-end n v = rw (← length-monomials n v, drop-length (monomials n v))

output_from-end : (d : Result Sizes Refusal) → output_from d (output_lines d) ≡ []
output_from-end (Ok z) = rw (add-one (count z.n z.v)) (lines_from-end z.n z.v)
output_from-end (Err r) = refl

-- text is what parts print, each from where the one before it ended, from index k to the last one
pub data Prints (rest : ℕ → List ℕ) (last : ℕ) : ℕ → List ℕ → Type 0 where
  done : Prints rest last last []
  part : {k next end : ℕ} {old new text : List ℕ} → Printed rest last k old new next end
      → Prints rest last next text → Prints rest last k (take end new ++ text)

prints_rest : {rest : ℕ → List ℕ} {last k : ℕ} {text : List ℕ} → rest last ≡ []
    → Prints rest last k text → text ≡ rest k
prints_rest e done = sym e
prints_rest e (part {end = end} {new = new} p more) =
    ap (λ (z : List ℕ). take end new ++ z) (prints_rest e more) ∙ sym p.lines

-- what is decided on the input s prints what maptab is to print for s
decided_output : (s : List ℕ) (d : Result Sizes Refusal) → verdict d ≡ line_check s
    → IfOk d (λ z. (z.n ≡ line_order s) × (z.v ≡ line_variables s)) → output_from d 0 ≡ sheet_output s
unfolding sheet_output
decided_output s (Ok z) checked sizes = rw (← checked, sizes.0, sizes.1)
decided_output s (Err r) checked sizes = rw (← checked)

-- parts from the first line on until no line is left are all that maptab is to print for the input
-- s, where d is what is decided on s
pub prints_output : (s : List ℕ) (d : Result Sizes Refusal) {text : List ℕ} → verdict d ≡ line_check s
    → IfOk d (λ z. (z.n ≡ line_order s) × (z.v ≡ line_variables s))
    → Prints (output_from d) (output_lines d) 0 text → text ≡ sheet_output s
prints_output s d checked sizes ps =
    prints_rest (output_from-end d) ps ∙ decided_output s d checked sizes
