-- Entries written one after another from word 1 on: what stands there and what is left to write
-- make the whole.
use Rattle.std.proofs.Common.{◌≡◌, refl, sym, ap, ap₂, ◌∙◌, List, [], ◌++◌, append_assoc, append-nil, ℕ, ◌+◌, ◌-◌, ◌≤◌, arith, length, take, drop, length-append}
use Rattle.series.specs.Image.{image_of}
use Rattle.series.specs.Over.{over}
use Rattle.series.proofs.Over.{over_none, length_over, over-more, part-over, behind_over}

-- a slice that begins as s₀ has room for `whole`, at most N entries
pub record Room (N : ℕ) (s₀ whole : List ℕ) : Type 0 where
  pub few : length whole ≤ N
  pub fits : N + 1 ≤ length s₀

-- the slice is now s, the next word to write is `at`, and `rest` is left to write
pub record Written (s₀ whole rest : List ℕ) (at : ℕ) (s : List ℕ) : Type 0 where
  pub done : List ℕ
  pub next : at ≡ 1 + length done
  pub words : s ≡ over s₀ 1 done
  pub parts : done ++ rest ≡ whole

pub nothing_written : (s₀ whole : List ℕ) → Written s₀ whole whole 1 s₀
nothing_written s₀ whole =
    record { done = []; next = omega arith; words = sym (over_none s₀ 1); parts = refl }

module _ {N : ℕ} {s₀ whole : List ℕ} (space : Room N s₀ whole) where
  module _ {rest : List ℕ} {at : ℕ} {s : List ℕ} (w : Written s₀ whole rest at s) where
    together : length w.done + length rest ≤ N
    together =
        omega (arith, space.few, length-append w.done rest, ap length w.parts)

    inside : 1 + length w.done ≤ length s₀
    inside = omega (arith, together, space.fits)

    pub at_low : 1 ≤ at
    at_low = omega (arith, w.next)

    pub at_high : at ≤ N + 1
    at_high = omega (arith, w.next, together)

    pub same_length : length s ≡ length s₀
    same_length = ap length w.words ∙ length_over s₀ 1 w.done inside

    pub long : N + 1 ≤ length s
    long = omega (arith, same_length, space.fits)

    -- there is room for what comes next
    pub room : (es rest' : List ℕ) → rest ≡ es ++ rest' → at + length es ≤ length s
    room es rest' e = omega (arith, long, together, w.next, ap length e, length-append es rest')

    -- and then less is left
    pub more-written : (es rest' : List ℕ) {at' : ℕ} {s' : List ℕ} → rest ≡ es ++ rest'
        → at' ≡ at + length es → s' ≡ over s at es → Written s₀ whole rest' at' s'
    more-written es rest' e n t =
        record {
          done = w.done ++ es;
          next = n ∙ omega (arith, w.next, length-append w.done es);
          words = t
              ∙ ap (λ x. over x at es) w.words
              ∙ over-more s₀ 1 w.done at es (omega (arith, inside)) w.next;
          parts = append_assoc w.done es rest' ∙ ap (λ x. w.done ++ x) (sym e) ∙ w.parts;
        }

  -- where nothing is left, the image is the whole's
  pub all-written : {at : ℕ} {s : List ℕ} → Written s₀ whole [] at s
      → image_of N (take (at - 1) (drop 1 s)) ++ drop (N + 1) s ≡ image_of N whole ++ drop (N + 1) s₀
  all-written {at} {s} w =
      let n : length w.done ≡ at - 1 = omega (arith, w.next) in
      let es : take (at - 1) (drop 1 s) ≡ whole =
      ap (λ x. take (at - 1) (drop 1 x)) w.words
      ∙ part-over s₀ 1 w.done (at - 1) (inside w) n
      ∙ sym (append-nil w.done)
      ∙ w.parts in
      let tail : drop (N + 1) s ≡ drop (N + 1) s₀ =
      ap (drop (N + 1)) w.words
      ∙ behind_over s₀ 1 w.done (N + 1) (omega (arith, inside w)) (omega (arith, together w)) in
      ap₂ (λ x y. image_of N x ++ y) es tail
