-- Entries that come in the order of their positions are packed by appending each to those before.
use Rattle.std.proofs.Common.{◌≡◌, sym, ap, ap₂, ◌∙◌, List, [], ◌++◌, ℕ, zero, suc, ◌+◌, ◌≤◌, ◌<◌, arith, length, length-append}
use Rattle.series.specs.Image.{entry_of, packed}
use Rattle.series.specs.Over.{over}
use Rattle.series.proofs.Packed.{packed_zero, packed-suc, packed-skip, packed-cong}
use Rattle.series.proofs.Over.{length_over, over_none, over-append}
use Rattle.product.proofs.Packing.{Packing, packed-few}

-- where h is g but for a coefficient at r, and g has none from r on, one entry is appended
pub packed-last : (g h : ℕ → ℕ) (N r : ℕ) → 0 < r → r ≤ N → ((q : ℕ) → q < r → h q ≡ g q)
    → ((q : ℕ) → r ≤ q → g q ≡ 0) → ((q : ℕ) → r < q → h q ≡ 0)
    → packed h N ≡ packed g N ++ entry_of r (h r)
packed-last g h N zero pos l same late above = absurd (omega arith)
packed-last g h N (suc r) pos l same late above =
    packed-skip h (suc r) N l (λ q i j. above q i)
    ∙ packed-suc h r
    ∙ ap (λ (s : List ℕ). s ++ entry_of (suc r) (h (suc r)))
    (packed-cong h g r (λ q i j. same q (omega arith))
    ∙ sym (packed-skip g r N (omega arith) (λ q i j. late q i)))

-- no coefficient, no entry
pub packed-nothing : (g : ℕ → ℕ) (N : ℕ) → ((q : ℕ) → g q ≡ 0) → packed g N ≡ []
packed-nothing g N z = packed-skip g 0 N (omega arith) (λ q i j. z q) ∙ packed_zero g

module _ (w₀ : List ℕ) (N at : ℕ) (fits : at + (N + 1) ≤ length w₀) where
  -- what is packed from g is written
  packing_is : (g : ℕ → ℕ) (w : List ℕ) (i : ℕ) → i ≡ at + 1 + length (packed g N)
      → w ≡ over w₀ (at + 1) (packed g N) → Packing w₀ g N at w i N
  packing_is g w i ei ew =
      let few = packed-few g N in
      record {
        high = omega arith;
        size = ap length ew ∙ length_over w₀ (at + 1) (packed g N) (omega arith);
        next = ei;
        is = ew;
      }

  pub packing_nothing : (g : ℕ → ℕ) → packed g N ≡ [] → Packing w₀ g N at w₀ (at + 1) N
  packing_nothing g z =
      packing_is g w₀ (at + 1) (omega (arith, ap length z))
      (sym (ap (over w₀ (at + 1)) z ∙ over_none w₀ (at + 1)))

  pub packing_append : {g : ℕ → ℕ} (h : ℕ → ℕ) (s : List ℕ) {w w' : List ℕ} {i i' : ℕ}
      → Packing w₀ g N at w i N → packed h N ≡ packed g N ++ s
      → i' ≡ i + length s → w' ≡ over w i s → Packing w₀ h N at w' i' N
  packing_append {g} h s {w' = w'} {i' = i'} k e ei ew =
      packing_is h w' i' (omega (arith, k.next, ap length e, length-append (packed g N) s))
      (ew
      ∙ ap₂ (λ (x : List ℕ) (y : ℕ). over x y s) k.is k.next
      ∙ over-append w₀ (at + 1) (packed g N) s (omega arith)
      ∙ ap (over w₀ (at + 1)) (sym e))
