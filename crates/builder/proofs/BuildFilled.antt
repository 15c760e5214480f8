-- A section of words that is filled place by place: what one store changes, and what stands before it.
use Rattle.std.proofs.Common.{◌≡◌, sym, ap, ap₂, ◌∙◌, ◌≢◌, List, [], ◌∷◌, ◌++◌, ℕ, ◌+◌, ◌≤◌, ◌<◌, zero-add, suc-add, arith, length, get_or, set, take, drop, length-set, length-append, take_all, take-take, length-take-le, ext_get_or, get_or-set_same, get_or-set_other}
use Rattle.std.proofs.Math.Decide.{ℕ_discrete}
use Rattle.std.proofs.Math.Seq.{paste, length-paste, take-paste, drop-paste, set-append_left, take-append-le}
use Rattle.monomial.specs.Enumeration.{tabulate}
use Rattle.builder.specs.Build.{filled}
use Rattle.monomial.proofs.Upto.{length-tabulate, get_d_tabulate, tabulate-ext}
use Rattle.builder.proofs.BuildWritten.{get_d_before_paste}

set_after : (xs ys : List ℕ) (i w : ℕ) → set (xs ++ ys) (length xs + i) w ≡ xs ++ set ys i w
set_after [] ys i w = ap (λ (z : ℕ). set ys z w) (zero-add i)
set_after (x ∷ xs) ys i w =
    ap (λ (z : ℕ). set (x ∷ (xs ++ ys)) z w) (suc-add (length xs) i) ∙ ap (λ (z : List ℕ). x ∷ z) (set_after xs ys i w)

set_tabulate : (f g : ℕ → ℕ) (m c w : ℕ) → c < m → f c ≡ w → ((i : ℕ) → i < m → i ≢ c → f i ≡ g i)
    → set (tabulate g m) c w ≡ tabulate f m
set_tabulate f g m c w l e o =
    let s = length-set (tabulate g m) c w ∙ length-tabulate g m in
    ext_get_or 0 (set (tabulate g m) c w) (tabulate f m) (s ∙ sym (length-tabulate f m)) (λ i k.
    let k' : i < m = omega (arith, s) in
    go i k' (ℕ_discrete i c) ∙ sym (get_d_tabulate f m i k'))
  where
    go : (i : ℕ) → i < m → Dec (i ≡ c) → get_or (set (tabulate g m) c w) i 0 ≡ f i
    go i k (yes z) =
        ap (λ (y : ℕ). get_or (set (tabulate g m) c w) y 0) z
        ∙ get_or-set_same (tabulate g m) c w 0 (omega (arith, length-tabulate g m))
        ∙ sym (ap f z ∙ e)
    go i k (no z) = get_or-set_other (tabulate g m) c i w 0 z ∙ get_d_tabulate g m i k ∙ sym (o i k z)

module _ (at m : ℕ) (s : List ℕ) (room : at + m ≤ length s) where
  pub length-filled : (g : ℕ → ℕ) → length (filled at g m s) ≡ length s
  unfolding filled
  length-filled g = length-paste s at (tabulate g m) m room (omega (arith, length-tabulate g m))

  pub get_d_before_filled : (g : ℕ → ℕ) (i : ℕ) → i < at → get_or (filled at g m s) i 0 ≡ get_or s i 0
  unfolding filled
  get_d_before_filled g i l = get_d_before_paste s at (tabulate g m) m i l (omega arith)

  pub filled-ext : (f g : ℕ → ℕ) → ((i : ℕ) → i < m → f i ≡ g i) → filled at f m s ≡ filled at g m s
  unfolding filled
  filled-ext f g e = ap (λ (z : List ℕ). paste s at z m) (tabulate-ext f g m e)

  -- a section that is filled again
  pub filled-again : (f g : ℕ → ℕ) → filled at f m (filled at g m s) ≡ filled at f m s
  unfolding filled
  filled-again f g =
      let d = tabulate g m in
      let ld = length-tabulate g m in
      let l : length (take at s) ≡ at = length-take-le at s (omega arith) in
      let head : take at (paste s at d m) ≡ take at s =
      sym (take-take at (at + m) (paste s at d m) (omega arith))
      ∙ ap (take at) (take-paste s at d m (omega arith) (omega arith))
      ∙ take-append-le at (take at s) (take m d) (omega arith)
      ∙ take-take at at s (omega arith) in
      ap₂ (λ (y z : List ℕ). y ++ take m (tabulate f m) ++ z) head (drop-paste s at d m (omega arith) (omega arith))

  -- one store
  pub filled-set : (f g : ℕ → ℕ) (c w : ℕ) → c < m → f c ≡ w → ((i : ℕ) → i < m → i ≢ c → f i ≡ g i)
      → set (filled at g m s) (at + c) w ≡ filled at f m s
  unfolding filled
  filled-set f g c w l e o =
      let a = take at s in
      let d = drop (at + m) s in
      let la : length a ≡ at = length-take-le at s (omega arith) in
      let whole : (h : ℕ → ℕ) → take m (tabulate h m) ≡ tabulate h m =
      λ h. take_all m (tabulate h m) (omega (arith, length-tabulate h m)) in
      let k : at + c < length (a ++ tabulate g m) = omega (arith, length-append a (tabulate g m), length-tabulate g m) in
      ap (λ (z : List ℕ). set ((a ++ z) ++ d) (at + c) w) (whole g)
      ∙ set-append_left (a ++ tabulate g m) d (at + c) w k
      ∙ ap (λ (z : ℕ). set (a ++ tabulate g m) (z + c) w ++ d) (sym la)
      ∙ ap (λ (z : List ℕ). z ++ d) (set_after a (tabulate g m) c w)
      ∙ ap (λ (z : List ℕ). (a ++ z) ++ d) (set_tabulate f g m c w l e o ∙ sym (whole f))
