-- Words written over a part of a slice, as a list.
use Rattle.std.proofs.Common.{◌≡◌, sym, ap, ◌∙◌, List, [], ◌∷◌, ◌++◌, ℕ, ◌+◌, ◌<◌, add-one, arith, length, get_or, set, take, drop, length-take-le, take-suc, drop-drop}
use borrow.Rule.Slice.PartMut.{put_mid}
use Rattle.series.specs.Over.{over}
use Rattle.series.proofs.Over.{length_over, over-one, over-append}

pub over_part : (w : List ℕ) (a k : ℕ) (s : List ℕ) → length s ≡ k → put_mid a k w s ≡ over w a s
unfolding over
over_part w a k s e =
    ap (λ (x : List ℕ). take a w ++ (s ++ x)) (drop-drop k a w ∙ ap (λ (i : ℕ). drop i w) (omega arith))

-- one word more
pub copy_more : (d : List ℕ) (at : ℕ) (a : List ℕ) (i : ℕ) → i < length a → at + i < length d
    → set (over d at (take i a)) (at + i) (get_or a i 0) ≡ over d at (take (i + 1) a)
copy_more d at a i h l =
    let z : at + length (take i a) ≡ at + i = omega (arith, length-take-le i a (omega arith)) in
    let m = over-append d at (take i a) (get_or a i 0 ∷ []) (omega arith) in
    sym (over-one (over d at (take i a)) (at + i) (get_or a i 0) (omega (arith, length_over d at (take i a) (omega arith))))
    ∙ (rw z at m)
    ∙ ap (over d at) (sym (take-suc a i 0 h) ∙ ap (λ (y : ℕ). take y a) (sym (add-one i)))
