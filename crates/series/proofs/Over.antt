-- Words written over part of a list: its length stays, what stands outside is read as before, and what is
-- written next to what was written joins it.
use Rattle.std.proofs.Common.{◌≡◌, sym, ap, ap₂, ◌∙◌, List, [], ◌∷◌, ◌++◌, append_assoc, ℕ, suc, ◌+◌, ◌-◌, ◌≤◌, ◌<◌, add-zero, add-one, arith, length, get_or, set, take, drop, length-append, length-drop, take-append-drop, length-take-le, take_at, drop_at, take-take, drop-drop, get_or-take, get_or-drop, get_or-append-add}
use Rattle.std.proofs.Math.ListN.{get_or-append}
use Rattle.std.proofs.Math.Seq.{take-append-le, set_split}
use Rattle.series.specs.Over.{over}

pub length_over : (d : List ℕ) (a : ℕ) (s : List ℕ) → a + length s ≤ length d → length (over d a s) ≡ length d
unfolding over
length_over d a s h =
    omega (arith, length-append (take a d) (s ++ drop (a + length s) d), length-append s (drop (a + length s) d), length-take-le a d (omega arith), length-drop (a + length s) d)

pub over_none : (d : List ℕ) (a : ℕ) → over d a [] ≡ d
unfolding over
over_none d a = rw add-zero (take-append-drop a d)

pub over-one : (d : List ℕ) (a x : ℕ) → a < length d → over d a (x ∷ []) ≡ set d a x
unfolding over
over-one d a x h = rw add-one (sym (set_split d a x h))

pub take-over : (d : List ℕ) (a : ℕ) (s : List ℕ) → a ≤ length d → take (a + length s) (over d a s) ≡ take a d ++ s
unfolding over
take-over d a s h =
    rw (← append_assoc)
    (take_at (take a d ++ s) (drop (a + length s) d) (a + length s) (omega (arith, length-append (take a d) s, length-take-le a d h)))

pub drop-over : (d : List ℕ) (a : ℕ) (s : List ℕ) → a ≤ length d → drop (a + length s) (over d a s) ≡ drop (a + length s) d
unfolding over
drop-over d a s h =
    rw (← append_assoc)
    (drop_at (take a d ++ s) (drop (a + length s) d) (a + length s) (omega (arith, length-append (take a d) s, length-take-le a d h)))

pub over-append : (d : List ℕ) (a : ℕ) (s u : List ℕ) → a ≤ length d → over (over d a s) (a + length s) u ≡ over d a (s ++ u)
unfolding over
over-append d a s u h =
    let z : a + length s + length u ≡ a + length (s ++ u) = omega (arith, length-append s u) in
    ap₂ (λ (x y : List ℕ). x ++ (u ++ y)) (take-over d a s h) later
    ∙ append_assoc (take a d) s (u ++ drop (a + length s + length u) d)
    ∙ ap (λ (x : List ℕ). take a d ++ x) (sym (append_assoc s u (drop (a + length s + length u) d)))
    ∙ ap (λ (x : ℕ). take a d ++ ((s ++ u) ++ drop x d)) z
  where
    later : drop (a + length s + length u) (over d a s) ≡ drop (a + length s + length u) d
    later = sym (drop-drop (length u) (a + length s) (over d a s)) ∙ ap (drop (length u)) (drop-over d a s h) ∙ drop-drop (length u) (a + length s) d

-- a word before what was written
pub over-front : (d : List ℕ) (a x : ℕ) (s : List ℕ) → a + 1 + length s ≤ length d → set (over d (a + 1) s) a x ≡ over d a (x ∷ s)
unfolding over
over-front d a x s h =
    let z : a + 1 + length s ≡ a + length (x ∷ s) = omega arith in
    set_split (over d (a + 1) s) a x (omega (arith, length_over d (a + 1) s h))
    ∙ ap₂ (λ (p q : List ℕ). p ++ x ∷ q) front back
    ∙ ap (λ (y : ℕ). take a d ++ (x ∷ (s ++ drop y d))) z
  where
    front : take a (over d (a + 1) s) ≡ take a d
    front = take-append-le a (take (a + 1) d) (s ++ drop (a + 1 + length s) d) (omega (arith, length-take-le (a + 1) d (omega arith))) ∙ take-take a (a + 1) d (omega arith)

    back : drop (suc a) (over d (a + 1) s) ≡ s ++ drop (a + 1 + length s) d
    back = drop_at (take (a + 1) d) (s ++ drop (a + 1 + length s) d) (suc a) (length-take-le (a + 1) d (omega arith) ∙ add-one a)

pub over_below : (d : List ℕ) (a : ℕ) (s : List ℕ) (i : ℕ) → a ≤ length d → i < a → get_or (over d a s) i 0 ≡ get_or d i 0
unfolding over
over_below d a s i h l =
    get_or-append (take a d) (s ++ drop (a + length s) d) 0 i (omega (arith, length-take-le a d h)) ∙ get_or-take a d i 0 l

pub over-above : (d : List ℕ) (a : ℕ) (s : List ℕ) (i : ℕ) → a ≤ length d → a + length s ≤ i → get_or (over d a s) i 0 ≡ get_or d i 0
over-above d a s i h l =
    let z : a + length s + (i - (a + length s)) ≡ i = omega arith in
    rw z at (sym (get_or-drop (a + length s) (over d a s) (i - (a + length s)) 0) ∙ ap (λ (x : List ℕ). get_or x (i - (a + length s)) 0) (drop-over d a s h)
    ∙ get_or-drop (a + length s) d (i - (a + length s)) 0)

pub over-in : (d : List ℕ) (a : ℕ) (s : List ℕ) (i : ℕ) → a ≤ length d → i < length s → get_or (over d a s) (a + i) 0 ≡ get_or s i 0
over-in d a s i h l =
    sym (get_or-take (a + length s) (over d a s) (a + i) 0 (omega arith))
    ∙ ap (λ (x : List ℕ). get_or x (a + i) 0) (take-over d a s h)
    ∙ ap (λ (z : ℕ). get_or (take a d ++ s) (z + i) 0) (sym (length-take-le a d h))
    ∙ get_or-append-add (take a d) s i 0

-- what was written is there
pub part-over : (d : List ℕ) (a : ℕ) (s : List ℕ) (n : ℕ) → a + length s ≤ length d → length s ≡ n
    → take n (drop a (over d a s)) ≡ s
unfolding over
part-over d a s n h e =
    ap (take n) (drop_at (take a d) _ a (length-take-le a d (omega arith))) ∙ take_at s _ n e

-- the words behind are as they were
pub behind_over : (d : List ℕ) (a : ℕ) (s : List ℕ) (n : ℕ) → a ≤ length d → a + length s ≤ n
    → drop n (over d a s) ≡ drop n d
behind_over d a s n h l =
    let b = a + length s in
    let e : b + (n - b) ≡ n = omega arith in
    rw e at
    (sym (drop-drop (n - b) b (over d a s))
    ∙ ap (drop (n - b)) (drop-over d a s h)
    ∙ drop-drop (n - b) b d)

-- what is written behind it, wherever it ends
pub over-more : (d : List ℕ) (a : ℕ) (s : List ℕ) (n : ℕ) (u : List ℕ) → a ≤ length d
    → n ≡ a + length s → over (over d a s) n u ≡ over d a (s ++ u)
over-more d a s n u h e = ap (λ (k : ℕ). over (over d a s) k u) e ∙ over-append d a s u h

-- what is written over all that was written before within its part
pub over-all : (d : List ℕ) (a b : ℕ) (s u : List ℕ) → a ≤ b → b + length s ≤ a + length u → a + length u ≤ length d
    → over (over d b s) a u ≡ over d a u
unfolding over
over-all d a b s u l h f =
    ap₂ (λ (x y : List ℕ). x ++ (u ++ y))
    (take-append-le a (take b d) (s ++ drop (b + length s) d) (omega (arith, length-take-le b d (omega arith)))
    ∙ take-take a b d l)
    (behind_over d b s (a + length u) (omega arith) h)
