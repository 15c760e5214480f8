-- Words that are written position by position: what one position adds, what stands where, and the end.
use Rattle.std.proofs.Common.{◌≡◌, sym, ap, ap₂, ◌∙◌, List, ◌++◌, ℕ, suc, ◌+◌, ◌≤◌, ◌<◌, zero-add, add-one, arith, length, get_or, set, take, drop, replicate, length-append, length-take-le, drop-set-lt, get_or-take}
use Rattle.std.proofs.Math.ListN.{length-replicate, get_or-append}
use Rattle.std.proofs.Math.Seq.{paste, paste-zero, paste-suc, length-paste, set-append_left, take-set-lt}
use Rattle.monomial.specs.Count.{count}
use Rattle.builder.specs.Build.{C1s, C2s, with_codes, CodesAt, Advances, Ends}
use Rattle.monomial.proofs.Words.{length-C1s, length-C2s}

-- ---- a store, and a look, before the words that are replaced

pub set_before_paste : (d : List ℕ) (at : ℕ) (s : List ℕ) (n i x : ℕ) → i < at → at ≤ length d
    → set (paste d at s n) i x ≡ paste (set d i x) at s n
set_before_paste d at s n i x l k =
    let e = length-take-le at d k in
    set-append_left (take at d ++ take n s) (drop (at + n) d) i x (omega (arith, e, length-append (take at d) (take n s)))
    ∙ ap (λ (z : List ℕ). z ++ drop (at + n) d) (set-append_left (take at d) (take n s) i x (omega (arith, e)))
    ∙ ap₂ (λ (y z : List ℕ). (y ++ take n s) ++ z) (sym (take-set-lt at d i x l)) (sym (drop-set-lt (at + n) d i x (omega arith)))

pub get_d_before_paste : (d : List ℕ) (at : ℕ) (s : List ℕ) (n i : ℕ) → i < at → at ≤ length d
    → get_or (paste d at s n) i 0 ≡ get_or d i 0
get_d_before_paste d at s n i l k =
    let e = length-take-le at d k in
    get_or-append (take at d ++ take n s) (drop (at + n) d) 0 i (omega (arith, e, length-append (take at d) (take n s)))
    ∙ get_or-append (take at d) (take n s) 0 i (omega (arith, e))
    ∙ get_or-take at d i 0 l

module _ (n v : ℕ) where
  abbrev N : ℕ
  N = count n v

  pub size1 : length (C1s n v) ≡ count n v
  unfolding C1s
  size1 = length-C1s n v

  pub size2 : length (C2s n v) ≡ count n v
  unfolding C2s
  size2 = length-C2s n v

  -- ---- the words with j positions written

  module _ (s : List ℕ) (room : count n v + count n v ≤ length s) where
    firsts : ℕ → List ℕ
    firsts j = paste s 0 (C1s n v) j

    length-firsts : (j : ℕ) → j ≤ count n v → length (firsts j) ≡ length s
    unfolding firsts
    length-firsts j l = length-paste s 0 (C1s n v) j (omega arith) (omega (arith, size1))

    pub with_codes-next : (j : ℕ) → j < count n v
        → set (set (with_codes n v j s) j (get_or (C1s n v) j 0)) (count n v + j) (get_or (C2s n v) j 0) ≡ with_codes n v (suc j) s
    unfolding with_codes firsts
    with_codes-next j l =
        let x = get_or (C1s n v) j 0 in
        let y = get_or (C2s n v) j 0 in
        let first : set (firsts j) j x ≡ firsts (suc j) =
        ap (λ (z : ℕ). set (firsts j) z x) (sym (zero-add j))
        ∙ paste-suc s 0 (C1s n v) j 0 (omega arith) (omega (arith, size1)) in
        let len = length-firsts (suc j) l in
        ap (λ (z : List ℕ). set z (N + j) y)
        (set_before_paste (firsts j) N (C2s n v) j j x l (omega (arith, length-firsts j (omega arith)))
        ∙ ap (λ (z : List ℕ). paste z N (C2s n v) j) first)
        ∙ paste-suc (firsts (suc j)) N (C2s n v) j 0 (omega (arith, len)) (omega (arith, size2))

    -- the C1 words that are in place
    pub with_codes-C1 : (j i : ℕ) → j ≤ count n v → i < j → get_or (with_codes n v j s) i 0 ≡ get_or (C1s n v) i 0
    unfolding with_codes firsts
    with_codes-C1 j i l k =
        let t = take j (C1s n v) in
        get_d_before_paste (firsts j) N (C2s n v) j i (omega arith) (omega (arith, length-firsts j l))
        ∙ get_or-append t (drop (0 + j) s) 0 i (omega (arith, length-take-le j (C1s n v) (omega (arith, size1))))
        ∙ get_or-take j (C1s n v) i 0 k

  pub with_codes-none : (s : List ℕ) → s ≡ with_codes n v 0 s
  unfolding with_codes
  with_codes-none s =
      paste-zero s 0 (C1s n v)
      ∙ paste-zero (paste s 0 (C1s n v) 0) N (C2s n v)

  -- ---- functions that write positions, one after another

  pub advances_none : (i : ℕ) (s : List ℕ) → Advances n v i i s s
  advances_none i s = record { advances = λ old room e. e }

  pub advances_both : (i j k : ℕ) (s t u : List ℕ) → Advances n v i j s t → Advances n v j k t u → Advances n v i k s u
  advances_both i j k s t u a b =
      record { advances = λ old room e. b.advances old room (a.advances old room e) }

  pub advances_next : (i x y : ℕ) (s : List ℕ) → CodesAt n v i x y
      → Advances n v i (i + 1) s (set (set s i x) (count n v + i) y)
  advances_next i x y s f =
      record {
        advances = λ old room e.
            ap (λ (z : List ℕ). set (set z i x) (count n v + i) y) e
            ∙ ap₂ (λ (a b : ℕ). set (set (with_codes n v i old) i a) (count n v + i) b) f.first f.second
            ∙ with_codes-next old room i f.inside
            ∙ ap (λ (z : ℕ). with_codes n v z old) (sym (add-one i));
      }

  -- a position whose C1 is that of an earlier one
  pub advances_copy : (from p i y : ℕ) (s t u : List ℕ) → i < p → Advances n v from p s t → CodesAt n v p (get_or (C1s n v) i 0) y
      → (CodesAt n v p (get_or t i 0) y → Advances n v p (p + 1) t u) → Advances n v from (p + 1) s u
  advances_copy from p i y s t u l a f next =
      record {
        advances = λ old room e.
            let w = a.advances old room e in
            let same : get_or t i 0 ≡ get_or (C1s n v) i 0 =
            ap (λ (z : List ℕ). get_or z i 0) w ∙ with_codes-C1 old room p i (omega (arith, f.inside)) l in
            (next (record { inside = f.inside; first = same ∙ f.first; second = f.second })).advances old room w;
      }

  -- ---- how many monomials with C2 = 0 there are up to each order

  pub ends_none : Ends n v 0 (replicate 11 0)
  ends_none = record { size = length-replicate {A = ℕ} 11 0; end = λ s l. absurd (omega arith) }
