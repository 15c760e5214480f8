-- The loop of a walk. After the letters from l to before k the sums have grown by what these letters
-- add; one letter more is a step to the longer monomial and the walk from there, where that is
-- marked, and else nothing.
use Rattle.std.proofs.Common.{ℕ, suc, ◌+◌, ◌*◌, ◌-◌, ◌≤◌, ◌<◌, ◌≡◌, refl, sym, ap, ◌∙◌, subst, Bool, List, append-nil, arith, leb, length, get_or, drop, le-leb}
use borrow.Author.Tests.{lt-leb}
use Rattle.algebra.specs.Polynomial.{Monomial, Polynomial, ◌⊕◌, order, add, scale, mul}
use Rattle.algebra.specs.Substitution.{Map, unit_of}
use Rattle.algebra.proofs.Within.{within_mul}
use Rattle.monomial.specs.Table.{position_of}
use Rattle.series.specs.Image.{monomial_at}
use Rattle.substitution.specs.Walk.{walk}
use Rattle.substitution.proofs.Walk.{branches, branches-none, branches-all, branches-marked}
use Rattle.substitution.proofs.Walk.{branches-unmarked, walk_none}
use Rattle.substitution.proofs.Truncated.{order-snoc}
use Rattle.substitution.proofs.Steps.{CodesAt, child_inside, child_at}
use Rattle.walk.specs.declared.Plan.{Plan}
use Rattle.walk.specs.Walking.{lower_half, inner, bottom, Source, Planned, Laid, Node, Sums, Kept, Walked}
use Rattle.walk.specs.Stepping.{StepIn, Stepped}
use Rattle.walk.proofs.Frames.{kept_refl, kept_trans, sums_same, planned_kept, node_kept}

-- what a step and a walk ensure

abbrev pub StepLeaves : Plan → ℕ → ℕ → ℕ → ℕ → List ℕ
    → List ℕ → List ℕ → List ℕ → Type 0
StepLeaves s k lo q at w w' res res' =
    (ys : ℕ → List ℕ) (mark : Monomial → Bool) (κ : ℕ → Monomial → ℕ) (Q : Polynomial)
    (A : ℕ → Polynomial)
    → Planned s w ys mark κ → StepIn s w k lo q at Q → Sums s res A
    → Stepped s ys κ k lo q at Q A w w' res res'

abbrev pub WalkLeaves : Plan → ℕ → ℕ → ℕ → ℕ → List ℕ
    → List ℕ → List ℕ → List ℕ → Type 0
WalkLeaves s q l at left w w' res res' =
    (ys : ℕ → List ℕ) (mark : Monomial → Bool) (κ : ℕ → Monomial → ℕ) (m : Monomial)
    (Q : Polynomial) (A : ℕ → Polynomial)
    → Planned s w ys mark κ → Node s w q at left m Q → Sums s res A
    → Walked s ys mark κ l m Q left at A w w' res res'

-- what holds after the letters from l to before k
pub record Inside (s : Plan) (q l at left : ℕ) (w₀ w res₀ res : List ℕ)
    (k : ℕ) : Type 0 where
  pub some : 0 < left
  pub from : l ≤ k
  pub upto : k ≤ s.t.z.v
  pub kept : Kept s at w₀ w
  pub sums : (ys : ℕ → List ℕ) (mark : Monomial → Bool) (κ : ℕ → Monomial → ℕ) (m : Monomial)
      (Q : Polynomial) (A : ℕ → Polynomial)
      → Planned s w₀ ys mark κ → Node s w₀ q at left m Q → Sums s res₀ A
      → Sums s res
      (λ i.
      add (A i) (branches (κ i) mark (inner s.t.z.n s.t.z.v ys) s.t.z.v (left - 1) m Q l k))
  pub size : length res ≡ length res₀
  pub rest : drop (s.components * (s.t.z.count + 1)) res ≡ drop (s.components * (s.t.z.count + 1)) res₀

-- one region less
rooms : (left j r : ℕ) → left ≡ j + 1 → j * r + r ≡ left * r
rooms left j r e = sym (ap (λ (x : ℕ). x * r) e ∙ omega arith)

-- the product of the longest monomials is not multiplied further
pub none_left : (s : Plan) (q l at left : ℕ) (w res : List ℕ) → left ≡ 0
    → WalkLeaves s q l at left w w res res
none_left s q l at left w res z ys mark κ m Q A P N U = record {
  kept = kept_refl s at w;
  sums =
      sums_same
      (λ i h.
      sym (append-nil (A i))
      ∙ ap (add (A i))
      (sym
      (ap (λ (x : ℕ). walk (κ i) mark f s.t.z.v x l m Q) z
      ∙ walk_none (κ i) mark f s.t.z.v l m Q)))
      U;
  size = refl;
  rest = refl;
}
  where
    f : Map
    f = inner s.t.z.n s.t.z.v ys

pub inside_start : (s : Plan) (q l at left : ℕ) (w res : List ℕ)
    → (left ≡ 0 → ⊥) → l ≤ s.t.z.v → Inside s q l at left w w res res l
inside_start s q l at left w res z h = record {
  some = omega arith;
  from = omega arith;
  upto = h;
  kept = kept_refl s at w;
  sums = λ ys mark κ m Q A P N U.
      let f = inner s.t.z.n s.t.z.v ys in
      sums_same
      (λ i h.
      sym (append-nil (A i))
      ∙ ap (add (A i)) (sym (branches-none (κ i) mark f s.t.z.v (left - 1) m Q l)))
      U;
  size = refl;
  rest = refl;
}

module _ {s : Plan} {q l at left : ℕ} {w₀ w res₀ res : List ℕ} {k : ℕ}
    (lay : Laid s) (I : Inside s q l at left w₀ w res₀ res k) where
  abbrev r : ℕ
  r = s.t.z.count + 1

  -- all letters
  pub inside_end : s.t.z.v ≤ k → WalkLeaves s q l at left w₀ w res₀ res
  inside_end h ys mark κ m Q A P N U = record {
    kept = I.kept;
    sums =
        sums_same
        (λ i b. ap (add (A i)) (ap (branches (κ i) mark f s.t.z.v (left - 1) m Q l) last ∙ whole i))
        (I.sums ys mark κ m Q A P N U);
    size = I.size;
    rest = I.rest;
  }
    where
      f : Map
      f = inner s.t.z.n s.t.z.v ys

      last : k ≡ s.t.z.v
      last = omega (arith, I.upto)

      whole : (i : ℕ)
          → branches (κ i) mark f s.t.z.v (left - 1) m Q l s.t.z.v
          ≡ walk (κ i) mark f s.t.z.v left l m Q
      whole i =
          let e : suc (left - 1) ≡ left = omega (arith, I.some) in
          branches-all (κ i) mark f s.t.z.v (left - 1) m Q l
          ∙ ap (λ (x : ℕ). walk (κ i) mark f s.t.z.v x l m Q) e

  module _ (kv : k < s.t.z.v) {ys : ℕ → List ℕ} {mark : Monomial → Bool} {κ : ℕ → Monomial → ℕ}
      {m : Monomial} {Q : Polynomial} {A : ℕ → Polynomial}
      (P : Planned s w₀ ys mark κ) (N : Node s w₀ q at left m Q)
      (U : Sums s res₀ A) where
    abbrev f : Map
    f = inner s.t.z.n s.t.z.v ys

    abbrev longer : Monomial
    longer = m ⊕ unit_of k

    planned : Planned s w ys mark κ
    planned = planned_kept lay P I.kept

    node : Node s w q at left m Q
    node = node_kept N I.kept

    sums_now : Sums s res
        (λ i. add (A i) (branches (κ i) mark (inner s.t.z.n s.t.z.v ys) s.t.z.v (left - 1) m Q l k))
    sums_now = I.sums ys mark κ m Q A P N U

    order-low : order (monomial_at s.t.z.n s.t.z.v q) < s.t.z.n
    order-low =
        omega (arith, ap order N.monomial, N.letters, I.some, P.cut_is.cut_low)

    pub child_asks : (1 ≤ q) × (q ≤ s.t.z.count) × (k < s.t.z.v)
        × (order (monomial_at s.t.z.n s.t.z.v q) < s.t.z.n)
    child_asks = (N.low, N.high, kv, order-low)

    codes_at : CodesAt s.t.z.n s.t.z.v s.t.z.count s.t.z.codes s.t.words.now q
        (get_or s.t.words.now (q - 1) 0) (get_or s.t.words.now (s.t.z.count + (q - 1)) 0)
    codes_at = record {
      table = s.t.right;
      low = N.low;
      high = N.high;
      first_word = refl;
      second_word = refl;
    }

    one-room : (left - 1) * (s.t.z.count + 1) + (s.t.z.count + 1) ≡ left * (s.t.z.count + 1)
    one-room = rooms left (left - 1) r (omega (arith, I.some))

    pub room : bottom s + (s.t.z.count + 1) ≤ at
    room = omega (arith, N.room, one-room)

    -- the longer monomial at position c

    module _ (c : ℕ) (e : c ≡ position_of s.t.z.n s.t.z.v (monomial_at s.t.z.n s.t.z.v q ⊕ unit_of k)) where
      child_low : 1 ≤ c
      child_low = omega (arith, e, (child_inside codes_at k kv order-low).0)

      child_high : c ≤ s.t.z.count
      child_high = omega (arith, e, (child_inside codes_at k kv order-low).1)

      child_is : monomial_at s.t.z.n s.t.z.v c ≡ m ⊕ unit_of k
      child_is =
          ap (monomial_at s.t.z.n s.t.z.v) e
          ∙ child_at codes_at k kv order-low
          ∙ ap (λ (x : Monomial). x ⊕ unit_of k) N.monomial

      pub mark_inside : s.columns.marks + c < length w
      mark_inside = omega (arith, child_high, lay.marks_in, room, node.source.inside)

      mark_is : mark (m ⊕ unit_of k) ≡ leb 11 (lower_half (get_or w (s.columns.marks + c) 0) + s.cut)
      mark_is = ap mark (sym child_is) ∙ sym (planned.marked c child_low child_high)

      -- not marked up to the cut
      skipped : lower_half (get_or w (s.columns.marks + c) 0) + s.cut < 11
          → Sums s res
          (λ i.
          add (A i)
          (branches (κ i) mark (inner s.t.z.n s.t.z.v ys) s.t.z.v (left - 1) m Q l (k + 1)))
      skipped z =
          sums_same
          (λ i b.
          branches-unmarked (κ i) mark f s.t.z.v (left - 1) m Q (A i) l k I.from
          (mark_is ∙ lt-leb 11 (lower_half (get_or w (s.columns.marks + c) 0) + s.cut) z))
          sums_now

      step_in : StepIn s w k (s.cut - left + 1) c at Q
      step_in = record {
        variable = kv;
        low = child_low;
        high = child_high;
        source =
            let e : order m ≡ s.cut - left + 1 - 1 = omega (arith, N.letters) in
            subst (λ (x : ℕ). Source s.p s.t.z.n s.t.z.v s.t.z.count x s.cut w at Q) e
            node.source;
        least = omega (arith, N.letters, I.some);
        within = node.within;
        room = room;
      }

      pub step_asks : Laid s
          × (((zs : ℕ → List ℕ) × (b : Monomial → Bool) × (χ : ℕ → Monomial → ℕ)
          × Planned s w zs b χ)
          × (((R : Polynomial) × StepIn s w k (s.cut - left + 1) c at R) × ((B : ℕ → Polynomial) × Sums s res B)))
      step_asks = (lay, ((ys, mark, κ, planned), ((Q, step_in), (_, sums_now))))

      module _ {w₁ res₁ : List ℕ} (X : StepLeaves s k (s.cut - left + 1) c at w w₁ res res₁) where
        abbrev before : ℕ → Polynomial
        before i = add (A i) (branches (κ i) mark f s.t.z.v (left - 1) m Q l k)

        stepped : Stepped s ys κ k (s.cut - left + 1) c at Q
            (λ i.
            add (A i) (branches (κ i) mark (inner s.t.z.n s.t.z.v ys) s.t.z.v (left - 1) m Q l k))
            w w₁ res res₁
        stepped = X ys mark κ Q before planned step_in sums_now

        next-planned : Planned s w₁ ys mark κ
        next-planned = planned_kept lay planned stepped.kept

        next-node : Node s w₁ c (at - (s.t.z.count + 1)) (left - 1) (m ⊕ unit_of k)
            (mul Q (inner s.t.z.n s.t.z.v ys k))
        next-node = record {
          low = child_low;
          high = child_high;
          monomial = child_is;
          letters = omega (arith, order-snoc m k, N.letters, I.some);
          source =
              let e : s.cut - left + 1 ≡ order longer =
              omega (arith, order-snoc m k, N.letters, I.some) in
              subst
              (λ (x : ℕ). Source s.p s.t.z.n s.t.z.v s.t.z.count x s.cut w₁
              (at - (s.t.z.count + 1)) (mul Q (inner s.t.z.n s.t.z.v ys k)))
              e stepped.source;
          within = within_mul s.t.z.v Q (f k) N.within (P.within k kv);
          room = omega (arith, N.room, one-room);
        }

        next-sums : Sums s res₁
            (λ i.
            add
            (add (A i) (branches (κ i) mark (inner s.t.z.n s.t.z.v ys) s.t.z.v (left - 1) m Q l k))
            (scale (κ i (m ⊕ unit_of k)) (mul Q (inner s.t.z.n s.t.z.v ys k))))
        next-sums =
            sums_same
            (λ i b.
            ap (λ (x : Monomial). add (before i) (scale (κ i x) (mul Q (f k)))) child_is)
            stepped.sums

        pub walk-asks : Laid s
            × (((zs : ℕ → List ℕ) × (b : Monomial → Bool) × (χ : ℕ → Monomial → ℕ)
            × Planned s w₁ zs b χ)
            × (((d : Monomial) × (R : Polynomial)
            × Node s w₁ c (at - (s.t.z.count + 1)) (left - 1) d R)
            × (((B : ℕ → Polynomial) × Sums s res₁ B) × (k ≤ s.t.z.v))))
        walk-asks = (
          lay,
          (
            (ys, mark, κ, next-planned),
            ((longer, mul Q (f k), next-node), ((_, next-sums), omega arith)),
          ),
        )

        module _ {w₂ res₂ : List ℕ}
            (Y : WalkLeaves s c k (at - (s.t.z.count + 1)) (left - 1) w₁ w₂ res₁ res₂)
          where
            walked : Walked s ys mark κ k (m ⊕ unit_of k) (mul Q (inner s.t.z.n s.t.z.v ys k))
                (left - 1) (at - (s.t.z.count + 1))
                (λ i.
                add
                (add (A i)
                (branches (κ i) mark (inner s.t.z.n s.t.z.v ys) s.t.z.v (left - 1) m Q l k))
                (scale (κ i (m ⊕ unit_of k)) (mul Q (inner s.t.z.n s.t.z.v ys k))))
                w₁ w₂ res₁ res₂
            walked = Y ys mark κ longer (mul Q (f k)) _ next-planned next-node next-sums

            kept_after : Kept s at w₀ w₂
            kept_after =
                kept_trans (omega arith) I.kept
                (kept_trans (omega arith) stepped.kept walked.kept)

            -- marked
            entered : 11 ≤ lower_half (get_or w (s.columns.marks + c) 0) + s.cut
                → Sums s res₂
                (λ i.
                add (A i)
                (branches (κ i) mark (inner s.t.z.n s.t.z.v ys) s.t.z.v (left - 1) m Q l (k + 1)))
            entered hi =
                sums_same
                (λ i b.
                branches-marked (κ i) mark f s.t.z.v (left - 1) m Q (A i) l k I.from
                (mark_is ∙ le-leb 11 (lower_half (get_or w (s.columns.marks + c) 0) + s.cut) hi))
                walked.sums

  -- one letter more

  pub inside_skip : (kv : k < s.t.z.v) (c : ℕ)
      → c ≡ position_of s.t.z.n s.t.z.v (monomial_at s.t.z.n s.t.z.v q ⊕ unit_of k)
      → lower_half (get_or w (s.columns.marks + c) 0) + s.cut < 11
      → Inside s q l at left w₀ w res₀ res (k + 1)
  inside_skip kv c e z = record {
    some = I.some;
    from = omega (arith, I.from);
    upto = omega arith;
    kept = I.kept;
    sums = λ ys mark κ m Q A P N U. skipped kv P N U c e z;
    size = I.size;
    rest = I.rest;
  }

  pub inside_enter : (kv : k < s.t.z.v) {ys : ℕ → List ℕ} {mark : Monomial → Bool}
      {κ : ℕ → Monomial → ℕ} {m : Monomial} {Q : Polynomial} {A : ℕ → Polynomial}
      → Planned s w₀ ys mark κ → Node s w₀ q at left m Q → Sums s res₀ A → (c : ℕ)
      → c ≡ position_of s.t.z.n s.t.z.v (monomial_at s.t.z.n s.t.z.v q ⊕ unit_of k)
      → 11 ≤ lower_half (get_or w (s.columns.marks + c) 0) + s.cut → {w₁ res₁ w₂ res₂ : List ℕ}
      → StepLeaves s k (s.cut - left + 1) c at w w₁ res res₁
      → WalkLeaves s c k (at - (s.t.z.count + 1)) (left - 1) w₁ w₂ res₁ res₂
      → Inside s q l at left w₀ w₂ res₀ res₂ (k + 1)
  inside_enter kv P₀ N₀ U₀ c e hi X Y = record {
    some = I.some;
    from = omega (arith, I.from);
    upto = omega arith;
    kept = kept_after kv P₀ N₀ U₀ c e X Y;
    sums = λ ys mark κ m Q A P N U. entered kv P N U c e X Y hi;
    size =
        (walked kv P₀ N₀ U₀ c e X Y).size
        ∙ (stepped kv P₀ N₀ U₀ c e X).size
        ∙ I.size;
    rest =
        (walked kv P₀ N₀ U₀ c e X Y).rest
        ∙ (stepped kv P₀ N₀ U₀ c e X).rest
        ∙ I.rest;
  }
