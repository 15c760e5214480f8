-- The sum over all choices of columns is the expansion row by row. The choices that begin with the
-- column c carry the sign of c's place among the columns left, since each of them holds the same
-- columns and so as many of them below c.
use Rattle.std.proofs.Common.{◌≡◌, refl, sym, ap, ap₂, ◌∙◌, subst, Bool, cond, List, [], ◌∷◌, ◌++◌, map, append_assoc, ℕ, zero, suc, ◌+◌, ◌<◌, arith, length, length-append, lt-ltb, le-ltb}
use Rattle.std.proofs.Math.Nat.{zero-add as ℕ-zero-add}
use Rattle.algebra.specs.Distinct.{Distinct}
use Rattle.linear.specs.Matrix.{range}
use Rattle.linear.specs.Determinant.{each_first, choices, below, exchanges}
use Rattle.linear.specs.Columns.{All, Sorted}
use Rattle.linear.proofs.Lists.{all_append, all_both, all_map, all_middle, all-range}
use Rattle.linear.proofs.Lists.{all-weaken, no_member, member-none}
use Rattle.linear.proofs.Lists.{length-middle, length-range}
use Rattle.linear.proofs.Ring as G
use Rattle.linear.proofs.Ring.{Ring}
use Rattle.linear.proofs.Expansion as E

-- ---- columns in order

pub sorted_range : (a n : ℕ) → Sorted (range a n)
unfolding range Sorted
sorted_range a zero = tt
sorted_range a (suc n) =
    (all-range (λ x. a < x) (suc a) n (λ k p q. omega arith), sorted_range (suc a) n)

sorted_middle : (pre : List ℕ) (c : ℕ) (post : List ℕ) → Sorted (pre ++ c ∷ post)
    → Sorted (pre ++ post)
unfolding Sorted
sorted_middle [] c post s = s.1
sorted_middle (x ∷ pre) c post s =
    ((all_middle (λ y. x < y) pre c post s.0).1, sorted_middle pre c post s.1)

pub below_none : (c : ℕ) (cs : List ℕ) → All (λ x. c < x) cs → below c cs ≡ 0
unfolding below
below_none c [] a = refl
below_none c (x ∷ cs) a = rw (le-ltb x c (omega arith)) (ℕ-zero-add _ ∙ below_none c cs a.1)

-- in a sorted list the columns before c are those below it
below-middle : (pre : List ℕ) (c : ℕ) (post : List ℕ) → Sorted (pre ++ c ∷ post)
    → below c (pre ++ post) ≡ length pre
unfolding below Sorted
below-middle [] c post s = below_none c post s.0
below-middle (x ∷ pre) c post s =
    ap (λ (b : Bool). cond b 1 0 + below c (pre ++ post))
    (lt-ltb x c (all_middle (λ y. x < y) pre c post s.0).0)
    ∙ omega (arith, below-middle pre c post s.1)

-- ---- each choice holds the columns that it chooses from

pub below-append : (c : ℕ) (pre cs : List ℕ) → below c (pre ++ cs) ≡ below c pre + below c cs
unfolding below
below-append c [] cs = sym (ℕ-zero-add _)
below-append c (x ∷ pre) cs = omega (arith, below-append c pre cs)

-- what holds of every choice that begins with one of the columns holds of every choice
each_first-all : (Q : List ℕ → Type 0) (rest : List ℕ → List (List ℕ)) (pre cs : List ℕ)
    → ((a : List ℕ) (c : ℕ) (b : List ℕ) → a ++ c ∷ b ≡ pre ++ cs
    → All (λ q. Q (c ∷ q)) (rest (a ++ b)))
    → All Q (each_first (λ t. rest (pre ++ t)) cs)
unfolding each_first
each_first-all Q rest pre [] h = tt
each_first-all Q rest pre (c ∷ cs) h =
    all_append Q (map (λ q. c ∷ q) (rest (pre ++ cs))) (each_first (λ t. rest (pre ++ c ∷ t)) cs)
    (all_map (λ q. Q (c ∷ q)) Q (λ q. c ∷ q) (λ q z. z) (rest (pre ++ cs)) (h pre c cs refl))
    (simp append_assoc at
    (each_first-all Q rest (pre ++ c ∷ []) cs (λ a x b e. h a x b (e ∙ append_assoc pre (c ∷ []) cs))))

choices-below : (c n : ℕ) (ts : List ℕ) → length ts ≡ n
    → All (λ q. below c q ≡ below c ts) (choices n ts)
unfolding choices
choices-below c zero [] l = (refl, tt)
choices-below c zero (x ∷ ts) l = absurd (omega arith)
choices-below c (suc n) ts l =
    each_first-all (λ q. below c q ≡ below c ts) (choices n) [] ts
    (λ a x b e.
    all-weaken (λ q. below c q ≡ below c (a ++ b)) (λ q. below c (x ∷ q) ≡ below c ts)
    (λ q f.
    unfold below in
    omega (arith, below-append c a b, below-append c a (x ∷ b), ap (below c) e))
    (choices n (a ++ b)) (choices-below c n (a ++ b) (length-middle a x b n (ap length e ∙ l))))

-- ---- no column twice

choices-members : (P : ℕ → Type 0) (n : ℕ) (ts : List ℕ) → All P ts → All (All P) (choices n ts)
unfolding choices
choices-members P zero ts h = (tt, tt)
choices-members P (suc n) ts h =
    each_first-all (All P) (choices n) [] ts
    (λ a x b e.
    let m = all_middle P a x b (subst (All P) (sym e) h) in
    all-weaken (All P) (λ q. All P (x ∷ q)) (λ q g. (m.0, g)) (choices n (a ++ b))
    (choices-members P n (a ++ b) m.1))

distinct_middle : (a : List ℕ) (x : ℕ) (b : List ℕ) → Distinct (a ++ x ∷ b)
    → All (λ y. x ≡ y → ⊥) (a ++ b) × Distinct (a ++ b)
distinct_middle [] x b d = (member-none b d.0, d.1)
distinct_middle (y ∷ a) x b d =
    let m = all_middle (λ z. y ≡ z → ⊥) a x b (member-none (a ++ x ∷ b) d.0) in
    let r = distinct_middle a x b d.1 in
    (((λ e. m.0 (sym e)), r.0), (no_member (a ++ b) m.1, r.1))

choices-distinct : (n : ℕ) (ts : List ℕ) → Distinct ts → All Distinct (choices n ts)
unfolding choices
choices-distinct zero ts d = (tt, tt)
choices-distinct (suc n) ts d =
    each_first-all Distinct (choices n) [] ts
    (λ a x b e.
    let m = distinct_middle a x b (subst Distinct (sym e) d) in
    all-weaken (λ q. All (λ y. x ≡ y → ⊥) q × Distinct q) (λ q. Distinct (x ∷ q))
    (λ q g. (no_member q g.0, g.1)) (choices n (a ++ b))
    (all_both (λ q. All (λ y. x ≡ y → ⊥) q) Distinct (choices n (a ++ b))
    (choices-members (λ y. x ≡ y → ⊥) n (a ++ b) m.0)
    (choices-distinct n (a ++ b) m.1)))

sorted_distinct : (cs : List ℕ) → Sorted cs → Distinct cs
unfolding Sorted
sorted_distinct [] s = tt
sorted_distinct (c ∷ cs) s = (
  no_member cs (all-weaken (λ x. c < x) (λ x. c ≡ x → ⊥) (λ x l e. omega arith) cs s.0),
  sorted_distinct cs s.1,
)

-- no choice of columns of a determinant holds a column twice
pub determinant-distinct : (v : ℕ) → All Distinct (choices v (range 0 v))
determinant-distinct v =
    choices-distinct v (range 0 v) (sorted_distinct (range 0 v) (sorted_range 0 v))

-- ---- the sum over all choices

module _ (𝓡 : Ring) where
  open 𝓡 use {R, ◌⊕◌, ◌⊗◌, 𝟘, 𝟙, minus, mul_assoc, one-mul, mul-add}

  infixl 65 ◌⊕◌
  infixl 70 ◌⊗◌
  -- the product of the numbers taken from the rows i, i + 1, .. of A
  unfoldable pub term : (ℕ → ℕ → R) → ℕ → List ℕ → R
  term A i [] = 𝟙
  term A i (c ∷ cs) = A i c ⊗ term A (suc i) cs

  -- with its sign
  abbrev pub signed-term : (ℕ → ℕ → R) → ℕ → List ℕ → R
  signed-term A i q = G.sign 𝓡 (exchanges q) ⊗ term A i q

  -- choices with c in front of each
  sum-front : (P : List ℕ → Type 0) (c : ℕ) (a : R) (f g : List ℕ → R)
      → ((q : List ℕ) → P q → g (c ∷ q) ≡ a ⊗ f q)
      → (qs : List (List ℕ)) → All P qs → G.sum 𝓡 (map (λ q. c ∷ q) qs) g ≡ a ⊗ G.sum 𝓡 qs f
  unfolding G.sum
  sum-front P c a f g h [] al = sym (G.mul-zero 𝓡 a)
  sum-front P c a f g h (q ∷ qs) al =
      ap₂ ◌⊕◌ (h q al.0) (sum-front P c a f g h qs al.1) ∙ sym (mul-add _ _ _)

  term-front : (A : ℕ → ℕ → R) (i c : ℕ) (q : List ℕ) (n : ℕ) → below c q ≡ n
      → signed-term A i (c ∷ q) ≡ G.sign 𝓡 n ⊗ A i c ⊗ signed-term A (suc i) q
  unfolding exchanges term
  term-front A i c q n e =
      ap (λ (k : ℕ). G.sign 𝓡 (k + exchanges q) ⊗ (A i c ⊗ term A (suc i) q)) e
      ∙ ap (λ x. x ⊗ (A i c ⊗ term A (suc i) q)) (G.sign-add 𝓡 n (exchanges q))
      ∙ simp (mul_assoc, G.mul_left_comm 𝓡)

  -- row i: the columns cs, of all the columns pre ++ cs, taken for it
  one-row : (A : ℕ → ℕ → R) (i n : ℕ)
      → ((ts : List ℕ) → Sorted ts → length ts ≡ n
      → G.sum 𝓡 (choices n ts) (signed-term A (suc i)) ≡ E.minor 𝓡 A (range (suc i) n) ts)
      → (pre cs : List ℕ) → Sorted (pre ++ cs) → length (pre ++ cs) ≡ suc n
      → G.sum 𝓡 (each_first (λ t. choices n (pre ++ t)) cs) (signed-term A i)
      ≡ G.sign 𝓡 (length pre)
      ⊗ E.expand 𝓡 (A i) (λ t. E.minor 𝓡 A (range (suc i) n) (pre ++ t)) cs
  unfolding each_first
  one-row A i n ih pre [] s l =
      G.sum-nil 𝓡 (signed-term A i)
      ∙ sym (ap (λ x. G.sign 𝓡 (length pre) ⊗ x) (E.expand-nil 𝓡 _ _) ∙ G.mul-zero 𝓡 _)
  one-row A i n ih pre (c ∷ cs) s l =
      G.sum-append 𝓡 (map (λ q. c ∷ q) (choices n (pre ++ cs))) _ _
      ∙ ap₂ ◌⊕◌
      (sum-front (λ q. below c q ≡ below c (pre ++ cs)) c (G.sign 𝓡 (length pre) ⊗ A i c)
      (signed-term A (suc i)) (signed-term A i)
      (λ q e. term-front A i c q (length pre) (e ∙ below-middle pre c cs s))
      (choices n (pre ++ cs)) (choices-below c n (pre ++ cs) shorter)
      ∙ ap (λ x. G.sign 𝓡 (length pre) ⊗ A i c ⊗ x)
      (ih (pre ++ cs) (sorted_middle pre c cs s) shorter))
      (simp (append_assoc, longer) at
      (one-row A i n ih (pre ++ c ∷ []) cs (subst Sorted (sym together) s)
      (ap length together ∙ l)))
      ∙ simp (E.expand-cons 𝓡, mul-add, mul_assoc, G.mul_left_comm 𝓡)
    where
      shorter : length (pre ++ cs) ≡ n
      shorter = length-middle pre c cs n l

      together : (pre ++ c ∷ []) ++ cs ≡ pre ++ c ∷ cs
      together = append_assoc pre (c ∷ []) cs

      longer : G.sign 𝓡 (length (pre ++ c ∷ [])) ≡ minus ⊗ G.sign 𝓡 (length pre)
      longer = ap (G.sign 𝓡) (length-append pre (c ∷ []) ∙ omega arith) ∙ G.sign-suc 𝓡 (length pre)

  choices-minor : (A : ℕ → ℕ → R) (n i : ℕ) (ts : List ℕ) → Sorted ts → length ts ≡ n
      → G.sum 𝓡 (choices n ts) (signed-term A i) ≡ E.minor 𝓡 A (range i n) ts
  unfolding choices range E.minor
  choices-minor A zero i ts s l =
      unfold G.sum exchanges term in (G.add-zero 𝓡 _ ∙ G.sign_zero 𝓡 _)
  choices-minor A (suc n) i ts s l =
      one-row A i n (choices-minor A n (suc i)) [] ts s l ∙ G.sign_zero 𝓡 _

  -- 01's determinant is the expansion row by row
  pub choices-det : (v : ℕ) (A : ℕ → ℕ → R)
      → G.sum 𝓡 (choices v (range 0 v)) (signed-term A 0) ≡ E.det 𝓡 v A
  choices-det v A = choices-minor A v 0 (range 0 v) (sorted_range 0 v) (length-range 0 v)
