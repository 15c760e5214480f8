-- The tree of beginnings: below the constant, each monomial of at most n letters is met once. A
-- word that goes on after a beginning goes on with exactly one letter, so exactly one branch leads
-- on.
use Rattle.std.proofs.Common.{ℕ, zero, suc, ◌+◌, ◌-◌, ◌≤◌, ◌<◌, ◌≡◌, refl, sym, ap, ap₂, ◌∙◌, Bool, cond, List, [], ◌∷◌, ◌++◌, append_assoc, suc-add, arith, eqb, length, eq-eqb, ne_eqb}
use Rattle.algebra.specs.Sum.{sum_over, sum_to}
use Rattle.algebra.specs.Polynomial.{Monomial, ◌⊕◌, order, same, indicator}
use Rattle.algebra.specs.Substitution.{unit_of}
use Rattle.algebra.proofs.Sums.{sum-append, sum-cons, sum-nil, sum_to-ext, sum_to-zero, sum_to-single}
use Rattle.monomial.specs.Enumeration.{upto}
use Rattle.substitution.specs.Walk.{again, letters_from, letters}
use Rattle.substitution.proofs.Letters.{EndsBy, ends_later, ends_snoc, ends_origin}
use Rattle.substitution.proofs.Letters.{letters-snoc, letters-origin}
use Rattle.substitution.proofs.Remainders.{left, left-ext, left-zero, left-add, left-snoc}
use Rattle.substitution.proofs.Remainders.{nothing, something, indicator-same}

pub sum-upto : {A : Type 0} (h : ℕ → List A) (χ : A → ℕ) (m : ℕ)
    → sum_over (upto h m) χ ≡ sum_to (λ j. sum_over (h j) χ) m
unfolding upto sum_to
sum-upto h χ zero = sum-nil χ
sum-upto h χ (suc m) =
    sum-append (upto h m) (h m) χ ∙ ap (λ (x : ℕ). x + sum_over (h m) χ) (sum-upto h χ m)

-- the monomials that are m and from 1 to r letters more, each from l on and before v, in the order
-- of the walk
unfoldable pub nodes : ℕ → ℕ → ℕ → Monomial → List Monomial
nodes v zero l m = []
nodes v (suc r) l m =
    upto (λ j. (m ⊕ unit_of (l + j)) ∷ nodes v r (l + j) (m ⊕ unit_of (l + j))) (v - l)

-- a sum over the nodes below m: for each letter, its node and the nodes below that
pub sum-nodes : (v r l : ℕ) (m : Monomial) (χ : Monomial → ℕ)
    → sum_over (nodes v (suc r) l m) χ
    ≡ sum_to
    (λ j. χ (m ⊕ unit_of (l + j)) + sum_over (nodes v r (l + j) (m ⊕ unit_of (l + j))) χ) (v - l)
unfolding nodes
sum-nodes v r l m χ =
    sum-upto (λ j. (m ⊕ unit_of (l + j)) ∷ nodes v r (l + j) (m ⊕ unit_of (l + j))) χ (v - l)
    ∙ sum_to-ext _ _ (v - l) (λ j h. sum-cons (m ⊕ unit_of (l + j)) _ χ)

-- ---- words of ascending letters

-- at most r letters, ascending, the first from l on, all before v
abbrev pub Letters : ℕ → ℕ → ℕ → List ℕ → Type 0
Letters v r l [] = Unit {0}
Letters v zero l (a ∷ u) = ⊥
Letters v (suc r) l (a ∷ u) = (l ≤ a) × (a < v) × Letters v r a u

letters-later : (v r l i : ℕ) (u : List ℕ) → l ≤ i → Letters v r i u → Letters v r l u
letters-later v r l i [] h g = tt
letters-later v zero l i (a ∷ u) h g = absurd g
letters-later v (suc r) l i (a ∷ u) h g = (omega (arith, g.0), g.1, g.2)

letters-more : (v r q l : ℕ) (u : List ℕ) → r ≤ q → Letters v r l u → Letters v q l u
letters-more v r q l [] h g = tt
letters-more v zero q l (a ∷ u) h g = absurd g
letters-more v (suc r) zero l (a ∷ u) h g = absurd (omega arith)
letters-more v (suc r) (suc q) l (a ∷ u) h g =
    (g.0, g.1, letters-more v r q a u (omega arith) g.2)

letters-again : (v r x i : ℕ) (u : List ℕ) → i < v → Letters v r i u
    → Letters v (x + r) i (again x i ++ u)
unfolding again
letters-again v r zero i u h g = letters-more v r (zero + r) i u (omega arith) g
letters-again v r (suc x) i u h g = rw suc-add (omega arith, h, letters-again v r x i u h g)

letters-from : (v i : ℕ) (e : Monomial) → i + length e ≤ v
    → Letters v (order e) i (letters_from i e)
unfolding letters_from order
letters-from v i [] h = tt
letters-from v i (x ∷ e) h =
    letters-again v (order e) x i (letters_from (suc i) e) (omega arith)
    (letters-later v (order e) i (suc i) (letters_from (suc i) e) (omega arith)
    (letters-from v (suc i) e (omega arith)))

pub letters-ascend : (v n : ℕ) (e : Monomial) → length e ≤ v → order e ≤ n
    → Letters v n 0 (letters e)
letters-ascend v n e h l =
    letters-more v (order e) n 0 (letters e) l (letters-from v 0 e (omega arith))

-- ---- exactly one branch goes on

pick-one : (l m a x : ℕ) → l ≤ a → a < l + m
    → sum_to (λ j. cond (eqb (l + j) a) x 0) m ≡ x
pick-one l m a x h k =
    sum_to-single (λ j. cond (eqb (l + j) a) x 0) m (a - l) (omega arith)
    (λ i q ne. ap (λ (b : Bool). cond b x 0) (ne_eqb (l + i) a (λ e. ne (omega arith))))
    ∙ ap (λ (b : Bool). cond b x 0) (eq-eqb (l + (a - l)) a (omega arith))

sum_left : (g : ℕ → List ℕ → ℕ) (m : ℕ) (w u : List ℕ)
    → sum_to (λ j. left (g j) w u) m ≡ left (λ s. sum_to (λ j. g j s) m) w u
unfolding sum_to
sum_left g zero w u = sym (left-zero w u)
sum_left g (suc m) w u =
    ap (λ (x : ℕ). x + left (g m) w u) (sum_left g m w u)
    ∙ sym (left-add (λ s. sum_to (λ j. g j s) m) (g m) w u)

branch : (v r l : ℕ) (s : List ℕ) → Letters v (suc r) l s
    → sum_to (λ j. left (λ t. nothing t + something t) ((l + j) ∷ []) s) (v - l) ≡ something s
unfolding left something nothing
branch v r l [] g = sum_to-zero _ (v - l) (λ i h. refl)
branch v r l (a ∷ s) g =
    pick-one l (v - l) a (nothing s + something s) g.0 (omega (arith, g.1)) ∙ whole s
  where
    whole : (s : List ℕ) → nothing s + something s ≡ 1
    whole [] = refl
    whole (b ∷ t) = refl

-- ---- how often the tree below m meets e: once, where m is a beginning of e and not all of it

met : (v r l : ℕ) (m e : Monomial) → EndsBy l m
    → ((s : List ℕ) → letters e ≡ letters m ++ s → Letters v r l s)
    → sum_over (nodes v r l m) (λ d. indicator (same d e)) ≡ left something (letters m) (letters e)
unfolding nodes
met v zero l m e h k =
    sum-nil _
    ∙ sym
    (left-ext something (λ s. 0) (letters m) (letters e) (λ s q. none s (k s q))
    ∙ left-zero (letters m) (letters e))
  where
    none : (s : List ℕ) → Letters v zero l s → something s ≡ 0
    none [] g = unfold something in refl
    none (a ∷ s) g = absurd g
met v (suc r) l m e h k =
    sum-nodes v r l m (λ d. indicator (same d e))
    ∙ sum_to-ext _ _ (v - l)
    (λ j b.
    let hj : EndsBy (l + j) m = ends_later (omega arith) h in
    child j hj
    (met v r (l + j) (m ⊕ unit_of (l + j)) e (ends_snoc m (l + j) hj) (deeper j hj)))
    ∙ sum_left (λ j s. left (λ t. nothing t + something t) ((l + j) ∷ []) s) (v - l) (letters m)
    (letters e)
    ∙ left-ext _ something (letters m) (letters e) (λ s q. branch v r l s (k s q))
  where
    deeper : (j : ℕ) → EndsBy (l + j) m → (s : List ℕ)
        → letters e ≡ letters (m ⊕ unit_of (l + j)) ++ s → Letters v r (l + j) s
    deeper j hj s q =
        let g : Letters v (suc r) l ((l + j) ∷ s) =
        k ((l + j) ∷ s)
        (q
        ∙ ap (λ (w : List ℕ). w ++ s) (letters-snoc m (l + j) hj)
        ∙ append_assoc (letters m) ((l + j) ∷ []) s) in
        g.2

    child : (j : ℕ) → EndsBy (l + j) m
        → sum_over (nodes v r (l + j) (m ⊕ unit_of (l + j))) (λ d. indicator (same d e))
        ≡ left something (letters (m ⊕ unit_of (l + j))) (letters e)
        → indicator (same (m ⊕ unit_of (l + j)) e)
        + sum_over (nodes v r (l + j) (m ⊕ unit_of (l + j))) (λ d. indicator (same d e))
        ≡ left (λ s. left (λ t. nothing t + something t) ((l + j) ∷ []) s) (letters m) (letters e)
    child j hj ih =
        let d = m ⊕ unit_of (l + j) in
        ap₂ ◌+◌ (indicator-same d e) ih
        ∙ sym (left-add nothing something (letters d) (letters e))
        ∙ ap (λ (w : List ℕ). left (λ t. nothing t + something t) w (letters e))
        (letters-snoc m (l + j) hj)
        ∙ left-snoc (λ t. nothing t + something t) (letters m) (l + j) (letters e)

-- each monomial of v variables and of order at most n but the constant is met once, from wherever
-- no letter stands yet
pub met_once : (v n : ℕ) (o e : Monomial) → order o ≡ 0 → length e ≤ v → order e ≤ n
    → sum_over (nodes v n 0 o) (λ d. indicator (same d e)) ≡ something (letters e)
unfolding left
met_once v n o e z h l =
    let empty : letters o ≡ [] = letters-origin o z in
    met v n 0 o e (ends_origin 0 o z)
    (λ s q. rw (q ∙ ap (λ (w : List ℕ). w ++ s) empty) at (letters-ascend v n e h l))
    ∙ ap (λ (w : List ℕ). left something w (letters e)) empty
