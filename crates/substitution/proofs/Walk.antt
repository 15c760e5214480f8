-- The walk along the tree is the sum over the tree, since its product at each node is that of the
-- node's monomial; the tree meets each monomial of the outer polynomial once, and what is not
-- entered has no coefficient: so the constant and the walk are the substitution.
use Rattle.std.proofs.Common.{ℕ, zero, suc, ◌+◌, ◌*◌, ◌-◌, ◌≤◌, ◌<◌, ◌≡◌, refl, sym, ap, ap₂, ◌∙◌, Bool, true, false, List, [], ◌∷◌, append_assoc, append-nil, mul_comm, one-mul, zero-mul, arith, T, length}
use Rattle.std.proofs.Math.Path.{fun_ext}
use Rattle.algebra.specs.Sum.{sum_over, sum_to}
use Rattle.algebra.specs.Polynomial.{Monomial, Polynomial, ◌⊕◌, order, trim, same, indicator, weigh}
use Rattle.algebra.specs.Polynomial.{coefficient_of, constant, one, add, scale, mul, add_below}
use Rattle.algebra.specs.Substitution.{Map, monomial_product, substitute, compose, unit_of}
use Rattle.algebra.specs.Agreement.{Within, ◌≐◌}
use Rattle.algebra.proofs.Sums.{sum-nil, sum-cong, sum-zero, sum-add, sum-scale, sum_to-ext}
use Rattle.algebra.proofs.Weigh.{weigh-nil, weigh-cons, weigh-add, weigh-scale, weigh-constant}
use Rattle.algebra.proofs.Weigh.{weigh-extend, coefficient-nil, coefficient-cons}
use Rattle.algebra.proofs.Ring.{at, weigh-⊛}
use Rattle.algebra.proofs.Trim.{same_to_trim, trim-order_zero}
use Rattle.algebra.proofs.Substitute.{monomial_product-⊕, monomial_product-trim, monomial_product-unit}
use Rattle.monomial.specs.Enumeration.{only}
use Rattle.substitution.specs.Walk.{letters, begun, all_terms, visit, walk}
use Rattle.substitution.proofs.Letters.{EndsBy, ends_later, ends_snoc, ends_origin}
use Rattle.substitution.proofs.Letters.{letters-origin}
use Rattle.substitution.proofs.Remainders.{left, nothing, something, indicator-same}
use Rattle.substitution.proofs.Tree.{nodes, sum-nodes, met_once}
use Rattle.substitution.proofs.Beginnings.{Extends, extends_refl, extends_snoc}
use Rattle.substitution.proofs.Beginnings.{extends_trans, begun_all, coefficient-unbegun}

-- ---- the walk, one letter after another

pub weigh-below : (h : ℕ) (F : ℕ → Polynomial) (φ : Monomial → ℕ)
    → weigh (add_below h F) φ ≡ sum_to (λ j. weigh (F j) φ) h
unfolding add_below sum_to
weigh-below zero F φ = weigh-nil φ
weigh-below (suc h) F φ =
    weigh-add (add_below h F) (F h) φ
    ∙ ap (λ (x : ℕ). x + weigh (F h) φ) (weigh-below h F φ)

module _ (κ : Monomial → ℕ) (mark : Monomial → Bool) (f : Map) (v r : ℕ) (m : Monomial)
    (Q : Polynomial) where
  -- what letter k adds to the walk below m
  unfoldable pub branch : ℕ → Polynomial
  branch k =
      visit (mark (m ⊕ unit_of k)) (κ (m ⊕ unit_of k)) (mul Q (f k))
      (walk κ mark f v r k (m ⊕ unit_of k) (mul Q (f k)))

  -- what the letters from l to before k add
  unfoldable pub branches : ℕ → ℕ → Polynomial
  branches l k = add_below (k - l) (λ j. branch (l + j))

  pub branches-none : (l : ℕ) → branches l l ≡ []
  unfolding branches add_below
  branches-none l =
      let z : l - l ≡ 0 = omega arith in
      ap (λ (h : ℕ). add_below h (λ j. branch (l + j))) z

  pub branches-more : (l k : ℕ) → l ≤ k → branches l (k + 1) ≡ add (branches l k) (branch k)
  unfolding branches add_below
  branches-more l k h =
      let F : ℕ → Polynomial = λ j. branch (l + j) in
      let one_more : k + 1 - l ≡ suc (k - l) = omega arith in
      let last : l + (k - l) ≡ k = omega arith in
      ap (λ (i : ℕ). add_below i F) one_more
      ∙ ap (λ (i : ℕ). add (add_below (k - l) F) (branch i)) last

  pub branches-all : (l : ℕ) → branches l v ≡ walk κ mark f v (suc r) l m Q
  unfolding branches branch walk
  branches-all l = refl

  pub branch-marked : (k : ℕ) → mark (m ⊕ unit_of k) ≡ true
      → branch k
      ≡ add (scale (κ (m ⊕ unit_of k)) (mul Q (f k)))
      (walk κ mark f v r k (m ⊕ unit_of k) (mul Q (f k)))
  unfolding branch visit only
  branch-marked k e = rw e

  pub branch-unmarked : (k : ℕ) → mark (m ⊕ unit_of k) ≡ false → branch k ≡ []
  unfolding branch visit only
  branch-unmarked k e = rw e

  -- one letter more, added to A

  pub branches-marked : (A : Polynomial) (l k : ℕ) → l ≤ k → mark (m ⊕ unit_of k) ≡ true
      → add (add (add A (branches l k)) (scale (κ (m ⊕ unit_of k)) (mul Q (f k))))
      (walk κ mark f v r k (m ⊕ unit_of k) (mul Q (f k)))
      ≡ add A (branches l (k + 1))
  branches-marked A l k h e =
      let S = scale (κ (m ⊕ unit_of k)) (mul Q (f k)) in
      let W = walk κ mark f v r k (m ⊕ unit_of k) (mul Q (f k)) in
      append_assoc (add A (branches l k)) S W
      ∙ append_assoc A (branches l k) (add S W)
      ∙ ap (add A)
      (ap (add (branches l k)) (sym (branch-marked k e)) ∙ sym (branches-more l k h))

  pub branches-unmarked : (A : Polynomial) (l k : ℕ) → l ≤ k → mark (m ⊕ unit_of k) ≡ false
      → add A (branches l k) ≡ add A (branches l (k + 1))
  branches-unmarked A l k h e =
      ap (add A)
      (sym (append-nil (branches l k))
      ∙ ap (add (branches l k)) (sym (branch-unmarked k e))
      ∙ sym (branches-more l k h))

pub walk_none : (κ : Monomial → ℕ) (mark : Monomial → Bool) (f : Map) (v l : ℕ) (m : Monomial)
    (Q : Polynomial) → walk κ mark f v 0 l m Q ≡ []
unfolding walk
walk_none κ mark f v l m Q = refl

-- ---- the walk is the sum over the tree

pub nodes-same : (v r l : ℕ) (m : Monomial) (χ ψ : Monomial → ℕ) → EndsBy l m
    → ((d : Monomial) → Extends m d → χ d ≡ ψ d)
    → sum_over (nodes v r l m) χ ≡ sum_over (nodes v r l m) ψ
nodes-same v zero l m χ ψ h e = unfold nodes in (sum-nil χ ∙ sym (sum-nil ψ))
nodes-same v (suc r) l m χ ψ h e =
    sum-nodes v r l m χ
    ∙ sum_to-ext _ _ (v - l)
    (λ j b.
    let k = l + j in
    let hk : EndsBy k m = ends_later (omega arith) h in
    let x : Extends m (m ⊕ unit_of k) = extends_snoc m k hk in
    ap₂ ◌+◌ (e (m ⊕ unit_of k) x)
    (nodes-same v r k (m ⊕ unit_of k) χ ψ (ends_snoc m k hk)
    (λ d y. e d (extends_trans x y))))
    ∙ sym (sum-nodes v r l m ψ)

pub nodes-none : (v r l : ℕ) (m : Monomial) (χ : Monomial → ℕ) → EndsBy l m
    → ((d : Monomial) → Extends m d → χ d ≡ 0) → sum_over (nodes v r l m) χ ≡ 0
nodes-none v r l m χ h e =
    nodes-same v r l m χ (λ d. 0) h e ∙ sum-zero (nodes v r l m) (λ d. refl)

-- the product one letter further
pub product-snoc : (f : Map) (m : Monomial) (k : ℕ) (Q : Polynomial) → Q ≐ monomial_product f m
    → mul Q (f k) ≐ monomial_product f (m ⊕ unit_of k)
product-snoc f m k Q e = simp (weigh-⊛, e, monomial_product-⊕, monomial_product-unit)

module _ (κ : Monomial → ℕ) (mark : Monomial → Bool) (f : Map) (v : ℕ)
    (skips : (m d : Monomial) → Extends m d → mark m ≡ false → κ d ≡ 0)
    (φ : Monomial → ℕ) where
  abbrev worth : Monomial → ℕ
  worth d = κ d * weigh (monomial_product f d) φ

  module _ (r : ℕ) (m : Monomial) (Q : Polynomial) where
    weigh-walk : (l : ℕ)
        → weigh (walk κ mark f v (suc r) l m Q) φ
        ≡ sum_to (λ j. weigh (branch κ mark f v r m Q (l + j)) φ) (v - l)
    unfolding walk branch
    weigh-walk l = weigh-below (v - l) _ φ

    -- one letter: what it adds is its node and the nodes below that
    weigh-branch : (k : ℕ) (b : Bool) → mark (m ⊕ unit_of k) ≡ b → EndsBy k (m ⊕ unit_of k)
        → mul Q (f k) ≐ monomial_product f (m ⊕ unit_of k)
        → weigh (walk κ mark f v r k (m ⊕ unit_of k) (mul Q (f k))) φ
        ≡ sum_over (nodes v r k (m ⊕ unit_of k)) worth
        → weigh (branch κ mark f v r m Q k) φ
        ≡ worth (m ⊕ unit_of k) + sum_over (nodes v r k (m ⊕ unit_of k)) worth
    weigh-branch k true q h e ih =
        let d = m ⊕ unit_of k in
        ap (λ (P : Polynomial). weigh P φ) (branch-marked κ mark f v r m Q k q)
        ∙ weigh-add (scale (κ d) (mul Q (f k))) (walk κ mark f v r k d (mul Q (f k))) φ
        ∙ ap₂ ◌+◌ (weigh-scale (κ d) (mul Q (f k)) φ ∙ ap (λ (x : ℕ). κ d * x) (at φ e)) ih
    weigh-branch k false q h e ih =
        let d = m ⊕ unit_of k in
        ap (λ (P : Polynomial). weigh P φ) (branch-unmarked κ mark f v r m Q k q)
        ∙ weigh-nil φ
        ∙ sym (ap₂ ◌+◌ (none d (extends_refl d)) (nodes-none v r k d worth h none))
      where
        none : (d : Monomial) → Extends (m ⊕ unit_of k) d → worth d ≡ 0
        none d x =
            ap (λ (y : ℕ). y * weigh (monomial_product f d) φ) (skips (m ⊕ unit_of k) d x q)
            ∙ zero-mul _

  pub walk-nodes : (r l : ℕ) (m : Monomial) (Q : Polynomial) → EndsBy l m
      → Q ≐ monomial_product f m
      → weigh (walk κ mark f v r l m Q) φ ≡ sum_over (nodes v r l m) worth
  walk-nodes zero l m Q h e = unfold walk nodes in (weigh-nil φ ∙ sym (sum-nil worth))
  walk-nodes (suc r) l m Q h e =
      weigh-walk r m Q l
      ∙ sum_to-ext _ _ (v - l)
      (λ j b.
      let k = l + j in
      let hk : EndsBy k m = ends_later (omega arith) h in
      let hd : EndsBy k (m ⊕ unit_of k) = ends_snoc m k hk in
      let ed = product-snoc f m k Q e in
      weigh-branch r m Q k (mark (m ⊕ unit_of k)) refl hd ed
      (walk-nodes r k (m ⊕ unit_of k) (mul Q (f k)) hd ed))
      ∙ sym (sum-nodes v r l m worth)

-- ---- the sum over the tree is the sum over the terms

-- each monomial of P has at most n letters
abbrev pub Low : ℕ → Polynomial → Type 0
Low n [] = Unit {0}
Low n (t ∷ P) = (order t.exponents ≤ n) × Low n P

module _ (v n : ℕ) (o : Monomial) (origin : order o ≡ 0) (ψ : Monomial → ℕ)
    (trimmed : (m : Monomial) → ψ (trim m) ≡ ψ m) where
  same-worth : (d e : Monomial) → indicator (same d e) * ψ d ≡ indicator (same d e) * ψ e
  same-worth d e = go (same d e) refl
    where
      go : (b : Bool) → same d e ≡ b → indicator b * ψ d ≡ indicator b * ψ e
      go true q =
          ap (λ (x : ℕ). indicator true * x)
          (sym (trimmed d) ∙ ap ψ (same_to_trim d e (rw q tt)) ∙ trimmed e)
      go false q = unfold indicator in omega arith

  one-term : (e : Monomial) → length e ≤ v → order e ≤ n
      → indicator (same [] e) * ψ []
      + sum_over (nodes v n 0 o) (λ d. indicator (same d e) * ψ d)
      ≡ ψ e
  one-term e h l =
      ap₂ ◌+◌
      (same-worth [] e
      ∙ ap (λ (x : ℕ). x * ψ e) (indicator-same [] e ∙ constant-left (letters e)))
      (sum-cong (nodes v n 0 o) (λ d. same-worth d e ∙ mul_comm (indicator (same d e)) (ψ e))
      ∙ sum-scale (ψ e) (nodes v n 0 o) (λ d. indicator (same d e))
      ∙ ap (λ (x : ℕ). ψ e * x) (met_once v n o e origin h l))
      ∙ whole (letters e)
    where
      constant-left : (u : List ℕ) → left nothing (letters []) u ≡ nothing u
      constant-left u =
          ap (λ (w : List ℕ). left nothing w u) (letters-origin [] (unfold order in refl))
          ∙ (unfold left in refl)

      whole : (u : List ℕ) → nothing u * ψ e + ψ e * something u ≡ ψ e
      whole [] = unfold nothing something in omega arith
      whole (a ∷ u) = unfold nothing something in omega arith

  pub all_terms_low : (P : Polynomial) → Within v P → Low n P
      → coefficient_of [] P * ψ [] + sum_over (nodes v n 0 o) (λ d. coefficient_of d P * ψ d)
      ≡ weigh P ψ
  all_terms_low [] w low =
      ap₂ ◌+◌
      (ap (λ (x : ℕ). x * ψ []) (coefficient-nil []) ∙ zero-mul (ψ []))
      (sum-zero (nodes v n 0 o)
      (λ d. ap (λ (x : ℕ). x * ψ d) (coefficient-nil d) ∙ zero-mul (ψ d)))
      ∙ sym (weigh-nil ψ)
  all_terms_low (t ∷ P) w low =
      ap₂ (λ (x y : ℕ). x * ψ [] + y) (coefficient-cons [] t P)
      (sum-cong ds
      (λ d.
      ap (λ (x : ℕ). x * ψ d) (coefficient-cons d t P)
      ∙ spread c (indicator (same d e)) (coefficient_of d P) (ψ d))
      ∙ sum-add ds (λ d. c * (indicator (same d e) * ψ d)) (λ d. coefficient_of d P * ψ d)
      ∙ ap (λ (x : ℕ). x + sum_over ds (λ d. coefficient_of d P * ψ d))
      (sum-scale c ds (λ d. indicator (same d e) * ψ d)))
      ∙ collect c (indicator (same [] e)) (coefficient_of [] P) (ψ [])
      (sum_over ds (λ d. indicator (same d e) * ψ d))
      (sum_over ds (λ d. coefficient_of d P * ψ d))
      ∙ ap₂ ◌+◌ (ap (λ (x : ℕ). c * x) (one-term e w.0 low.0))
      (all_terms_low P w.1 low.1)
      ∙ sym (weigh-cons t P ψ)
    where
      c : ℕ
      c = t.coefficient

      e : Monomial
      e = t.exponents

      ds : List Monomial
      ds = nodes v n 0 o

      spread : (c a b x : ℕ) → (c * a + b) * x ≡ c * (a * x) + b * x
      spread c a b x = omega arith

      collect : (c a b x s r : ℕ)
          → (c * a + b) * x + (c * s + r) ≡ c * (a * x + s) + (b * x + r)
      collect c a b x s r = omega arith

-- ---- the walk is the substitution

-- the constant, and the walk from a monomial without letters; the tree may be larger than needed
pub walk-substitutes : (P : Polynomial) (mark : Monomial → Bool) (f : Map) (v n : ℕ) (o : Monomial)
    → order o ≡ 0 → Within v P → Low n P → ((m : Monomial) → T (begun P m) → T (mark m))
    → add (constant (coefficient_of [] P)) (walk (λ m. coefficient_of m P) mark f v n 0 o one)
    ≐ substitute P f
unfolding substitute
walk-substitutes P mark f v n o origin w low marked =
    fun_ext
    (λ φ.
    weigh-add (constant (coefficient_of [] P)) (walk κ mark f v n 0 o one) φ
    ∙ ap₂ ◌+◌
    (weigh-constant (coefficient_of [] P) φ ∙ ap (λ (x : ℕ). coefficient_of [] P * x) (sym (first φ)))
    (walk-nodes κ mark f v skips φ n 0 o one (ends_origin 0 o origin) start)
    ∙ all_terms_low v n o origin (λ e. weigh (monomial_product f e) φ)
    (λ e. at φ (monomial_product-trim f e)) P w low
    ∙ sym (weigh-extend (monomial_product f) P φ))
  where
    κ : Monomial → ℕ
    κ m = coefficient_of m P

    skips : (m d : Monomial) → Extends m d → mark m ≡ false → κ d ≡ 0
    skips m d x q =
        coefficient-unbegun P x (λ t. let u : T (mark m) = marked m t in absurd (rw q at u))

    empty : one ≐ monomial_product f []
    empty = unfold monomial_product in refl

    first : (φ : Monomial → ℕ) → weigh (monomial_product f []) φ ≡ φ []
    first φ = sym (at φ empty) ∙ weigh-constant 1 φ ∙ one-mul (φ [])

    start : one ≐ monomial_product f o
    start =
        empty
        ∙ ap (λ (e : Monomial). weigh (monomial_product f e)) (sym (trim-order_zero o (omega arith)))
        ∙ monomial_product-trim f o

-- each component of a composition: its constant, and the walk along the tree that all share, with
-- its own coefficients
pub walk-composes : (f g : Map) (v n c i : ℕ) (o : Monomial) → order o ≡ 0 → i < c
    → Within v (f i) → Low n (f i)
    → add (constant (coefficient_of [] (f i)))
    (walk (λ m. coefficient_of m (f i)) (begun (all_terms c f)) g v n 0 o one)
    ≐ compose f g i
unfolding compose
walk-composes f g v n c i o origin l w low =
    walk-substitutes (f i) (begun (all_terms c f)) g v n o origin w low
    (λ m t. begun_all c f i m l t)
