-- Marking the entries of one series, one after another: after i entries the beginnings of the
-- first i monomials are marked too.
use Rattle.std.proofs.Common.{ℕ, ◌+◌, ◌-◌, ◌≤◌, ◌<◌, ◌≡◌, refl, sym, ap, ◌∙◌, subst, List, [], ◌∷◌, ◌++◌, map, append_assoc, append-nil, add-one, arith, length, get_or, take, drop, take-suc, take_all}
use Rattle.algebra.specs.Polynomial.{Polynomial, order, add}
use Rattle.series.specs.Image.{position, entries, monomial_at, term_of}
use Rattle.series.proofs.Positions.{order-monomial_at}
use Rattle.series.proofs.CodeWords.{entry_read}
use Rattle.product.proofs.Ordered.{placed_at}
use Rattle.product.proofs.ListCounts.{entries-lent}
use Rattle.product.specs.Regions.{Outside}
use Rattle.product.specs.List.{Checked}
use Rattle.counts.specs.Tables.{Tabled}
use Rattle.substitution.specs.Marks.{OrdersAt, Marks, Climbs, MarksSeries}
use Rattle.substitution.proofs.Marking.{outside_refl, outside_trans}

-- ---- the entries of a series

entry-at : {N : ℕ} {ws : List ℕ} → Checked N ws → (i : ℕ) → i < get_or ws 0 0
    → get_or ws (i + 1) 0 ≡ get_or (entries ws) i 0
entry-at {ws = ws} s i l = entry_read ws i 0 l (omega (arith, s.long, s.number, s.few))

-- where the words behind word 0 are lent to a loop
pub entry-inside : {N : ℕ} {ws : List ℕ} → Checked N ws → (i : ℕ)
    → i < length (take (get_or ws 0 0 + 1 - 1) (drop 1 ws)) → i < get_or ws 0 0
entry-inside {ws = ws} s i l = omega (arith, ap length (entries-lent ws), s.number)

pub entries-inside : {N : ℕ} {ws : List ℕ} → Checked N ws → (i : ℕ)
    → length (take (get_or ws 0 0 + 1 - 1) (drop 1 ws)) ≤ i → get_or ws 0 0 ≤ i
entries-inside {ws = ws} s i l = omega (arith, ap length (entries-lent ws), s.number)

-- what climbing from entry i asks
pub entry-asks : {N : ℕ} {ws : List ℕ} → Checked N ws → (i : ℕ) → i < get_or ws 0 0
    → (1 ≤ position (get_or ws (i + 1) 0)) × (position (get_or ws (i + 1) 0) ≤ N)
entry-asks {N} {ws} s i l =
    rw (entry-at s i l) (placed_at N (entries ws) i s.placed (omega (arith, s.number)))

-- the orders stay while marks are written
pub orders_kept : {n v N os ms : ℕ} {w w' : List ℕ} → OrdersAt n v N os ms w
    → Outside w w' (ms + 1) (ms + N + 1) → OrdersAt n v N os ms w'
orders_kept {os = os} O k = record {
  apart = O.apart;
  orders = λ q l h. k.below (os + q) (omega (arith, O.apart)) ∙ O.orders q l h;
}

-- what is read of entry i's order
pub entry-order : {n v N E os ms : ℕ} {t w ws : List ℕ} → Tabled n v N E t
    → OrdersAt n v N os ms w → Checked N ws → (i : ℕ) → i < get_or ws 0 0
    → (get_or w (os + position (get_or ws (i + 1) 0)) 0
    ≡ order (monomial_at n v (position (get_or ws (i + 1) 0))))
    × (get_or w (os + position (get_or ws (i + 1) 0)) 0 ≤ 10)
entry-order {n} {v} {ws = ws} g O s i l =
    let q = position (get_or ws (i + 1) 0) in
    let r = entry-asks s i l in
    let e = O.orders q r.0 r.1 in (
      e,
      omega (
        arith,
        e,
        order-monomial_at n v q r.0 (omega (arith, r.1, g.N_is)),
        g.right.allowed.n_high,
      ),
    )

-- ---- the marks after i entries

pub record MarkedEntries (n v N ms : ℕ) (ws w₀ w : List ℕ) (i : ℕ) : Type 0 where
  pub few : i ≤ get_or ws 0 0
  pub marked : MarksSeries n v N ms (take i (entries ws)) w₀ w

map-append : {A B : Type 0} (f : A → B) (xs ys : List A)
    → map f (xs ++ ys) ≡ map f xs ++ map f ys
map-append f [] ys = refl
map-append f (x ∷ xs) ys = ap (λ (l : List _). f x ∷ l) (map-append f xs ys)

pub entries_none : (n v N ms : ℕ) (ws w : List ℕ) → MarkedEntries n v N ms ws w w 0
entries_none n v N ms ws w = record {
  few = omega arith;
  marked = record {
    marks = λ P M. subst (λ (Q : Polynomial). Marks n v N Q ms w) (sym (append-nil P)) M;
    outside = outside_refl w (ms + 1) (ms + N + 1);
  };
}

module _ {n v N ms : ℕ} {ws w₀ w : List ℕ} {i : ℕ} (s : Checked N ws)
    (M : MarkedEntries n v N ms ws w₀ w i) where
  abbrev es : List ℕ
  es = entries ws

  pub entries-more : {w' : List ℕ} → i < get_or ws 0 0
      → Climbs n v N ms (get_or ws (i + 1) 0) w w' → MarkedEntries n v N ms ws w₀ w' (i + 1)
  entries-more {w'} l C = record {
    few = omega arith;
    marked = record {
      marks = λ P K.
          subst (λ (Q : Polynomial). Marks n v N Q ms w') (joined P)
          (C.marks (add P (map (term_of n v) (take i es))) (M.marked.marks P K));
      outside = outside_trans M.marked.outside C.outside;
    };
  }
    where
      x : ℕ
      x = get_or ws (i + 1) 0

      next : take (i + 1) es ≡ take i es ++ x ∷ []
      next =
          ap (λ (k : ℕ). take k es) (add-one i)
          ∙ take-suc es i 0 (omega (arith, s.number))
          ∙ ap (λ (y : ℕ). take i es ++ y ∷ []) (sym (entry-at s i l))

      joined : (P : Polynomial)
          → add (add P (map (term_of n v) (take i es))) (term_of n v x ∷ [])
          ≡ add P (map (term_of n v) (take (i + 1) es))
      joined P =
          append_assoc P (map (term_of n v) (take i es)) (term_of n v x ∷ [])
          ∙ ap (add P)
          (sym (map-append (term_of n v) (take i es) (x ∷ []))
          ∙ ap (map (term_of n v)) (sym next))

  pub entries-all : get_or ws 0 0 ≤ i → MarksSeries n v N ms (entries ws) w₀ w
  entries-all l =
      subst (λ (xs : List ℕ). MarksSeries n v N ms xs w₀ w) (take_all i es (omega (arith, s.number)))
      M.marked
