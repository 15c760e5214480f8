-- Marking series after series: the terms of the series marked so far are those of the sum of their
-- polynomials. The constant's mark is 11 in between and 0 in the end.
use Rattle.std.proofs.Common.{ℕ, suc, ◌+◌, ◌*◌, ◌-◌, ◌≤◌, ◌<◌, ◌≡◌, refl, sym, ap, ap₂, ◌∙◌, subst, Bool, false, ◌&&◌, List, map, add-one, arith, leb, length-take, length, get_or, set, take, drop, length-set, length-drop, replicate, get_or-set_same, get_or-set_other, lt-ltb, le-ltb}
use Rattle.std.proofs.Math.Decide.{ℕ_discrete}
use Rattle.std.proofs.Math.ListN.{length-replicate}
use Rattle.std.proofs.Math.ListN.{get_or-replicate}
use borrow.Author.Tests.{lt-leb}
use Rattle.algebra.specs.Polynomial.{Monomial, Polynomial, order, add, add_below}
use Rattle.monomial.specs.Count.{count}
use Rattle.series.specs.Image.{entries, component, polynomial, monomial_at, term_of}
use Rattle.series.specs.Series.{IsSeries}
use Rattle.series.specs.Over.{over}
use Rattle.series.proofs.Positions.{order-first, count-positive}
use Rattle.series.proofs.Series.{series_to_fault_none}
use Rattle.series.proofs.Over.{length_over, over_below, over-above, over-in}
use Rattle.product.proofs.Prepared.{checked}
use Rattle.product.specs.Regions.{Outside}
use Rattle.product.specs.List.{Checked}
use Rattle.substitution.specs.Walk.{begun, beginning, low_terms}
use Rattle.counts.specs.Tables.{Tabled}
use Rattle.substitution.specs.Marks.{Outer, outer_terms, Marks, MarksSeries}
use Rattle.substitution.specs.Marks.{Marked}
use Rattle.substitution.proofs.Marking.{outside_trans, outside_set}
use Rattle.substitution.proofs.Marking.{order-positive}

-- ---- the constant is no beginning of one letter or more

beginning-none : (P : Polynomial) (m : Monomial) → order m ≡ 0 → beginning P m ≡ false
unfolding beginning
beginning-none P m e = ap (λ (d : Bool). d && begun P m) (le-ltb 0 (order m) (omega arith))

pub beginning-some : (P : Polynomial) (m : Monomial) → 0 < order m → beginning P m ≡ begun P m
unfolding beginning
beginning-some P m l = ap (λ (d : Bool). d && begun P m) (lt-ltb 0 (order m) l)

-- ---- the marks after i of the series in ws

pub record MarkedUpto (n v N ms : ℕ) (ws w₀ w : List ℕ) (i : ℕ) : Type 0 where
  pub marks : Marks n v N (outer_terms n v i ws) ms w
  pub outside : Outside w₀ w (ms + 1) (ms + N + 1)

-- the same, seen from earlier words
pub marked_since : {n v N ms : ℕ} {ws w₀ w₁ w : List ℕ} {i : ℕ}
    → Outside w₀ w₁ (ms + 1) (ms + N + 1)
    → MarkedUpto n v N ms ws w₁ w i → MarkedUpto n v N ms ws w₀ w i
marked_since o M = record { marks = M.marks; outside = outside_trans o M.outside }

pub count-some : {n v N E : ℕ} {t : List ℕ} → Tabled n v N E t → 1 ≤ N
count-some {n} {v} g = omega (arith, g.N_is, count-positive n v)

module _ {n v N E : ℕ} {t : List ℕ} (g : Tabled n v N E t) where
  abbrev some : 1 ≤ N
  some = count-some g

  -- only the constant is marked
  pub marked_none : (ms : ℕ) (ws w₀ w : List ℕ) → ms + N < length w₀
      → w ≡ over w₀ (ms + 1) (replicate (ms + (N + 1) - (ms + 1)) 0)
      → MarkedUpto n v N ms ws w₀ (set w (ms + 1) 11) 0
  marked_none ms ws w₀ w l e = record {
    marks = record {
      inside = omega (arith, length-set w (ms + 1) 11, size);
      constant = first;
      high = λ q a h. bounded q a h (ℕ_discrete q 1);
      mark = λ b q f a h.
          ap (λ (x : ℕ). leb 11 (x + b)) (others q a h)
          ∙ lt-leb 11 (0 + b) (omega arith)
          ∙ sym (unmarked b q);
    };
    outside =
        outside_trans zeros
        (outside_set w (ms + 1) (ms + N + 1) (ms + 1) 11 (omega arith) (omega (arith, some)));
  }
    where
      k : ℕ
      k = ms + (N + 1) - (ms + 1)

      long : length (replicate {A = ℕ} k 0) ≡ N
      long = length-replicate {A = ℕ} k 0 ∙ omega arith

      size : length w ≡ length w₀
      size = ap length e ∙ length_over w₀ (ms + 1) (replicate k 0) (omega (arith, long))

      zeros : Outside w₀ w (ms + 1) (ms + N + 1)
      zeros = record {
        size = size;
        below = λ i h.
            ap (λ (x : List ℕ). get_or x i 0) e
            ∙ over_below w₀ (ms + 1) (replicate k 0) i (omega (arith, some)) h;
        above = λ i h.
            ap (λ (x : List ℕ). get_or x i 0) e
            ∙ over-above w₀ (ms + 1) (replicate k 0) i (omega (arith, some))
            (omega (arith, long));
      }

      cleared : (q : ℕ) → 2 ≤ q → q ≤ N → get_or w (ms + q) 0 ≡ 0
      cleared q a b =
          let j : ms + q ≡ ms + 1 + (q - 1) = omega arith in
          ap₂ (λ (x : List ℕ) (i : ℕ). get_or x i 0) e j
          ∙ over-in w₀ (ms + 1) (replicate k 0) (q - 1) (omega (arith, some)) (omega (arith, long))
          ∙ get_or-replicate k (q - 1) 0 0 (omega arith)

      first : get_or (set w (ms + 1) 11) (ms + 1) 0 ≡ 11
      first = get_or-set_same w (ms + 1) 11 0 (omega (arith, size, some))

      others : (q : ℕ) → 2 ≤ q → q ≤ N → get_or (set w (ms + 1) 11) (ms + q) 0 ≡ 0
      others q a b =
          get_or-set_other w (ms + 1) (ms + q) 11 0 (λ k. omega arith) ∙ cleared q a b

      bounded : (q : ℕ) → 1 ≤ q → q ≤ N → Dec (q ≡ 1)
          → get_or (set w (ms + 1) 11) (ms + q) 0 ≤ 11
      bounded q a b (yes e) =
          omega (arith, first, ap (λ (i : ℕ). get_or (set w (ms + 1) 11) (ms + i) 0) e)
      bounded q a b (no e) = omega (arith, others q (omega arith) b)

      unmarked : (b q : ℕ) → begun (low_terms b (outer_terms n v 0 ws)) (monomial_at n v q) ≡ false
      unmarked b q = unfold outer_terms add_below low_terms begun in refl

  -- one series more

  module _ {c : ℕ} {ws : List ℕ} (o : Outer n v N c ws) (i : ℕ) (l : i < c) where
    abbrev from : ℕ
    from = i * (N + 1)

    part_at : component n v i ws ≡ take (N + 1) (drop (i * (N + 1)) ws)
    unfolding component
    part_at = ap (λ (z : ℕ). take (z + 1) (drop (i * (z + 1)) ws)) (sym g.N_is)

    pub outer-inside : i * (N + 1) + (N + 1) ≤ length ws
    outer-inside =
        omega (
          arith,
          (o.each i l).long,
          ap length part_at,
          length-take (N + 1) (drop from ws),
          length-drop from ws,
        )

    -- the series, as the part of the slice that it is
    pub part-is : take (N + 1) (drop (i * (N + 1)) ws) ≡ component n v i ws
    part-is = sym part_at

    pub outer-series : Checked N (component n v i ws)
    outer-series = o.each i l

    pub marked_more : {ms : ℕ} {w₀ w w' : List ℕ} → MarkedUpto n v N ms ws w₀ w i
        → MarksSeries n v N ms (entries (component n v i ws)) w w'
        → MarkedUpto n v N ms ws w₀ w' (i + 1)
    marked_more {ms} {w₀} {w} {w'} M S = record {
      marks =
          subst (λ (P : Polynomial). Marks n v N P ms w') joined
          (S.marks (outer_terms n v i ws) M.marks);
      outside = outside_trans M.outside S.outside;
    }
      where
        terms_suc : add (outer_terms n v i ws) (map (term_of n v) (entries (component n v i ws)))
            ≡ outer_terms n v (suc i) ws
        terms_suc = unfold outer_terms add_below polynomial in refl

        joined : add (outer_terms n v i ws) (map (term_of n v) (entries (component n v i ws)))
            ≡ outer_terms n v (i + 1) ws
        joined = terms_suc ∙ ap (λ (j : ℕ). outer_terms n v j ws) (sym (add-one i))

  -- the constant's mark is taken back
  pub marked_all : {ms : ℕ} {ws w₀ w : List ℕ} {c : ℕ} → MarkedUpto n v N ms ws w₀ w c
      → Marked n v N (outer_terms n v c ws) ms w₀ (set w (ms + 1) 0)
  marked_all {ms} {ws} {w₀} {w} {c} M = record {
    high = λ q a h. bounded q a h (ℕ_discrete q 1);
    mark = λ b q f a h. at b q f a h (ℕ_discrete q 1);
    outside =
        outside_trans M.outside
        (outside_set w (ms + 1) (ms + N + 1) (ms + 1) 0 (omega arith) (omega (arith, some)));
  }
    where
      P : Polynomial
      P = outer_terms n v c ws

      first : (q : ℕ) → q ≡ 1 → get_or (set w (ms + 1) 0) (ms + q) 0 ≡ 0
      first q e =
          ap (λ (i : ℕ). get_or (set w (ms + 1) 0) (ms + i) 0) e
          ∙ get_or-set_same w (ms + 1) 0 0 (omega (arith, M.marks.inside, some))

      other : (q : ℕ) → (q ≡ 1 → ⊥) → get_or (set w (ms + 1) 0) (ms + q) 0 ≡ get_or w (ms + q) 0
      other q e = get_or-set_other w (ms + 1) (ms + q) 0 0 (λ k. e (omega arith))

      bounded : (q : ℕ) → 1 ≤ q → q ≤ N → Dec (q ≡ 1)
          → get_or (set w (ms + 1) 0) (ms + q) 0 ≤ 11
      bounded q a h (yes e) = omega (arith, first q e)
      bounded q a h (no e) = omega (arith, other q e, M.marks.high q a h)

      at : (b q : ℕ) → b ≤ 10 → 1 ≤ q → q ≤ N → Dec (q ≡ 1)
          → leb 11 (get_or (set w (ms + 1) 0) (ms + q) 0 + b)
          ≡ beginning (low_terms b P) (monomial_at n v q)
      at b q f a h (yes e) =
          let o : order (monomial_at n v q) ≡ 0 =
          ap (λ (i : ℕ). order (monomial_at n v i)) e ∙ order-first n v in
          ap (λ (x : ℕ). leb 11 (x + b)) (first q e)
          ∙ lt-leb 11 (0 + b) (omega arith)
          ∙ sym (beginning-none (low_terms b P) (monomial_at n v q) o)
      at b q f a h (no e) =
          ap (λ (x : ℕ). leb 11 (x + b)) (other q e)
          ∙ M.marks.mark b q f (omega arith) h
          ∙ sym
          (beginning-some (low_terms b P) (monomial_at n v q)
          (order-positive n v N g.N_is q (omega arith) h))

-- the components of a map that passed its check
pub outer-map : (p n v N c : ℕ) (ws : List ℕ) → N ≡ count n v
    → ((i : ℕ) → i < c → IsSeries p (count n v) (component n v i ws)) → Outer n v N c ws
outer-map p n v N c ws e s = record {
  each = λ i l.
      let good = s i l in
      checked p N (component n v i ws)
      (record {
        long = omega (arith, good.long);
        good = rw e (series_to_fault_none p (count n v) good);
      });
}
