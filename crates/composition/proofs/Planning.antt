-- The plan of a walk whose columns stand where `Setup` has them, cut at any order of at most n. After the two
-- preparations the walk has what it is told, and its first node, the constant, has the product 1.
use Rattle.std.proofs.Common.{ℕ, ◌+◌, ◌*◌, ◌≤◌, ◌<◌, ◌≡◌, refl, ap, ◌∙◌, subst, List, mul-le-mul, arith, leb, length}
use Rattle.algebra.specs.Polynomial.{Monomial, order, indicator, coefficient_of, constant, one}
use Rattle.monomial.specs.Count.{count}
use Rattle.series.specs.Image.{position, entries, component, polynomial, monomial_at}
use Rattle.series.specs.Series.{IsSeries}
use Rattle.product.specs.Pairs.{by_order}
use Rattle.product.specs.Regions.{Placed, Listed, Outside}
use Rattle.product.proofs.Prepared.{ready_same}
use Rattle.series.proofs.Entries.{coefficient_at-reduced}
use Rattle.series.proofs.Positions.{order-first, count-positive}
use Rattle.series.proofs.Reading.{coefficient_of-polynomial}
use Rattle.substitution.specs.Walk.{beginning, low_terms}
use Rattle.substitution.specs.Marks.{outer_terms}
use Rattle.substitution.specs.Levels.{Cut}
use Rattle.substitution.proofs.Regions.{placed_within}
use Rattle.substitution.proofs.Searching.{series-ascending}
use Rattle.walk.specs.declared.Plan.{Plan}
use Rattle.walk.specs.Walking.{lower_half, list_at, row, Planned, Laid, Node}
use Rattle.walk.proofs.Sources.{source_same}
use Rattle.composition.specs.Setup.{orders_at, marks_at, top_at, RegionsAt, Prepared}

-- the entries of the inner components
abbrev pub inner_entries : ℕ → ℕ → List ℕ → ℕ → List ℕ
inner_entries n v inner k = entries (component n v k inner)

-- the coefficients of the outer series from order `least` on
abbrev pub outer_coefficients : ℕ → ℕ → ℕ → List ℕ → ℕ → Monomial → ℕ
outer_coefficients n v least outer i m =
    coefficient_of m (polynomial n v (component n v i outer)) * indicator (leb least (order m))

-- what is prepared stays so while words of the lists change
pub prepared_outside : {n v N E c : ℕ} {t outer starts w w1 w2 : List ℕ}
    → Outside w1 w2 (2 * (N + 1)) (orders_at v N) → Prepared n v N E c t outer starts w w1
    → Prepared n v N E c t outer starts w w2
prepared_outside {n} {v} {N} {E} {t = t} {w1 = w1} {w2 = w2} L P = record {
  size = L.size ∙ P.size;
  ready =
      ready_same n v N E (orders_at v N) 0 t w1 w2 L.size (λ i a b. L.above i (omega arith))
      P.ready;
  marked = λ b q f a h.
      ap (λ (x : ℕ). leb 11 (lower_half x + b)) (L.above (marks_at v N + q) (omega arith))
      ∙ P.marked b q f a h;
  clean = record { zero = λ i l. L.below i l ∙ P.clean.zero i l };
  ordered = record {
    apart = P.ordered.apart;
    inside = omega (arith, P.ordered.inside, L.size);
    place = λ k l. ap position (L.above (marks_at v N + 1 + k) (omega arith)) ∙ P.ordered.place k l;
    starts_in = P.ordered.starts_in;
    start = P.ordered.start;
  };
  start = λ p cut.
      source_same w1 w2 (top_at n v N) L.size (λ i l. L.above i (omega arith)) (P.start p cut);
  above = λ i l. L.above i (omega arith) ∙ P.above i l;
}

module _ (s : Plan) {top : ℕ} (R : RegionsAt s.t.z.n s.t.z.v s.t.z.count s.columns.orders s.columns.marks top) where
  pub laid : Laid s
  laid = record {
    orders_in = omega (arith, R.orders_is);
    marks_low = omega (arith, R.marks_is);
    marks_in = omega (arith, R.marks_is);
  }

  abbrev n : ℕ
  n = s.t.z.n

  abbrev v : ℕ
  v = s.t.z.v

  abbrev N : ℕ
  N = s.t.z.count

  module _ {w w2 : List ℕ} (C : Cut s.p s.t.z.n s.t.z.v s.t.z.count s.cut)
      (P : Prepared s.t.z.n s.t.z.v s.t.z.count s.t.z.codes s.components s.t.words.now s.outer.now s.starts.now w w2)
    where
      few_orders : s.cut ≤ 10
      few_orders = omega (arith, C.cut_low, P.ready.right.allowed.n_high)

      -- with components listed that have the entries ys and no constant
      pub planned : {ys : ℕ → List ℕ} → s.wanted ≤ s.cut → s.components ≤ 8
          → s.components * (s.t.z.count + 1) ≤ length s.outer.now
          → ((i : ℕ) → i < s.components
          → IsSeries s.p (count s.t.z.n s.t.z.v) (component s.t.z.n s.t.z.v i s.outer.now))
          → ((k : ℕ) → k < s.t.z.v
          → Listed s.t.z.n s.t.z.v s.t.z.count (ys k) (list_at s.t.z.count k) w2 (row s.ends.now k))
          → ((k : ℕ) → k < s.t.z.v → length (by_order s.t.z.n s.t.z.v (ys k) 1) ≡ 0)
          → Planned s w2 ys
          (beginning (low_terms s.cut (outer_terms s.t.z.n s.t.z.v s.components s.outer.now)))
          (outer_coefficients s.t.z.n s.t.z.v s.least s.outer.now)
      planned {ys} low few long outers listed none = record {
        cut_is = C;
        wanted_low = low;
        ready = rw R.orders_is P.ready;
        listed = listed;
        origin = λ k l. (listed k l).end 0 (omega arith) ∙ none k l;
        within = λ k l.
            placed_within n v (ys k) (subst (λ (z : ℕ). Placed z (ys k)) C.N_is (listed k l).placed);
        ordered = rw R.marks_is P.ordered;
        clean = P.clean;
        marked = λ q a h. rw R.marks_is (P.marked s.cut q few_orders a h);
        few = few;
        outer_in = long;
        ascending = λ i l. series-ascending s.p (count n v) (component n v i s.outer.now) (outers i l);
        reduced = λ i q l. coefficient_at-reduced C.modulus_low (outers i l).ascending q;
        coefficient = λ i q l a b.
            ap (λ (x : ℕ). x * indicator (leb s.least (order (monomial_at n v q))))
            (coefficient_of-polynomial n v (outers i l) q a (omega (arith, C.N_is)));
      }

      pub first-node : Node s w2 1 top s.cut (monomial_at s.t.z.n s.t.z.v 1) one
      first-node = record {
        low = omega arith;
        high = omega (arith, C.N_is, count-positive n v);
        monomial = refl;
        letters = omega (arith, order-first n v);
        source = rw (order-first n v, R.top_is) (P.start s.p s.cut);
        within = unfold constant in (omega arith, tt);
        room =
            let a : s.cut ≤ n = C.cut_low in
            let b : N + 1 ≤ N + 1 = omega arith in
            omega (arith, mul-le-mul a b, R.top_is);
      }
