-- Substitution step by step: the preparations, the constants, the walk, the packing and the zeros.
-- Each step is told what it asks by those before it.
use Rattle.std.proofs.Common.{ℕ, ◌+◌, ◌-◌, ◌*◌, ◌≤◌, ◌<◌, ◌≡◌, ap, ap₂, ◌∙◌, subst, Bool, List, ◌++◌, arith, length, get_or, drop, replicate, drop_at}
use Rattle.std.proofs.Math.ListN.{length-replicate}
use Rattle.algebra.specs.Polynomial.{Monomial, Polynomial, constant, one}
use Rattle.algebra.specs.Substitution.{substitute}
use Rattle.monomial.specs.Count.{count}
use Rattle.monomial.specs.Enumeration.{upto}
use Rattle.series.specs.Image.{entries, coefficient_at, component, polynomial, map_of, monomial_at}
use Rattle.series.specs.Image.{image}
use Rattle.series.specs.Series.{IsSeries}
use Rattle.series.specs.Over.{over}
use Rattle.series.proofs.Entries.{coefficient_at-reduced}
use Rattle.series.proofs.Parts.{upto-cong, length-parts}
use Rattle.series.proofs.Positions.{count-positive}
use Rattle.series.proofs.Series.{fault_none_to_series}
use Rattle.product.proofs.Cut.{image_to-whole}
use Rattle.product.proofs.Whole.{drop-same, over-front_is}
use Rattle.substitution.specs.Walk.{beginning, low_terms}
use Rattle.substitution.specs.Marks.{outer_terms}
use Rattle.substitution.specs.Levels.{Cut}
use Rattle.substitution.proofs.Levels.{image_to-agree}
use Rattle.substitution.proofs.MarkingAll.{outer-map}
use Rattle.substitution.proofs.Searching.{series-ascending}
use Rattle.walk.specs.declared.Plan.{Plan}
use Rattle.walk.specs.Walking.{Planned, Node, Sums, Walked}
use Rattle.composition.specs.Setup.{orders_at, ListIn, InnerListed, RegionsAt, PrepareIn, Prepared}
use Rattle.composition.specs.Parts.{nth_part, constant_words, packed_words, BeginIn, PackIn}
use Rattle.composition.specs.Core.{ComposeIn}
use Rattle.composition.proofs.Filling.{length-constant_words}
use Rattle.composition.proofs.Listing.{component-part}
use Rattle.composition.proofs.Summing.{begun-sums, pack_asks, packed-sums}
use Rattle.composition.proofs.Planning.{inner_entries, outer_coefficients, planned}
use Rattle.composition.proofs.Planning.{prepared_outside, first-node}
use Rattle.composition.proofs.Origins.{none_low, component-fixing}
use Rattle.composition.proofs.Substituting.{walk-substitutes}

module _ {n v N E c W p : ℕ} {t outer g result w : List ℕ}
    (q : ComposeIn n v N E c W p t outer g result w) where
  pub few_words : (N ≤ 8008) × (v ≤ 8) × (n ≤ 10)
  few_words = (
    omega (arith, q.N_is, q.right.allowed.few),
    q.right.allowed.v_high,
    q.right.allowed.n_high,
  )

  some : 1 ≤ N
  some = omega (arith, q.N_is, count-positive n v)

  outers : (i : ℕ) → i < c → IsSeries p (count n v) (component n v i outer)
  outers i l =
      subst (λ (z : ℕ). IsSeries p z (component n v i outer)) q.N_is
      (fault_none_to_series p N (component n v i outer) (q.outers i l).good (q.outers i l).long)

  inners : (k : ℕ) → k < v → IsSeries p (count n v) (component n v k g)
  inners k l =
      subst (λ (z : ℕ). IsSeries p z (component n v k g)) q.N_is
      (fault_none_to_series p N (component n v k g) (q.inners k l).good (q.inners k l).long)

  pub prepare_asks : PrepareIn n v N E c t outer w
  prepare_asks = record {
    table = record { right = q.right; N_is = q.N_is; E_is = q.E_is };
    each = outer-map p n v N c outer q.N_is outers;
    sums_in = q.sums_in;
    work_in = omega (arith, q.regions, q.work_in);
  }

  -- a constant below p
  reduced : (i : ℕ) → i < c → coefficient_at (entries (component n v i outer)) 1 < p
  reduced i l = coefficient_at-reduced q.modulus_low (outers i l).ascending 1

  pub begin_asks : BeginIn N c outer result
  begin_asks = record {
    some = some;
    small = omega (arith, few_words);
    outer_in = q.outer_in;
    ascending = λ i l.
        rw (component-part n v N i outer q.N_is) at
        (series-ascending p (count n v) (component n v i outer) (outers i l));
    result_in = q.result_in;
  }

  module _ {w1 starts : List ℕ} (P : Prepared n v N E c t outer starts w w1) where
    pub list-asks : ListIn n v N (orders_at v N) t g w1
    list-asks = record {
      ready = (E, P.ready);
      each = outer-map p n v N v g q.N_is inners;
      behind = omega arith;
    }

-- the walk, whose plan s is of these inputs, cut at order n, and wants all of the sums
module _ (s : Plan) {top : ℕ} (R : RegionsAt s.t.z.n s.t.z.v s.t.z.count s.columns.orders s.columns.marks top)
    (cut_is : s.cut ≡ s.t.z.n) (wanted_is : s.wanted ≡ 0) (least_is : s.least ≡ 0) {W : ℕ} {g result w : List ℕ}
    (q : ComposeIn s.t.z.n s.t.z.v s.t.z.count s.t.z.codes s.components W s.p s.t.words.now s.outer.now g result w)
    {w1 w2 : List ℕ}
    (P : Prepared s.t.z.n s.t.z.v s.t.z.count s.t.z.codes s.components s.t.words.now s.outer.now s.starts.now w w1)
    (L : InnerListed s.t.z.n s.t.z.v s.t.z.count (orders_at s.t.z.v s.t.z.count) s.t.words.now g w1 w2 s.ends.now)
  where
    abbrev n : ℕ
    n = s.t.z.n

    abbrev v : ℕ
    v = s.t.z.v

    abbrev N : ℕ
    N = s.t.z.count

    abbrev c : ℕ
    c = s.components

    abbrev outer : List ℕ
    outer = s.outer.now

    C : Cut s.p s.t.z.n s.t.z.v s.t.z.count s.cut
    C = record {
      N_is = q.N_is;
      cut_low = omega (arith, cut_is);
      modulus_low = q.modulus_low;
      modulus_high = q.modulus_high;
    }

    pub plan_asks : Planned s w2 (inner_entries s.t.z.n s.t.z.v g)
        (beginning (low_terms s.cut (outer_terms s.t.z.n s.t.z.v s.components s.outer.now)))
        (outer_coefficients s.t.z.n s.t.z.v s.least s.outer.now)
    plan_asks =
        planned s R C (prepared_outside L.outside P) (omega (arith, wanted_is)) q.few q.outer_in (outers q) L.listed
        (λ k l.
        none_low n v (inners q k l) q.modulus_low (component-fixing n v g q.fixing k l))

    pub node_asks : Node s w2 1 top s.cut (monomial_at s.t.z.n s.t.z.v 1) one
    node_asks = first-node s R C (prepared_outside L.outside P)

    module _ {res1 : List ℕ}
        (b : res1
        ≡ upto
        (λ i. constant_words s.t.z.count (coefficient_at (entries (nth_part s.t.z.count i s.outer.now)) 1))
        s.components
        ++ drop (s.components * (s.t.z.count + 1)) result) where
      pub sums_ask : Sums s res1
          (λ i. constant (coefficient_at (entries (component s.t.z.n s.t.z.v i s.outer.now)) 1))
      sums_ask = begun-sums s C result res1 (some q) q.result_in (reduced q) b

      rest1 : drop (s.components * (s.t.z.count + 1)) res1 ≡ drop (s.components * (s.t.z.count + 1)) result
      rest1 =
          let f : ℕ → List ℕ =
          λ i. constant_words N (coefficient_at (entries (nth_part N i outer)) 1) in
          ap (drop (c * (N + 1))) b
          ∙ drop_at (upto f c) (drop (c * (N + 1)) result) (c * (N + 1))
          (length-parts f (N + 1) (λ i. length-constant_words N _ (some q)) c)

      -- what the walk leaves
      module _ {w3 res2 : List ℕ}
          (k : (ys : ℕ → List ℕ) (mark : Monomial → Bool) (κ : ℕ → Monomial → ℕ) (m : Monomial)
          (Q : Polynomial) (A : ℕ → Polynomial)
          → Planned s w2 ys mark κ → Node s w2 1 top s.cut m Q → Sums s res1 A
          → Walked s ys mark κ 0 m Q s.cut top A w2 w3 res1 res2)
        where
          d : Walked s (inner_entries s.t.z.n s.t.z.v g)
              (beginning (low_terms s.cut (outer_terms s.t.z.n s.t.z.v s.components s.outer.now)))
              (outer_coefficients s.t.z.n s.t.z.v s.least s.outer.now) 0 (monomial_at s.t.z.n s.t.z.v 1) one s.cut top
              (λ i. constant (coefficient_at (entries (component s.t.z.n s.t.z.v i s.outer.now)) 1)) w2 w3 res1 res2
          d = k _ _ _ _ _ _ plan_asks node_asks sums_ask

          pub packing_asks : PackIn s.t.z.count s.components res2
          packing_asks = pack_asks s C d.sums (omega (arith, few_words q))

          pub result_is : {res3 : List ℕ}
              → res3
              ≡ upto (λ i. packed_words s.t.z.count (nth_part s.t.z.count i res2)) s.components
              ++ drop (s.components * (s.t.z.count + 1)) res2
              → res3
              ≡ upto
              (λ i.
              image s.p s.t.z.n s.t.z.v
              (substitute (polynomial s.t.z.n s.t.z.v (component s.t.z.n s.t.z.v i s.outer.now))
              (map_of s.t.z.n s.t.z.v g))) s.components
              ++ drop (s.components * (s.t.z.count + 1)) result
          result_is e =
              packed-sums s C d.sums wanted_is e
              ∙ ap₂ ◌++◌
              (upto-cong _ _ c
              (λ i l.
              rw (least_is, cut_is)
              (image_to-agree s.p n v n (walk-substitutes s.p n v c outer g n (outers q) q.fixing i l)
              ∙ image_to-whole s.p n v _)))
              (d.rest ∙ rest1)

          size3 : length w3 ≡ length w
          size3 = d.kept.size ∙ L.outside.size ∙ P.size

          kept3 : (i : ℕ) → W ≤ i → get_or w3 i 0 ≡ get_or w i 0
          kept3 i l =
              d.kept.above i (omega (arith, q.regions, R.top_is))
              ∙ L.outside.above i (omega (arith, q.regions))
              ∙ P.above i (omega (arith, q.regions))

          pub work_is : {w4 : List ℕ} → w4 ≡ over w3 0 (replicate (W - 0) 0)
              → w4 ≡ replicate W 0 ++ drop W w
          work_is e =
              let z : W - 0 ≡ W = omega arith in
              e
              ∙ ap (λ (k : ℕ). over w3 0 (replicate k 0)) z
              ∙ over-front_is w3 (replicate W 0) W (length-replicate {A = ℕ} W 0)
              ∙ ap (λ (x : List ℕ). replicate W 0 ++ x) (drop-same W w w3 size3 kept3)
