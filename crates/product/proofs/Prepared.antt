-- From two series and a right table to what a multiplication asks: the orders at word 6 (N + 1), the second
-- factor listed at word 3 (N + 1), the first copied to word 2 (N + 1), the result to come at word 5 (N + 1).
use Rattle.std.proofs.Common.{◌≡◌, sym, ap, ◌∙◌, List, ℕ, suc, ◌+◌, ◌≤◌, ◌<◌, arith, length, get_or, take, drop, length-drop, get_or-take, get_or-drop, length-take-le, ext_get_or}
use Rattle.monomial.specs.Count.{count}
use Rattle.series.specs.Image.{position, entries}
use Rattle.series.specs.Series.{Ascending, none, next, IsSeries}
use Rattle.series.proofs.Entries.{ascending_at}
use Rattle.series.proofs.Series.{fault_none_to_series}
use Rattle.series.proofs.Positions.{order-monomial_at}
use Rattle.product.specs.Pairs.{order_of}
use Rattle.product.specs.Regions.{Ready, Placed, Listed, source_entries}
use Rattle.product.specs.List.{Checked}
use Rattle.product.specs.Core.{SeriesIn}
use Rattle.product.proofs.Ordered.{by_order-few}

-- ---- a series that passed its check

entries-placed : (p N last : ℕ) {es : List ℕ} → Ascending p N last es → Placed N es
entries-placed p N last none = tt
entries-placed p N last (next {w = w} e r) =
    ((omega (arith, e.above), e.inside), entries-placed p N (position w) r)

module _ (p N : ℕ) (a : List ℕ) (s : SeriesIn p N a) where
  series : IsSeries p N a
  series = fault_none_to_series p N a s.good s.long

  long_entries : length (entries a) ≡ get_or a 0 0
  unfolding entries
  long_entries = length-take-le (get_or a 0 0) (drop 1 a) (omega (arith, length-drop 1 a, s.long, series.few))

  pub checked : Checked N a
  checked =
      record {
        long = s.long;
        number = sym long_entries;
        few = omega (arith, long_entries, series.few);
        placed = entries-placed p N 0 series.ascending;
      }

  pub entry_at : (i : ℕ) → i < get_or a 0 0 → get_or (entries a) i 0 ≡ get_or a (i + 1) 0
  unfolding entries
  entry_at i l =
      let z : 1 + i ≡ i + 1 = omega arith in
      get_or-take (get_or a 0 0) (drop 1 a) i 0 l ∙ get_or-drop 1 a i 0 ∙ ap (λ (y : ℕ). get_or a y 0) z

  pub count-few : get_or a 0 0 ≤ N
  count-few = series.few

  -- the entries once more, where the words of a stand from word src on
  module _ (w : List ℕ) (src : ℕ) (here : (i : ℕ) → i < N + 1 → get_or w (src + i) 0 ≡ get_or a i 0) (room : src + (N + 1) ≤ length w) where
    at_source : (i : ℕ) → i < get_or a 0 0 → get_or w (src + 1 + i) 0 ≡ get_or (entries a) i 0
    at_source i l =
        let z : src + 1 + i ≡ src + (i + 1) = omega arith in
        ap (λ (y : ℕ). get_or w y 0) z ∙ here (i + 1) (omega (arith, count-few)) ∙ sym (entry_at i l)

    pub source_entries_are : source_entries w src (get_or a 0 0) ≡ entries a
    unfolding source_entries
    source_entries_are =
        let m = get_or a 0 0 in
        let long : length (take m (drop (src + 1) w)) ≡ m = length-take-le m (drop (src + 1) w) (omega (arith, length-drop (src + 1) w, count-few)) in
        ext_get_or 0 (take m (drop (src + 1) w)) (entries a) (long ∙ sym long_entries)
        (λ i l. get_or-take m (drop (src + 1) w) i 0 (omega (arith, long)) ∙ get_or-drop (src + 1) w i 0 ∙ at_source i (omega (arith, long)))

    pub source_low : (i : ℕ) → i < get_or a 0 0 → 1 ≤ position (get_or w (src + 1 + i) 0)
    source_low i l =
        let e = ascending_at series.ascending i (omega (arith, long_entries)) in
        rw (at_source i l) (omega (arith, e.above))

    pub source_high : (i : ℕ) → i < get_or a 0 0 → position (get_or w (src + 1 + i) 0) ≤ N
    source_high i l = rw (at_source i l) (ascending_at series.ascending i (omega (arith, long_entries))).inside

    pub source_order : (n v : ℕ) → N ≡ count n v → (i : ℕ) → i < get_or a 0 0 → order_of n v (get_or w (src + 1 + i) 0) ≤ n
    unfolding order_of
    source_order n v e i l =
        order-monomial_at n v (position (get_or w (src + 1 + i) 0)) (source_low i l) (omega (arith, source_high i l))

-- ---- regions that a write elsewhere leaves as they were

module _ (n v N E os cs : ℕ) (t w w' : List ℕ) (size : length w' ≡ length w) where
  pub ready_same : ((i : ℕ) → os ≤ i → i < os + (N + 1) → get_or w' i 0 ≡ get_or w i 0) → Ready n v N E os t w → Ready n v N E os t w'
  ready_same same r =
      record {
        right = r.right;
        N_is = r.N_is;
        E_is = r.E_is;
        apart = r.apart;
        inside = omega (arith, r.inside);
        orders = λ q l h. same (os + q) (omega arith) (omega arith) ∙ r.orders q l h;
      }

  pub listed_same : (ys ends : List ℕ) → ((i : ℕ) → cs ≤ i → i < cs + (N + 1) + (N + 1) → get_or w' i 0 ≡ get_or w i 0)
      → Listed n v N ys cs w ends → Listed n v N ys cs w' ends
  listed_same ys ends same l =
      record {
        few = l.few;
        placed = l.placed;
        apart = l.apart;
        inside = omega (arith, l.inside);
        code = λ k h. same (cs + k) (omega arith) (omega (arith, by_order-few n v ys (suc n), l.few)) ∙ l.code k h;
        factor = λ k h. same (cs + (N + 1) + k) (omega arith) (omega (arith, by_order-few n v ys (suc n), l.few)) ∙ l.factor k h;
        ends_in = l.ends_in;
        end = l.end;
      }
