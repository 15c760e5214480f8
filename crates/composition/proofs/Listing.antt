-- The inner components are listed one after another, each in a region and in a row of `ends` of its
-- own, so that those listed before stay as they are.
use Rattle.std.proofs.Common.{ℕ, ◌+◌, ◌*◌, ◌≤◌, ◌<◌, ◌≡◌, refl, sym, ap, ◌∙◌, subst, List, [], arith, length, set, length-set, get_or-set_same, get_or-set_other}
use Rattle.std.proofs.Math.Decide.{dec_lt}
use Rattle.monomial.specs.Count.{count, codes}
use Rattle.series.specs.Image.{entries, component}
use Rattle.product.specs.Regions.{Ready, Listed, Outside}
use Rattle.product.specs.List.{SortIn, Sorted}
use Rattle.product.proofs.Prepared.{listed_same}
use Rattle.counts.specs.Tables.{Tabled}
use Rattle.substitution.proofs.Marking.{outside_refl}
use Rattle.substitution.proofs.MarkingAll.{outer-inside}
use Rattle.walk.specs.Walking.{list_at, row}
use Rattle.walk.proofs.Sources.{lists-apart}
use Rattle.composition.specs.Setup.{orders_at, ListIn, InnerListed}
use Rattle.composition.specs.Parts.{nth_part}

pub component-part : (n v N i : ℕ) (ws : List ℕ) → N ≡ count n v → component n v i ws ≡ nth_part N i ws
unfolding component
component-part n v N i ws e = ap (λ (z : ℕ). nth_part z i ws) (sym e)

pub record ListedUpto (n v N os : ℕ) (t inner w w' : List ℕ) (ends : List (List ℕ)) (i : ℕ) : Type 0 where
  pub few : i ≤ v
  pub listed : (k : ℕ) → k < i
      → Listed n v N (entries (component n v k inner)) (list_at N k) w' (row ends k)
  pub ready : (E : ℕ) → E ≡ codes n v → Ready n v N E os t w'
  pub outside : Outside w w' (2 * (N + 1)) (orders_at v N)
  pub room : length ends ≡ 8

module _ {n v N os : ℕ} {t inner w : List ℕ} (q : ListIn n v N os t inner w) where
  pub few_words : N ≤ 8008
  few_words = omega (arith, q.ready.1.N_is, q.ready.1.right.allowed.few)

  pub component-inside : (i : ℕ) → i < v → i * (N + 1) + (N + 1) ≤ length inner
  component-inside i l =
      let R = q.ready.1 in
      let T : Tabled n v N q.ready.0 t =
      record { right = R.right; N_is = R.N_is; E_is = R.E_is } in
      outer-inside T q.each i l

  pub listed-none : {ends : List (List ℕ)} → length ends ≡ 8 → ListedUpto n v N os t inner w w ends 0
  listed-none long = record {
    few = omega arith;
    listed = λ k l. absurd (omega arith);
    ready = λ E e.
        subst (λ (z : ℕ). Ready n v N z os t w) (q.ready.1.E_is ∙ sym e) q.ready.1;
    outside = outside_refl w (2 * (N + 1)) (orders_at v N);
    room = long;
  }

  module _ {w1 : List ℕ} {ends : List (List ℕ)} {i : ℕ} (U : ListedUpto n v N os t inner w w1 ends i) (l : i < v)
    where
      small : (v ≤ 8) × (n ≤ 10)
      small = (q.ready.1.right.allowed.v_high, q.ready.1.right.allowed.n_high)

      below : list_at N i + (N + 1) + (N + 1) ≤ orders_at v N
      below = omega (arith, lists-apart N i v l)

      pub sort_asks : SortIn n v N os (list_at N i) t (component n v i inner) w1
      sort_asks = record {
        ready = (codes n v, U.ready (codes n v) refl);
        image = q.each.each i l;
        apart = omega arith;
        inside = omega (arith, below, q.behind, q.ready.1.inside, U.outside.size);
        orders_apart = λ k h a b. omega (arith, below, q.behind);
      }

      pub listed_more : {w2 es : List ℕ} → Sorted n v N os (list_at N i) t (component n v i inner) w1 w2 es
          → ListedUpto n v N os t inner w w2 (set ends i es) (i + 1)
      listed_more {w2} {es} S = record {
        few = omega arith;
        listed = λ k h. at k h (dec_lt k i);
        ready = S.ready;
        outside = record {
          size = S.outside.size ∙ U.outside.size;
          below = λ j h. S.outside.below j (omega arith) ∙ U.outside.below j h;
          above = λ j h. S.outside.above j (omega (arith, below)) ∙ U.outside.above j h;
        };
        room = length-set ends i es ∙ U.room;
      }
        where
          at : (k : ℕ) → k < i + 1 → Dec (k < i)
              → Listed n v N (entries (component n v k inner)) (list_at N k) w2 (row (set ends i es) k)
          at k h (yes a) =
              rw (get_or-set_other ends i k es [] (λ e. omega arith))
              (listed_same n v N 0 0 (list_at N k) t w1 w2 S.outside.size
              (entries (component n v k inner)) (row ends k)
              (λ j x y. S.outside.below j (omega (arith, lists-apart N k i a)))
              (U.listed k a))
          at k h (no a) =
              let e : k ≡ i = omega arith in
              rw (e, get_or-set_same ends i es [] (omega (arith, small, U.room))) S.listed

pub listed-all : {n v N os : ℕ} {t inner w w' : List ℕ} {ends : List (List ℕ)} {i : ℕ} → v ≤ i
    → ListedUpto n v N os t inner w w' ends i → InnerListed n v N os t inner w w' ends
listed-all l U = record {
  listed = λ k h. U.listed k (omega arith);
  ready = U.ready;
  outside = U.outside;
  room = U.room;
}
