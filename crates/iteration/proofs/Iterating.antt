-- The turns one after another. A map without entries undoes every origin-fixing map up to order 0,
-- each turn adds an order, and after n of them the map is the inverse.
use Rattle.std.proofs.Common.{ℕ, suc, ◌+◌, ◌-◌, ◌*◌, ◌≤◌, ◌<◌, ◌≡◌, refl, sym, ap, ap₂, ◌∙◌, subst, List, [], ◌++◌, mul-le-mul_right, arith, length, get_or, take, drop, replicate, take-append-drop}
use Rattle.std.proofs.Math.ListN.{length-replicate}
use Rattle.std.proofs.lemmas.List.{get_or-replicate}
use Rattle.algebra.proofs.Agreement.{agree_refl}
use Rattle.linear.specs.Matrix.{Matrix}
use Rattle.linear.proofs.Stores.{element-zeros}
use Rattle.series.specs.Image.{component}
use Rattle.series.proofs.Series.{fault_none_to_series}
use Rattle.product.proofs.Ordered.{by_order-few}
use Rattle.product.proofs.Whole.{drop-same, over-front_is}
use Rattle.substitution.proofs.MarkingAll.{outer-map}
use Rattle.walk.specs.Walking.{row}
use Rattle.composition.specs.Setup.{PrepareIn, Prepared}
use Rattle.inversion.specs.Inverse.{inverse}
use Rattle.inversion.proofs.Loop.{finished}
use Rattle.turn.specs.Vectors.{Negated}
use Rattle.turn.proofs.Step.{undoes_start}
use Rattle.growth.specs.Growth.{Lists}
use Rattle.iteration.specs.Core.{InvertIn}
use Rattle.composition.specs.Parts.{nth_part, packed_words, PackIn}
use Rattle.growth.specs.Spreading.{SpreadIn, Spread}
use Rattle.monomial.specs.Enumeration.{upto}
use Rattle.series.specs.Series.{IsSeries, IsMap}
use Rattle.series.specs.Over.{over}
use Rattle.iteration.specs.Turning.{Task, Growing, TurnIn, TurnsMade}
use Rattle.iteration.proofs.TurnSteps.{map-fixing}
use Rattle.iteration.proofs.Ending.{spread_asks, packing_asks, ended_size, ended_rest, ended}

-- no turn, and one more
pub turns-none : {n v N E p : ℕ} {t map starts g w : List ℕ} {ends : List (List ℕ)}
    → TurnIn n v N E 1 p t map starts ends g w → TurnsMade n v N E 0 p t map starts ends g g w w
turns-none q = record {
  grown = q.grown;
  ends_in = q.ends_in;
  size = refl;
  rest = refl;
  work_size = refl;
  prepared = λ w₀ P. P;
}

pub turns_more : {n v N E p k cut : ℕ} {t map starts g₀ g g' w₀ w w' : List ℕ}
    {ends ends' : List (List ℕ)}
    → TurnsMade n v N E k p t map starts ends g₀ g w₀ w
    → TurnsMade n v N E cut p t map starts ends' g g' w w'
    → TurnsMade n v N E (cut + 1 - 1) p t map starts ends' g₀ g' w₀ w'
turns_more {n} {v} {N} {E} {p} {k} {cut} {map = map} {w' = w'} {ends' = ends'} S U = record {
  grown = (
    U.grown.0,
    (let e : cut ≡ cut + 1 - 1 = omega arith in
        subst (λ (z : ℕ). Growing p n v N z map w' ends' U.grown.0) e U.grown.1),
  );
  ends_in = U.ends_in;
  size = U.size ∙ S.size;
  rest = U.rest ∙ S.rest;
  work_size = U.work_size ∙ S.work_size;
  prepared = λ u P. U.prepared u (S.prepared u P);
}

-- the next turn of all
pub turn-asks : {n v N E p cut : ℕ} {t map starts g₀ g w₀ w : List ℕ} {ends₀ ends : List (List ℕ)}
    → TurnIn n v N E 1 p t map starts ends₀ g₀ w₀
    → TurnsMade n v N E (cut - 1) p t map starts ends g₀ g w₀ w → 1 ≤ cut → cut ≤ n
    → TurnIn n v N E cut p t map starts ends g w
turn-asks q S a b = record {
  task = q.task;
  low = a;
  high = b;
  grown = S.grown;
  prepared = (q.prepared.0, S.prepared q.prepared.0 q.prepared.1);
  room = omega (arith, S.work_size, q.room);
  parts_in = omega (arith, S.size, q.parts_in);
  ends_in = S.ends_in;
}

-- no turn is left
pub turns-all : {n v N E p cut : ℕ} {t map starts g₀ g w₀ w : List ℕ} {ends : List (List ℕ)}
    → TurnsMade n v N E (cut - 1) p t map starts ends g₀ g w₀ w → n < cut → cut ≤ n + 1
    → TurnsMade n v N E n p t map starts ends g₀ g w₀ w
turns-all {n} {v} {N} {E} {p} {cut} {t} {map} {starts} {g₀} {g} {w₀} {w} {ends} S a b =
    let e : cut - 1 ≡ n = omega arith in
    subst (λ (k : ℕ). TurnsMade n v N E k p t map starts ends g₀ g w₀ w) e S

-- lists of no entries
none_listed : (n v N : ℕ) (w : List ℕ) (ends : List (List ℕ)) → (2 * v + 2) * (N + 1) ≤ length w
    → ((k : ℕ) → k < v → n < length (row ends k)) → ((k o : ℕ) → get_or (row ends k) o 0 ≡ 0)
    → Lists n v N 1 w ends (λ k. [])
none_listed n v N w ends room long zero = record {
  listed = λ k l. record {
    few = omega arith;
    placed = tt;
    apart = omega (arith, mul-le-mul_right {m = 1} {n = k + 1} (2 * (N + 1)) (omega arith));
    inside =
        omega (
          arith,
          mul-le-mul_right {m = 2 * k + 4} {n = 2 * v + 2} (N + 1) (omega arith),
        );
    code = λ i h. absurd (omega (arith, by_order-few n v [] (suc n)));
    factor = λ i h. absurd (omega (arith, by_order-few n v [] (suc n)));
    ends_in = long k l;
    end = λ o h. zero k o ∙ omega (arith, by_order-few n v [] (suc o));
  };
  below = λ k i l h. absurd (omega arith);
  few = λ k l. omega arith;
}

module _ {n v N E W p : ℕ} {m : Matrix} {t map result w : List ℕ}
    (q : InvertIn n v N E W p m t map result w) where
  is_map : IsMap p n v map
  is_map = record {
    each = λ i l.
        subst (λ (z : ℕ). IsSeries p z (component n v i map)) q.N_is
        (fault_none_to_series p N (component n v i map) (q.components i l).good
        (q.components i l).long);
  }

  pub prepare_asks : PrepareIn n v N E v t map w
  prepare_asks = record {
    table = record { right = q.right; N_is = q.N_is; E_is = q.E_is };
    each = outer-map p n v N v map q.N_is is_map.each;
    sums_in = q.sums_in;
    work_in = omega (arith, q.regions, q.work_in);
  }

  pub task : {neg : Matrix} → Negated p m neg → Task n v N E p neg t map
  task G = record {
    table = record { right = q.right; N_is = q.N_is; E_is = q.E_is };
    modulus = q.modulus;
    is_map = is_map;
    fixing = q.fixing;
    inverse = (m, q.inverse, G);
  }

  module _ {neg : Matrix} (G : Negated p m neg) {w1 starts : List ℕ}
      (P : Prepared n v N E v t map starts w w1) where
    pub turns-ask : TurnIn n v N E 1 p t map starts (replicate 8 (replicate 11 0)) result w1
    turns-ask = record {
      task = (neg, task G);
      low = omega arith;
      high = q.right.allowed.n_low;
      grown = (
        (λ k. []),
        record {
          lists =
              none_listed n v N w1 (replicate 8 (replicate 11 0))
              (omega (
                arith,
                P.size,
                q.regions,
                q.work_in,
                mul-le-mul_right {m = 2 * v + 2} {n = n + 2 * v + 4} (N + 1) (omega arith),
              ))
              (λ k l.
              rw (get_or-replicate 8 k (replicate {A = ℕ} 11 0) [] (omega (arith, q.right.allowed.v_high)))
              (omega (arith, q.right.allowed.n_high)))
              (element-zeros 8 11);
          positive = λ j i l. absurd (omega arith);
          reduced = λ j i a l. absurd (omega arith);
          undoes =
              undoes_start q.modulus.prime n v q.right.allowed.v_high map
              (map-fixing (task G)) (λ k. []) (λ k. agree_refl p []);
        },
      );
      prepared = (w, P);
      room = omega (arith, P.size, q.regions, q.work_in);
      parts_in = q.result_in;
      ends_in = refl;
    }

    module _ {g1 w2 : List ℕ} {ends : List (List ℕ)}
        (S : TurnsMade n v N E n p t map starts ends result g1 w1 w2) where
      abbrev grown : Growing p n v N n map w2 ends S.grown.0
      grown = S.grown.1

      parts_in : v * (N + 1) ≤ length g1
      parts_in = omega (arith, S.size, q.result_in)

      pub spreading : SpreadIn n v N E p t w2 ends g1
      spreading = spread_asks (task G) grown g1 parts_in

      pub work_size : length w2 ≡ length w
      work_size = S.work_size ∙ P.size

      pub work_is : {w3 : List ℕ} → w3 ≡ over w2 0 (replicate (W - 0) 0)
          → w3 ≡ replicate W 0 ++ drop W w
      work_is f =
          let z : W - 0 ≡ W = omega arith in
          f
          ∙ ap (λ (k : ℕ). over w2 0 (replicate k 0)) z
          ∙ over-front_is w2 (replicate W 0) W (length-replicate {A = ℕ} W 0)
          ∙ ap (λ (x : List ℕ). replicate W 0 ++ x)
          (drop-same W w w2 work_size
          (λ i l. (S.prepared w P).above i (omega (arith, q.regions))))

      module _ {g2 : List ℕ} (D : Spread n v N p w2 ends g1 g2) where
        pub packing : PackIn N v g2
        packing = packing_asks (task G) grown g1 parts_in D

        module _ {g : List ℕ}
            (e : g ≡ upto (λ i. packed_words N (nth_part N i g2)) v ++ drop (v * (N + 1)) g2) where
          pub result_size : length g ≡ length result
          result_size = ended_size (task G) grown g1 parts_in D e ∙ S.size

          pub result_is : g ≡ inverse p n v map ++ drop (v * (N + 1)) result
          result_is =
              sym (take-append-drop (v * (N + 1)) g)
              ∙ ap₂ ◌++◌
              (ap (λ (z : ℕ). take (v * (z + 1)) g) q.N_is
              ∙ finished q.modulus.prime (omega (arith, q.modulus.small)) n v
              q.right.allowed.n_low q.right.allowed.v_high map (map-fixing (task G)) g
              (ended (task G) grown g1 parts_in D e))
              (ended_rest (task G) grown g1 parts_in D e ∙ S.rest)
