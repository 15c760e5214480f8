-- One turn step by step: minus the identity, the walk, and the terms of the new order put behind the
-- lists. Each step is told what it asks by those before it.
use Rattle.std.proofs.Common.{ℕ, suc, ◌+◌, ◌-◌, ◌*◌, ◌%◌, ◌≤◌, ◌<◌, ◌≡◌, sym, ap, ◌∙◌, subst, Bool, List, ◌++◌, mod-lt, arith, leb, length, get_or, length-append, get_or-append-add}
use Rattle.std.proofs.Math.Decide.{dec_lt}
use Rattle.std.proofs.Math.ListN.{get_or-append}
use Rattle.algebra.specs.Polynomial.{Monomial, Polynomial, add, scale, one}
use Rattle.algebra.specs.Substitution.{Map, substitute, variable}
use Rattle.algebra.specs.Agreement.{Agree, OriginFixing, Within}
use Rattle.algebra.proofs.Agreement.{agree_refl, agree_add}
use Rattle.algebra.proofs.Within.{within_add, within_scale, within_variable, within_substitute}
use Rattle.residue.proofs.Inverses.{prime_positive}
use Rattle.linear.specs.Matrix.{Matrix, element}
use Rattle.series.specs.Image.{position, coefficient, component, map_of, monomial_at}
use Rattle.series.proofs.Maps.{map-long, map_of-within}
use Rattle.product.specs.Pairs.{order_of}
use Rattle.product.specs.Regions.{Placed}
use Rattle.product.proofs.Prepared.{ready_same, listed_same}
use Rattle.substitution.specs.Walk.{beginning, low_terms, walk}
use Rattle.substitution.specs.Marks.{outer_terms}
use Rattle.substitution.specs.Levels.{Cut, Holds}
use Rattle.substitution.proofs.Regions.{holds_agree, placed_within}
use Rattle.walk.specs.declared.Plan.{Plan}
use Rattle.powers.specs.Powers.{places}
use Rattle.walk.specs.Walking.{lower_half, list_at, row, inner, Planned, Node, Sums, Kept, Walked}
use Rattle.walk.proofs.Sources.{source_same}
use Rattle.walk.proofs.Frames.{list_inside}
use Rattle.powers.proofs.Places.{placed_places}
use Rattle.composition.specs.Setup.{orders_at, marks_at, top_at, RegionsAt, Prepared}
use Rattle.composition.proofs.Planning.{outer_coefficients, prepared_outside, planned, first-node}
use Rattle.inversion.specs.Turn.{combination}
use Rattle.inversion.specs.Undoing.{Fixing, UndoesBefore}
use Rattle.inversion.proofs.Combination.{within_combination}
use Rattle.turn.specs.High.{high_terms}
use Rattle.turn.specs.Vectors.{dot, word_at, Vectors, CombineIn}
use Rattle.turn.specs.Variables.{Started}
use Rattle.turn.proofs.Combining.{word_below}
use Rattle.turn.proofs.HighTerms.{high_terms-within}
use Rattle.turn.proofs.Step.{settled, raised-undoes}
use Rattle.growth.specs.Growth.{entries_of, positions_of_order, Lists, GrowIn, Grown}
use Rattle.growth.proofs.Growing.{sit_at, sit_pick, sit_entries}
use Rattle.growth.proofs.Coefficients.{entries_of-reduced}
use Rattle.iteration.specs.Turning.{Task, Growing, TurnIn, raised, Raised, TurnsMade}
use Rattle.iteration.proofs.HighWalk.{walk-high}
use Rattle.iteration.proofs.Positive.{positive_from, positive_none}
use Rattle.iteration.proofs.Grows.{grown-agrees}

-- ---- what stays the same

module _ {n v N E p : ℕ} {neg : Matrix} {t map : List ℕ} (q : Task n v N E p neg t map) where
  pub few_words : (N ≤ 8008) × (v ≤ 8) × (n ≤ 10)
  few_words = (
    omega (arith, q.table.N_is, q.table.right.allowed.few),
    q.table.right.allowed.v_high,
    q.table.right.allowed.n_high,
  )

  pub map-fixing : Fixing p v (map_of n v map)
  map-fixing = record { origin = q.fixing; within = λ i l. map_of-within q.is_map i }

  pub cut_at : {cut : ℕ} → cut ≤ n → Cut p n v N cut
  cut_at l = record {
    N_is = q.table.N_is;
    cut_low = l;
    modulus_low = prime_positive q.modulus.prime;
    modulus_high = omega (arith, q.modulus.small);
  }

-- ---- minus the identity, and the walk

-- the plan s wants the terms of order `cut` alone, and the multiples of monomials of order 2 or more
module _ (s : Plan) {top : ℕ} (R : RegionsAt s.t.z.n s.t.z.v s.t.z.count s.columns.orders s.columns.marks top)
    (components_is : s.components ≡ s.t.z.v) (wanted_is : s.wanted ≡ s.cut) (least_is : s.least ≡ 2)
    {g w : List ℕ}
    (q : TurnIn s.t.z.n s.t.z.v s.t.z.count s.t.z.codes s.cut s.p s.t.words.now s.outer.now s.starts.now s.ends.now
    g w) where
  abbrev n : ℕ
  n = s.t.z.n

  abbrev v : ℕ
  v = s.t.z.v

  abbrev N : ℕ
  N = s.t.z.count

  abbrev E : ℕ
  E = s.t.z.codes

  abbrev p : ℕ
  p = s.p

  abbrev cut : ℕ
  cut = s.cut

  abbrev t : List ℕ
  t = s.t.words.now

  abbrev map : List ℕ
  map = s.outer.now

  abbrev ends : List (List ℕ)
  ends = s.ends.now

  abbrev T : Task s.t.z.n s.t.z.v s.t.z.count s.t.z.codes s.p q.task.0 s.t.words.now s.outer.now
  T = q.task.1

  C : Cut s.p s.t.z.n s.t.z.v s.t.z.count s.cut
  C = cut_at T q.high

  -- the regions are prepared for all outer series of the plan
  P : Prepared s.t.z.n s.t.z.v s.t.z.count s.t.z.codes s.components s.t.words.now s.outer.now s.starts.now
      q.prepared.0 w
  P = rw components_is q.prepared.1

  abbrev Grows : (ℕ → List ℕ) → Type 0
  Grows ys = Growing s.p s.t.z.n s.t.z.v s.t.z.count (s.cut - 1) s.outer.now w s.ends.now ys

  -- the listed map fixes the origin
  origin : {ys : ℕ → List ℕ} → Grows ys → OriginFixing s.p (inner s.t.z.n s.t.z.v ys)
  origin {ys} G j = positive_from n v (ys j) (G.positive j) p

  pub plan_asks : {ys : ℕ → List ℕ} → Grows ys → Planned s w ys
      (beginning (low_terms s.cut (outer_terms s.t.z.n s.t.z.v s.components s.outer.now)))
      (outer_coefficients s.t.z.n s.t.z.v s.least s.outer.now)
  plan_asks {ys} G =
      planned s R C P (omega (arith, wanted_is)) (omega (arith, components_is, T.table.right.allowed.v_high))
      (rw (components_is, T.table.N_is) (map-long T.is_map))
      (λ i l. T.is_map.each i (omega (arith, components_is)))
      G.lists.listed (λ k l. positive_none n v (ys k) (G.positive k))

  pub node_asks : Node s w 1 top s.cut (monomial_at s.t.z.n s.t.z.v 1) one
  node_asks = first-node s R C P

  module _ {g1 : List ℕ} (b : Started s.p s.t.z.n s.t.z.v s.t.z.count g g1) where
    pub sums_ask : Sums s g1 (λ j. scale (s.p - 1) (variable j))
    sums_ask = record {
      inside = rw components_is (omega (arith, b.size, q.parts_in));
      holds = rw (components_is, wanted_is) (b.vectors cut cut q.low).each;
    }

    -- what the walk leaves
    module _ {w2 g2 : List ℕ}
        (k : (ys : ℕ → List ℕ) (mark : Monomial → Bool) (κ : ℕ → Monomial → ℕ) (m : Monomial)
        (Q : Polynomial) (B : ℕ → Polynomial)
        → Planned s w ys mark κ → Node s w 1 top s.cut m Q → Sums s g1 B
        → Walked s ys mark κ 0 m Q s.cut top B w w2 g1 g2)
      where
        d : {ys : ℕ → List ℕ} → Grows ys → Walked s ys
            (beginning (low_terms s.cut (outer_terms s.t.z.n s.t.z.v s.components s.outer.now)))
            (outer_coefficients s.t.z.n s.t.z.v s.least s.outer.now) 0 (monomial_at s.t.z.n s.t.z.v 1) one s.cut top
            (λ j. scale (s.p - 1) (variable j)) w w2 g1 g2
        d G = k _ _ _ _ _ _ (plan_asks G) node_asks sums_ask

        kept : Kept s top w w2
        kept = (d q.grown.1).kept

        -- the sums are those of the walk over the terms of order 2 or more
        sums : {ys : ℕ → List ℕ} → Grows ys → (j : ℕ) → j < s.t.z.v
            → Holds s.p s.t.z.n s.t.z.v s.t.z.count s.cut s.cut (component s.t.z.n s.t.z.v j g2)
            (add (scale (s.p - 1) (variable j))
            (walk (outer_coefficients s.t.z.n s.t.z.v 2 s.outer.now j)
            (beginning (low_terms s.cut (outer_terms s.t.z.n s.t.z.v s.t.z.v s.outer.now)))
            (inner s.t.z.n s.t.z.v ys) s.t.z.v s.cut 0 (monomial_at s.t.z.n s.t.z.v 1) one))
        sums G = rw (components_is, wanted_is, least_is) at (d G).sums.holds

        -- orders, marks and the series 1 are kept
        still_prepared : (w₀ : List ℕ)
            → Prepared s.t.z.n s.t.z.v s.t.z.count s.t.z.codes s.t.z.v s.t.words.now s.outer.now s.starts.now w₀ w
            → Prepared s.t.z.n s.t.z.v s.t.z.count s.t.z.codes s.t.z.v s.t.words.now s.outer.now s.starts.now w₀ w2
        still_prepared w₀ P = record {
          size = kept.size ∙ P.size;
          ready =
              ready_same n v N E (orders_at v N) 0 t w w2 kept.size
              (λ i a b. between i a (omega arith)) P.ready;
          marked = λ b x f a h.
              ap (λ (y : ℕ). leb 11 (lower_half y + b))
              (between (marks_at v N + x) (omega arith) (omega arith))
              ∙ P.marked b x f a h;
          clean = kept.clean P.clean;
          ordered = record {
            apart = P.ordered.apart;
            inside = omega (arith, P.ordered.inside, kept.size);
            place = λ k l.
                ap position (between (marks_at v N + 1 + k) (omega arith) (omega arith))
                ∙ P.ordered.place k l;
            starts_in = P.ordered.starts_in;
            start = P.ordered.start;
          };
          start = λ p cut.
              source_same w w2 (top_at n v N) kept.size
              (λ i l. kept.above i (omega (arith, R.top_is))) (P.start p cut);
          above = λ i l. kept.above i (omega (arith, R.top_is)) ∙ P.above i l;
        }
          where
            between : (i : ℕ) → orders_at s.t.z.v s.t.z.count ≤ i → i < (2 * s.t.z.v + 4) * (s.t.z.count + 1)
                → get_or w2 i 0 ≡ get_or w i 0
            between i a b = kept.fixed i (omega arith) b

        pub raised-made : Raised s.t.z.n s.t.z.v s.t.z.count s.t.z.codes s.cut s.p s.t.words.now s.outer.now
            s.starts.now s.ends.now g g2 w w2
        raised-made = record {
          vectors = λ ys G. record {
            each = λ j l.
                holds_agree C (sums G j l)
                (agree_add p (agree_refl p (scale (p - 1) (variable j)))
                (walk-high p n v map ys cut T.is_map (origin G) j l));
          };
          lists = λ o ys L. record {
            listed = λ k l.
                listed_same n v N E (orders_at v N) (list_at N k) t w w2 kept.size (ys k) (row ends k)
                (λ i a h.
                kept.fixed i (omega (arith, (L.listed k l).apart))
                (omega (arith, list_inside s k l)))
                (L.listed k l);
            below = L.below;
            few = L.few;
          };
          size = (d q.grown.1).size ∙ b.size;
          rest = (rw components_is at (d q.grown.1).rest) ∙ b.rest;
          work_size = kept.size;
          prepared = still_prepared;
        }

-- ---- the terms of the new order

module _ {n v N E cut p : ℕ} {neg : Matrix} {t map starts g w : List ℕ} {ends : List (List ℕ)}
    (T : Task n v N E p neg t map) (q : TurnIn n v N E cut p t map starts ends g w)
    {g2 w2 : List ℕ} (R : Raised n v N E cut p t map starts ends g g2 w w2) where
  abbrev ys : ℕ → List ℕ
  ys = q.grown.0

  abbrev G : Growing p n v N (cut - 1) map w ends ys
  G = q.grown.1

  held : Vectors p n v N cut cut g2 (raised p n v map ys)
  held = R.vectors ys G

  combine_asks : CombineIn p n v N neg g2
  combine_asks = record {
    allowed = T.table.right.allowed;
    N_is = T.table.N_is;
    modulus_low = prime_positive T.modulus.prime;
    modulus_high = omega (arith, T.modulus.small);
    residue = T.inverse.2.residue;
    held = (cut, cut, _, held);
  }

  up : suc (cut - 1) ≡ cut
  up = omega (arith, q.low)

  lists2 : Lists n v N cut w2 ends q.grown.0
  lists2 = subst (λ (o : ℕ). Lists n v N o w2 ends ys) up (R.lists (suc (cut - 1)) ys G.lists)

  pub grow_asks : GrowIn n v N E p cut (marks_at v N) neg t g2 w2 ends starts
  grow_asks = record {
    table = T.table;
    order_high = q.high;
    modulus_low = prime_positive T.modulus.prime;
    modulus_high = omega (arith, T.modulus.small);
    residue = T.inverse.2.residue;
    parts_in = omega (arith, R.size, q.parts_in);
    words = word_below combine_asks;
    ordered = (R.prepared q.prepared.0 q.prepared.1).ordered;
    behind = omega arith;
    ends_in = q.ends_in;
    lists = (ys, lists2);
  }

  origin_fixing : OriginFixing p (inner n v q.grown.0)
  origin_fixing j = positive_from n v (ys j) (G.positive j) p

  abbrev high : Map
  high j = substitute (high_terms (map_of n v map j)) (inner n v ys)

  same-high : (j : ℕ) → j < v → Agree p (suc (suc (cut - 1))) (high j)
      (substitute (high_terms (map_of n v map j)) (inner n v ys))
  same-high j l = agree_refl p (high j)

  listed-within : (k : ℕ) → k < v → Within v (inner n v ys k)
  listed-within k l =
      placed_within n v (ys k)
      (subst (λ (z : ℕ). Placed z (ys k)) T.table.N_is (G.lists.listed k l).placed)

  high-within : (j : ℕ) → j < v → Within v (high j)
  high-within j l =
      within_substitute v v (high_terms (map_of n v map j)) (inner n v ys)
      (high_terms-within v (map_of n v map j) (map_of-within T.is_map j))
      listed-within

  made-within : (k : ℕ) → Within v (combination v (element neg k) (raised p n v map ys))
  made-within k =
      within_combination v v (element neg k) _
      (λ j lj.
      within_add v (scale (p - 1) (variable j)) (high j)
      (within_scale v (p - 1) (variable j) (within_variable v j lj)) (high-within j lj))

  settles : (k : ℕ) → k < v
      → Agree p cut (combination v (element neg k) (raised p n v map ys)) (inner n v ys k)
  settles k l =
      subst
      (λ (x : ℕ). Agree p x (combination v (element neg k) (raised p n v map ys)) (inner n v ys k))
      up
      (settled T.modulus.prime n v T.table.right.allowed.v_high map (map-fixing T)
      T.inverse.0 neg T.inverse.1 T.inverse.2 (cut - 1) (inner n v ys) high origin_fixing
      G.undoes same-high k l)

  module _ {w3 : List ℕ} {ends3 : List (List ℕ)} (D : Grown n v N p cut neg g2 w2 w3 ends ends3) where
    abbrev number : ℕ → ℕ → ℕ
    number k q = dot v (element neg k) (word_at N g2 q) % p

    abbrev zs : ℕ → List ℕ
    zs k = ys k ++ entries_of (number k) (positions_of_order n v N cut)

    lists3 : Lists n v N (suc cut) w3 ends3
        (λ k. q.grown.0 k
        ++ entries_of (λ x. dot v (element neg k) (word_at N g2 x) % p) (positions_of_order n v N cut))
    lists3 = D.lists ys lists2

    below-cut : (k i : ℕ) → k < v → i < length (ys k) → order_of n v (get_or (ys k) i 0) < cut
    below-cut = lists2.below

    small : (k x : ℕ) → number k x < 65536
    small k x =
        omega (
          arith,
          mod-lt (dot v (element neg k) (word_at N g2 x)) (prime_positive T.modulus.prime),
          T.modulus.small,
        )

    new-order : (k i : ℕ) → i < length (entries_of (number k) (positions_of_order n v N cut))
        → order_of n v (get_or (entries_of (number k) (positions_of_order n v N cut)) i 0) ≡ cut
    new-order k i l =
        (sit_at n v N cut (entries_of (number k) (positions_of_order n v N cut)) i
        (sit_entries n v N cut (number k) (small k) (positions_of_order n v N cut)
        (sit_pick n v N cut (places N) (placed_places N))) l).1

    positive3 : (k i : ℕ) → i < length (zs k) → 1 ≤ order_of n v (get_or (zs k) i 0)
    positive3 k i l = go (dec_lt i (length (ys k)))
      where
        new : List ℕ
        new = entries_of (number k) (positions_of_order n v N cut)

        go : Dec (i < length (ys k)) → 1 ≤ order_of n v (get_or (zs k) i 0)
        go (yes h) =
            subst (λ (x : ℕ). 1 ≤ order_of n v x) (sym (get_or-append (ys k) new 0 i h))
            (G.positive k i h)
        go (no h) =
            let j = i - length (ys k) in
            let e : i ≡ length (ys k) + j = omega arith in
            let is : get_or (zs k) i 0 ≡ get_or new j 0 =
            ap (λ (x : ℕ). get_or (zs k) x 0) e ∙ get_or-append-add (ys k) new j 0 in
            subst (λ (x : ℕ). 1 ≤ order_of n v x) (sym is)
            (omega (arith, new-order k j (omega (arith, length-append (ys k) new)), q.low))

    reduced3 : (k i : ℕ) → k < v → i < length (zs k) → coefficient (get_or (zs k) i 0) < p
    reduced3 k i lk l = go (dec_lt i (length (ys k)))
      where
        new : List ℕ
        new = entries_of (number k) (positions_of_order n v N cut)

        go : Dec (i < length (ys k)) → coefficient (get_or (zs k) i 0) < p
        go (yes h) = rw (get_or-append (ys k) new 0 i h) (G.reduced k i lk h)
        go (no h) =
            let j = i - length (ys k) in
            let e : i ≡ length (ys k) + j = omega arith in
            let is : get_or (zs k) i 0 ≡ get_or new j 0 =
            ap (λ (x : ℕ). get_or (zs k) x 0) e ∙ get_or-append-add (ys k) new j 0 in
            rw is
            (entries_of-reduced (number k) (small k) p
            (λ x. mod-lt (dot v (element neg k) (word_at N g2 x)) (prime_positive T.modulus.prime))
            (positions_of_order n v N cut) j (omega (arith, length-append (ys k) new)))

    agrees3 : (k : ℕ) → k < v
        → Agree p (suc cut) (inner n v zs k) (combination v (element neg k) (raised p n v map ys))
    agrees3 k l =
        grown-agrees combine_asks q.low q.high held k (ys k) (lists2.listed k l).placed
        (λ i h. below-cut k i l h) (settles k l) (made-within k) (lists3.listed k l).placed

    undoes3 : UndoesBefore p cut v (map_of n v map) (inner n v zs)
    undoes3 =
        subst (λ (x : ℕ). UndoesBefore p x v (map_of n v map) (inner n v zs)) up
        (raised-undoes T.modulus.prime n v T.table.right.allowed.v_high map (map-fixing T)
        T.inverse.0 neg T.inverse.1 T.inverse.2 (cut - 1) (inner n v ys) high origin_fixing
        G.undoes same-high (inner n v zs)
        (λ i l.
        subst
        (λ (x : ℕ). Agree p (suc x) (inner n v zs i)
        (combination v (element neg i) (raised p n v map ys)))
        (sym up) (agrees3 i l)))

    pub turn-made : TurnsMade n v N E cut p t map starts ends3 g g2 w w3
    turn-made = record {
      grown = (
        zs,
        record {
          lists = lists3;
          positive = positive3;
          reduced = reduced3;
          undoes = undoes3;
        },
      );
      ends_in = D.ends_in;
      size = R.size;
      rest = R.rest;
      work_size = D.outside.size ∙ R.work_size;
      prepared = λ w₀ P. prepared_outside D.outside (R.prepared w₀ P);
    }
