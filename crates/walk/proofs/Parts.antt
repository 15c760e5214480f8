-- The parts of the result while multiples of one product are added to them, one part after another.
-- A part that is written leaves every other word as it was.
use Rattle.std.proofs.Common.{ℕ, ◌+◌, ◌*◌, ◌-◌, ◌≤◌, ◌<◌, ◌≡◌, refl, sym, ap, ◌∙◌, subst, List, ◌++◌, zero-mul, mul-le-mul_right, arith, leb, le→leb, leb→le, length, get_or, take, drop, length-take, length-drop, ext_get_or, get_or-take, get_or-drop, drop-drop}
use Rattle.std.proofs.Math.Path.{fun_ext}
use Rattle.std.proofs.Math.Decide.{ℕ_discrete}
use borrow.Rule.Slice.PartMut.{put_mid}
use Rattle.algebra.specs.Polynomial.{Polynomial, weigh, add, scale}
use Rattle.algebra.proofs.Booleans.{indicator-yes, indicator-no}
use Rattle.algebra.proofs.Weigh.{weigh-add, weigh-scale}
use Rattle.algebra.proofs.Agreement.{agree_exact}
use Rattle.series.specs.Image.{entries, coefficient_at, component}
use Rattle.series.specs.Over.{over}
use Rattle.series.proofs.Over.{length_over, over_below, over-above, over-in}
use Rattle.product.proofs.Whole.{drop-same}
use Rattle.substitution.specs.Marks.{AscendingEntries}
use Rattle.substitution.specs.Accumulate.{AddScaledIn, AddedScaled}
use Rattle.substitution.specs.Levels.{Holds}
use Rattle.substitution.proofs.Regions.{holds-asks, holds-added, holds_agree}
use Rattle.walk.specs.declared.Plan.{Plan}
use Rattle.walk.specs.Stepping.{weight_at, AddAllIn, AddedAll}

-- ---- words of a list

-- k words from word a on, read one by one
slice-same : (xs ys : List ℕ) (a k : ℕ) → length xs ≡ length ys
    → ((x : ℕ) → a ≤ x → x < a + k → get_or xs x 0 ≡ get_or ys x 0)
    → take k (drop a xs) ≡ take k (drop a ys)
slice-same xs ys a k e same =
    ext_get_or 0 (take k (drop a xs)) (take k (drop a ys))
    (omega (
      arith,
      length-take k (drop a xs),
      length-take k (drop a ys),
      length-drop a xs,
      length-drop a ys,
    ))
    (λ j l.
    let b : j < k = omega (arith, length-take k (drop a xs)) in
    get_or-take k (drop a xs) j 0 b
    ∙ get_or-drop a xs j 0
    ∙ same (a + j) (omega arith) (omega arith)
    ∙ sym (get_or-drop a ys j 0)
    ∙ sym (get_or-take k (drop a ys) j 0 b))

pub put-over : (a k : ℕ) (xs ys : List ℕ) → length ys ≡ k → put_mid a k xs ys ≡ over xs a ys
unfolding over
put-over a k xs ys e =
    ap (λ (z : List ℕ). take a xs ++ (ys ++ z))
    (drop-drop k a xs ∙ ap (λ (z : ℕ). drop (a + z) xs) (sym e))

-- words written from word a on are read there
slice_over : (xs ys : List ℕ) (a k : ℕ) → length ys ≡ k → a + k ≤ length xs
    → take k (drop a (over xs a ys)) ≡ ys
slice_over xs ys a k e h =
    ext_get_or 0 (take k (drop a (over xs a ys))) ys long
    (λ j l.
    get_or-take k (drop a (over xs a ys)) j 0 (omega (arith, long))
    ∙ get_or-drop a (over xs a ys) j 0
    ∙ over-in xs a ys j (omega arith) (omega (arith, long)))
  where
    long : length (take k (drop a (over xs a ys))) ≡ length ys
    long =
        omega (
          arith,
          length-take k (drop a (over xs a ys)),
          length-drop a (over xs a ys),
          length_over xs a ys (omega arith),
        )

-- ---- part after part

-- the parts before part i have grown, and no word from part i on has changed
pub record AddedUpto (s : Plan) (w : List ℕ) (q at first : ℕ) (res₀ res : List ℕ) (i : ℕ)
    : Type 0 where
  pub upto : i ≤ s.components
  pub size : length res ≡ length res₀
  pub done : (j : ℕ) → j < i
      → AddedScaled (component s.t.z.n s.t.z.v j res₀) w at first
      (coefficient_at (entries (component s.t.z.n s.t.z.v j s.outer.now)) q) s.p
      (component s.t.z.n s.t.z.v j res)
  pub todo : (x : ℕ) → i * (s.t.z.count + 1) ≤ x → get_or res x 0 ≡ get_or res₀ x 0

-- a multiple by 0 leaves the sums
holds_more : {s : Plan} {w res₀ : List ℕ} {q at first : ℕ} → AddAllIn s w res₀ q at first
    → {res : List ℕ} {B : Polynomial} (P : Polynomial) (c : ℕ) → c ≡ 0
    → Holds s.p s.t.z.n s.t.z.v s.t.z.count s.wanted s.cut res B
    → Holds s.p s.t.z.n s.t.z.v s.t.z.count s.wanted s.cut res (add B (scale c P))
holds_more {s} a {res} {B} P c z H =
    holds_agree a.cut_is H
    (agree_exact s.p B (add B (scale c P))
    (fun_ext
    (λ φ.
    sym
    (weigh-add B (scale c P) φ
    ∙ ap (λ (x : ℕ). weigh B φ + x)
    (weigh-scale c P φ ∙ ap (λ (x : ℕ). x * weigh P φ) z ∙ zero-mul (weigh P φ))
    ∙ omega arith))))

module _ {s : Plan} {w res₀ : List ℕ} {q at first : ℕ} (a : AddAllIn s w res₀ q at first)
  where
    abbrev r : ℕ
    r = s.t.z.count + 1

    abbrev part : ℕ → List ℕ → List ℕ
    part i ws = component s.t.z.n s.t.z.v i ws

    abbrev factor : ℕ → ℕ
    factor i = coefficient_at (entries (part i s.outer.now)) q

    part-is : (i : ℕ) (ws : List ℕ) → component s.t.z.n s.t.z.v i ws
        ≡ take (s.t.z.count + 1) (drop (i * (s.t.z.count + 1)) ws)
    unfolding component
    part-is i ws =
        ap (λ (z : ℕ). take (z + 1) (drop (i * (z + 1)) ws)) (sym a.cut_is.N_is)

    pub added_start : AddedUpto s w q at first res₀ res₀ 0
    added_start = record {
      upto = omega arith;
      size = refl;
      done = λ j l. absurd (omega arith);
      todo = λ x h. refl;
    }

    -- below the least order nothing is added
    pub added_low : get_or w (s.columns.orders + q) 0 < s.least → AddedAll s w q at res₀ res₀
    added_low l = record {
      sums = λ lo P A i S. record {
        inside = S.inside;
        holds = λ j h. holds_more a P (weight_at s w q j) (none j) (S.holds j h);
      };
      size = refl;
      rest = refl;
    }
      where
        none : (j : ℕ) → weight_at s w q j ≡ 0
        none j =
            ap (λ (x : ℕ). factor j * x)
            (indicator-no (leb s.least (get_or w (s.columns.orders + q) 0))
            (λ t. omega (arith, leb→le s.least (get_or w (s.columns.orders + q) 0) t)))
            ∙ omega arith

    module _ {res : List ℕ} {i : ℕ} (I : AddedUpto s w q at first res₀ res i)
        (l : i < s.components) where
      abbrev from : ℕ
      from = i * (s.t.z.count + 1)

      room : i * (s.t.z.count + 1) + (s.t.z.count + 1) ≤ s.components * (s.t.z.count + 1)
      room = omega (arith, mul-le-mul_right {m = i + 1} {n = s.components} r (omega arith))

      pub outer-inside : from + (s.t.z.count + 1) ≤ length s.outer.now
      outer-inside = omega (arith, room, a.outer_in)

      pub result_inside : from + (s.t.z.count + 1) ≤ length res
      result_inside = omega (arith, room, a.sums.1.inside, I.size)

      -- part i as it is lent
      lent_is : (ws : List ℕ) → take (from + (s.t.z.count + 1) - from) (drop from ws)
          ≡ component s.t.z.n s.t.z.v i ws
      lent_is ws =
          let e : from + (s.t.z.count + 1) - from ≡ s.t.z.count + 1 = omega arith in
          ap (λ (k : ℕ). take k (drop from ws)) e ∙ sym (part-is i ws)

      pub part_ascends : AscendingEntries (take (from + (s.t.z.count + 1) - from) (drop from s.outer.now))
      part_ascends = rw (lent_is s.outer.now) (a.ascending i l)

      unchanged : (j : ℕ) → i ≤ j → component s.t.z.n s.t.z.v j res ≡ component s.t.z.n s.t.z.v j res₀
      unchanged j h =
          let b : i * r ≤ j * r = mul-le-mul_right {m = i} {n = j} r h in
          part-is j res
          ∙ slice-same res res₀ (j * r) r I.size (λ x u t. I.todo x (omega arith))
          ∙ sym (part-is j res₀)

      lent_result : take (from + (s.t.z.count + 1) - from) (drop from res)
          ≡ component s.t.z.n s.t.z.v i res₀
      lent_result = lent_is res ∙ unchanged i (omega arith)

      module _ (c : ℕ)
          (e : c
          ≡ coefficient_at (entries (take (from + (s.t.z.count + 1) - from) (drop from s.outer.now))) q) where
        c-is : c ≡ coefficient_at (entries (component s.t.z.n s.t.z.v i s.outer.now)) q
        c-is = e ∙ ap (λ (x : List ℕ). coefficient_at (entries x) q) (lent_is s.outer.now)

        pub part-asks : AddScaledIn (take (from + (s.t.z.count + 1) - from) (drop from res)) w at first c
            s.p
        part-asks =
            rw lent_result
            (holds-asks a.cut_is (a.sums.1.holds i l) a.product.2 first a.few c
            (omega (arith, c-is, a.reduced i l)))

        module _ (ys : List ℕ)
            (d : AddedScaled (take (from + (s.t.z.count + 1) - from) (drop from res)) w at first c s.p
            ys)
          where
            abbrev res' : List ℕ
            res' = put_mid from (from + (s.t.z.count + 1) - from) res ys

            long : length ys ≡ s.t.z.count + 1
            long =
                d.size
                ∙ ap length lent_result
                ∙ (a.sums.1.holds i l).size

            is_over : put_mid from (from + (s.t.z.count + 1) - from) res ys ≡ over res from ys
            is_over = put-over from (from + r - from) res ys (omega (arith, long))

            pub size_more : length (put_mid from (from + (s.t.z.count + 1) - from) res ys) ≡ length res₀
            size_more =
                ap length is_over
                ∙ length_over res from ys (omega (arith, long, result_inside))
                ∙ I.size

            earlier : (j : ℕ) → j < i → component s.t.z.n s.t.z.v j res
                ≡ component s.t.z.n s.t.z.v j (put_mid from (from + (s.t.z.count + 1) - from) res ys)
            earlier j h =
                let b : j * r + r ≤ i * r =
                omega (arith, mul-le-mul_right {m = j + 1} {n = i} r (omega arith)) in
                part-is j res
                ∙ slice-same res res' (j * r) r (I.size ∙ sym size_more)
                (λ x u t.
                sym
                (ap (λ (z : List ℕ). get_or z x 0) is_over
                ∙ over_below res from ys x (omega (arith, result_inside)) (omega arith)))
                ∙ sym (part-is j res')

            here : component s.t.z.n s.t.z.v i (put_mid from (from + (s.t.z.count + 1) - from) res ys) ≡ ys
            here =
                part-is i res'
                ∙ ap (λ (z : List ℕ). take r (drop from z)) is_over
                ∙ slice_over res ys from r long result_inside

            pub added_more : AddedUpto s w q at first res₀
                (put_mid from (from + (s.t.z.count + 1) - from) res ys) (i + 1)
            added_more = record {
              upto = omega arith;
              size = size_more;
              done = λ j h. grown j h (ℕ_discrete j i);
              todo = λ x h.
                  ap (λ (z : List ℕ). get_or z x 0) is_over
                  ∙ over-above res from ys x (omega (arith, result_inside))
                  (omega (arith, long))
                  ∙ I.todo x (omega arith);
            }
              where
                grown : (j : ℕ) → j < i + 1 → Dec (j ≡ i)
                    → AddedScaled (component s.t.z.n s.t.z.v j res₀) w at first
                    (coefficient_at (entries (component s.t.z.n s.t.z.v j s.outer.now)) q) s.p
                    (component s.t.z.n s.t.z.v j res')
                grown j h (yes k) =
                    rw (k, here, ← c-is, ← lent_result) d
                grown j h (no k) =
                    rw (← earlier j (omega arith)) (I.done j (omega arith))

    pub added_all : {res : List ℕ} {i : ℕ} → AddedUpto s w q at first res₀ res i
        → s.components ≤ i → s.least ≤ get_or w (s.columns.orders + q) 0
        → AddedAll s w q at res₀ res
    added_all {res} {i} I h o = record {
      sums = λ lo P A L S. record {
        inside = omega (arith, S.inside, I.size);
        holds = λ j k.
            subst
            (λ (x : ℕ). Holds s.p s.t.z.n s.t.z.v s.t.z.count s.wanted s.cut (part j res)
            (add (A j) (scale x P)))
            (weight j)
            (holds-added a.cut_is (S.holds j k) L first a.few a.early (factor j) (part j res)
            (I.done j (omega arith)));
      };
      size = I.size;
      rest =
          let e : i ≡ s.components = omega (arith, I.upto) in
          drop-same (s.components * r) res₀ res I.size
          (λ x u. I.todo x (subst (λ (y : ℕ). y * r ≤ x) (sym e) u));
    }
      where
        weight : (j : ℕ) → factor j ≡ weight_at s w q j
        weight j =
            sym
            (ap (λ (x : ℕ). factor j * x)
            (indicator-yes (leb s.least (get_or w (s.columns.orders + q) 0))
            (le→leb s.least (get_or w (s.columns.orders + q) 0) o))
            ∙ omega arith)
