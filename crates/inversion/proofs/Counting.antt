-- Term 3 of maps as words: of all origin-fixing maps just one undoes f after it, just one before
-- it, and it is the same one, where the determinant of the linear part of f is not 0 modulo p; and
-- none on either side where it is. Words and polynomials are linked by their images, and what is
-- said of polynomials is in `Inverse`.
use Rattle.std.proofs.Common.{◌≡◌, sym, ap, ◌∙◌, ◌↔◌, List, [], ◌∷◌, ℕ, suc, ◌+◌, ◌*◌, ◌≤◌, ◌<◌, arith, T, length, get_or, take_all}
use mathlib.Core.List.{Memᴰ}
use Rattle.algebra.specs.Substitution.{Map, compose, identity}
use Rattle.algebra.specs.Agreement.{Agree}
use Rattle.algebra.proofs.Trim.{equal_to_eq}
use Rattle.algebra.proofs.Agreement.{agree_trans}
use Rattle.algebra.proofs.Truncation.{agree_substitute_below}
use Rattle.residue.specs.Modulus.{Prime}
use Rattle.residue.proofs.Inverses.{prime_positive}
use Rattle.monomial.specs.Count.{count}
use Rattle.series.specs.Image.{map_of, map_image}
use Rattle.series.proofs.Maps.{map_image-agree, map-image}
use Rattle.inversion.specs.Linear.{determinant_of}
use Rattle.inversion.specs.Undoing.{Fixing, UndoesBefore, IsInverse, composed, undoes_after}
use Rattle.inversion.specs.Undoing.{undoes_before, FixingWords}
use Rattle.inversion.specs.Inverse.{fixing_maps, undoing_after, undoing_before, inverse}
use Rattle.inversion.proofs.Inverse.{is_inverse, one-inverse, none_after, none_before}
use Rattle.inversion.proofs.Inverse.{before-after, after-before}
use Rattle.inversion.proofs.Lists.{those-none, those-one}
use Rattle.inversion.proofs.Words.{words-fixing, read, image-fixing}
use Rattle.inversion.proofs.Words.{undoes_after-is, undoes_before-is}
use Rattle.inversion.proofs.FixingMaps.{fixing_member, member-fixing, fixing_maps-distinct}

-- ---- the undoing maps of f

module _ {p : ℕ} (prime : Prime p) (small : p ≤ 65536) (n v : ℕ) (some : 1 ≤ n) (few : v ≤ 8)
    (f : List ℕ) (F : Fixing p v (map_of n v f)) where
  pos : 0 < p
  pos = prime_positive prime

  member_to_fixing : (g : List ℕ) → Memᴰ g (fixing_maps p n v) → Fixing p v (map_of n v g)
  member_to_fixing g m = words-fixing (fixing_member p n v pos small g m)

  -- the same maps undo f on both sides
  pub sides_same : (g : List ℕ) → Memᴰ g (fixing_maps p n v)
      → T (undoes_after p n v f g) ↔ T (undoes_before p n v f g)
  sides_same g m =
      let G = member_to_fixing g m in
      let after = undoes_after-is p n v pos small f g F G in
      let before = undoes_before-is p n v pos small f g F G in (
        (λ t.
            before.1
            (after-before prime n v some few (map_of n v f) (map_of n v g) F G (after.0 t))),
        (λ t.
            after.1
            (before-after prime n v some few (map_of n v f) (map_of n v g) F G (before.0 t))),
      )

  -- ---- a map that undoes f before it, as polynomials: its image is the one undoing map

  module _ (g : Map) (G : Fixing p v g) (b : UndoesBefore p n v (map_of n v f) g) where
    -- g undoes f on both sides, and no other map does
    I : IsInverse p n v (map_of n v f) g
    I = is_inverse prime n v some few (map_of n v f) g F G b

    abbrev w : List ℕ
    w = map_image p n v g

    W : FixingWords p n v w
    W = image-fixing p n v pos small g G.within (λ i l. G.origin i)

    -- words that agree with g are its image
    words_are : (u : List ℕ) → FixingWords p n v u
        → ((i : ℕ) → i < v → Agree p (suc n) (map_of n v u i) (g i)) → u ≡ w
    words_are u U e =
        sym (take_all (v * (count n v + 1)) u (omega (arith, U.whole)))
        ∙ map-image p n v pos small U.is_map
        ∙ map_image-agree p n v (map_of n v u) g e

    w-before : T (undoes_before p n v f w)
    unfolding compose
    w-before =
        (undoes_before-is p n v pos small f w F (words-fixing W)).1
        (record {
          component = λ i l.
              agree_trans p
              (agree_substitute_below p v (map_of n v f i) (map_of n v w) g (F.within i l)
              (λ j lj. read p n v pos small g j lj (G.within j lj)))
              (b.component i l);
        })

    w-after : T (undoes_after p n v f w)
    w-after = (sides_same w (member-fixing p n v pos small w W)).1 w-before

    only_before : (u : List ℕ) → Memᴰ u (fixing_maps p n v) → T (undoes_before p n v f u) → u ≡ w
    only_before u m t =
        let U = member_to_fixing u m in
        words_are u (fixing_member p n v pos small u m)
        (I.only_before (map_of n v u) U ((undoes_before-is p n v pos small f u F U).0 t))

    only_after : (u : List ℕ) → Memᴰ u (fixing_maps p n v) → T (undoes_after p n v f u) → u ≡ w
    only_after u m t = only_before u m ((sides_same u m).0 t)

    pub undoing_before-image : undoing_before p n v f ≡ map_image p n v g ∷ []
    unfolding undoing_before
    undoing_before-image =
        those-one (undoes_before p n v f) (fixing_maps p n v) (fixing_maps-distinct p n v pos small)
        w (member-fixing p n v pos small w W) w-before only_before

    pub undoing_after-image : undoing_after p n v f ≡ map_image p n v g ∷ []
    unfolding undoing_after
    undoing_after-image =
        those-one (undoes_after p n v f) (fixing_maps p n v) (fixing_maps-distinct p n v pos small)
        w (member-fixing p n v pos small w W) w-after only_after

    -- what `invert` returns
    pub inverse-image : inverse p n v f ≡ map_image p n v g
    unfolding inverse
    inverse-image = ap (λ (x : List (List ℕ)). get_or x 0 []) undoing_after-image

  -- ---- term 3

  -- one map where the determinant is not 0
  pub one-undoes : (determinant_of p v (map_of n v f) ≡ 0 → ⊥)
      → (undoing_after p n v f ≡ inverse p n v f ∷ [])
      × (undoing_before p n v f ≡ inverse p n v f ∷ [])
  one-undoes d =
      let r = one-inverse prime n v some few (map_of n v f) F d in
      let g = r.0 in
      let G = r.1.fixing in
      let e = ap (λ (x : List ℕ). x ∷ []) (sym (inverse-image g G r.1.before)) in (
        undoing_after-image g G r.1.before ∙ e,
        undoing_before-image g G r.1.before ∙ e,
      )

  -- it is an origin-fixing map, and either composition with f is the identity map, word for word
  pub inverse-fixing : (determinant_of p v (map_of n v f) ≡ 0 → ⊥)
      → FixingWords p n v (inverse p n v f)
  inverse-fixing d =
      let r = one-inverse prime n v some few (map_of n v f) F d in
      rw (inverse-image r.0 r.1.fixing r.1.before)
      (W r.0 r.1.fixing r.1.before)

  pub inverse-composed : (determinant_of p v (map_of n v f) ≡ 0 → ⊥)
      → (composed p n v (inverse p n v f) f ≡ map_image p n v identity)
      × (composed p n v f (inverse p n v f) ≡ map_image p n v identity)
  unfolding undoes_after undoes_before
  inverse-composed d =
      let r = one-inverse prime n v some few (map_of n v f) F d in
      let e = inverse-image r.0 r.1.fixing r.1.before in (
        rw e (equal_to_eq _ _ (w-after r.0 r.1.fixing r.1.before)),
        rw e (equal_to_eq _ _ (w-before r.0 r.1.fixing r.1.before)),
      )

  -- none where it is 0
  pub none_undo : determinant_of p v (map_of n v f) ≡ 0
      → (undoing_after p n v f ≡ []) × (undoing_before p n v f ≡ [])
  unfolding undoing_after undoing_before
  none_undo d = (
    those-none (undoes_after p n v f) (fixing_maps p n v)
        (λ g m t.
        let G = member_to_fixing g m in
        none_after prime n v some few (map_of n v f) F d (map_of n v g) G
        ((undoes_after-is p n v pos small f g F G).0 t)),
    those-none (undoes_before p n v f) (fixing_maps p n v)
        (λ g m t.
        let G = member_to_fixing g m in
        none_before prime n v some few (map_of n v f) F d (map_of n v g) G
        ((undoes_before-is p n v pos small f g F G).0 t)),
  )

  -- the numbers of undoing maps
  pub count-after : (length (undoing_after p n v f) ≡ 1) ↔ (determinant_of p v (map_of n v f) ≡ 0 → ⊥)
  count-after = (
    (λ e d. omega (arith, ap length (none_undo d).0)),
    (λ d. ap length (one-undoes d).0),
  )

  pub count-before : (length (undoing_before p n v f) ≡ 1)
      ↔ (determinant_of p v (map_of n v f) ≡ 0 → ⊥)
  count-before = (
    (λ e d. omega (arith, ap length (none_undo d).1)),
    (λ d. ap length (one-undoes d).1),
  )

  pub count_none : determinant_of p v (map_of n v f) ≡ 0
      → (length (undoing_after p n v f) ≡ 0) × (length (undoing_before p n v f) ≡ 0)
  count_none d = (ap length (none_undo d).0, ap length (none_undo d).1)
