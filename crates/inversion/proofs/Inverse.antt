-- The undoing maps of an origin-fixing map f, as polynomials. n − 1 turns from the inverse of the
-- linear part give a map that undoes f before it. Such a map g has a linear part with an inverse
-- too, so some k undoes g before it; then f is k, by associativity, and g undoes f after it. Maps
-- that undo f on different sides agree, again by associativity, so there is one. Where one undoes
-- f, the linear part of f has an inverse, and its determinant is not 0.
use Rattle.std.proofs.Common.{◌≡◌, sym, ap, ◌∙◌, ℕ, zero, suc, ◌-◌, ◌≤◌, ◌<◌, arith}
use Rattle.algebra.specs.Substitution.{Map, compose, identity}
use Rattle.algebra.specs.Agreement.{Agree}
use Rattle.algebra.proofs.Substitute.{substitute-substitute, substitute-variable}
use Rattle.algebra.proofs.Within.{within_compose}
use Rattle.algebra.proofs.Agreement.{agree_sym, agree_trans, agree_exact, agree_down}
use Rattle.algebra.proofs.Truncation.{agree_substitute, agree_substitute_below}
use Rattle.algebra.proofs.Identity.{substitute-identity}
use Rattle.residue.specs.Modulus.{Prime}
use Rattle.residue.proofs.Inverses.{prime_positive}
use Rattle.linear.specs.Matrix.{Matrix, element, product, identity_matrix}
use Rattle.linear.proofs.Squares.{identity_matrix-element, product-element, identity-of_elements}
use Rattle.linear.proofs.Determinants.{inverse-other_side, inverse-exists, no_left_inverse}
use Rattle.linear.proofs.Determinants.{no_right_inverse}
use Rattle.inversion.specs.Linear.{linear_part, determinant_of}
use Rattle.inversion.specs.Undoing.{Fixing, UndoesAfter, UndoesBefore, IsInverse}
use Rattle.inversion.specs.Turn.{linear_map, turn}
use Rattle.inversion.proofs.LinearPart.{linear_part-agree, linear_part-identity}
use Rattle.inversion.proofs.LinearPart.{linear_part-compose}
use Rattle.inversion.proofs.Turn.{linear_map-fixing, linear_map-undoes, turn-origin}
use Rattle.inversion.proofs.Turn.{turn-undoes, within_turn}

-- ---- the turns

-- k turns from the inverse m of the linear part of f
unfoldable pub turns : ℕ → ℕ → Map → Matrix → ℕ → Map
turns p v f m zero = linear_map v m
turns p v f m (suc k) =
    let g : Map = turns p v f m k in
    turn p v m g (compose f g)

module _ (p v : ℕ) (pos : 0 < p) (few : v ≤ 8) (f : Map) (F : Fixing p v f) (m : Matrix)
    (right : product p v (linear_part p v f) m ≡ identity_matrix v) where
  pub turns-undo : (k : ℕ)
      → Fixing p v (turns p v f m k) × UndoesBefore p (suc k) v f (turns p v f m k)
  unfolding turns
  turns-undo zero =
      (linear_map-fixing p v pos few f F m right, linear_map-undoes p v pos few f F m right)
  turns-undo (suc k) = go (turns p v f m k) (turns-undo k)
    where
      go : (g : Map) → Fixing p v g × UndoesBefore p (suc k) v f g
          → Fixing p v (turn p v m g (compose f g))
          × UndoesBefore p (suc (suc k)) v f (turn p v m g (compose f g))
      go g h = (
        record {
          origin = turn-origin p v pos few f F m right (suc k) g h.0.origin h.1;
          within = λ i l.
              within_turn p v m g (compose f g) i (h.0.within i l)
              (λ j lj. within_compose v v f g j (F.within j lj) h.0.within);
        },
        turn-undoes p v pos few f F m right (suc k) g h.0.origin h.1,
      )

-- ---- associativity: maps on different sides of f

pub sides_agree : (p n v : ℕ) (f g h : Map) → Fixing p v g → Fixing p v h
    → UndoesAfter p n v f g → UndoesBefore p n v f h
    → (i : ℕ) → i < v → Agree p (suc n) (g i) (h i)
unfolding compose
sides_agree p n v f g h G H a b i l =
    agree_trans p (agree_sym p (substitute-identity p (g i)))
    (agree_trans p
    (agree_sym p
    (agree_substitute_below p v (g i) (compose f h) identity (G.within i l) b.component))
    (agree_trans p (agree_sym p (agree_exact p _ _ (substitute-substitute (g i) f h)))
    (agree_trans p (agree_substitute p h H.origin (a.component i l))
    (agree_exact p _ _ (substitute-variable i h)))))

module _ {p : ℕ} (prime : Prime p) (n v : ℕ) (some : 1 ≤ n) (few : v ≤ 8) where
  pos : 0 < p
  pos = prime_positive prime

  -- the linear parts of maps of which one undoes the other
  pub linear-parts : (f g : Map) → Fixing p v f → Fixing p v g → UndoesBefore p n v f g
      → product p v (linear_part p v f) (linear_part p v g) ≡ identity_matrix v
  linear-parts f g F G h =
      identity-of_elements p v (linear_part p v f) (linear_part p v g)
      (λ i j li lj.
      sym (product-element p v (linear_part p v f) (linear_part p v g) i j li lj)
      ∙ sym (linear_part-compose prime v few f g F.within G.origin i j li lj)
      ∙ ap (λ (l : Matrix). element l i j)
      (linear_part-agree p v (compose f g) identity
      (λ k lk. agree_down p (omega arith) (h.component k lk)))
      ∙ linear_part-identity prime v few i j li lj
      ∙ identity_matrix-element v i j li lj)

  -- ---- a map that undoes f before it

  module _ (f : Map) (F : Fixing p v f) where
    undone_by : (m : Matrix) → product p v (linear_part p v f) m ≡ identity_matrix v
        → (g : Map) × Fixing p v g × UndoesBefore p n v f g
    undone_by m right =
        let t = turns-undo p v pos few f F m right (n - 1) in
        let e : suc (n - 1) ≡ n = omega arith in
        (turns p v f m (n - 1), t.0, rw e at t.1)

    pub undone_exists : (determinant_of p v f ≡ 0 → ⊥)
        → (g : Map) × Fixing p v g × UndoesBefore p n v f g
    unfolding determinant_of
    undone_exists d =
        let inv = inverse-exists prime v (linear_part p v f) d in
        undone_by inv.0 inv.1.right

    -- where the determinant is 0, none undoes f

    pub none_after : determinant_of p v f ≡ 0 → (g : Map) → Fixing p v g
        → UndoesAfter p n v f g → ⊥
    unfolding determinant_of
    none_after d g G h =
        no_left_inverse prime v (linear_part p v f) (linear_part p v g) d (linear-parts g f G F h)

    pub none_before : determinant_of p v f ≡ 0 → (g : Map) → Fixing p v g
        → UndoesBefore p n v f g → ⊥
    unfolding determinant_of
    none_before d g G h =
        no_right_inverse prime v (linear_part p v f) (linear_part p v g) d (linear-parts f g F G h)

  -- ---- both sides

  pub before-after : (f g : Map) → Fixing p v f → Fixing p v g
      → UndoesBefore p n v f g → UndoesAfter p n v f g
  unfolding compose
  before-after f g F G h =
      let e = inverse-other_side prime v (linear_part p v f) (linear_part p v g)
      (linear-parts f g F G h) in
      let k = undone_by g G (linear_part p v f) e in
      record {
        component = λ i l.
            agree_trans p
            (agree_substitute_below p v (g i) f k.0 (G.within i l)
            (sides_agree p n v g f k.0 F k.1 h k.2))
            (k.2.component i l);
      }

  pub after-before : (f g : Map) → Fixing p v f → Fixing p v g
      → UndoesAfter p n v f g → UndoesBefore p n v f g
  after-before f g F G h = before-after g f G F h

  -- ---- term 3 of polynomials

  -- any map that undoes f before it is the one
  pub is_inverse : (f g : Map) → Fixing p v f → Fixing p v g → UndoesBefore p n v f g
      → IsInverse p n v f g
  is_inverse f g F G b = record {
    fixing = G;
    after = before-after f g F G b;
    before = b;
    only_after = λ h H a. sides_agree p n v f h g H G a b;
    only_before = λ h H c. sides_agree p n v f h g H G (before-after f h F H c) b;
  }

  pub one-inverse : (f : Map) → Fixing p v f → (determinant_of p v f ≡ 0 → ⊥)
      → (g : Map) × IsInverse p n v f g
  one-inverse f F d =
      let g = undone_exists f F d in
      (g.0, is_inverse f g.0 F g.1 g.2)

  pub no_inverse : (f : Map) → Fixing p v f → determinant_of p v f ≡ 0 → (g : Map) → Fixing p v g
      → (UndoesAfter p n v f g → ⊥) × (UndoesBefore p n v f g → ⊥)
  no_inverse f F d g G = (none_after f F d g G, none_before f F d g G)
