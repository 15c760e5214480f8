-- One turn of the inversion, as the code makes it. With L the linear part of f, h = (f − L) ∘ g
-- and m the inverse of L, minus m times (minus the identity, plus h) is m (1 − h). As m L g = g,
-- that is g + m (1 − f ∘ g): the turn of `inversion`. It begins with any map that fixes the origin,
-- so with zero.
use Rattle.std.proofs.Common.{◌≡◌, refl, sym, ap, ◌∙◌, List, ℕ, suc, ◌+◌, ◌*◌, ◌-◌, ◌%◌, ◌≤◌, ◌<◌, arith}
use Rattle.std.proofs.Math.Nat.{mod-mod}
use Rattle.algebra.specs.Polynomial.{Monomial, Polynomial, weigh, add, scale, difference}
use Rattle.algebra.specs.Substitution.{Map, substitute, compose, variable}
use Rattle.algebra.specs.Agreement.{Test, Agree, FromOrder, OriginFixing}
use Rattle.algebra.proofs.Sums.{sum-add, sum-scale}
use Rattle.algebra.proofs.Weigh.{weigh-add, weigh-scale, weigh-difference}
use Rattle.algebra.proofs.Modulo.{mod-cong, mod-+, mod-*, negate_mod}
use Rattle.algebra.proofs.Agreement.{agree_refl, agree_sym, agree_trans, agree_down}
use Rattle.algebra.proofs.Truncation.{from-substitute, from-variable}
use Rattle.residue.specs.Modulus.{Prime}
use Rattle.residue.proofs.Inverses.{prime_positive}
use Rattle.linear.specs.Matrix.{Matrix, element, range, product, Inverse, identity_matrix}
use Rattle.series.specs.Image.{map_of}
use Rattle.inversion.specs.Linear.{linear_part}
use Rattle.inversion.specs.Undoing.{Fixing, UndoesBefore}
use Rattle.inversion.specs.Turn.{combination, turn}
use Rattle.inversion.proofs.Sums.{below, below-cong, below-mod, undone}
use Rattle.inversion.proofs.Combination.{weigh-combination}
use Rattle.inversion.proofs.LinearPart.{linear_part-residue}
use Rattle.inversion.proofs.Affine.{linear}
use Rattle.inversion.proofs.Turn.{turned_from, turned_undoes, turn-close}
use Rattle.turn.specs.High.{high_terms}
use Rattle.turn.specs.Vectors.{Negated}
use Rattle.turn.proofs.HighTerms.{substitute-parted}

-- ---- numbers modulo p

module _ (p : ℕ) (pos : 0 < p) where
  -- minus minus x
  negate_twice : (x : ℕ) → ((p - 1) * ((p - 1) * x)) % p ≡ x % p
  negate_twice x =
      let y = (p - 1) * x in
      sym
      (mod-cong p (end x)
      ∙ mod-+ p x x 0 (y + (p - 1) * y) refl (sym (negate_mod p y pos))
      ∙ mod-cong p (regroup x y ((p - 1) * y))
      ∙ mod-+ p (x + y) 0 ((p - 1) * y) ((p - 1) * y) (negate_mod p x pos) refl
      ∙ mod-cong p (begin ((p - 1) * y)))
    where
      end : (a : ℕ) → a ≡ a + 0
      end a = omega arith

      begin : (a : ℕ) → 0 + a ≡ a
      begin a = omega arith

      regroup : (a b c : ℕ) → a + (b + c) ≡ a + b + c
      regroup a b c = omega arith

  -- minus a, times minus x and h
  negate_times : (a x h : ℕ)
      → ((p - 1) * a * ((p - 1) * x + h)) % p ≡ (a * (x + (p - 1) * h)) % p
  negate_times a x h =
      mod-cong p (spread (p - 1) a x h)
      ∙ mod-* p a a _ _ refl
      (mod-+ p _ x ((p - 1) * h) ((p - 1) * h) (negate_twice x) refl)
    where
      spread : (q a x h : ℕ) → q * a * (q * x + h) ≡ a * (q * (q * x) + q * h)
      spread q a x h = omega arith

  module _ (v : ℕ) (m r l : Matrix) (left : product p v m l ≡ identity_matrix v) (i : ℕ)
      (inside : i < v) (X H G C : ℕ → ℕ)
      (negative : (j : ℕ) → j < v → element r i j % p ≡ ((p - 1) * element m i j) % p)
      (parts : (j : ℕ) → j < v → C j % p ≡ (below v (λ k. element l j k * G k) + H j) % p) where
    abbrev lin : ℕ → ℕ
    lin j = below v (λ k. element l j k * G k)

    abbrev made : ℕ → ℕ
    made j = element m i j * (X j + (p - 1) * H j)

    turned_term : (j : ℕ) → j < v
        → (element m i j * (X j + (p - 1) * C j)) % p
        ≡ (made j + (p - 1) * (element m i j * lin j)) % p
    turned_term j h =
        mod-* p (element m i j) (element m i j) _ _ refl
        (mod-+ p (X j) (X j) _ _ refl (mod-* p (p - 1) (p - 1) _ _ refl (parts j h)))
        ∙ mod-cong p (spread (element m i j) (X j) (p - 1) (lin j) (H j))
      where
        spread : (a x q s h : ℕ) → a * (x + q * (s + h)) ≡ a * (x + q * h) + q * (a * s)
        spread a x q s h = omega arith

    pub turned_number : below v (λ j. element r i j * ((p - 1) * X j + H j)) % p
        ≡ (G i + below v (λ j. element m i j * (X j + (p - 1) * C j))) % p
    turned_number =
        below-mod p v _ made
        (λ j h.
        mod-* p (element r i j) _ _ _ (negative j h) refl
        ∙ negate_times (element m i j) (X j) (H j))
        ∙ sym
        (mod-+ p (G i) (G i) _ _ refl
        (below-mod p v _ _ turned_term
        ∙ mod-cong p
        (sum-add (range 0 v) made (λ j. (p - 1) * (element m i j * lin j))
        ∙ ap (λ (x : ℕ). below v made + x)
        (sum-scale (p - 1) (range 0 v) (λ j. element m i j * lin j)))
        ∙ mod-+ p (below v made) (below v made) _ _ refl
        (mod-* p (p - 1) (p - 1) _ _ refl (undone p v m l left G i inside)))
        ∙ mod-cong p (regroup (G i) (below v made) ((p - 1) * G i))
        ∙ mod-+ p (below v made) (below v made) _ 0 refl (negate_mod p (G i) pos)
        ∙ mod-cong p (end (below v made)))
      where
        regroup : (a b c : ℕ) → a + (b + c) ≡ b + (a + c)
        regroup a b c = omega arith

        end : (a : ℕ) → a + 0 ≡ a
        end a = omega arith

-- ---- the turn

module _ {p : ℕ} (prime : Prime p) (n v : ℕ) (few : v ≤ 8) (f : List ℕ)
    (F : Fixing p v (map_of n v f)) where
  pos : 0 < p
  pos = prime_positive prime

  abbrev outer : Map
  outer = map_of n v f

  module _ (m r : Matrix) (I : Inverse p v (linear_part p v (map_of n v f)) m)
      (neg : Negated p m r) where
    negative : (i j : ℕ) → i < v → j < v → element r i j % p ≡ ((p - 1) * element m i j) % p
    negative i j li lj =
        mod-cong p (neg.negative i j (omega arith) (omega arith))
        ∙ mod-mod ((p - 1) * element m i j) p

    -- the linear part and the rest of a component of f, with g substituted
    parted : {k : ℕ} (g H : Map)
        → ((j : ℕ) → j < v → Agree p k (H j) (substitute (high_terms (outer j)) g))
        → (φ : Monomial → ℕ) → Test p k φ → (j : ℕ) → j < v
        → weigh (substitute (outer j) g) φ % p
        ≡ (below v (λ i. element (linear_part p v outer) j i * weigh (g i) φ) + weigh (H j) φ) % p
    parted g H e φ t j l =
        let P : Polynomial = outer j in
        (substitute-parted p v P g (F.within j l) (F.origin j)).tested φ t
        ∙ mod-cong p
        (weigh-add (combination v (linear P) g) (substitute (high_terms P) g) φ
        ∙ ap (λ (x : ℕ). x + weigh (substitute (high_terms P) g) φ)
        (weigh-combination v (linear P) g φ))
        ∙ mod-+ p _ _ _ _
        (below-mod p v _ _
        (λ i li.
        mod-* p (linear P i) _ _ (weigh (g i) φ) (linear_part-residue p v few outer j i l li) refl))
        (sym ((e j l).tested φ t))

    turn-made : {k : ℕ} (g H : Map)
        → ((j : ℕ) → j < v → Agree p k (H j) (substitute (high_terms (outer j)) g))
        → (i : ℕ) → i < v
        → Agree p k (combination v (element r i) (λ j. add (scale (p - 1) (variable j)) (H j)))
        (turn p v m g (compose outer g) i)
    unfolding turn compose
    turn-made g H e i l = record {
      tested = λ φ t.
          let X : ℕ → ℕ = λ j. weigh (variable j) φ in
          let C : ℕ → ℕ = λ j. weigh (substitute (outer j) g) φ in
          mod-cong p
          (weigh-combination v (element r i) (λ j. add (scale (p - 1) (variable j)) (H j)) φ
          ∙ below-cong v _ _
          (λ j lj.
          ap (λ (x : ℕ). element r i j * x)
          (weigh-add (scale (p - 1) (variable j)) (H j) φ
          ∙ ap (λ (x : ℕ). x + weigh (H j) φ) (weigh-scale (p - 1) (variable j) φ))))
          ∙ turned_number p pos v m r (linear_part p v outer) I.left i l X (λ j. weigh (H j) φ)
          (λ j. weigh (g j) φ) C (λ j lj. negative i j l lj) (λ j lj. parted g H e φ t j lj)
          ∙ mod-cong p
          (sym
          (weigh-add (g i) _ φ
          ∙ ap (λ (x : ℕ). weigh (g i) φ + x)
          (weigh-combination v (element m i)
          (λ j. difference p (variable j) (substitute (outer j) g)) φ
          ∙ below-cong v _ _
          (λ j lj.
          ap (λ (x : ℕ). element m i j * x)
          (weigh-difference p (variable j) (substitute (outer j) g) φ)))));
    }

    -- ---- g undoes f up to order k, and H is g substituted into the terms of order 2 or more

    module _ (k : ℕ) (g H : Map) (o : OriginFixing p g) (h : UndoesBefore p k v (map_of n v f) g)
        (e : (j : ℕ) → j < v
        → Agree p (suc (suc k)) (H j) (substitute (high_terms (map_of n v f j)) g)) where
      -- what the turn makes of g is g up to order k
      pub settled : (i : ℕ) → i < v
          → Agree p (suc k)
          (combination v (element r i) (λ j. add (scale (p - 1) (variable j)) (H j))) (g i)
      settled i l =
          agree_trans p (agree_down p (omega arith) (turn-made g H e i l))
          (turn-close p v pos few outer F m I.right k g o h i)

      module _ (g' : Map)
          (same : (i : ℕ) → i < v
          → Agree p (suc (suc k)) (g' i)
          (combination v (element r i) (λ j. add (scale (p - 1) (variable j)) (H j)))) where
        cut : (j : ℕ) → j < v
            → Agree p (suc (suc k)) (compose outer g j) (compose outer g j)
        cut j l = agree_refl p (compose outer g j)

        whole : (i : ℕ) → i < v
            → Agree p (suc (suc k)) (g' i) (turn p v m g (compose outer g) i)
        whole i l = agree_trans p (same i l) (turn-made g H e i l)

        pub raised-origin : (i : ℕ) → i < v → FromOrder p 1 (g' i)
        raised-origin =
            turned_from p v pos few outer F m I.right k g o h (compose outer g) g' cut whole

        pub raised-undoes : UndoesBefore p (suc k) v (map_of n v f) g'
        raised-undoes =
            turned_undoes p v pos few outer F m I.right k g o h (compose outer g) g' cut whole

  -- ---- the start

  -- any map that fixes the origin undoes f up to order 0
  pub undoes_start : (g : Map) → OriginFixing p g → UndoesBefore p 0 v (map_of n v f) g
  unfolding compose
  undoes_start g o = record {
    component = λ i l.
        agree_trans p (from-substitute p (outer i) g o (F.origin i))
        (agree_sym p (from-variable p i));
  }
