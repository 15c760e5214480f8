-- After the last turn: the listed map is spread by position and packed into images. These are the words of
-- a map that agrees with the listed one up to order n, and so undoes what that undoes.
use Rattle.std.proofs.Common.{ℕ, suc, ◌+◌, ◌*◌, ◌%◌, ◌≤◌, ◌<◌, ◌≡◌, sym, ap, ◌∙◌, subst, List, ◌++◌, mod-lt, mul-one, mul-le-mul_right, suc-mul, arith, leb, le→leb, length, get_or, drop, length-append, length-drop, drop_at}
use Rattle.algebra.specs.Polynomial.{order, indicator, coefficient_of}
use Rattle.algebra.specs.Substitution.{compose}
use Rattle.algebra.specs.Agreement.{Agree}
use Rattle.algebra.proofs.Agreement.{agree_trans, agree_down}
use Rattle.algebra.proofs.Booleans.{indicator-yes}
use Rattle.algebra.proofs.Modulo.{mod-cong}
use Rattle.algebra.proofs.Truncation.{agree_substitute_below}
use Rattle.residue.proofs.Inverses.{prime_positive}
use Rattle.linear.specs.Matrix.{Matrix}
use Rattle.monomial.specs.Count.{count}
use Rattle.monomial.specs.Enumeration.{upto}
use Rattle.series.specs.Image.{component, coefficient_at, packed, image_of, map_of, monomial_at}
use Rattle.series.proofs.Parts.{part_at, length-parts}
use Rattle.series.proofs.Positions.{order-monomial_at}
use Rattle.product.specs.Regions.{Placed}
use Rattle.substitution.specs.Levels.{Cut}
use Rattle.substitution.proofs.Regions.{coefficient_of-placed, placed_within}
use Rattle.walk.specs.Walking.{inner}
use Rattle.composition.specs.Parts.{nth_part, packed_words, PackIn}
use Rattle.composition.proofs.Filling.{length-packed_words}
use Rattle.composition.proofs.Listing.{component-part}
use Rattle.inversion.specs.Undoing.{UndoesBefore}
use Rattle.inversion.proofs.Loop.{Turned}
use Rattle.inversion.proofs.Words.{map_of-fixing}
use Rattle.turn.specs.Vectors.{Vectors}
use Rattle.turn.proofs.PartWords.{component-word, component-whole}
use Rattle.turn.proofs.PackedParts.{packed-map, packed-reads}
use Rattle.growth.specs.Spreading.{SpreadIn, Spread}
use Rattle.iteration.specs.Turning.{Task, Growing}
use Rattle.iteration.proofs.TurnSteps.{map-fixing, few_words, cut_at}
use Rattle.iteration.proofs.Positive.{positive_from}

module _ {n v N E p : ℕ} {neg : Matrix} {t map w : List ℕ} {ends : List (List ℕ)} {ys : ℕ → List ℕ}
    (T : Task n v N E p neg t map) (G : Growing p n v N n map w ends ys) (g : List ℕ)
    (parts_in : v * (N + 1) ≤ length g) where
  pub spread_asks : SpreadIn n v N E p t w ends g
  spread_asks = record {
    table = T.table;
    modulus_low = prime_positive T.modulus.prime;
    modulus_high = T.modulus.small;
    parts_in = parts_in;
    lists = (ys, G.lists, G.reduced);
  }

  C : Cut p n v N n
  C = cut_at T (omega arith)

  placed : (k : ℕ) → k < v → Placed (count n v) (ys k)
  placed k l = subst (λ (z : ℕ). Placed z (ys k)) T.table.N_is (G.lists.listed k l).placed

  module _ {g2 : List ℕ} (S : Spread n v N p w ends g g2) where
    word : (k q : ℕ) → k < v → 1 ≤ q → q ≤ N
        → get_or (component n v k g2) q 0 ≡ coefficient_at (ys k) q % p
    word k q l a h =
        component-word n v N T.table.N_is g2 k q h ∙ S.word ys G.lists G.reduced k q l a h

    coefficient-is : (k q : ℕ) → k < v → 1 ≤ q → q ≤ N
        → coefficient_at (ys k) q
        ≡ coefficient_of (monomial_at n v q) (inner n v ys k)
        * indicator (leb (order (monomial_at n v q)) n)
    coefficient-is k q l a h =
        let b : q ≤ count n v = omega (arith, T.table.N_is) in
        let m = monomial_at n v q in
        sym
        (ap (λ (x : ℕ). coefficient_of m (inner n v ys k) * x)
        (indicator-yes (leb (order m) n) (le→leb (order m) n (order-monomial_at n v q a b)))
        ∙ mul-one (coefficient_of m (inner n v ys k))
        ∙ coefficient_of-placed n v (ys k) (placed k l) q a b)

    held : Vectors p n v N 0 n g2 (inner n v ys)
    held = record {
      each = λ k l. record {
        size =
            component-whole n v N T.table.N_is g2 k
            (omega (arith, S.size, suc-mul k (N + 1), mul-le-mul_right (N + 1) l));
        small = λ q a h.
            rw (word k q l a h)
            (mod-lt (coefficient_at (ys k) q) (prime_positive T.modulus.prime));
        residue = λ q a h o. word k q l a h ∙ mod-cong p (coefficient-is k q l a h);
      };
    }

    pub packing_asks : PackIn N v g2
    packing_asks = record {
      small = omega (arith, few_words T);
      result_in = omega (arith, S.size, parts_in);
      residues = λ i q l a b.
          let h = rw (component-part n v N i g2 T.table.N_is) at ((held.each i l).small q a b) in
          omega (arith, T.modulus.small);
    }

    module _ {g3 : List ℕ}
        (e : g3 ≡ upto (λ i. packed_words N (nth_part N i g2)) v ++ drop (v * (N + 1)) g2) where
      abbrev images : ℕ → List ℕ
      images i = packed_words N (nth_part N i g2)

      front : length (upto images v) ≡ v * (N + 1)
      front = length-parts images (N + 1) (λ i. length-packed_words N (nth_part N i g2)) v

      pub ended_size : length g3 ≡ length g
      ended_size =
          ap length e
          ∙ length-append (upto images v) (drop (v * (N + 1)) g2)
          ∙ omega (arith, front, length-drop (v * (N + 1)) g2, S.size, parts_in)

      pub ended_rest : drop (v * (N + 1)) g3 ≡ drop (v * (N + 1)) g
      ended_rest =
          ap (drop (v * (N + 1))) e
          ∙ drop_at (upto images v) (drop (v * (N + 1)) g2) (v * (N + 1)) front
          ∙ S.rest

      packed-part : (i : ℕ) → i < v
          → component n v i g3 ≡ image_of N (packed (λ x. get_or (component n v i g2) x 0) N)
      unfolding packed_words
      packed-part i l =
          component-part n v N i g3 T.table.N_is
          ∙ ap (nth_part N i) e
          ∙ part_at images (N + 1) (λ i. length-packed_words N (nth_part N i g2)) v i l
          (drop (v * (N + 1)) g2)
          ∙ ap (packed_words N) (sym (component-part n v N i g2 T.table.N_is))

      reads : (i : ℕ) → i < v → Agree p (suc n) (map_of n v g3 i) (inner n v ys i)
      reads i l = packed-reads C held g3 packed-part i l (placed_within n v (ys i) (placed i l))

      undoes : UndoesBefore p n v (map_of n v map) (map_of n v g3)
      unfolding compose
      undoes = record {
        component = λ i l.
            agree_trans p
            (agree_substitute_below p v (map_of n v map i) (map_of n v g3) (inner n v ys)
            ((map-fixing T).within i l) reads)
            (G.undoes.component i l);
      }

      pub ended : Turned p n v n map g3
      ended = record {
        is_map = packed-map C held g3 packed-part;
        fixing =
            map_of-fixing (packed-map C held g3 packed-part)
            (λ i l.
            agree_trans p (agree_down p (omega arith) (reads i l))
            (positive_from n v (ys i) (G.positive i) p));
        undoes = undoes;
      }
