-- The parts of the result hold sums of polynomials by position: the constants of the outer series
-- before a walk, and after it what is packed into images.
use Rattle.std.proofs.Common.{ℕ, zero, suc, ◌+◌, ◌-◌, ◌*◌, ◌≤◌, ◌<◌, ◌≡◌, refl, sym, ap, ◌∙◌, List, ◌∷◌, ◌++◌, arith, length, get_or, drop, replicate, length-append}
use Rattle.std.proofs.Math.ListN.{get_or-replicate}
use Rattle.algebra.specs.Polynomial.{Polynomial, constant}
use Rattle.monomial.specs.Enumeration.{upto}
use Rattle.series.specs.Image.{entries, coefficient_at, component}
use Rattle.series.proofs.Parts.{upto-cong, part_at, length-parts}
use Rattle.product.specs.Multiply.{image_to}
use Rattle.substitution.specs.Levels.{Cut, Holds}
use Rattle.substitution.proofs.Regions.{holds-constant, holds-packed}
use Rattle.walk.specs.declared.Plan.{Plan}
use Rattle.walk.specs.Walking.{Sums}
use Rattle.composition.specs.Parts.{nth_part, constant_words, packed_words, PackIn}
use Rattle.composition.proofs.Filling.{length-constant_words}
use Rattle.composition.proofs.Listing.{component-part}

-- c at position 1 is the constant c
constant_words-hold : {p n v N wanted cut : ℕ} → Cut p n v N cut → 1 ≤ N → (k : ℕ) → k < p
    → Holds p n v N wanted cut (constant_words N k) (constant k)
unfolding constant_words
constant_words-hold {p} {n} {v} {N} {wanted} {cut} C some k l =
    holds-constant C k l (0 ∷ k ∷ replicate (N - 1) 0) (length-constant_words N k some) refl later
  where
    later : (q : ℕ) → 2 ≤ q → q ≤ N → get_or (0 ∷ k ∷ replicate (N - 1) 0) q 0 ≡ 0
    later zero a h = absurd (omega arith)
    later (suc zero) a h = absurd (omega arith)
    later (suc (suc q)) a h = get_or-replicate (N - 1) q 0 0 (omega arith)

module _ (s : Plan) (C : Cut s.p s.t.z.n s.t.z.v s.t.z.count s.cut) where
  abbrev N : ℕ
  N = s.t.z.count

  abbrev c : ℕ
  c = s.components

  -- before a walk
  module _ (res res' : List ℕ) (some : 1 ≤ s.t.z.count)
      (inside : s.components * (s.t.z.count + 1) ≤ length res)
      (reduced : (i : ℕ) → i < s.components
      → coefficient_at (entries (component s.t.z.n s.t.z.v i s.outer.now)) 1 < s.p) where
    abbrev κ : ℕ → ℕ
    κ i = coefficient_at (entries (nth_part N i s.outer.now)) 1

    abbrev f : ℕ → List ℕ
    f i = constant_words N (κ i)

    each : (i : ℕ) → length (constant_words N (κ i)) ≡ N + 1
    each i = length-constant_words N (κ i) some

    pub begun-sums : res'
        ≡ upto (λ i. constant_words s.t.z.count (coefficient_at (entries (nth_part s.t.z.count i s.outer.now)) 1))
        s.components
        ++ drop (s.components * (s.t.z.count + 1)) res
        → Sums s res' (λ i. constant (coefficient_at (entries (component s.t.z.n s.t.z.v i s.outer.now)) 1))
    begun-sums e = record {
      inside =
          omega (
            arith,
            ap length e,
            length-append (upto f c) (drop (c * (N + 1)) res),
            length-parts f (N + 1) each c,
          );
      holds = λ i l. holds i l;
    }
      where
        holds : (i : ℕ) → i < c
            → Holds s.p s.t.z.n s.t.z.v N s.wanted s.cut (component s.t.z.n s.t.z.v i res')
            (constant (coefficient_at (entries (component s.t.z.n s.t.z.v i s.outer.now)) 1))
        holds i l =
            let same : component s.t.z.n s.t.z.v i s.outer.now ≡ nth_part N i s.outer.now =
            component-part s.t.z.n s.t.z.v N i s.outer.now C.N_is in
            let here : component s.t.z.n s.t.z.v i res' ≡ f i =
            component-part s.t.z.n s.t.z.v N i res' C.N_is
            ∙ ap (nth_part N i) e
            ∙ part_at f (N + 1) each c i l (drop (c * (N + 1)) res) in
            rw (here, same) (constant_words-hold C some (κ i) (rw same at (reduced i l)))

  -- after it
  module _ {res : List ℕ} {A : ℕ → Polynomial} (S : Sums s res A) where
    pub pack_asks : s.t.z.count < 65536 → PackIn s.t.z.count s.components res
    pack_asks small = record {
      small = small;
      result_in = S.inside;
      residues = λ i q l a b.
          let h : get_or (component s.t.z.n s.t.z.v i res) q 0 < s.p =
          (S.holds i l).small q a b in
          let k = rw (component-part s.t.z.n s.t.z.v N i res C.N_is) at h in
          omega (arith, C.modulus_high);
    }

    -- where all orders are wanted
    pub packed-sums : {res' : List ℕ} → s.wanted ≡ 0
        → res'
        ≡ upto (λ i. packed_words s.t.z.count (nth_part s.t.z.count i res)) s.components
        ++ drop (s.components * (s.t.z.count + 1)) res
        → res'
        ≡ upto (λ i. image_to s.p s.t.z.n s.t.z.v s.cut (A i)) s.components
        ++ drop (s.components * (s.t.z.count + 1)) res
    packed-sums all e =
        e
        ∙ ap (λ (x : List ℕ). x ++ drop (c * (N + 1)) res)
        (upto-cong (λ i. packed_words N (nth_part N i res))
        (λ i. image_to s.p s.t.z.n s.t.z.v s.cut (A i)) c
        (λ i l. packed-part i l))
      where
        packed-part : (i : ℕ) → i < c
            → packed_words N (nth_part N i res) ≡ image_to s.p s.t.z.n s.t.z.v s.cut (A i)
        packed-part i l =
            ap (packed_words N) (sym (component-part s.t.z.n s.t.z.v N i res C.N_is))
            ∙ (unfold packed_words in holds-packed C (S.holds i l) all)
