use Rattle.std.proofs.Common.{◌≡◌, refl, sym, ap, ap₂, ◌∙◌, ◌⊎◌, inl, inr, ⊎_elim, List, [], ◌++◌, append-nil, map, ℕ, ◌+◌, ◌-◌, ◌*◌, ◌%◌, ◌≤◌, ◌<◌, mod-lt, mod-eq_of_lt, arith, length, get_or, drop, rules}
use Rattle.std.proofs.Math.Nat.{mod-mod}
use Rattle.residue.specs.Modulus.{Prime}
use Rattle.residue.proofs.Modular.{add-congruent}
use Rattle.residue.proofs.Inverses.{prime_small}
use Rattle.series.specs.Image.{position, coefficient, entries, entry_of, scaled, packed}
use Rattle.series.specs.Over.{over}
use Rattle.series.specs.Series.{Entry, IsSeries}
use Rattle.series.proofs.Series.{fault_none_to_long, fault_none_to_series}
use Rattle.series.proofs.Series.{length-entries}
use Rattle.series.proofs.CodeWords.{entry_read}
use Rattle.combination.proofs.CodeWritten.{Room, Written, nothing_written, all-written}
use Rattle.combination.proofs.CodeWritten.{at_high, room, more-written}
use Rattle.combination.specs.Terms.{AtEntries, AtResidues, Multiplies}
use Rattle.combination.proofs.CodeMultiple.{length-multiples, nonzero}
use Rattle.combination.proofs.CodeCombine.{combined, first-turn, second-turn, both_turn}
use Rattle.combination.proofs.CodeCombine.{entry-is, few, tails}
use Rattle.combination.proofs.combine.Given.{Over}
use Rattle.combination.proofs.combine.Goals as goal
use Rattle.combination.proofs.combine.Goals.{Start, After-position-s, Left-loop-i}
use Rattle.combination.proofs.combine.Goals.{then-loop-i-test+else-j-n, else-loop-i-test}

-- what is left to write behind i entries of a and j of b
abbrev left : List ℕ → List ℕ → ℕ → ℕ → ℕ → ℕ → ℕ → List ℕ
left a b d N p i j = packed (combined p d (drop i (entries a)) (drop j (entries b))) N

-- ---- what the call is given: two series, and room for a third
record Given (a b s₀ : List ℕ) (d N p : ℕ) : Type 0 where
  low : 0 < N
  high : N < 65535
  positive : 0 < d
  less : d < p
  fits : N + 1 ≤ length s₀
  first : IsSeries p N a
  second : IsSeries p N b
  prime : Prime p
  large : 65280 < p
  small : p ≤ 65536

given : (h : Over) (c : Start h) {d : ℕ} → Multiplies c.args.lim.p (goal.F-post h c.args.term) d
    → Given c.args.a.now c.args.b.now c.args.res.now d c.args.lim.count c.args.lim.p
given h c k =
    let r = c.requires in
    let lim = c.args.lim in
    let p = lim.p in
    let N = lim.count in
    record {
      low = lim.positions.0;
      high = lim.positions.1;
      positive = k.positive;
      less = k.less;
      fits = r.count_in_bounds;
      first = fault_none_to_series p N _ r.a_value (fault_none_to_long p N lim.positions.0 _ r.a_value);
      second = fault_none_to_series p N _ r.b_value (fault_none_to_long p N lim.positions.0 _ r.b_value);
      prime = lim.prime.0;
      large = lim.prime.1;
      small = lim.prime.2;
    }

-- by some number
some : (h : Over) (c : Start h)
    → Given c.args.a.now c.args.b.now c.args.res.now c.requires.multiplies.0 c.args.lim.count c.args.lim.p
some h c = given h c c.requires.multiplies.1

module _ {a b s₀ : List ℕ} {d N p : ℕ} (g : Given a b s₀ d N p) where
  below : p < 65536
  below = prime_small g.prime g.small

  -- the numbers of entries
  m : length (entries a) ≡ get_or a 0 0
  m = length-entries p N g.first

  n : length (entries b) ≡ get_or b 0 0
  n = length-entries p N g.second

  space : Room N s₀ (left a b d N p 0 0)
  space =
      record {
        few = few p N d g.first.ascending g.second.ascending (omega (arith, g.large))
            (omega (arith, below));
        fits = g.fits;
      }

  -- words i + 1 of a and j + 1 of b
  long-a : get_or a 0 0 < length a
  long-a = omega (arith, g.first.few, g.first.long)

  long-b : get_or b 0 0 < length b
  long-b = omega (arith, g.second.few, g.second.long)

  large-positive : 0 < p
  large-positive = omega (arith, g.large)

  -- the coefficients are residues other than 0, and so are the terms
  residues-a : AtEntries a (λ x. (0 < x) × (x < p))
  residues-a k l =
      let e = entry-is g.first.ascending k _ (entry_read a k 4294967295 l long-a) (omega (arith, m, l)) in
      (e.nonzero, e.reduced)

  residues-b : AtEntries b (λ x. (0 < x) × (x < p))
  residues-b k l =
      let e = entry-is g.second.ascending k _ (entry_read b k 4294967295 l long-b) (omega (arith, n, l)) in
      (e.nonzero, e.reduced)

  term-residue : (x y : ℕ) → (0 < x) × (x < p) → y ≡ (d * x) % p → (0 < y) × (y < p)
  term-residue x y r e = (
    omega (arith, e, nonzero g.prime g.small d g.positive g.less x r.0 r.1),
    omega (arith, e, mod-lt (d * x) large-positive),
  )

  -- what says a term says the entries that are written
  all-of-b : {P : ℕ → Type 0} → AtResidues p P → AtEntries b P
  all-of-b h k l = let r = residues-b k l in h _ r.0 r.1

  once : AtEntries a (λ x. (y : ℕ) → y ≡ x → y ≡ (1 * x) % p)
  once k l y e = e ∙ sym (ap (λ z. z % p) (omega arith) ∙ mod-eq_of_lt (residues-a k l).1)

-- ---- a turn: both have an entry left, and stand at q and s
record Turn (a b : List ℕ) (i j q s : ℕ) : Type 0 where
  more-a : i < get_or a 0 0
  more-b : j < get_or b 0 0
  q-is : q ≡ position (get_or a (i + 1) 0)
  q-low : q < 65536
  s-is : s ≡ position (get_or b (j + 1) 0)
  s-low : s < 65536

turn : (h : Over) (c : After-position-s h)
    → Turn c.args.a.now c.args.b.now c.loop-i.i c.loop-i.j c.position-q.result c.position-s.result
turn h c =
    record {
      more-a = c.loop-i-test.true;
      more-b = c.if-j-n.true;
      q-is = c.position-q.ensures.0;
      q-low = c.position-q.ensures.1;
      s-is = c.position-s.ensures.0;
      s-low = c.position-s.ensures.1;
    }

module _ {a b s₀ : List ℕ} {d N p : ℕ} (g : Given a b s₀ d N p) {i j q s : ℕ}
    (t : Turn a b i j q s) where
  abbrev u : ℕ
  u = get_or a (i + 1) 0

  abbrev v : ℕ
  v = get_or b (j + 1) 0

  u-is : get_or a (i + 1) 0 ≡ get_or (entries a) i 4294967295
  u-is = entry_read a i 4294967295 t.more-a (long-a g)

  v-is : get_or b (j + 1) 0 ≡ get_or (entries b) j 4294967295
  v-is = entry_read b j 4294967295 t.more-b (long-b g)

  u-entry : Entry p N 0 (get_or a (i + 1) 0)
  u-entry = entry-is g.first.ascending i u u-is (omega (arith, m g, t.more-a))

  v-entry : Entry p N 0 (get_or b (j + 1) 0)
  v-entry = entry-is g.second.ascending j v v-is (omega (arith, n g, t.more-b))

  v-residue : (y : ℕ) → y ≡ coefficient (get_or b (j + 1) 0) → (0 < y) × (y < p)
  v-residue y e = (omega (arith, e, v-entry.nonzero), omega (arith, e, v-entry.reduced))

  only-first : (c : ℕ) → c ≡ coefficient (get_or a (i + 1) 0) → q < s
      → left a b d N p i j ≡ entry_of q c ++ left a b d N p (i + 1) j
  only-first c e l =
      (first-turn p N d g.first.ascending g.second.ascending i j u v q c u-is v-is t.q-is e
      (omega (arith, t.s-is)) (omega (arith, t.s-is, t.s-low))).1

  only-second : (c : ℕ) → c ≡ (d * coefficient (get_or b (j + 1) 0)) % p → s < q
      → left a b d N p i j ≡ entry_of s c ++ left a b d N p i (j + 1)
  only-second c e l =
      (second-turn p N d g.first.ascending g.second.ascending i j u v s c u-is v-is t.s-is e
      (omega (arith, t.q-is)) (omega (arith, t.q-is, t.q-low))).1

  both : (c : ℕ)
      → c ≡ (coefficient (get_or a (i + 1) 0) + d * coefficient (get_or b (j + 1) 0)) % p
      → q ≡ s → left a b d N p i j ≡ entry_of q c ++ left a b d N p (i + 1) (j + 1)
  both c e l =
      (both_turn p N d g.first.ascending g.second.ascending i j u v q c u-is v-is g.high
      (omega (arith, m g, n g, t.more-a, t.more-b)) t.q-is (l ∙ t.s-is) e).2

  -- the coefficients x of a and y of b, z of d b
  second-only : (y z : ℕ) → y ≡ coefficient (get_or b (j + 1) 0) → z ≡ (d * y) % p → s < q
      → left a b d N p i j ≡ entry_of s z ++ left a b d N p i (j + 1)
  second-only y z e f l = only-second z (f ∙ ap (λ x. (d * x) % p) e) l

  sum : (x y z c : ℕ) → x ≡ coefficient (get_or a (i + 1) 0)
      → y ≡ coefficient (get_or b (j + 1) 0) → z ≡ (d * y) % p → c ≡ (x + z) % p → q ≡ s
      → left a b d N p i j ≡ entry_of q c ++ left a b d N p (i + 1) (j + 1)
  sum x y z c e f h k l =
      both c
      (k
      ∙ ap₂ (λ r w. (r + w) % p) e (h ∙ ap (λ w. (d * w) % p) f)
      ∙ add-congruent p _ _ _ (d * coefficient v) refl (mod-mod _ _))
      l

-- ---- one of the two has none left
record Ended (a b s₀ : List ℕ) (d N p i j at : ℕ) (s : List ℕ) : Type 0 where
  a-in : i ≤ get_or a 0 0
  b-in : j ≤ get_or b 0 0
  end : (get_or a 0 0 ≤ i) ⊎ (get_or b 0 0 ≤ j)
  written : Written s₀ (left a b d N p 0 0) (left a b d N p i j) at s

ended : (h : Over) (c : Left-loop-i h) {d : ℕ} → Multiplies c.args.lim.p (goal.F-post h c.args.term) d
    → Ended c.args.a.now c.args.b.now c.args.res.now d c.args.lim.count c.args.lim.p
    c.loop-i.i c.loop-i.j c.loop-i.at c.loop-i.res
ended h c k =
    record {
      a-in = c.loop-i.invariant.0;
      b-in = c.loop-i.invariant.1;
      end = elim c.loop-i-test.branch [
        | then-loop-i-test+else-j-n w ↦ inr w.if-j-n.false
        | else-loop-i-test w ↦ inl w.loop-i-test.false
      ];
      written = c.loop-i.invariant.2 _ k;
    }

module _ {a b s₀ : List ℕ} {d N p : ℕ} (g : Given a b s₀ d N p) {i j at : ℕ} {s : List ℕ}
    (o : Ended a b s₀ d N p i j at s) where
  -- the rest of a, and that of b
  abbrev xs : List ℕ
  xs = map (scaled p 1) (drop i (entries a))

  abbrev ys : List ℕ
  ys = map (scaled p d) (drop j (entries b))

  ends : left a b d N p i j ≡ xs ++ ys
  ends =
      tails g.prime g.small d g.positive g.less N g.first.ascending g.second.ascending i j
      (⊎_elim (λ x. inl (omega (arith, m g))) (λ x. inr (omega (arith, n g))) o.end)

  long-xs : length xs ≡ get_or a 0 0 - i
  long-xs = length-multiples p 1 i a o.a-in (long-a g)

  long-ys : length ys ≡ get_or b 0 0 - j
  long-ys = length-multiples p d j b o.b-in (long-b g)

  room-xs : at + (get_or a 0 0 - i) ≤ length s
  room-xs = omega (arith, long-xs, room (space g) o.written xs ys ends)

  -- behind the rest of a
  first-written : (k : ℕ) (r : List ℕ) → k ≡ at + (get_or a 0 0 - i)
      → r ≡ over s at (map (scaled p 1) (drop i (entries a)))
      → Written s₀ (left a b d N p 0 0) ys k r
  first-written k r e f =
      more-written (space g) o.written xs ys ends (e ∙ ap (λ x. at + x) (sym long-xs)) f

  module _ {k : ℕ} {r : List ℕ} (w : Written s₀ (left a b d N p 0 0) ys k r) where
    room-ys : k + (get_or b 0 0 - j) ≤ length r
    room-ys = omega (arith, long-ys, room (space g) w ys [] (sym (append-nil ys)))

    -- and behind that of b
    all : (k' : ℕ) (r' : List ℕ) → k' ≡ k + (get_or b 0 0 - j)
        → r' ≡ over r k (map (scaled p d) (drop j (entries b)))
        → Written s₀ (left a b d N p 0 0) [] k' r'
    all k' r' e f =
        more-written (space g) w ys [] (sym (append-nil ys))
        (e ∙ ap (λ x. k + x) (sym long-ys)) f

-- ---- the answers
pub bounds-a-0 : goal.bounds-a-0
bounds-a-0 g c = let l = long-a (some g (goal.at.bounds-a-0 g c).Start) in omega arith

pub bounds-b-0 : goal.bounds-b-0
bounds-b-0 g c = let l = long-b (some g (goal.at.bounds-b-0 g c).Start) in omega arith

pub loop-i-init : goal.loop-i-init
loop-i-init g c = (omega arith, omega arith, λ d k. nothing_written _ _)

pub bounds-a-i : goal.bounds-a-i
bounds-a-i g c =
    let l = long-a (some g (goal.at.bounds-a-i g c).Start) in
    omega arith

pub bounds-b-j : goal.bounds-b-j
bounds-b-j g c =
    let l = long-b (some g (goal.at.bounds-b-j g c).Start) in
    omega arith

-- the first stands before the second
pub keep-at-requires-clause-c_nonzero : goal.keep-at-requires-clause-c_nonzero
keep-at-requires-clause-c_nonzero g c =
    let x = goal.at.keep-at-requires-clause-c_nonzero g c in
    let e = c.coefficient-c.ensures in
    let l = (u-entry (some g x.Start) (turn g x.After-position-s)).nonzero in
    (omega (arith, e.0), e.1)

pub keep-at-requires-clause-c_in_bounds : goal.keep-at-requires-clause-c_in_bounds
keep-at-requires-clause-c_in_bounds g c =
    let x = goal.at.keep-at-requires-clause-c_in_bounds g c in
    let h = some g x.Start in
    room (space h) (c.loop-i.invariant.2 _ c.requires.multiplies.1) _ _
    (only-first h (turn g x.After-position-s) _ c.coefficient-c.ensures.0 c.if-q-s.true)

pub loop-i-preserved-then-q-s : goal.loop-i-preserved-then-q-s
loop-i-preserved-then-q-s g c =
    let x = goal.at.loop-i-preserved-then-q-s g c in
    let w = c.keep-at.ensures in (
      omega arith,
      c.loop-i.invariant.1,
      λ d k.
          let h = given g x.Start k in
          more-written (space h) (c.loop-i.invariant.2 d k) _ _
          (only-first h (turn g x.After-position-s) _ c.coefficient-c.ensures.0 c.if-q-s.true)
          w.value w.res_after,
    )

-- the second stands before the first
pub term-c-requires : goal.term-c-requires
term-c-requires g c =
    let x = goal.at.term-c-requires g c in
    let r = v-residue (some g x.Start) (turn g x.After-position-s) _ c.coefficient.ensures.0 in
    c.requires.callable _ r.0 r.1

pub keep-at-requires-then-s-q-clause-c_nonzero : goal.keep-at-requires-then-s-q-clause-c_nonzero
keep-at-requires-then-s-q-clause-c_nonzero g c =
    let x = goal.at.keep-at-requires-then-s-q-clause-c_nonzero g c in
    let h = some g x.Start in
    let r = v-residue h (turn g x.After-position-s) _ c.coefficient.ensures.0 in
    let t = term-residue h _ _ r (c.requires.multiplies.1.times _ r.0 r.1 _ c.term-c.ensures) in
    (t.0, omega (arith, t.1, below h))

pub keep-at-requires-then-s-q-clause-c_in_bounds : goal.keep-at-requires-then-s-q-clause-c_in_bounds
keep-at-requires-then-s-q-clause-c_in_bounds g c =
    let x = goal.at.keep-at-requires-then-s-q-clause-c_in_bounds g c in
    let k = c.requires.multiplies.1 in
    let h = some g x.Start in
    let t = turn g x.After-position-s in
    let e = c.coefficient.ensures.0 in
    let r = v-residue h t _ e in
    room (space h) (c.loop-i.invariant.2 _ k) _ _
    (second-only h t _ _ e (k.times _ r.0 r.1 _ c.term-c.ensures) c.if-s-q.true)

pub loop-i-preserved-then-s-q : goal.loop-i-preserved-then-s-q
loop-i-preserved-then-s-q g c =
    let x = goal.at.loop-i-preserved-then-s-q g c in
    let t = turn g x.After-position-s in
    let e = c.coefficient.ensures.0 in
    let w = c.keep-at-then-s-q.ensures in (
      c.loop-i.invariant.0,
      omega arith,
      λ d k.
          let h = given g x.Start k in
          let r = v-residue h t _ e in
          more-written (space h) (c.loop-i.invariant.2 d k) _ _
          (second-only h t _ _ e (k.times _ r.0 r.1 _ c.term-c.ensures) c.if-s-q.true)
          w.value w.res_after,
    )

-- both stand at one position
pub term-requires : goal.term-requires
term-requires g c =
    let x = goal.at.term-requires g c in
    let r = v-residue (some g x.Start) (turn g x.After-position-s) _ c.coefficient-else-s-q-2.ensures.0 in
    c.requires.callable _ r.0 r.1

pub add-c-requires-clause-a_lt_p : goal.add-c-requires-clause-a_lt_p
add-c-requires-clause-a_lt_p g c =
    let x = goal.at.add-c-requires-clause-a_lt_p g c in
    let e = c.coefficient-else-s-q.ensures.0 in
    let y = (u-entry (some g x.Start) (turn g x.After-position-s)).reduced in
    omega (arith, e)

pub add-c-requires-clause-p_bound : goal.add-c-requires-clause-p_bound
add-c-requires-clause-p_bound g c =
    below (some g (goal.at.add-c-requires-clause-p_bound g c).Start)

pub add-c-requires-clause-b_lt_p : goal.add-c-requires-clause-b_lt_p
add-c-requires-clause-b_lt_p g c =
    let x = goal.at.add-c-requires-clause-b_lt_p g c in
    let h = some g x.Start in
    let r = v-residue h (turn g x.After-position-s) _ c.coefficient-else-s-q-2.ensures.0 in
    (term-residue h _ _ r (c.requires.multiplies.1.times _ r.0 r.1 _ c.term.ensures)).1

pub put-at-requires-clause-c_in_bounds : goal.put-at-requires-clause-c_in_bounds
put-at-requires-clause-c_in_bounds g c =
    let x = goal.at.put-at-requires-clause-c_in_bounds g c in
    let k = c.requires.multiplies.1 in
    let h = some g x.Start in
    let t = turn g x.After-position-s in
    let e = c.coefficient-else-s-q-2.ensures.0 in
    let r = v-residue h t _ e in
    let l : c.position-q.result ≡ c.position-s.result = omega arith in
    room (space h) (c.loop-i.invariant.2 _ k) _ _
    (sum h t _ _ _ _ c.coefficient-else-s-q.ensures.0 e (k.times _ r.0 r.1 _ c.term.ensures) c.add-c.ensures.0 l)

pub loop-i-preserved : goal.loop-i-preserved
loop-i-preserved g c =
    let x = goal.at.loop-i-preserved g c in
    let t = turn g x.After-position-s in
    let e = c.coefficient-else-s-q-2.ensures.0 in
    let w = c.put-at.ensures in
    let l : c.position-q.result ≡ c.position-s.result = omega arith in (
      omega arith,
      omega arith,
      λ d k.
          let h = given g x.Start k in
          let r = v-residue h t _ e in
          more-written (space h) (c.loop-i.invariant.2 d k) _ _
          (sum h t _ _ _ _ c.coefficient-else-s-q.ensures.0 e (k.times _ r.0 r.1 _ c.term.ensures)
          c.add-c.ensures.0 l)
          w.value w.res_after,
    )

-- the rest of one of them, and the zeros
pub put_terms-at-requires-clause-words_in_bounds :
    goal.put_terms-at-requires-clause-words_in_bounds
put_terms-at-requires-clause-words_in_bounds g c =
    let x = goal.at.put_terms-at-requires-clause-words_in_bounds g c in
    (c.loop-i.invariant.0, long-a (some g x.Start))

pub put_terms-at-requires-clause-from_in_bounds :
    goal.put_terms-at-requires-clause-from_in_bounds
put_terms-at-requires-clause-from_in_bounds g c =
    let x = goal.at.put_terms-at-requires-clause-from_in_bounds g c in
    room-xs (some g x.Start) (ended g x.Left-loop-i c.requires.multiplies.1)

pub put_terms-at-requires-2-clause-words_in_bounds :
    goal.put_terms-at-requires-2-clause-words_in_bounds
put_terms-at-requires-2-clause-words_in_bounds g c =
    let x = goal.at.put_terms-at-requires-2-clause-words_in_bounds g c in
    (c.loop-i.invariant.1, long-b (some g x.Start))

pub put_terms-at-requires-2-clause-callable : goal.put_terms-at-requires-2-clause-callable
put_terms-at-requires-2-clause-callable g c =
    let x = goal.at.put_terms-at-requires-2-clause-callable g c in
    all-of-b (some g x.Start) c.requires.callable

pub put_terms-at-requires-2-clause-below : goal.put_terms-at-requires-2-clause-below
put_terms-at-requires-2-clause-below g c = λ i l y e.
    let x = goal.at.put_terms-at-requires-2-clause-below g c in
    let h = some g x.Start in
    let r = residues-b h i l in
    omega (arith, below h, (term-residue h _ _ r (c.requires.multiplies.1.times _ r.0 r.1 y e)).1)

pub put_terms-at-requires-2-clause-from_in_bounds :
    goal.put_terms-at-requires-2-clause-from_in_bounds
put_terms-at-requires-2-clause-from_in_bounds g c =
    let x = goal.at.put_terms-at-requires-2-clause-from_in_bounds g c in
    let h = some g x.Start in
    let o = ended g x.Left-loop-i c.requires.multiplies.1 in
    let e = c.put_terms-at.ensures in
    room-ys h o (first-written h o _ _ e.value (e.res_after _ 1 (λ i l y n. once h i l y (search rules))))

pub finish-requires-clause-le_at : goal.finish-requires-clause-le_at
finish-requires-clause-le_at g c =
    let w = c.loop-i.invariant.2 _ c.requires.multiplies.1 in
    omega (arith, w.next, c.put_terms-at.ensures.value, c.put_terms-at-2.ensures.value)

pub finish-requires-clause-at_bound : goal.finish-requires-clause-at_bound
finish-requires-clause-at_bound g c =
    let x = goal.at.finish-requires-clause-at_bound g c in
    let k = c.requires.multiplies.1 in
    let h = some g x.Start in
    let o = ended g x.Left-loop-i k in
    let e = c.put_terms-at.ensures in
    let f = c.put_terms-at-2.ensures in
    at_high (space h)
    (all h o (first-written h o _ _ e.value (e.res_after _ 1 (λ i l y n. once h i l y (search rules)))) _ _ f.value
    (f.res_after _ _ (all-of-b h k.times)))

pub returns : goal.returns
returns g c = λ d k.
    let x = goal.at.returns g c in
    let h = given g x.Start k in
    let o = ended g x.Left-loop-i k in
    let e = c.put_terms-at.ensures in
    let f = c.put_terms-at-2.ensures in
    c.finish.ensures
    ∙ all-written (space h)
    (all h o (first-written h o _ _ e.value (e.res_after _ 1 (λ i l y n. once h i l y (search rules)))) _ _ f.value
    (f.res_after _ d (all-of-b h k.times)))
