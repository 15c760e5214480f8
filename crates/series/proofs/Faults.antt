-- Words 1 to N, of which the first m are to be entries: none is faulty if and only if the first m
-- are entries in their proper form and the others are zero. Each test is one step of `Ascending`.
use Rattle.std.proofs.Common.{cond, ◌≡◌, refl, ap, ap₂, ◌∙◌, subst, Bool, true, false, List, [], ◌∷◌, ◌++◌, ℕ, zero, suc, ◌+◌, ◌-◌, ◌≤◌, ◌<◌, arith, T, leb, ltb, eqb, leb→le, le→leb, ltb→lt, lt→ltb, eqb→eq, length, take, drop, replicate, le-leb}
use borrow.Author.Tests.{lt-leb}
use Rattle.algebra.proofs.Booleans.{and_intro, and_left, and_right}
use Rattle.series.specs.Image.{position, coefficient}
use Rattle.series.specs.Faults.{entry_is_good, word_is_good, fault_from}
use Rattle.series.specs.Series.{Entry, Ascending, none, next}

-- ---- the test of one word

module _ (p N last w : ℕ) where
  pub good_to_entry : T (entry_is_good p N last w) → Entry p N last w
  unfolding entry_is_good
  good_to_entry t =
      let t1 = and_right (ltb last (position w)) _ t in
      let t2 = and_right (leb (position w) N) _ t1 in
      record {
        above = ltb→lt last (position w) (and_left (ltb last (position w)) _ t);
        inside = leb→le (position w) N (and_left (leb (position w) N) _ t1);
        nonzero = ltb→lt 0 (coefficient w) (and_left (ltb 0 (coefficient w)) _ t2);
        reduced = ltb→lt (coefficient w) p (and_right (ltb 0 (coefficient w)) _ t2);
      }

  pub entry_to_good : Entry p N last w → T (entry_is_good p N last w)
  unfolding entry_is_good
  entry_to_good x =
      and_intro (ltb last (position w)) _ (lt→ltb last (position w) x.above)
      (and_intro (leb (position w) N) _ (le→leb (position w) N x.inside)
      (and_intro (ltb 0 (coefficient w)) _ (lt→ltb 0 (coefficient w) x.nonzero)
      (lt→ltb (coefficient w) p x.reduced)))

module _ (p N m : ℕ) where
  pub word_is_good-entry : (k last w : ℕ) → k ≤ m
      → word_is_good p N m k last w ≡ entry_is_good p N last w
  unfolding word_is_good
  word_is_good-entry k last w l = rw (le-leb k m l)

  pub word_is_good-zero : (k last w : ℕ) → m < k → word_is_good p N m k last w ≡ eqb w 0
  unfolding word_is_good
  word_is_good-zero k last w l = rw (lt-leb k m l)

  -- ---- one word, and the rest

  module _ (k last w : ℕ) (ws : List ℕ) where
    -- the first fault among the words behind w
    abbrev later : ℕ
    later = fault_from p N m (suc k) (position w) ws

    pub fault_from-good : T (word_is_good p N m k last w)
        → fault_from p N m k last (w ∷ ws) ≡ fault_from p N m (suc k) (position w) ws
    unfolding fault_from
    fault_from-good t = go (word_is_good p N m k last w) t
      where
        go : (b : Bool) → T b → cond b later k ≡ later
        go true t = refl
        go false t = absurd t

    pub fault_from-faulty : (T (word_is_good p N m k last w) → ⊥)
        → fault_from p N m k last (w ∷ ws) ≡ k
    unfolding fault_from
    fault_from-faulty t = go (word_is_good p N m k last w) t
      where
        go : (b : Bool) → (T b → ⊥) → cond b later k ≡ k
        go true t = absurd (t tt)
        go false t = refl

    -- where no word is faulty the first is good, and no later one is faulty
    fault_from-first : fault_from p N m k last (w ∷ ws) ≡ k + suc (length ws)
        → T (word_is_good p N m k last w) × (later ≡ suc k + length ws)
    unfolding fault_from
    fault_from-first = go (word_is_good p N m k last w)
      where
        go : (b : Bool) → cond b later k ≡ k + suc (length ws)
            → T b × (later ≡ suc k + length ws)
        go true e = (tt, omega arith)
        go false e = absurd (omega arith)

  pub fault_from-bound : (k last : ℕ) (ws : List ℕ) → fault_from p N m k last ws ≤ k + length ws
  unfolding fault_from
  fault_from-bound k last [] = omega arith
  fault_from-bound k last (w ∷ ws) =
      go (word_is_good p N m k last w) (fault_from-bound (suc k) (position w) ws)
    where
      go : (b : Bool) → later k last w ws ≤ suc k + length ws
          → cond b (later k last w ws) k ≤ k + suc (length ws)
      go true l = omega arith
      go false l = omega arith

  -- ---- the zeros behind the entries

  zeros : (k last : ℕ) (ws : List ℕ) → m < k → fault_from p N m k last ws ≡ k + length ws
      → ws ≡ replicate (length ws) 0
  zeros k last [] l e = refl
  zeros k last (w ∷ ws) l e =
      let r = fault_from-first k last w ws e in
      let z : w ≡ 0 = eqb→eq w 0 (subst T (word_is_good-zero k last w l) r.0) in
      ap₂ ◌∷◌ z (zeros (suc k) (position w) ws (omega arith) r.1)

  zeros-pass : (k last r : ℕ) → m < k → fault_from p N m k last (replicate r 0) ≡ k + r
  unfolding fault_from
  zeros-pass k last zero l = omega arith
  zeros-pass k last (suc r) l =
      fault_from-good k last 0 (replicate r 0) (rw (word_is_good-zero k last 0 l) tt)
      ∙ zeros-pass (suc k) (position 0) r (omega arith)
      ∙ omega arith

  -- ---- the j entries from word k on, and the zeros

  pub fault_none_to_entries : (j k last : ℕ) (ws : List ℕ) → k + j ≡ suc m → j ≤ length ws
      → fault_from p N m k last ws ≡ k + length ws
      → Ascending p N last (take j ws) × (drop j ws ≡ replicate (length ws - j) 0)
  fault_none_to_entries zero k last ws i l e =
      let z : length ws ≡ length ws - 0 = omega arith in
      (none, zeros k last ws (omega arith) e ∙ ap (λ (y : ℕ). replicate y 0) z)
  fault_none_to_entries (suc j) k last [] i l e = absurd (omega arith)
  fault_none_to_entries (suc j) k last (w ∷ ws) i l e =
      let r = fault_from-first k last w ws e in
      let g = subst T (word_is_good-entry k last w (omega arith)) r.0 in
      let s =
      fault_none_to_entries j (suc k) (position w) ws (omega arith) (omega arith) r.1 in
      let z : length ws - j ≡ suc (length ws) - suc j = omega arith in
      (next (good_to_entry p N last w g) s.0, s.1 ∙ ap (λ (y : ℕ). replicate y 0) z)

  pub entries_to_fault_none : (k last r : ℕ) {es : List ℕ} → Ascending p N last es
      → k + length es ≡ suc m → fault_from p N m k last (es ++ replicate r 0) ≡ suc m + r
  entries_to_fault_none k last r none i = zeros-pass k last r (omega arith) ∙ omega arith
  entries_to_fault_none k last r (next {w = w} {es = es} x a) i =
      let g : T (word_is_good p N m k last w) =
      rw (word_is_good-entry k last w (omega arith)) (entry_to_good p N last w x) in
      fault_from-good k last w (es ++ replicate r 0) g
      ∙ entries_to_fault_none (suc k) (position w) r a (omega arith)
