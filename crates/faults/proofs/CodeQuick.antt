-- A series has no fault if and only if each entry may follow the word before it, the last stands
-- inside, and zeros follow. The quick test counts what breaks these rules.
use Rattle.std.proofs.Common.{◌≡◌, refl, sym, ap, ◌∙◌, Bool, true, false, List, [], ◌∷◌, ℕ, zero, suc, ◌+◌, ◌-◌, ◌≤◌, ◌<◌, add-one, arith, T, leb, eqb, leb→le, le→leb, length, get_or, drop, length-drop, get_or-drop, sum, eq-eqb, ne_eqb, eqb-true}
use Rattle.std.proofs.Math.Decide.{ℕ_discrete, dec_le}
use Rattle.std.proofs.lemmas.List.Sums.{sum_by-cons, get_or-le-sum_by}
use Rattle.algebra.specs.Sum.{sum_to}
use Rattle.algebra.specs.Polynomial.{indicator}
use Rattle.algebra.proofs.Sums.{sum_to-zero}
use Rattle.algebra.proofs.Booleans.{true_of, indicator-yes, indicator-no}
use Rattle.answer.specs.Refusals.{Verdict, passed, declined}
use Rattle.series.specs.Image.{position, coefficient}
use Rattle.series.specs.Faults.{word_is_good, first_fault}
use Rattle.faults.specs.Quick.{misfit, misfits, passes}
use Rattle.series.proofs.Faults.{good_to_entry, entry_to_good, word_is_good-entry, word_is_good-zero}
use Rattle.faults.proofs.CodeArguments.{scan, scan-start, scan_good, scan-faulty, scan-end}

-- ---- what is counted

-- the entry w may follow the word u
abbrev pub Follows : ℕ → ℕ → ℕ → Type 0
Follows p u w = (position u < position w) × (0 < coefficient w) × (coefficient w < p)

-- a test that counts 0 does not hold
counted_none : (x y : ℕ) → indicator (leb x y) ≡ 0 → y < x
counted_none x y e = go (dec_le x y)
  where
    go : Dec (x ≤ y) → y < x
    go (yes l) = absurd (omega (arith, indicator-yes (leb x y) (le→leb x y l)))
    go (no l) = omega arith

none_counted : (x y : ℕ) → y < x → indicator (leb x y) ≡ 0
none_counted x y l = indicator-no (leb x y) (λ t. omega (arith, leb→le x y t))

module _ (p u w : ℕ) where
  follows : misfit p u w ≡ 0 → Follows p u w
  unfolding misfit
  follows e = (
    counted_none (position w) (position u) (omega arith),
    counted_none (coefficient w) 0 (omega arith),
    counted_none p (coefficient w) (omega arith),
  )

  no_misfit : Follows p u w → misfit p u w ≡ 0
  unfolding misfit
  no_misfit f =
      let a = none_counted (position w) (position u) f.0 in
      let b = none_counted (coefficient w) 0 f.1 in
      let c = none_counted p (coefficient w) f.2 in
      omega arith

-- a sum is 0 only where each part is
sum-parts : (f : ℕ → ℕ) (m : ℕ) → sum_to f m ≡ 0 → (k : ℕ) → k < m → f k ≡ 0
unfolding sum_to
sum-parts f zero e k l = absurd (omega arith)
sum-parts f (suc m) e k l = go (ℕ_discrete k m) (sum-parts f m (omega arith) k)
  where
    go : Dec (k ≡ m) → (k < m → f k ≡ 0) → f k ≡ 0
    go (yes q) h = ap f q ∙ omega arith
    go (no q) h = h (omega arith)

-- one part more
pub sum_more : (f : ℕ → ℕ) (m : ℕ) → sum_to f (m + 1) ≡ sum_to f m + f m
unfolding sum_to
sum_more f m = ap (sum_to f) (add-one m)

sum-none : (xs : List ℕ) → ((k : ℕ) → k < length xs → get_or xs k 0 ≡ 0) → sum xs ≡ 0
sum-none [] z = refl
sum-none (x ∷ xs) z =
    let first = z 0 (omega arith) in
    let others = sum-none xs (λ k l. z (suc k) (omega arith)) in
    sum_by-cons (λ y. y) x xs ∙ omega arith

module _ (i : ℕ) (ws : List ℕ) where
  -- the words from i on
  rest-parts : sum (drop i ws) ≡ 0 → (k : ℕ) → i ≤ k → k < length ws → get_or ws k 0 ≡ 0
  rest-parts z k l h =
      let e : i + (k - i) ≡ k = omega arith in
      let at = get_or-drop i ws (k - i) 0 ∙ ap (λ j. get_or ws j 0) e in
      omega (arith, at, z, get_or-le-sum_by (λ x. x) (drop i ws) (k - i) 0 (omega (arith, length-drop i ws)))

  rest-none : ((k : ℕ) → i ≤ k → k < length ws → get_or ws k 0 ≡ 0) → sum (drop i ws) ≡ 0
  rest-none z =
      sum-none (drop i ws)
      (λ j l. get_or-drop i ws j 0 ∙ z (i + j) (omega arith) (omega (arith, length-drop i ws)))

-- ---- the words that the test reads

-- rules that are kept leave no fault
module _ (p N : ℕ) (ws : List ℕ) (long : length ws ≡ N + 1) (small : N < 65536) (m : ℕ)
    (m-is : m ≡ get_or ws 0 0) (few : m ≤ N)
    (follow : (k : ℕ) → k < m → Follows p (get_or ws k 0) (get_or ws (k + 1) 0))
    (last : position (get_or ws m 0) ≤ N)
    (zeros : (k : ℕ) → m + 1 ≤ k → k < N + 1 → get_or ws k 0 ≡ 0) where
  inside : (d k : ℕ) → k + d ≡ m → position (get_or ws k 0) ≤ N
  inside zero k i =
      let e : k ≡ m = omega arith in
      rw e last
  inside (suc d) k i = omega (arith, inside d (k + 1) (omega arith), (follow k (omega arith)).0)

  good : (k : ℕ) → k < N
      → word_is_good p N m (k + 1) (position (get_or ws k 0)) (get_or ws (k + 1) 0) ≡ true
  good k l = go (dec_le (k + 1) m)
    where
      w : ℕ
      w = get_or ws (k + 1) 0

      go : Dec (k + 1 ≤ m) → word_is_good p N m (k + 1) (position (get_or ws k 0)) w ≡ true
      go (yes h) =
          let f = follow k (omega arith) in
          let d : k + 1 + (m - (k + 1)) ≡ m = omega arith in
          word_is_good-entry p N m (k + 1) (position (get_or ws k 0)) w h
          ∙ true_of _
          (entry_to_good p N (position (get_or ws k 0)) w
          (record {
            above = f.0;
            inside = inside (m - (k + 1)) (k + 1) d;
            nonzero = f.1;
            reduced = f.2;
          }))
      go (no h) =
          word_is_good-zero p N m (k + 1) (position (get_or ws k 0)) w (omega arith)
          ∙ ap (λ (x : ℕ). eqb x 0) (zeros (k + 1) (omega arith) (omega arith))

  scanned : (k : ℕ) → k ≤ N → scan p N m (k + 1) (position (get_or ws k 0)) ws ≡ first_fault p N ws
  scanned zero l =
      let z : position (get_or ws 0 0) ≡ 0 = ap position (sym m-is) ∙ omega arith in
      ap (λ (x : ℕ). scan p N m 1 x ws) z ∙ scan-start p N ws long m m-is few
  scanned (suc k) l =
      let e : k + 1 ≡ suc k = omega arith in
      sym
      (ap (λ (x : ℕ). scan p N m x (position (get_or ws k 0)) ws) (sym e)
      ∙ scan_good p N ws long m (k + 1) (position (get_or ws k 0)) (omega arith) (good k (omega arith))
      ∙ ap (λ (x : ℕ). scan p N m (x + 1) (position (get_or ws x 0)) ws) e)
      ∙ ap (λ (x : ℕ). scan p N m x (position (get_or ws k 0)) ws) (sym e)
      ∙ scanned k (omega arith)

  no_fault : first_fault p N ws ≡ N + 1
  no_fault =
      sym (scanned N (omega arith)) ∙ scan-end p N ws long m (N + 1) _ (omega arith)

-- and no fault leaves every rule kept
module _ (p N : ℕ) (ws : List ℕ) (long : length ws ≡ N + 1) (small : N < 65536) (m : ℕ)
    (m-is : m ≡ get_or ws 0 0) (few : m ≤ N) (none : first_fault p N ws ≡ N + 1) where
  -- the test of word k + 1
  abbrev test : ℕ → Bool
  test k = word_is_good p N m (k + 1) (position (get_or ws k 0)) (get_or ws (k + 1) 0)

  first-position : position (get_or ws 0 0) ≡ 0
  first-position = ap position (sym m-is) ∙ omega arith

  -- where the words before pass, so does this one
  passing : (k : ℕ) → k < N → scan p N m (k + 1) (position (get_or ws k 0)) ws ≡ N + 1
      → test k ≡ true
  passing k l e = go (test k) refl
    where
      go : (b : Bool) → test k ≡ b → test k ≡ true
      go true q = q
      go false q =
          absurd
          (omega (arith, scan-faulty p N ws long m (k + 1) (position (get_or ws k 0)) (omega arith) q))

  reached : (k : ℕ) → k ≤ N → scan p N m (k + 1) (position (get_or ws k 0)) ws ≡ N + 1
  reached zero l =
      ap (λ (x : ℕ). scan p N m 1 x ws) first-position ∙ scan-start p N ws long m m-is few ∙ none
  reached (suc k) l =
      let e : k + 1 ≡ suc k = omega arith in
      let h = reached k (omega arith) in
      let q = position (get_or ws k 0) in
      ap (λ (x : ℕ). scan p N m (x + 1) (position (get_or ws x 0)) ws) (sym e)
      ∙ sym (scan_good p N ws long m (k + 1) q (omega arith) (passing k (omega arith) h))
      ∙ h

  good_word : (k : ℕ) → k < N → test k ≡ true
  good_word k l = passing k l (reached k (omega arith))

  entry_follows : (k : ℕ) → k < m
      → Follows p (get_or ws k 0) (get_or ws (k + 1) 0) × (position (get_or ws (k + 1) 0) ≤ N)
  entry_follows k l =
      let w = get_or ws (k + 1) 0 in
      let q = position (get_or ws k 0) in
      let t = sym (word_is_good-entry p N m (k + 1) q w (omega arith)) ∙ good_word k (omega arith) in
      let x = good_to_entry p N q w (rw t tt) in
      ((x.above, x.nonzero, x.reduced), x.inside)

  last_inside : position (get_or ws m 0) ≤ N
  last_inside = go m refl
    where
      go : (j : ℕ) → m ≡ j → position (get_or ws j 0) ≤ N
      go zero e = omega (arith, first-position)
      go (suc j) e = rw (add-one j) at (entry_follows j (omega arith)).1

  zero-behind : (k : ℕ) → m + 1 ≤ k → k < N + 1 → get_or ws k 0 ≡ 0
  zero-behind zero l h = absurd (omega arith)
  zero-behind (suc k) l h =
      let w = get_or ws (k + 1) 0 in
      let q = position (get_or ws k 0) in
      let t = sym (word_is_good-zero p N m (k + 1) q w (omega arith)) ∙ good_word k (omega arith) in
      ap (λ (j : ℕ). get_or ws j 0) (sym (add-one k)) ∙ eqb-true w 0 t

-- ---- the answers of the test

-- two tests of equality that hold together
together : (a b c d : ℕ) → (a ≡ b → c ≡ d) → (c ≡ d → a ≡ b) → eqb a b ≡ eqb c d
together a b c d f g = go (ℕ_discrete a b)
  where
    go : Dec (a ≡ b) → eqb a b ≡ eqb c d
    go (yes e) = eq-eqb a b e ∙ sym (eq-eqb c d (f e))
    go (no e) = ne_eqb a b e ∙ sym (ne_eqb c d (λ h. e (g h)))

module _ (p N : ℕ) (ws : List ℕ) (long : length ws ≡ N + 1) (small : N < 65536) (m : ℕ)
    (m-is : m ≡ get_or ws 0 0) (few : m ≤ N) where
  pub misfits-fault : (misfits p m ws ≡ 0 → ⊥) → false ≡ eqb (first_fault p N ws) (N + 1)
  misfits-fault h =
      sym
      (ne_eqb (first_fault p N ws) (N + 1)
      (λ e.
      h
      (sum_to-zero (λ k. misfit p (get_or ws k 0) (get_or ws (k + 1) 0)) m
      (λ k l. no_misfit p _ _ (entry_follows p N ws long small m m-is few e k l).0))))

  pub outside_fault : N < position (get_or ws m 0) → false ≡ eqb (first_fault p N ws) (N + 1)
  outside_fault h =
      sym
      (ne_eqb (first_fault p N ws) (N + 1)
      (λ e. omega (arith, last_inside p N ws long small m m-is few e)))

  pub zeros-decide : misfits p m ws ≡ 0 → position (get_or ws m 0) ≤ N
      → eqb (sum (drop (m + 1) ws)) 0 ≡ eqb (first_fault p N ws) (N + 1)
  zeros-decide none last =
      together (sum (drop (m + 1) ws)) 0 (first_fault p N ws) (N + 1)
      (λ z.
      no_fault p N ws long small m m-is few
      (λ k l.
      follows p _ _ (sum-parts (λ k. misfit p (get_or ws k 0) (get_or ws (k + 1) 0)) m none k l))
      last (λ k l h. rest-parts (m + 1) ws z k l (omega arith)))
      (λ e. rest-none (m + 1) ws (λ k l h. zero-behind p N ws long small m m-is few e k l (omega arith)))

-- ---- checks that pass

pub passes-yes : {w : Verdict} → w ≡ passed → true ≡ passes w
passes-yes e = sym (ap passes e)

pub passes-no : {w : Verdict} {k : ℕ} {at : List ℕ} → w ≡ declined k at → false ≡ passes w
passes-no e = sym (ap passes e)

pub passed_is : (w : Verdict) → true ≡ passes w → w ≡ passed
passed_is passed e = refl
passed_is (declined k at) e = let z : ◌≡◌ {A = ℕ} 0 1 = cc in absurd (omega arith)
