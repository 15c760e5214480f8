-- What a right table says of one monomial: its codes stand at its position, and D1 and D2 at its
-- codes lead back there (002, 11). So the position of a monomial one letter longer or shorter is
-- found from the codes, to which the weight of one variable is added or from which it is taken.
use Rattle.std.proofs.Common.{ℕ, zero, suc, ◌+◌, ◌*◌, ◌-◌, ◌^◌, ◌≤◌, ◌<◌, ◌≡◌, refl, sym, ap, ap₂, ◌∙◌, List, [], ◌∷◌, ◌++◌, pow-suc, arith, length, get_or, take, drop, length-take, take-append-drop, take_at, drop_at}
use Rattle.std.proofs.Math.Nat.{pow-zero, pow-le-pow_right, one-le-pow}
use Rattle.std.proofs.Math.Decide.{ℕ_discrete}
use Rattle.algebra.specs.Polynomial.{Monomial, ◌⊕◌, order}
use Rattle.algebra.specs.Substitution.{unit_of}
use Rattle.algebra.proofs.Monomials.{⊕-zero}
use Rattle.monomial.specs.Count.{count, codes, words, half}
use Rattle.monomial.specs.Table.{code, C1, C2, D1, D2, table_words, position_of}
use Rattle.monomial.proofs.Digits.{order-append}
use Rattle.monomial.proofs.Size.{length-monomials}
use Rattle.monomial.proofs.Words.{word-D1, word-D2}
use Rattle.monomial.proofs.Address.{Coded, coded}
use Rattle.monomial.proofs.Places.{C1-⊕, C2-⊕, placed}
use Rattle.series.specs.Image.{monomial_at}
use Rattle.product.proofs.TableWords.{first_word, second_word}
use Rattle.substitution.specs.Walk.{shorter}
use Rattle.counts.specs.Tables.{Tabled}
use Rattle.substitution.specs.Marks.{Lowered}
use Rattle.substitution.proofs.Shorter.{length-shorter, code-none, last_weight}
use Rattle.substitution.proofs.Shorter.{shorter-first, shorter-second}

-- ---- the codes of a variable

module _ (b : ℕ) where
  code-unit : (k : ℕ) → code b (unit_of k) ≡ b ^ k
  unfolding code unit_of
  code-unit zero = omega (arith, pow-zero b)
  code-unit (suc k) = omega (arith, pow-suc b k, ap (λ (c : ℕ). c * b) (code-unit k))

  -- among the first h variables
  first_code : (h k : ℕ) → k < h → code b (take h (unit_of k)) ≡ b ^ k
  unfolding code unit_of
  first_code zero k l = absurd (omega arith)
  first_code (suc zero) zero l = omega (arith, pow-zero b)
  first_code (suc (suc h)) zero l = omega (arith, pow-zero b)
  first_code (suc h) (suc k) l =
      omega (arith, pow-suc b k, ap (λ (c : ℕ). c * b) (first_code h k (omega arith)))

  first-code_none : (h k : ℕ) → h ≤ k → code b (take h (unit_of k)) ≡ 0
  unfolding code unit_of
  first-code_none zero k l = refl
  first-code_none (suc h) zero l = absurd (omega arith)
  first-code_none (suc h) (suc k) l =
      ap (λ (c : ℕ). c * b + 0) (first-code_none h k (omega arith)) ∙ omega arith

  second-code : (h k : ℕ) → h ≤ k → code b (drop h (unit_of k)) ≡ b ^ (k - h)
  unfolding unit_of
  second-code zero k l =
      let z : k ≡ k - 0 = omega arith in
      code-unit k ∙ ap (λ (i : ℕ). b ^ i) z
  second-code (suc h) zero l = absurd (omega arith)
  second-code (suc h) (suc k) l =
      let z : k - h ≡ suc k - suc h = omega arith in
      second-code h k (omega arith) ∙ ap (λ (i : ℕ). b ^ i) z

  second-code_none : (h k : ℕ) → k < h → code b (drop h (unit_of k)) ≡ 0
  unfolding code unit_of
  second-code_none zero k l = absurd (omega arith)
  second-code_none (suc zero) zero l = refl
  second-code_none (suc (suc h)) zero l = refl
  second-code_none (suc h) (suc k) l = second-code_none h k (omega arith)

pub length-child : (m : Monomial) (k : ℕ) → k < length m → length (m ⊕ unit_of k) ≡ length m
unfolding ◌⊕◌ unit_of
length-child [] k l = absurd (omega arith)
length-child (x ∷ m) zero l = ap (λ (d : Monomial). suc (length d)) (⊕-zero m)
length-child (x ∷ m) (suc k) l = ap suc (length-child m k (omega arith))

-- ---- the words of the table

module _ {n v N E : ℕ} {t : List ℕ} (g : Tabled n v N E t) where
  size : words n v ≡ N + N + E + E
  unfolding words
  size = omega (arith, g.N_is, g.E_is)

  pub table_long : N + N + E + E ≤ length t
  table_long = omega (arith, size, g.right.long)

  -- the codes at a position

  module _ (q : ℕ) (l : 1 ≤ q) (h : q ≤ N) where
    abbrev high : q ≤ count n v
    high = omega (arith, g.N_is)

    pub C1-word : get_or t (q - 1) 0 ≡ C1 n v (monomial_at n v q)
    C1-word = first_word n v t g.right q l high

    pub C2-word : get_or t (N + (q - 1)) 0 ≡ C2 n v (monomial_at n v q)
    C2-word = rw g.N_is (second_word n v t g.right q l high)

  -- the position at the codes

  module _ (m : Monomial) (lm : length m ≡ v) (o : order m ≤ n) where
    c : Coded n v m
    c = coded n v m lm o

    pub C1-below : C1 n v m < E
    C1-below = unfold codes in omega (arith, c.first, g.E_is)

    pub C2-below : C2 n v m < E
    C2-below =
        unfold codes in
        omega (
          arith,
          c.second,
          g.E_is,
          pow-le-pow_right {n = n + 1} (omega arith) {i = v - half v} {j = half v}
              (omega (arith, g.right.allowed.v_low)),
        )

    D1-word : get_or t (N + N + C1 n v m) 0 ≡ D1 n v (C1 n v m)
    D1-word =
        let i : N + N + C1 n v m ≡ count n v + (count n v + C1 n v m) = omega (arith, g.N_is) in
        g.right.word (N + N + C1 n v m) (omega (arith, size, C1-below))
        ∙ ap (λ (z : ℕ). get_or (table_words n v) z 0) i
        ∙ word-D1 n v (C1 n v m) (omega (arith, C1-below, g.E_is))

    D2-word : get_or t (N + N + E + C2 n v m) 0 ≡ D2 n v (C2 n v m)
    D2-word =
        let i : N + N + E + C2 n v m ≡ count n v + (count n v + (codes n v + C2 n v m)) =
        omega (arith, g.N_is, g.E_is) in
        g.right.word (N + N + E + C2 n v m) (omega (arith, size, C2-below))
        ∙ ap (λ (z : ℕ). get_or (table_words n v) z 0) i
        ∙ word-D2 n v (C2 n v m) (omega (arith, C2-below, g.E_is))

    pub place-words : get_or t (N + N + C1 n v m) 0 + get_or t (N + N + E + C2 n v m) 0 ≡ position_of n v m
    place-words =
        let p = placed n v m lm o in
        ap₂ ◌+◌ D1-word D2-word ∙ p.by_codes ∙ sym p.at

    pub place_inside : (1 ≤ position_of n v m) × (position_of n v m ≤ N)
    place_inside =
        let p = placed n v m lm o in
        (omega (arith, p.at), omega (arith, p.at, p.inside, length-monomials n v, g.N_is))

    pub monomial_at-position_of : monomial_at n v (position_of n v m) ≡ m
    unfolding monomial_at
    monomial_at-position_of =
        let p = placed n v m lm o in
        let i : position_of n v m - 1 ≡ p.index = omega (arith, p.at) in
        ap (λ (z : ℕ). get_or (Rattle.monomial.specs.Table.monomials n v) z []) i ∙ p.is

-- ---- one letter more

module _ (n v : ℕ) (m : Monomial) (k : ℕ) where
  pub C1-child : k < half v → C1 n v (m ⊕ unit_of k) ≡ C1 n v m + (n + 1) ^ k
  C1-child l =
      C1-⊕ n v m (unit_of k)
      ∙ ap (λ (x : ℕ). C1 n v m + x) (unfold C1 in first_code (n + 1) (half v) k l)

  pub C1-child_same : half v ≤ k → C1 n v (m ⊕ unit_of k) ≡ C1 n v m
  C1-child_same l =
      let z : C1 n v (unit_of k) ≡ 0 = unfold C1 in first-code_none (n + 1) (half v) k l in
      C1-⊕ n v m (unit_of k) ∙ omega arith

  pub C2-child : half v ≤ k → C2 n v (m ⊕ unit_of k) ≡ C2 n v m + (n + 1) ^ (k - half v)
  C2-child l =
      C2-⊕ n v m (unit_of k)
      ∙ ap (λ (x : ℕ). C2 n v m + x) (unfold C2 in second-code (n + 1) (half v) k l)

  pub C2-child_same : k < half v → C2 n v (m ⊕ unit_of k) ≡ C2 n v m
  C2-child_same l =
      let z : C2 n v (unit_of k) ≡ 0 = unfold C2 in second-code_none (n + 1) (half v) k l in
      C2-⊕ n v m (unit_of k) ∙ omega arith

-- ---- one letter less

lowered_code : (b : ℕ) (m : Monomial) (r : ℕ) → 0 < order m → order m < b
    → Lowered b (code b m) r → r ≡ code b (shorter m)
lowered_code b m r h l f =
    let w = last_weight b m h l in
    omega (arith, f w.power w.low w.high, w.is)

module _ (n v : ℕ) (m : Monomial) (lm : length m ≡ v) (o : order m ≤ n) (some : 0 < order m) where
  abbrev h : ℕ
  h = half v

  abbrev first : Monomial
  first = take h m

  abbrev second : Monomial
  second = drop h m

  whole : first ++ second ≡ m
  whole = take-append-drop h m

  orders : order first + order second ≡ order m
  orders = sym (order-append first second) ∙ ap order whole

  length-first : length first ≡ h
  length-first = length-take h m ∙ omega arith

  -- C2 is 0 just where the second part has no variable

  second_none : C2 n v m ≡ 0 → order second ≡ 0
  unfolding C2
  second_none e = go (ℕ_discrete (order second) 0)
    where
      go : Dec (order second ≡ 0) → order second ≡ 0
      go (yes z) = z
      go (no z) =
          let w = last_weight (n + 1) second (omega arith) (omega (arith, orders)) in
          absurd (omega (arith, w.low, one-le-pow w.power (n + 1) (omega arith)))

  second-some : (C2 n v m ≡ 0 → ⊥) → 0 < order second
  unfolding C2
  second-some ne = go (ℕ_discrete (order second) 0)
    where
      go : Dec (order second ≡ 0) → 0 < order second
      go (yes z) = absurd (ne (code-none (n + 1) second z))
      go (no z) = omega arith

  -- the last variable is among the first h
  module _ (e : C2 n v m ≡ 0) where
    is_first : shorter m ≡ shorter first ++ second
    is_first = ap shorter (sym whole) ∙ shorter-first first second (second_none e)

    pub C1-some : 0 < C1 n v m
    unfolding C1
    C1-some =
        let l : 0 < order first = omega (arith, orders, second_none e) in
        let w = last_weight (n + 1) first l (omega (arith, orders)) in
        omega (arith, w.low, one-le-pow w.power (n + 1) (omega arith))

    pub C1-shorter : (r : ℕ) → Lowered (n + 1) (C1 n v m) r → r ≡ C1 n v (shorter m)
    unfolding C1
    C1-shorter r f =
        lowered_code (n + 1) first r (omega (arith, orders, second_none e))
        (omega (arith, orders)) f
        ∙ ap (code (n + 1))
        (sym
        (ap (take h) is_first
        ∙ take_at (shorter first) second h (length-shorter first ∙ length-first)))

    pub C2-shorter_same : C2 n v (shorter m) ≡ C2 n v m
    unfolding C2
    C2-shorter_same =
        ap (code (n + 1))
        (ap (drop h) is_first
        ∙ drop_at (shorter first) second h (length-shorter first ∙ length-first))

  -- the last variable is among the others
  module _ (ne : C2 n v m ≡ 0 → ⊥) where
    is_second : shorter m ≡ first ++ shorter second
    is_second = ap shorter (sym whole) ∙ shorter-second first second (second-some ne)

    pub C2-shorter : (r : ℕ) → Lowered (n + 1) (C2 n v m) r → r ≡ C2 n v (shorter m)
    unfolding C2
    C2-shorter r f =
        lowered_code (n + 1) second r (second-some ne) (omega (arith, orders)) f
        ∙ ap (code (n + 1))
        (sym (ap (drop h) is_second ∙ drop_at first (shorter second) h length-first))

    pub C1-shorter_same : C1 n v (shorter m) ≡ C1 n v m
    unfolding C1
    C1-shorter_same =
        ap (code (n + 1)) (ap (take h) is_second ∙ take_at first (shorter second) h length-first)
