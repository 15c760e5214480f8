-- Entries put behind lists: one coefficient, then those at one position.
use Rattle.std.proofs.Common.{◌≡◌, refl, sym, ap, ap₂, ◌∙◌, List, [], ◌∷◌, ◌++◌, append_assoc, append-nil, ℕ, ◌+◌, ◌-◌, ◌*◌, ◌≤◌, ◌<◌, mul-le-mul, arith, length, get_or, set, length-set, length-append, get_or-set_same, get_or-set_other, get_or-append-add}
use Rattle.std.proofs.Math.Decide.{ℕ_discrete, dec_lt}
use Rattle.std.proofs.Math.ListN.{get_or-append}
use Rattle.linear.specs.Matrix.{at}
use Rattle.monomial.specs.Count.{count, words}
use Rattle.counts.specs.Tables.{Tabled}
use Rattle.series.specs.Image.{position, coefficient, entry_of}
use Rattle.series.proofs.Packed.{entry_of-zero, entry_of-nonzero}
use Rattle.product.specs.Pairs.{codes_of}
use Rattle.product.proofs.Packing.{entry_of-few}
use Rattle.product.proofs.TableWords.{first_word, second_word}
use Rattle.walk.specs.Walking.{list_at, row}
use Rattle.walk.proofs.Sources.{lists-apart}
use Rattle.growth.specs.Growth.{entries_of}
use Rattle.growth.specs.Appending.{size_of, SameShape, Behind}
use Rattle.growth.specs.Steps.{codes_at_position, AppendIn, One, AllIn}

-- ---- the lists, one behind another

-- the words behind the last
pub lists-end : (N v : ℕ) → list_at N v ≡ (2 * v + 2) * (N + 1)
lists-end N v = omega arith

pub lists-begin : (N k : ℕ) → 2 * (N + 1) ≤ list_at N k
lists-begin N k =
    let a : 1 ≤ k + 1 = omega arith in
    let b : 2 * (N + 1) ≤ 2 * (N + 1) = omega arith in
    omega (arith, mul-le-mul a b)

-- a table has both codes of each position
table_long : {n v N E : ℕ} {t : List ℕ} → Tabled n v N E t → N + N ≤ length t
unfolding words
table_long a = omega (arith, a.right.long, a.N_is)

-- ---- entries

pub entries_of-append : (f : ℕ → ℕ) (es fs : List ℕ)
    → entries_of f (es ++ fs) ≡ entries_of f es ++ entries_of f fs
unfolding entries_of
entries_of-append f [] fs = refl
entries_of-append f (x ∷ es) fs =
    rw (entries_of-append f es fs)
    (sym (append_assoc (entry_of (position x) (f (position x))) (entries_of f es) (entries_of f fs)))

pub entries_of-few : (f : ℕ → ℕ) (es : List ℕ) → length (entries_of f es) ≤ length es
unfolding entries_of
entries_of-few f [] = omega arith
entries_of-few f (x ∷ es) =
    let q = position x in
    omega (
      arith,
      length-append (entry_of q (f q)) (entries_of f es),
      entry_of-few q (f q),
      entries_of-few f es,
    )

pub entries_of-one : (f : ℕ → ℕ) (x q c : ℕ) → position x ≡ q → f q ≡ c
    → entries_of f (x ∷ []) ≡ entry_of q c
unfolding entries_of
entries_of-one f x q c e g =
    append-nil (entry_of (position x) (f (position x)))
    ∙ ap₂ entry_of e (ap f e ∙ g)

-- ---- behind

module _ {n v N o : ℕ} {f : ℕ → ℕ → ℕ} where
  pub behind_none : {w : List ℕ} {ends : List (List ℕ)} → Behind n v N o f [] w w ends ends
  unfolding entries_of
  behind_none =
      record {
        ends_size = record { rows = refl; words = λ k. refl };
        counted = λ k l. omega arith;
        ends_kept = λ k j h. refl;
        code = λ k i l h. absurd (omega arith);
        factor = λ k i l h. absurd (omega arith);
        code_kept = λ k i l h. refl;
        factor_kept = λ k i l h. refl;
        outside = record { size = refl; below = λ i h. refl; above = λ i h. refl };
      }

  module _ {es fs w w1 w2 : List ℕ} {ends ends1 ends2 : List (List ℕ)} (a : Behind n v N o f es w w1 ends ends1)
      (b : Behind n v N o f fs w1 w2 ends1 ends2) where
    all : (k : ℕ) → entries_of (f k) (es ++ fs) ≡ entries_of (f k) es ++ entries_of (f k) fs
    all k = entries_of-append (f k) es fs

    long : (k : ℕ) → length (entries_of (f k) (es ++ fs))
        ≡ length (entries_of (f k) es) + length (entries_of (f k) fs)
    long k = ap length (all k) ∙ length-append (entries_of (f k) es) (entries_of (f k) fs)

    -- entry i is one of the first or of the others
    low : (k i : ℕ) → i < length (entries_of (f k) es)
        → get_or (entries_of (f k) (es ++ fs)) i 0 ≡ get_or (entries_of (f k) es) i 0
    low k i h =
        ap (λ (s : List ℕ). get_or s i 0) (all k)
        ∙ get_or-append (entries_of (f k) es) (entries_of (f k) fs) 0 i h

    high : (k j : ℕ) → get_or (entries_of (f k) (es ++ fs)) (length (entries_of (f k) es) + j) 0
        ≡ get_or (entries_of (f k) fs) j 0
    high k j =
        ap (λ (s : List ℕ). get_or s (length (entries_of (f k) es) + j) 0) (all k)
        ∙ get_or-append-add (entries_of (f k) es) (entries_of (f k) fs) j 0

    module _ (k i : ℕ) (l : k < v) (h : i < length (entries_of (f k) (es ++ fs))) where
      abbrev m : ℕ
      m = length (entries_of (f k) es)

      abbrev j : ℕ
      j = i - length (entries_of (f k) es)

      code-now : Dec (i < length (entries_of (f k) es))
          → get_or w2 (list_at N k + (size_of ends k o + i)) 0 ≡ codes_of n v (get_or (entries_of (f k) (es ++ fs)) i 0)
      code-now (yes u) =
          b.code_kept k (size_of ends k o + i) l (omega (arith, a.counted k l))
          ∙ a.code k i l u ∙ ap (codes_of n v) (sym (low k i u))
      code-now (no u) =
          let e : m + j ≡ i = omega arith in
          let z : size_of ends k o + i ≡ size_of ends1 k o + j = omega (arith, a.counted k l) in
          ap (λ (x : ℕ). get_or w2 (list_at N k + x) 0) z
          ∙ b.code k j l (omega (arith, long k))
          ∙ ap (codes_of n v) (sym (high k j) ∙ ap (λ (x : ℕ). get_or (entries_of (f k) (es ++ fs)) x 0) e)

      factor-now : Dec (i < length (entries_of (f k) es))
          → get_or w2 (list_at N k + (N + 1) + (size_of ends k o + i)) 0
          ≡ coefficient (get_or (entries_of (f k) (es ++ fs)) i 0)
      factor-now (yes u) =
          b.factor_kept k (size_of ends k o + i) l (omega (arith, a.counted k l))
          ∙ a.factor k i l u ∙ ap coefficient (sym (low k i u))
      factor-now (no u) =
          let e : m + j ≡ i = omega arith in
          let z : size_of ends k o + i ≡ size_of ends1 k o + j = omega (arith, a.counted k l) in
          ap (λ (x : ℕ). get_or w2 (list_at N k + (N + 1) + x) 0) z
          ∙ b.factor k j l (omega (arith, long k))
          ∙ ap coefficient (sym (high k j) ∙ ap (λ (x : ℕ). get_or (entries_of (f k) (es ++ fs)) x 0) e)

    pub behind_more : Behind n v N o f (es ++ fs) w w2 ends ends2
    behind_more =
        record {
          ends_size = record {
            rows = b.ends_size.rows ∙ a.ends_size.rows;
            words = λ k. b.ends_size.words k ∙ a.ends_size.words k;
          };
          counted = λ k l. omega (arith, a.counted k l, b.counted k l, long k);
          ends_kept = λ k j h. b.ends_kept k j h ∙ a.ends_kept k j h;
          code = λ k i l h. code-now k i l h (dec_lt i (length (entries_of (f k) es)));
          factor = λ k i l h. factor-now k i l h (dec_lt i (length (entries_of (f k) es)));
          code_kept = λ k i l h.
              b.code_kept k i l (omega (arith, a.counted k l)) ∙ a.code_kept k i l h;
          factor_kept = λ k i l h.
              b.factor_kept k i l (omega (arith, a.counted k l)) ∙ a.factor_kept k i l h;
          outside = record {
            size = b.outside.size ∙ a.outside.size;
            below = λ i h. b.outside.below i h ∙ a.outside.below i h;
            above = λ i h. b.outside.above i h ∙ a.outside.above i h;
          };
        }

-- the same entries
pub behind_same : {n v N o : ℕ} {f g : ℕ → ℕ → ℕ} {es fs w w' : List ℕ} {ends ends' : List (List ℕ)}
    → ((k : ℕ) → k < v → entries_of (f k) es ≡ entries_of (g k) fs)
    → Behind n v N o f es w w' ends ends' → Behind n v N o g fs w w' ends ends'
behind_same {n} {v} {N} {o} {f} {g} {es} {fs} {w} {w'} {ends} {ends'} e a =
    record {
      ends_size = a.ends_size;
      counted = λ k l. rw (e k l) at (a.counted k l);
      ends_kept = a.ends_kept;
      code = λ k i l. rw (e k l) at (a.code k i l);
      factor = λ k i l. rw (e k l) at (a.factor k i l);
      code_kept = a.code_kept;
      factor_kept = a.factor_kept;
      outside = a.outside;
    }

-- ---- one coefficient

-- words of two lists differ
pub list_differ : (N k l x y : ℕ) → x < N + 1 + (N + 1) → y < N + 1 + (N + 1) → (k ≡ l → x ≡ y → ⊥)
    → list_at N k + x ≡ list_at N l + y → ⊥
list_differ N k l x y hx hy ne e = go (dec_lt k l) (dec_lt l k)
  where
    go : Dec (k < l) → Dec (l < k) → ⊥
    go (yes u) d = omega (arith, lists-apart N k l u)
    go (no u) (yes d) = omega (arith, lists-apart N l k d)
    go (no u) (no d) =
        let z : k ≡ l = omega arith in
        ne z (omega (arith, ap (list_at N) z))

module _ {t w w' : List ℕ} {N cs m q c r : ℕ} (s : One t N cs m q c w w' r) where
  one_size : length w' ≡ length w
  one_size = go (dec_lt 0 c)
    where
      go : Dec (0 < c) → length w' ≡ length w
      go (yes u) =
          ap length (s.some u).1 ∙ length-set (set w (cs + m) (codes_at_position t N q)) (cs + (N + 1) + m) c
          ∙ length-set w (cs + m) (codes_at_position t N q)
      go (no u) = ap length (s.none (omega arith)).1

  one_kept : (j : ℕ) → (j ≡ cs + m → ⊥) → (j ≡ cs + (N + 1) + m → ⊥) → get_or w' j 0 ≡ get_or w j 0
  one_kept j a b = go (dec_lt 0 c)
    where
      go : Dec (0 < c) → get_or w' j 0 ≡ get_or w j 0
      go (yes u) =
          ap (λ (x : List ℕ). get_or x j 0) (s.some u).1
          ∙ get_or-set_other (set w (cs + m) (codes_at_position t N q)) (cs + (N + 1) + m) j c 0 (λ e. b (omega arith))
          ∙ get_or-set_other w (cs + m) j (codes_at_position t N q) 0 (λ e. a (omega arith))
      go (no u) = ap (λ (x : List ℕ). get_or x j 0) (s.none (omega arith)).1

  one_code : 0 < c → cs + m < length w → get_or w' (cs + m) 0 ≡ codes_at_position t N q
  one_code u h =
      ap (λ (x : List ℕ). get_or x (cs + m) 0) (s.some u).1
      ∙ get_or-set_other (set w (cs + m) (codes_at_position t N q)) (cs + (N + 1) + m) (cs + m) c 0 (λ e. omega arith)
      ∙ get_or-set_same w (cs + m) (codes_at_position t N q) 0 h

  one-factor : 0 < c → cs + (N + 1) + m < length w → get_or w' (cs + (N + 1) + m) 0 ≡ c
  one-factor u h =
      ap (λ (x : List ℕ). get_or x (cs + (N + 1) + m) 0) (s.some u).1
      ∙ get_or-set_same (set w (cs + m) (codes_at_position t N q)) (cs + (N + 1) + m) c 0
      (omega (arith, length-set w (cs + m) (codes_at_position t N q)))

-- ---- the coefficients at one position

-- those of the components below b are listed
pub record Part (n v N o q b : ℕ) (y w w' : List ℕ) (ends ends' : List (List ℕ)) : Type 0 where
  pub high : b ≤ v
  pub size : length w' ≡ length w
  pub ends_size : SameShape ends ends'
  pub none : (k : ℕ) → k < b → at y k ≡ 0 → size_of ends' k o ≡ size_of ends k o
  pub some : (k : ℕ) → k < b → 0 < at y k → size_of ends' k o ≡ size_of ends k o + 1
  pub code : (k : ℕ) → k < b → 0 < at y k
      → get_or w' (list_at N k + size_of ends k o) 0 ≡ codes_of n v (q * 65536)
  pub factor : (k : ℕ) → k < b → 0 < at y k
      → get_or w' (list_at N k + (N + 1) + size_of ends k o) 0 ≡ at y k
  pub ends_kept : (k j : ℕ) → (k < b → j ≡ o → ⊥) → size_of ends' k j ≡ size_of ends k j
  pub kept : (j : ℕ)
      → ((k : ℕ) → k < b
      → (j ≡ list_at N k + size_of ends k o → ⊥) × (j ≡ list_at N k + (N + 1) + size_of ends k o → ⊥))
      → get_or w' j 0 ≡ get_or w j 0

module _ {n v N E o q : ℕ} {t w : List ℕ} {ends : List (List ℕ)} {y : List ℕ} (a : AllIn n v N E o q t w ends y) where
  pub part_none : Part n v N o q 0 y w w ends ends
  part_none =
      record {
        high = omega arith;
        size = refl;
        ends_size = record { rows = refl; words = λ k. refl };
        none = λ k l. absurd (omega arith);
        some = λ k l. absurd (omega arith);
        code = λ k l. absurd (omega arith);
        factor = λ k l. absurd (omega arith);
        ends_kept = λ k j h. refl;
        kept = λ j h. refl;
      }

  codes-are : codes_at_position t N q ≡ codes_of n v (q * 65536)
  unfolding codes_of
  codes-are =
      let e = a.table.N_is in
      let l = a.low in
      let h : q ≤ count n v = omega (arith, a.high, e) in
      let z : position (q * 65536) ≡ q = omega arith in
      let r = a.table.right in
      rw (e, z)
      (ap₂ (λ (x u : ℕ). x + u * 65536) (first_word n v t r q l h) (second_word n v t r q l h))

  pub list_inside : (k : ℕ) → k < v → list_at N k + (N + 1) + (N + 1) ≤ length w
  list_inside k l = omega (arith, a.inside, lists-apart N k v l, lists-end N v)

  module _ {b : ℕ} {w1 : List ℕ} {ends1 : List (List ℕ)} (p : Part n v N o q b y w w1 ends ends1) (l : b < v) where
    -- list b is as it was
    pub size_now : size_of ends1 b o ≡ size_of ends b o
    size_now = p.ends_kept b o (λ h e. absurd (omega arith))

    pub append-asks : {m : ℕ} → m ≡ size_of ends1 b o → AppendIn N (list_at N b) m q t w1
    append-asks em =
        record {
          low = a.low;
          high = a.high;
          few = omega (arith, a.table.N_is, a.table.right.allowed.few);
          table = long;
          room = omega (arith, em, size_now, a.room b l);
          inside = omega (arith, p.size, list_inside b l);
        }
      where
        long : N + N ≤ length t
        long = table_long a.table

    module _ {m r : ℕ} {w2 : List ℕ} (em : m ≡ size_of ends1 b o)
        (s : One t N (list_at N b) m q (at y b) w1 w2 r) where
      m-is : m ≡ size_of ends b o
      m-is = em ∙ size_now

      abbrev counted_row : List ℕ
      counted_row = set (row ends1 b) o r

      abbrev ends2 : List (List ℕ)
      ends2 = set ends1 b (set (row ends1 b) o r)

      row_in : b < length ends1
      row_in = omega (arith, p.ends_size.rows, a.rows_in)

      word_in : o < length (row ends1 b)
      word_in = omega (arith, p.ends_size.words b, a.ends_in b l, a.order_high)

      own_row : row ends2 b ≡ counted_row
      own_row = get_or-set_same ends1 b counted_row [] row_in

      own : size_of ends2 b o ≡ r
      own = ap (λ (s : List ℕ). get_or s o 0) own_row ∙ get_or-set_same (row ends1 b) o r 0 word_in

      other_row : (k : ℕ) → (k ≡ b → ⊥) → row ends2 k ≡ row ends1 k
      other_row k ne = get_or-set_other ends1 b k counted_row [] (λ e. ne (omega arith))

      other : (k : ℕ) → (k ≡ b → ⊥) → size_of ends2 k o ≡ size_of ends1 k o
      other k ne = ap (λ (s : List ℕ). get_or s o 0) (other_row k ne)

      same_words : (k : ℕ) → Dec (k ≡ b) → length (row ends2 k) ≡ length (row ends k)
      same_words k (yes e) = rw e (ap length own_row ∙ length-set (row ends1 b) o r ∙ p.ends_size.words b)
      same_words k (no d) = ap length (other_row k d) ∙ p.ends_size.words k

      same_end : (k j : ℕ) → (k < b + 1 → j ≡ o → ⊥) → Dec (k ≡ b) → size_of ends2 k j ≡ size_of ends k j
      same_end k j h (yes e) =
          rw e (ap (λ (s : List ℕ). get_or s j 0) own_row
          ∙ get_or-set_other (row ends1 b) o j r 0 (λ z. h (omega arith) (omega arith))
          ∙ p.ends_kept b j (λ u z. absurd (omega arith)))
      same_end k j h (no d) =
          ap (λ (s : List ℕ). get_or s j 0) (other_row k d)
          ∙ p.ends_kept k j (λ u z. h (omega arith) z)

      none_one : (k : ℕ) → k < b + 1 → at y k ≡ 0 → Dec (k ≡ b) → size_of ends2 k o ≡ size_of ends k o
      none_one k h z (yes e) =
          rw e (own ∙ (s.none (rw e at z)).0 ∙ m-is)
      none_one k h z (no e) = other k e ∙ p.none k (omega arith) z

      some_one : (k : ℕ) → k < b + 1 → 0 < at y k → Dec (k ≡ b) → size_of ends2 k o ≡ size_of ends k o + 1
      some_one k h z (yes e) =
          rw e (own ∙ (s.some (rw e at z)).0 ∙ ap (λ (x : ℕ). x + 1) m-is)
      some_one k h z (no e) = other k e ∙ p.some k (omega arith) z

      -- a word of another list is as before
      far : (k x : ℕ) → (k ≡ b → ⊥) → x < N + 1 + (N + 1)
          → get_or w2 (list_at N k + x) 0 ≡ get_or w1 (list_at N k + x) 0
      far k x ne h =
          let u = a.room b l in
          one_kept s (list_at N k + x)
          (λ e. list_differ N k b x m h (omega (arith, m-is)) (λ z _. ne z) e)
          (λ e. list_differ N k b x (N + 1 + m) h (omega (arith, m-is)) (λ z _. ne z) (omega arith))

      code_one : (k : ℕ) → k < b + 1 → 0 < at y k → Dec (k ≡ b)
          → get_or w2 (list_at N k + size_of ends k o) 0 ≡ codes_of n v (q * 65536)
      code_one k h z (yes e) =
          rw (e, sym m-is)
          (one_code s (rw e at z) (omega (arith, p.size, list_inside b l, m-is, a.room b l)) ∙ codes-are)
      code_one k h z (no e) =
          far k (size_of ends k o) e (omega (arith, a.room k (omega arith))) ∙ p.code k (omega arith) z

      factor-one : (k : ℕ) → k < b + 1 → 0 < at y k → Dec (k ≡ b)
          → get_or w2 (list_at N k + (N + 1) + size_of ends k o) 0 ≡ at y k
      factor-one k h z (yes e) =
          rw (e, sym m-is)
          (one-factor s (rw e at z) (omega (arith, p.size, list_inside b l, m-is, a.room b l)))
      factor-one k h z (no e) =
          let x : list_at N k + (N + 1) + size_of ends k o ≡ list_at N k + (N + 1 + size_of ends k o) = omega arith in
          ap (λ (i : ℕ). get_or w2 i 0) x
          ∙ far k (N + 1 + size_of ends k o) e (omega (arith, a.room k (omega arith)))
          ∙ ap (λ (i : ℕ). get_or w1 i 0) (sym x)
          ∙ p.factor k (omega arith) z

      pub part-few : r ≤ N + 1
      part-few = go (dec_lt 0 (at y b))
        where
          go : Dec (0 < at y b) → r ≤ N + 1
          go (yes u) = omega (arith, (s.some u).0, m-is, a.room b l)
          go (no u) = omega (arith, (s.none (omega arith)).0, m-is, a.room b l)

      pub part-more : Part n v N o q (b + 1) y w w2 ends (set ends1 b (set (row ends1 b) o r))
      part-more =
          record {
            high = omega arith;
            size = one_size s ∙ p.size;
            ends_size = record {
              rows = length-set ends1 b counted_row ∙ p.ends_size.rows;
              words = λ k. same_words k (ℕ_discrete k b);
            };
            none = λ k h z. none_one k h z (ℕ_discrete k b);
            some = λ k h z. some_one k h z (ℕ_discrete k b);
            code = λ k h z. code_one k h z (ℕ_discrete k b);
            factor = λ k h z. factor-one k h z (ℕ_discrete k b);
            ends_kept = λ k j h. same_end k j h (ℕ_discrete k b);
            kept = λ j h.
                one_kept s j (λ e. (h b (omega arith)).0 (omega (arith, m-is)))
                (λ e. (h b (omega arith)).1 (omega (arith, m-is)))
                ∙ p.kept j (λ k u. h k (omega arith));
          }

  -- ---- all of them

  module _ {w' : List ℕ} {ends' : List (List ℕ)} (p : Part n v N o q v y w w' ends ends') where
    none_here : (k : ℕ) → at y k ≡ 0 → entries_of (λ x. at y k) (q * 65536 ∷ []) ≡ []
    none_here k z =
        entries_of-one (λ x. at y k) (q * 65536) q (at y k) (omega arith) refl
        ∙ entry_of-zero q (at y k) z

    some-here : (k : ℕ) → 0 < at y k → entries_of (λ x. at y k) (q * 65536 ∷ []) ≡ (q * 65536 + at y k) ∷ []
    some-here k z =
        entries_of-one (λ x. at y k) (q * 65536) q (at y k) (omega arith) refl
        ∙ entry_of-nonzero q (at y k) z

    counted_now : (k : ℕ) → k < v → Dec (0 < at y k)
        → size_of ends' k o ≡ size_of ends k o + length (entries_of (λ x. at y k) (q * 65536 ∷ []))
    counted_now k l (yes u) = omega (arith, p.some k l u, ap length (some-here k u))
    counted_now k l (no u) = omega (arith, p.none k l (omega arith), ap length (none_here k (omega arith)))

    codes-entry : (k : ℕ) → k < v → codes_of n v (q * 65536) ≡ codes_of n v (q * 65536 + at y k)
    unfolding codes_of
    codes-entry k l =
        let z : position (q * 65536) ≡ position (q * 65536 + at y k) = omega (arith, a.small k l) in
        rw z refl

    code-all : (k i : ℕ) → k < v → i < length (entries_of (λ x. at y k) (q * 65536 ∷ [])) → Dec (0 < at y k)
        → get_or w' (list_at N k + (size_of ends k o + i)) 0
        ≡ codes_of n v (get_or (entries_of (λ x. at y k) (q * 65536 ∷ [])) i 0)
    code-all k i l h (yes u) =
        let z : i ≡ 0 = omega (arith, ap length (some-here k u)) in
        let e : size_of ends k o + i ≡ size_of ends k o = omega arith in
        ap (λ (x : ℕ). get_or w' (list_at N k + x) 0) e ∙ p.code k l u ∙ codes-entry k l
        ∙ sym (ap (codes_of n v) (ap₂ (λ (s : List ℕ) (x : ℕ). get_or s x 0) (some-here k u) z))
    code-all k i l h (no u) = absurd (omega (arith, ap length (none_here k (omega arith))))

    factor-all : (k i : ℕ) → k < v → i < length (entries_of (λ x. at y k) (q * 65536 ∷ [])) → Dec (0 < at y k)
        → get_or w' (list_at N k + (N + 1) + (size_of ends k o + i)) 0
        ≡ coefficient (get_or (entries_of (λ x. at y k) (q * 65536 ∷ [])) i 0)
    factor-all k i l h (yes u) =
        let z : i ≡ 0 = omega (arith, ap length (some-here k u)) in
        let e : size_of ends k o + i ≡ size_of ends k o = omega arith in
        let c : at y k ≡ coefficient (q * 65536 + at y k) = omega (arith, a.small k l) in
        ap (λ (x : ℕ). get_or w' (list_at N k + (N + 1) + x) 0) e ∙ p.factor k l u ∙ c
        ∙ sym (ap coefficient (ap₂ (λ (s : List ℕ) (x : ℕ). get_or s x 0) (some-here k u) z))
    factor-all k i l h (no u) = absurd (omega (arith, ap length (none_here k (omega arith))))

    pub part-behind : Behind n v N o (λ k x. at y k) (q * 65536 ∷ []) w w' ends ends'
    part-behind =
        record {
          ends_size = p.ends_size;
          counted = λ k l. counted_now k l (dec_lt 0 (at y k));
          ends_kept = p.ends_kept;
          code = λ k i l h. code-all k i l h (dec_lt 0 (at y k));
          factor = λ k i l h. factor-all k i l h (dec_lt 0 (at y k));
          code_kept = λ k i l h.
              p.kept (list_at N k + i) (λ j u. (
                list_differ N k j i (size_of ends j o)
                    (omega (arith, a.room k l)) (omega (arith, a.room j u))
                    (λ e z. omega (arith, ap (λ (x : ℕ). size_of ends x o) e)),
                λ x. list_differ N k j i (N + 1 + size_of ends j o)
                    (omega (arith, a.room k l)) (omega (arith, a.room j u))
                    (λ e z. omega (arith, a.room k l)) (omega arith),
              ));
          factor_kept = λ k i l h.
              p.kept (list_at N k + (N + 1) + i) (λ j u. (
                λ x. list_differ N k j (N + 1 + i) (size_of ends j o)
                    (omega (arith, a.room k l)) (omega (arith, a.room j u))
                    (λ e z. omega (arith, a.room j u)) (omega arith),
                λ x. list_differ N k j (N + 1 + i) (N + 1 + size_of ends j o)
                    (omega (arith, a.room k l)) (omega (arith, a.room j u))
                    (λ e z. omega (arith, ap (λ (x : ℕ). size_of ends x o) e)) (omega arith),
              ));
          outside = record {
            size = p.size;
            below = λ i h.
                p.kept i (λ j u. (λ x. omega (arith, lists-begin N j), λ x. omega (arith, lists-begin N j)));
            above = λ i h.
                p.kept i (λ j u. (
                  λ x. omega (arith, lists-apart N j v u, lists-end N v, a.room j u),
                  λ x. omega (arith, lists-apart N j v u, lists-end N v, a.room j u),
                ));
          };
        }
