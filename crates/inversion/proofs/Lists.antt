-- Lists of members of a list: `lists k xs` has just the lists of k members of xs, and has none
-- twice where xs has none twice. Of a list without repetitions just one member is left by a test
-- that just one member passes.
use Rattle.std.proofs.Common.{◌≡◌, refl, sym, ap, ap₂, ◌∙◌, Bool, true, false, cond, ◌⊎◌, inl, inr, ⊎_elim, List, [], ◌∷◌, map, ℕ, zero, suc, ◌+◌, ◌≤◌, ◌<◌, eq-or-lt_of_le, arith, T, length, get_or}
use mathlib.Core.List.Memᴰ
use mathlib.Core.List.{Memᴰ}
use Rattle.algebra.specs.Distinct.{Distinct}
use Rattle.algebra.proofs.Enumerate.{distinct_append}
use Rattle.linear.specs.Matrix.{range}
use Rattle.inversion.specs.Inverse.{each, lists, those}

-- ---- without repetition

pub distinct_map : {A B : Type 0} (f : A → B) (xs : List A)
    → ((x y : A) → Memᴰ x xs → Memᴰ y xs → f x ≡ f y → x ≡ y)
    → Distinct xs → Distinct (map f xs)
distinct_map f [] h d = tt
distinct_map f (x ∷ xs) h d = (
  (λ m.
      let t = Memᴰ.of_map f xs m in
      let e = h x t.0 (Memᴰ.head refl) (Memᴰ.tail t.1) (sym t.2) in
      d.0 (Memᴰ.cast e t.1)),
  distinct_map f xs (λ y z a b. h y z (Memᴰ.tail a) (Memᴰ.tail b)) d.1,
)

-- ---- a member before a list

module _ {A : Type 0} where
  in_each : (xs : List A) (rs : List (List A)) (x : A) (r : List A) → Memᴰ x xs
      → Memᴰ r rs → Memᴰ (x ∷ r) (each xs rs)
  unfolding each
  in_each (y ∷ xs) rs x r (Memᴰ.head e) n =
      Memᴰ.append_left (each xs rs)
      (Memᴰ.cast (ap (λ (z : A). z ∷ r) e) (Memᴰ.map (λ s. y ∷ s) n))
  in_each (y ∷ xs) rs x r (Memᴰ.tail m) n =
      Memᴰ.append_right (map (λ s. y ∷ s) rs) (in_each xs rs x r m n)
  in_each [] rs x r x4 n = elim x4 [ ]

  pub record InEach (xs : List A) (rs : List (List A)) (s : List A) : Type 0 where
    pub x : A
    pub r : List A
    pub first : Memᴰ x xs
    pub rest : Memᴰ r rs
    pub is : s ≡ x ∷ r

  of_each : (xs : List A) (rs : List (List A)) (s : List A) → Memᴰ s (each xs rs)
      → InEach xs rs s
  unfolding each
  of_each [] rs s m = absurd (Memᴰ.not-nil m)
  of_each (y ∷ xs) rs s m =
      go (Memᴰ.append_cases (map (λ r. y ∷ r) rs) m) (λ k. of_each xs rs s k)
    where
      go : Memᴰ s (map (λ r. y ∷ r) rs) ⊎ Memᴰ s (each xs rs)
          → (Memᴰ s (each xs rs) → InEach xs rs s) → InEach (y ∷ xs) rs s
      go (inl k) ih =
          let t = Memᴰ.of_map (λ r. y ∷ r) rs k in
          record { x = y; r = t.0; first = Memᴰ.head refl; rest = t.1; is = sym t.2 }
      go (inr k) ih =
          let t = ih k in
          record {
            x = t.x;
            r = t.r;
            first = Memᴰ.tail t.first;
            rest = t.rest;
            is = t.is;
          }

  distinct_each : (xs : List A) (rs : List (List A)) → Distinct xs → Distinct rs
      → Distinct (each xs rs)
  unfolding each
  distinct_each [] rs d e = tt
  distinct_each (x ∷ xs) rs d e =
      distinct_append (map (λ r. x ∷ r) rs) (each xs rs)
      (distinct_map (λ r. x ∷ r) rs (λ r s a b q. cc) e) (distinct_each xs rs d.1 e)
      (λ s a b.
      let t = Memᴰ.of_map (λ r. x ∷ r) rs a in
      let u = of_each xs rs s b in
      let q : x ≡ u.x = cc (t.2, u.is) in
      d.0 (Memᴰ.cast q u.first))

  -- ---- lists of k members

  pub in_lists : (d : A) (k : ℕ) (xs r : List A) → length r ≡ k
      → ((i : ℕ) → i < k → Memᴰ (get_or r i d) xs) → Memᴰ r (lists k xs)
  unfolding lists
  in_lists d zero xs [] l h = Memᴰ.head refl
  in_lists d zero xs (x ∷ r) l h = absurd (omega arith)
  in_lists d (suc k) xs [] l h = absurd (omega arith)
  in_lists d (suc k) xs (x ∷ r) l h =
      in_each xs (lists k xs) x r (h 0 (omega arith))
      (in_lists d k xs r (omega arith) (λ i m. h (suc i) (omega arith)))

  pub of_lists : (d : A) (k : ℕ) (xs r : List A) → Memᴰ r (lists k xs)
      → (length r ≡ k) × ((i : ℕ) → i < k → Memᴰ (get_or r i d) xs)
  unfolding lists
  of_lists d zero xs r m =
      (ap length (Memᴰ.eq_of_singleton m), (λ i l. absurd (omega arith)))
  of_lists d (suc k) xs r m =
      let t = of_each xs (lists k xs) r m in
      let ih = of_lists d k xs t.r t.rest in
      (ap length t.is ∙ ap suc ih.0, member t.x t.r t.is t.first ih.1)
    where
      at : (x : A) (s : List A) → Memᴰ x xs
          → ((i : ℕ) → i < k → Memᴰ (get_or s i d) xs)
          → (i : ℕ) → i < suc k → Memᴰ (get_or (x ∷ s) i d) xs
      at x s f h zero l = f
      at x s f h (suc i) l = h i (omega arith)

      member : (x : A) (s : List A) → r ≡ x ∷ s → Memᴰ x xs
          → ((i : ℕ) → i < k → Memᴰ (get_or s i d) xs)
          → (i : ℕ) → i < suc k → Memᴰ (get_or r i d) xs
      member x s e f h i l = Memᴰ.cast (ap (λ (y : List A). get_or y i d) e) (at x s f h i l)

  pub distinct_lists : (k : ℕ) (xs : List A) → Distinct xs → Distinct (lists k xs)
  unfolding lists
  distinct_lists zero xs d = (λ m. Memᴰ.not-nil m, tt)
  distinct_lists (suc k) xs d = distinct_each xs (lists k xs) d (distinct_lists k xs d)

  -- ---- those that pass a test

  pub those-none : (t : A → Bool) (xs : List A) → ((x : A) → Memᴰ x xs → T (t x) → ⊥)
      → those t xs ≡ []
  unfolding those
  those-none t [] h = refl
  those-none t (x ∷ xs) h =
      go (t x) (h x (Memᴰ.head refl)) (those-none t xs (λ y m. h y (Memᴰ.tail m)))
    where
      go : (b : Bool) → (T b → ⊥) → those t xs ≡ []
          → cond b (x ∷ those t xs) (those t xs) ≡ []
      go true k e = absurd (k tt)
      go false k e = e

  pub those-one : (t : A → Bool) (xs : List A) → Distinct xs → (x : A) → Memᴰ x xs → T (t x)
      → ((y : A) → Memᴰ y xs → T (t y) → y ≡ x) → those t xs ≡ x ∷ []
  unfolding those
  those-one t [] d x m p u = absurd (Memᴰ.not-nil m)
  those-one t (h ∷ xs) d x m p u =
      go (Memᴰ.cases_cons m)
      (λ n. those-one t xs d.1 x n p (λ y q. u y (Memᴰ.tail q)))
    where
      first : (b : Bool) → T b → (r : List A) → r ≡ [] → h ≡ x → cond b (h ∷ r) r ≡ x ∷ []
      first true s r e q = ap₂ ◌∷◌ q e
      first false s r e q = elim s [ ]

      later : (b : Bool) → (T b → ⊥) → (r : List A) → r ≡ x ∷ [] → cond b (h ∷ r) r ≡ x ∷ []
      later true s r e = absurd (s tt)
      later false s r e = e

      go : (x ≡ h) ⊎ Memᴰ x xs → (Memᴰ x xs → those t xs ≡ x ∷ [])
          → cond (t h) (h ∷ those t xs) (those t xs) ≡ x ∷ []
      go (inl e) ih =
          let others : those t xs ≡ [] =
          those-none t xs
          (λ y q s. d.0 (Memᴰ.cast (sym e ∙ sym (u y (Memᴰ.tail q) s)) q)) in
          first (t h) (rw e at p) (those t xs) others (sym e)
      go (inr n) ih =
          later (t h) (λ s. d.0 (Memᴰ.cast (u h (Memᴰ.head refl) s) n)) (those t xs) (ih n)

-- ---- the numbers of a range

pub in_range : (a n c : ℕ) → a ≤ c → c < a + n → Memᴰ c (range a n)
unfolding range
in_range a zero c h l = absurd (omega arith)
in_range a (suc n) c h l =
    ⊎_elim (λ e. Memᴰ.head (sym e))
    (λ g. Memᴰ.tail (in_range (suc a) n c g (omega arith))) (eq-or-lt_of_le h)

pub of_range : (a n c : ℕ) → Memᴰ c (range a n) → (a ≤ c) × (c < a + n)
unfolding range
of_range a zero c m = absurd (Memᴰ.not-nil m)
of_range a (suc n) c (Memᴰ.head e) = (omega arith, omega arith)
of_range a (suc n) c (Memᴰ.tail m) =
    let s = of_range (suc a) n c m in
    (omega arith, omega arith)

pub distinct_range : (a n : ℕ) → Distinct (range a n)
unfolding range
distinct_range a zero = tt
distinct_range a (suc n) =
    ((λ m. omega (arith, (of_range (suc a) n a m).0)), distinct_range (suc a) n)
