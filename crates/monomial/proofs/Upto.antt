-- Lists made by counting up: how they grow, what stands where, and which part a place lies in.
use Rattle.std.proofs.Common.{◌≡◌, refl, sym, ap, ap₂, ◌∙◌, List, [], ◌∷◌, ◌++◌, append_assoc, append-nil, Bool, true, false, ℕ, zero, suc, ◌+◌, ◌-◌, ◌≤◌, ◌<◌, add-one, arith, length, get_or, length-append, get_or-append-add, T}
use Rattle.std.proofs.Math.Decide.{dec_lt, le_ind}
use Rattle.std.proofs.Math.ListN.{get_or-append}
use Rattle.monomial.specs.Enumeration.{upto, only, tabulate}

module _ {ℓ} {A : Type ℓ} (f : ℕ → List A) where
  pub upto-suc : (m : ℕ) → upto f (suc m) ≡ upto f m ++ f m
  unfolding upto
  upto-suc m = refl

  pub length-suc : (m : ℕ) → length (upto f (suc m)) ≡ length (upto f m) + length (f m)
  unfolding upto
  length-suc m = length-append (upto f m) (f m)

  -- a shorter run is a beginning of a longer one
  pub upto-prefix : (i m : ℕ) → i ≤ m → (rest : List A) × (upto f m ≡ upto f i ++ rest)
  unfolding upto
  upto-prefix i m h =
      le_ind (λ (x : ℕ). (rest : List A) × (upto f x ≡ upto f i ++ rest)) ([], sym (append-nil (upto f i)))
      (λ x k p. (p.0 ++ f x, ap (λ (l : List A). l ++ f x) p.1 ∙ append_assoc (upto f i) p.0 (f x))) m h

  -- a longer run is at least as long
  pub upto-mono : (i m : ℕ) → i ≤ m → length (upto f i) ≤ length (upto f m)
  upto-mono i m h = let p = upto-prefix i m h in omega (arith, ap length p.1, length-append (upto f i) p.0)

  -- a place in the part of i lies inside the whole
  pub inside : (m i j : ℕ) → i < m → j < length (f i) → length (upto f i) + j < length (upto f m)
  inside m i j h k = omega (arith, length-suc i, upto-mono (suc i) m h)

  -- what stands at place j of the part of i
  pub upto-at : (d : A) (m i j : ℕ) → i < m → j < length (f i) → get_or (upto f m) (length (upto f i) + j) d ≡ get_or (f i) j d
  upto-at d m i j h k =
      let p = upto-prefix (suc i) m h in
      ap (λ (l : List A). get_or l (length (upto f i) + j) d) p.1
      ∙ get_or-append (upto f (suc i)) p.0 d (length (upto f i) + j) (omega (arith, length-suc i))
      ∙ ap (λ (l : List A). get_or l (length (upto f i) + j) d) (upto-suc i)
      ∙ get_or-append-add (upto f i) (f i) j d

  -- the part that a place lies in, and the place inside that part
  pub locate : (m p : ℕ) → p < length (upto f m) → (i : ℕ) × (j : ℕ) × (i < m) × (j < length (f i)) × (p ≡ length (upto f i) + j)
  unfolding upto
  locate zero p h = absurd (omega arith)
  locate (suc m) p h = go (λ k. locate m p k) (dec_lt p (length (upto f m)))
    where
      go : (p < length (upto f m) → (i : ℕ) × (j : ℕ) × (i < m) × (j < length (f i)) × (p ≡ length (upto f i) + j))
          → Dec (p < length (upto f m)) → (i : ℕ) × (j : ℕ) × (i < suc m) × (j < length (f i)) × (p ≡ length (upto f i) + j)
      go ih (yes k) = let r = ih k in (r.0, r.1, omega (arith, r.2), r.3, r.4)
      go ih (no k) =
          (m, p - length (upto f m), omega arith, omega (arith, length-suc m), omega arith)

-- ---- `only`

pub only-true {ℓ} : {A : Type ℓ} (t : Bool) (ys : List A) → T t → only t ys ≡ ys
unfolding only
only-true true ys h = refl
only-true false ys h = absurd h

pub only-false {ℓ} : {A : Type ℓ} (t : Bool) (ys : List A) → (T t → ⊥) → only t ys ≡ []
unfolding only
only-false true ys h = absurd (h tt)
only-false false ys h = refl

-- a list that has a member passed the test
pub only-member {ℓ} : {A : Type ℓ} (t : Bool) (ys : List A) (j : ℕ) → j < length (only t ys) → T t
unfolding only
only-member true ys j h = tt
only-member false ys j h = omega arith

-- ---- `tabulate`

pub length-tabulate : (g : ℕ → ℕ) (m : ℕ) → length (tabulate g m) ≡ m
unfolding tabulate upto
length-tabulate g zero = refl
length-tabulate g (suc m) =
    length-append (tabulate g m) (g m ∷ []) ∙ ap (λ (z : ℕ). z + 1) (length-tabulate g m) ∙ add-one m

pub tabulate-suc : (g : ℕ → ℕ) (m : ℕ) → tabulate g (suc m) ≡ tabulate g m ++ (g m ∷ [])
unfolding tabulate
tabulate-suc g m = upto-suc (λ c. g c ∷ []) m

pub tabulate-ext : (f g : ℕ → ℕ) (m : ℕ) → ((i : ℕ) → i < m → f i ≡ g i) → tabulate f m ≡ tabulate g m
unfolding tabulate upto
tabulate-ext f g zero e = refl
tabulate-ext f g (suc m) e =
    ap₂ (λ (s : List ℕ) (x : ℕ). s ++ (x ∷ [])) (tabulate-ext f g m (λ i l. e i (omega arith))) (e m (omega arith))

pub get_d_tabulate : (g : ℕ → ℕ) (m i : ℕ) → i < m → get_or (tabulate g m) i 0 ≡ g i
unfolding tabulate
get_d_tabulate g m i l =
    let f : ℕ → List ℕ = λ c. g c ∷ [] in
    let e : i ≡ length (upto f i) + 0 = omega (arith, length-tabulate g i) in
    ap (λ (z : ℕ). get_or (upto f m) z 0) e ∙ upto-at f 0 m i 0 l (omega arith)
