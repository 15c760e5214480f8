-- Equal coefficients modulo p at every monomial of order at most n is agreement below order n + 1.
-- One way: the weight that is 1 at one monomial is a test. The other way: a weight is its values at
-- the monomials of a list, one by one, and a rest that is 0 at all of them (`off`, `off_all`); where
-- the list covers both polynomials, the rest weighs nothing.
use Rattle.std.proofs.Common.{ℕ, suc, ◌+◌, ◌*◌, ◌%◌, ◌≤◌, ◌≡◌, refl, sym, ap, ap₂, ◌∙◌, Bool, true, false, not, List, [], ◌∷◌, ◌++◌, append-nil, mul-zero, zero-mul, arith, T}
use mathlib.Core.List.{Memᴰ}
use Rattle.std.proofs.Math.Decide.{dec_le}
use Rattle.algebra.specs.Sum.{sum_over}
use Rattle.algebra.specs.Polynomial.{Monomial, Polynomial, order, trim, same, indicator}
use Rattle.algebra.specs.Polynomial.{weigh, coefficient_of}
use Rattle.algebra.specs.Agreement.{Test, Agree, Same}
use Rattle.algebra.specs.Check.{monomials_in}
use Rattle.algebra.proofs.Booleans.{indicator-no, indicator-not}
use Rattle.algebra.proofs.Trim.{trim-trim, same_to_trim, same_refl, same-order}
use Rattle.algebra.proofs.Weigh.{weigh-cong, weight_add, weight_scale}
use Rattle.algebra.proofs.Modulo.{mod-cong, mod-+, mod-*, mod-zero_left, mod-zero_right}

-- ---- the weight of one monomial

-- 1 at the monomial m, and 0 at each other
unfoldable pub here : Monomial → Monomial → ℕ
here m e = indicator (same m e)

-- 0 at the monomial m, and 1 at each other
unfoldable pub there : Monomial → Monomial → ℕ
there m e = indicator (not (same m e))

pub here-trim : (m e : Monomial) → here m (trim e) ≡ here m e
unfolding here same
here-trim m e = rw trim-trim

there-trim : (m e : Monomial) → there m (trim e) ≡ there m e
unfolding there same
there-trim m e = rw trim-trim

pub agree_to_same : (p n : ℕ) {P Q : Polynomial} → Agree p (suc n) P Q → Same p n P Q
unfolding coefficient_of here
agree_to_same p n h =
    record {
      at_low = λ m l.
          h.tested (here m)
          (record {
            trimmed = here-trim m;
            high = λ e u.
                mod-cong p (indicator-no (same m e) (λ t. omega (arith, same-order m e t)));
          });
    }

-- ---- a weight, made 0 at some monomials

unfoldable pub off : Monomial → (Monomial → ℕ) → Monomial → ℕ
off m φ e = there m e * φ e

unfoldable pub off_all : List Monomial → (Monomial → ℕ) → Monomial → ℕ
off_all [] φ = φ
off_all (m ∷ s) φ = off_all s (off m φ)

pub off-test : (p k : ℕ) (m : Monomial) (φ : Monomial → ℕ) → Test p k φ → Test p k (off m φ)
unfolding off
off-test p k m φ t =
    record {
      trimmed = λ e. ap₂ ◌*◌ (there-trim m e) (t.trimmed e);
      high = λ e l. mod-zero_right p (there m e) (φ e) (t.high e l);
    }

pub off_all-test : (p k : ℕ) (s : List Monomial) (φ : Monomial → ℕ) → Test p k φ
    → Test p k (off_all s φ)
unfolding off_all
off_all-test p k [] φ t = t
off_all-test p k (m ∷ s) φ t = off_all-test p k s (off m φ) (off-test p k m φ t)

pub off-same : (m : Monomial) (φ : Monomial → ℕ) → off m φ m ≡ 0
unfolding off there
off-same m φ =
    ap (λ (x : ℕ). x * φ m) (indicator-not (same m m) (same_refl m)) ∙ zero-mul (φ m)

pub off_all-zero : (s : List Monomial) (φ : Monomial → ℕ) (e : Monomial) → φ e ≡ 0
    → off_all s φ e ≡ 0
unfolding off_all off
off_all-zero [] φ e h = h
off_all-zero (m ∷ s) φ e h = off_all-zero s (off m φ) e (rw h (mul-zero _))

pub off_all-member : (s : List Monomial) (φ : Monomial → ℕ) (m : Monomial) → Memᴰ m s
    → off_all s φ m ≡ 0
unfolding off_all
off_all-member (d ∷ s) φ m (Memᴰ.head e) =
    off_all-zero s (off d φ) m (ap (off d φ) e ∙ off-same d φ)
off_all-member (d ∷ s) φ m (Memᴰ.tail u) = off_all-member s (off d φ) m u
off_all-member [] φ m x' = elim x' [ ]

off_all-append : (s u : List Monomial) (φ : Monomial → ℕ)
    → off_all (s ++ u) φ ≡ off_all u (off_all s φ)
unfolding off_all
off_all-append [] u φ = refl
off_all-append (m ∷ s) u φ = off_all-append s u (off m φ)

-- ---- one monomial apart

split_by : (b : Bool) (x y : ℕ) → (T b → x ≡ y)
    → x ≡ y * indicator b + indicator (not b) * x
unfolding indicator
split_by true x y k = omega (arith, k tt)
split_by false x y k = omega arith

split_at : (m : Monomial) (φ : Monomial → ℕ) → ((e : Monomial) → φ (trim e) ≡ φ e)
    → (e : Monomial) → φ e ≡ φ m * here m e + off m φ e
unfolding off here there
split_at m φ h e = split_by (same m e) (φ e) (φ m) (λ t. cc (h m, h e, same_to_trim m e t))

pub weigh-split : (P : Polynomial) (m : Monomial) (φ : Monomial → ℕ)
    → ((e : Monomial) → φ (trim e) ≡ φ e)
    → weigh P φ ≡ φ m * coefficient_of m P + weigh P (off m φ)
unfolding coefficient_of here
weigh-split P m φ h =
    weigh-cong P (split_at m φ h)
    ∙ weight_add P _ _
    ∙ ap (λ (x : ℕ). x + weigh P (off m φ)) (weight_scale (φ m) P (here m))

-- ---- a list of monomials that covers a polynomial up to order n

pub record Covers (p n : ℕ) (s : List Monomial) (P : Polynomial) : Type 0 where
  pub nothing_left : (φ : Monomial → ℕ) → Test p (suc n) φ → weigh P (off_all s φ) % p ≡ 0 % p

module _ (p n : ℕ) where
  -- polynomials that are covered by a list, and have the same coefficients there
  pub agree_on : (s : List Monomial) {P Q : Polynomial} → Covers p n s P → Covers p n s Q
      → ((m : Monomial) → Memᴰ m s → order m ≤ n
      → coefficient_of m P % p ≡ coefficient_of m Q % p)
      → Agree p (suc n) P Q
  unfolding off_all
  agree_on s {P} {Q} g h same_here =
      record {
        tested = λ φ t. go s same_here φ t (g.nothing_left φ t ∙ sym (h.nothing_left φ t));
      }
    where
      at_one : (m : Monomial) (φ : Monomial → ℕ) → Test p (suc n) φ
          → (order m ≤ n → coefficient_of m P % p ≡ coefficient_of m Q % p) → Dec (order m ≤ n)
          → (φ m * coefficient_of m P) % p ≡ (φ m * coefficient_of m Q) % p
      at_one m φ t c (yes l) = mod-* p (φ m) (φ m) _ _ refl (c l)
      at_one m φ t c (no l) =
          let z : φ m % p ≡ 0 % p = t.high m (omega arith) in
          mod-zero_left p (φ m) _ z ∙ sym (mod-zero_left p (φ m) _ z)

      go : (u : List Monomial)
          → ((m : Monomial) → Memᴰ m u → order m ≤ n
          → coefficient_of m P % p ≡ coefficient_of m Q % p)
          → (φ : Monomial → ℕ) → Test p (suc n) φ
          → weigh P (off_all u φ) % p ≡ weigh Q (off_all u φ) % p
          → weigh P φ % p ≡ weigh Q φ % p
      go [] c φ t e = e
      go (m ∷ u) c φ t e =
          rw (weigh-split P m φ t.trimmed, weigh-split Q m φ t.trimmed)
          (mod-+ p _ _ _ _ (at_one m φ t (c m (Memᴰ.head refl)) (dec_le (order m) n))
          (go u (λ d k. c d (Memᴰ.tail k)) (off m φ) (off-test p (suc n) m φ t) e))

  -- ---- the monomials of a polynomial cover it

  clear : (P : Polynomial) (s : List Monomial) (φ : Monomial → ℕ)
      → weigh P (off_all (monomials_in P ++ s) φ) ≡ 0
  unfolding weigh sum_over off_all monomials_in
  clear [] s φ = refl
  clear (t ∷ P) s φ =
      let e : Monomial = t.exponents in
      omega (
        arith,
        clear P s (off e φ),
        ap (t.coefficient *◌) (off_all-zero (monomials_in P ++ s) (off e φ) e (off-same e φ)),
      )

  pub covers_left : (P : Polynomial) (s : List Monomial) → Covers p n (monomials_in P ++ s) P
  covers_left P s = record { nothing_left = λ φ t. mod-cong p (clear P s φ) }

  pub covers_right : (s : List Monomial) (P : Polynomial) → Covers p n (s ++ monomials_in P) P
  covers_right s P =
      record {
        nothing_left = λ φ t.
            mod-cong p
            (rw (off_all-append s (monomials_in P) φ) (rw append-nil at (clear P [] (off_all s φ))));
      }

  pub agree_on_own : (P Q : Polynomial)
      → ((m : Monomial) → Memᴰ m (monomials_in P ++ monomials_in Q) → order m ≤ n
      → coefficient_of m P % p ≡ coefficient_of m Q % p)
      → Agree p (suc n) P Q
  agree_on_own P Q h =
      agree_on (monomials_in P ++ monomials_in Q) (covers_left P (monomials_in Q))
      (covers_right (monomials_in P) Q) h

  pub same_to_agree : {P Q : Polynomial} → Same p n P Q → Agree p (suc n) P Q
  same_to_agree {P} {Q} h = agree_on_own P Q (λ m u l. h.at_low m l)
