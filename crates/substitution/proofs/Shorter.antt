-- The beginning one letter shorter: its letters are those of the monomial but the last. Its code
-- is that of the monomial less the weight of the last variable, which is the largest power of the
-- base that is at most the code, since the exponents after the last variable are 0.
use Rattle.std.proofs.Common.{ℕ, zero, suc, pred, ◌+◌, ◌*◌, ◌^◌, ◌≤◌, ◌<◌, ◌≡◌, refl, sym, ap, ap₂, ◌∙◌, List, [], ◌∷◌, ◌++◌, append_assoc, append-nil, pow-suc, mul-le-mul_right, add-one, arith, length, eq-eqb, ne_eqb}
use Rattle.std.proofs.Math.Nat.{pow-zero, pow-le-pow_right}
use Rattle.std.proofs.Math.Decide.{ℕ_discrete, dec_lt}
use Rattle.std.proofs.Math.Arith.{digits_lt}
use Rattle.algebra.specs.Polynomial.{Monomial, order}
use Rattle.monomial.specs.Table.{code}
use Rattle.monomial.proofs.Digits.{order-append}
use Rattle.substitution.specs.Walk.{again, letters_from, letters, shorter}
use Rattle.substitution.proofs.Letters.{exponent-none, letters-none}

pub shorter-here : (x : ℕ) (m : Monomial) → order m ≡ 0 → shorter (x ∷ m) ≡ pred x ∷ m
unfolding shorter
shorter-here x m e = rw (eq-eqb (order m) 0 e)

pub shorter-later : (x : ℕ) (m : Monomial) → 0 < order m → shorter (x ∷ m) ≡ x ∷ shorter m
unfolding shorter
shorter-later x m l = rw (ne_eqb (order m) 0 (λ e. omega arith))

pub length-shorter : (m : Monomial) → length (shorter m) ≡ length m
length-shorter [] = unfold shorter in refl
length-shorter (x ∷ m) = go (ℕ_discrete (order m) 0) (length-shorter m)
  where
    go : Dec (order m ≡ 0) → length (shorter m) ≡ length m
        → length (shorter (x ∷ m)) ≡ length (x ∷ m)
    go (yes e) ih = ap length (shorter-here x m e)
    go (no e) ih = ap length (shorter-later x m (omega arith)) ∙ ap suc ih

pub order-shorter : (m : Monomial) → 0 < order m → suc (order (shorter m)) ≡ order m
unfolding order
order-shorter [] h = absurd (omega arith)
order-shorter (x ∷ m) h = go (ℕ_discrete (order m) 0) (order-shorter m)
  where
    go : Dec (order m ≡ 0) → (0 < order m → suc (order (shorter m)) ≡ order m)
        → suc (order (shorter (x ∷ m))) ≡ x + order m
    go (yes e) ih = ap (λ (d : Monomial). suc (order d)) (shorter-here x m e) ∙ omega arith
    go (no e) ih =
        ap (λ (d : Monomial). suc (order d)) (shorter-later x m (omega arith))
        ∙ omega (arith, ih (omega arith))

-- ---- letters

again-snoc : (x i : ℕ) → again (suc x) i ≡ again x i ++ i ∷ []
unfolding again
again-snoc zero i = refl
again-snoc (suc x) i = ap (λ (u : List ℕ). i ∷ u) (again-snoc x i)

shorter-from : (i : ℕ) (m : Monomial) → 0 < order m
    → (k : ℕ) × (letters_from i m ≡ letters_from i (shorter m) ++ k ∷ [])
unfolding letters_from order again
shorter-from i [] h = absurd (omega arith)
shorter-from i (zero ∷ m) h =
    let r = shorter-from (suc i) m (omega arith) in (
      r.0,
      r.1
          ∙ ap (λ (d : Monomial). letters_from i d ++ r.0 ∷ [])
          (sym (shorter-later 0 m (omega arith))),
    )
shorter-from i (suc x ∷ m) h = go (ℕ_discrete (order m) 0) (shorter-from (suc i) m)
  where
    go : Dec (order m ≡ 0)
        → (0 < order m
        → (k : ℕ) × (letters_from (suc i) m ≡ letters_from (suc i) (shorter m) ++ k ∷ []))
        → (k : ℕ)
        × (again (suc x) i ++ letters_from (suc i) m
        ≡ letters_from i (shorter (suc x ∷ m)) ++ k ∷ [])
    go (yes e) ih =
        let z : letters_from (suc i) m ≡ [] = letters-none (suc i) m (exponent-none m e) in (
          i,
          ap₂ ◌++◌ (again-snoc x i) z
              ∙ append-nil _
              ∙ ap (λ (u : List ℕ). u ++ i ∷ [])
              (sym (append-nil (again x i)) ∙ ap (λ (u : List ℕ). again x i ++ u) (sym z))
              ∙ ap (λ (d : Monomial). letters_from i d ++ i ∷ []) (sym (shorter-here (suc x) m e)),
        )
    go (no e) ih =
        let r = ih (omega arith) in (
          r.0,
          ap (λ (u : List ℕ). again (suc x) i ++ u) r.1
              ∙ sym (append_assoc (again (suc x) i) (letters_from (suc i) (shorter m)) (r.0 ∷ []))
              ∙ ap (λ (d : Monomial). letters_from i d ++ r.0 ∷ [])
              (sym (shorter-later (suc x) m (omega arith))),
        )

pub letters-shorter : (m : Monomial) → 0 < order m
    → (k : ℕ) × (letters m ≡ letters (shorter m) ++ k ∷ [])
letters-shorter m h = shorter-from 0 m h

-- ---- codes

pub code-none : (b : ℕ) (m : Monomial) → order m ≡ 0 → code b m ≡ 0
unfolding code order
code-none b [] h = refl
code-none b (x ∷ m) h =
    ap (λ (c : ℕ). c * b + x) (code-none b m (omega arith)) ∙ omega arith

pub pow_one : (b : ℕ) → b ^ 1 ≡ b
pow_one b = pow-suc b 0 ∙ ap (λ (x : ℕ). x * b) (pow-zero b) ∙ omega arith

-- the weight of the last variable, and the code without it
pub record LastWeight (b : ℕ) (m : Monomial) : Type 0 where
  pub power : ℕ
  pub low : b ^ power ≤ code b m
  pub high : code b m < b ^ (power + 1)
  pub is : code b (shorter m) + b ^ power ≡ code b m

pub last_weight : (b : ℕ) (m : Monomial) → 0 < order m → order m < b → LastWeight b m
unfolding code order
last_weight b [] h l = absurd (omega arith)
last_weight b (x ∷ m) h l = go (ℕ_discrete (order m) 0) (last_weight b m)
  where
    go : Dec (order m ≡ 0) → (0 < order m → order m < b → LastWeight b m) → LastWeight b (x ∷ m)
    go (yes e) ih =
        let z : code b m * b ≡ 0 = ap (λ (c : ℕ). c * b) (code-none b m e) ∙ omega arith in
        record {
          power = 0;
          low = omega (arith, pow-zero b);
          high = rw (pow_one b) (omega arith);
          is =
              ap (λ (d : Monomial). code b d + b ^ 0) (shorter-here x m e)
              ∙ omega (arith, pow-zero b);
        }
    go (no e) ih =
        let r = ih (omega arith) (omega arith) in
        let j = r.power in
        let s : b ^ suc j ≡ b ^ j * b = pow-suc b j in
        let t : b ^ (j + 1) ≡ b ^ j * b = ap (λ (i : ℕ). b ^ i) (add-one j) ∙ s in
        record {
          power = suc j;
          low = omega (arith, mul-le-mul_right b r.low);
          high =
              rw (add-one (suc j), pow-suc b (suc j), s, ← t) (digits_lt r.high (omega arith));
          is =
              ap (λ (d : Monomial). code b d + b ^ suc j) (shorter-later x m (omega arith))
              ∙ omega (arith, ap (λ (c : ℕ). c * b) r.is);
        }

-- one power of b lies at or below c with the next one above it
pub power-unique : (b c i j : ℕ) → 0 < b → b ^ i ≤ c → c < b ^ (i + 1) → b ^ j ≤ c
    → c < b ^ (j + 1) → i ≡ j
power-unique b c i j pos li hi lj hj = go (dec_lt i j) (dec_lt j i)
  where
    go : Dec (i < j) → Dec (j < i) → i ≡ j
    go (yes h) k =
        absurd (omega (arith, pow-le-pow_right {n = b} pos {i = i + 1} {j = j} (omega arith)))
    go (no h) (yes k) =
        absurd (omega (arith, pow-le-pow_right {n = b} pos {i = j + 1} {j = i} (omega arith)))
    go (no h) (no k) = omega arith

-- ---- the last variable is in the second part, unless that has none

pub shorter-none : (m : Monomial) → order m ≡ 0 → shorter m ≡ m
unfolding order
shorter-none [] h = unfold shorter in refl
shorter-none (x ∷ m) h =
    shorter-here x m (omega arith) ∙ ap (λ (y : ℕ). y ∷ m) {x = pred x} {y = x} (omega arith)

pub shorter-first : (s t : Monomial) → order t ≡ 0 → shorter (s ++ t) ≡ shorter s ++ t
shorter-first [] t h = shorter-none t h ∙ (unfold shorter in refl)
shorter-first (x ∷ s) t h = go (ℕ_discrete (order s) 0) (shorter-first s t h)
  where
    same-order : order (s ++ t) ≡ order s
    same-order = order-append s t ∙ omega arith

    go : Dec (order s ≡ 0) → shorter (s ++ t) ≡ shorter s ++ t
        → shorter (x ∷ (s ++ t)) ≡ shorter (x ∷ s) ++ t
    go (yes e) ih =
        shorter-here x (s ++ t) (same-order ∙ e)
        ∙ ap (λ (d : Monomial). d ++ t) (sym (shorter-here x s e))
    go (no e) ih =
        shorter-later x (s ++ t) (omega (arith, same-order))
        ∙ ap (λ (d : Monomial). x ∷ d) ih
        ∙ ap (λ (d : Monomial). d ++ t) (sym (shorter-later x s (omega arith)))

pub shorter-second : (s t : Monomial) → 0 < order t → shorter (s ++ t) ≡ s ++ shorter t
shorter-second [] t h = refl
shorter-second (x ∷ s) t h =
    shorter-later x (s ++ t) (omega (arith, order-append s t))
    ∙ ap (λ (d : Monomial). x ∷ d) (shorter-second s t h)
