-- Over a list of all monomials of v variables up to order n, the coefficients decide: the list
-- covers every polynomial of v variables.
use Rattle.std.proofs.Common.{ℕ, zero, suc, ◌%◌, ◌≤◌, ◌<◌, zero-le, ◌≡◌, refl, ap, List, [], ◌∷◌, arith, length, get_or}
use Rattle.std.proofs.Math.Decide.{dec_le}
use Rattle.algebra.specs.Sum.{sum_over}
use Rattle.algebra.specs.Polynomial.{Monomial, Polynomial, order, trim_cons, trim, weigh}
use Rattle.algebra.specs.Polynomial.{coefficient_of}
use Rattle.algebra.specs.Agreement.{Test, Agree, Within}
use Rattle.algebra.proofs.Trim.{order-trim}
use Rattle.algebra.proofs.Modulo.{mod-cong, mod-+, mod-zero_right}
use Rattle.algebra.proofs.Coefficients.{off_all, off_all-test, off_all-member, Covers, agree_on}
use Rattle.algebra.proofs.Enumerate.{Enumerates}
use Rattle.algebra.proofs.Table.{table, coefficient-at, within_table, member-index}

-- a monomial with zeros at its end, to v exponents
unfoldable pub pad : ℕ → Monomial → Monomial
pad zero e = e
pad (suc v) [] = 0 ∷ pad v []
pad (suc v) (x ∷ e) = x ∷ pad v e

pub trim-pad : (v : ℕ) (e : Monomial) → trim (pad v e) ≡ trim e
unfolding pad trim trim_cons
trim-pad zero e = refl
trim-pad (suc v) [] = rw (trim-pad v [])
trim-pad (suc v) (x ∷ e) = rw (trim-pad v e)

pub length-pad : (v : ℕ) (e : Monomial) → length e ≤ v → length (pad v e) ≡ v
unfolding pad
length-pad zero [] h = refl
length-pad zero (x ∷ e) h = absurd (omega arith)
length-pad (suc v) [] h = ap suc (length-pad v [] zero-le)
length-pad (suc v) (x ∷ e) h = ap suc (length-pad v e (omega arith))

module _ (p v n : ℕ) (s : List Monomial) (E : Enumerates v n s) where
  covered : (φ : Monomial → ℕ) → Test p (suc n) φ → (e : Monomial) → length e ≤ v
      → off_all s φ e % p ≡ 0 % p
  covered φ t e l = go (dec_le (order e) n)
    where
      all : Test p (suc n) (off_all s φ)
      all = off_all-test p (suc n) s φ t

      go : Dec (order e ≤ n) → off_all s φ e % p ≡ 0 % p
      go (yes h) =
          let d : Monomial = pad v e in
          let q : order d ≡ order e = cc (order-trim d, order-trim e, trim-pad v e) in
          let z : off_all s φ d ≡ 0 =
          off_all-member s φ d (E.all d (length-pad v e l) (omega arith)) in
          mod-cong p (cc (z, all.trimmed d, all.trimmed e, trim-pad v e))
      go (no h) = all.high e (omega arith)

  clear : (P : Polynomial) → Within v P → (φ : Monomial → ℕ) → Test p (suc n) φ
      → weigh P (off_all s φ) % p ≡ 0 % p
  unfolding weigh sum_over
  clear [] w φ t = refl
  clear (u ∷ P) w φ t =
      mod-+ p _ 0 _ 0
      (mod-zero_right p u.coefficient _ (covered φ t u.exponents w.0))
      (clear P w.1 φ t)

  pub covers_within : (P : Polynomial) → Within v P → Covers p n s P
  covers_within P w = record { nothing_left = clear P w }

  pub agree_over : (P Q : Polynomial) → Within v P → Within v Q
      → ((i : ℕ) → i < length s
      → coefficient_of (get_or s i []) P % p ≡ coefficient_of (get_or s i []) Q % p)
      → Agree p (suc n) P Q
  agree_over P Q w x h =
      agree_on p n s (covers_within P w) (covers_within Q x)
      (λ m u l. let t = member-index s m u in rw t.2 at (h t.0 t.1))

  pub table-within : (cs : List ℕ) → Within v (table s cs)
  table-within cs = within_table v s E.sized cs

  pub coefficient-table : (cs : List ℕ) (i : ℕ) → i < length s
      → coefficient_of (get_or s i []) (table s cs) ≡ get_or cs i 0
  coefficient-table cs i l = coefficient-at v s E.sized E.once cs i l

  -- the coefficients of P, as a program holds them, are P
  pub represents : (P : Polynomial) (cs : List ℕ) → Within v P
      → ((i : ℕ) → i < length s → get_or cs i 0 % p ≡ coefficient_of (get_or s i []) P % p)
      → Agree p (suc n) (table s cs) P
  represents P cs w h =
      agree_over (table s cs) P (table-within cs) w
      (λ i l. rw (coefficient-table cs i l) (h i l))
