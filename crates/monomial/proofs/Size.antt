-- The list of monomials has N members. A code of h and a code of k digits make one code of h + k digits, so
-- the monomials are as many as the codes of v digits with digit sum at most n; and these are counted by
-- Pascal's rule on the lowest digit.
use Rattle.std.proofs.Common.{◌≡◌, refl, sym, ap, ap₂, ◌∙◌, subst, ◌≢◌, List, [], ◌∷◌, Bool, true, false, ℕ, zero, suc, ◌+◌, ◌-◌, ◌*◌, ◌/◌, ◌%◌, ◌^◌, ◌≤◌, ◌<◌, zero-add, suc-add, pow-suc, mul_comm, mod-lt, div-lt_iff_lt-mul, div-add-mod', arith, length, pow-add, T, leb, eqb, eqb→eq, leb→le, le→leb}
use Rattle.std.proofs.Math.Nat.{pow-zero}
use Rattle.std.proofs.Math.Decide.{dec_le, ℕ_discrete}
use Rattle.std.proofs.Math.Arith.{digits_div, digits_mod}
use Rattle.std.proofs.Math.Dec.{eqb_refl}
use Rattle.algebra.specs.Sum.{sum_to}
use Rattle.algebra.proofs.Sums.{sum_to-ext, sum_to-add, sum_to-zero, sum_to-single, sum_to-grid}
use Rattle.monomial.specs.Enumeration.{upto, only}
use Rattle.monomial.specs.Count.{half, count}
use Rattle.monomial.specs.Table.{digit_sum, hit, of_order, block, monomials_of, monomials}
use Rattle.monomial.proofs.Pascal.{pascal, pascal-is}
use Rattle.monomial.proofs.Upto.{length-suc}
use Rattle.monomial.proofs.Address.{length-monomials_of, monomials_of-high}

length-upto {ℓ} : {A : Type ℓ} (f : ℕ → List A) (m : ℕ) → length (upto f m) ≡ sum_to (λ i. length (f i)) m
unfolding upto sum_to
length-upto f zero = refl
length-upto f (suc m) = length-suc f m ∙ ap (λ (x : ℕ). x + length (f m)) (length-upto f m)

-- ---- tests as numbers

bit : Bool → ℕ
bit true = 1
bit false = 0

bit_yes : (t : Bool) → T t → bit t ≡ 1
unfolding bit
bit_yes true h = refl
bit_yes false h = absurd h

bit_no : (t : Bool) → (T t → ⊥) → bit t ≡ 0
unfolding bit
bit_no true h = absurd (h tt)
bit_no false h = refl

leb_yes : (d s : ℕ) → d ≤ s → bit (leb d s) ≡ 1
leb_yes d s l = bit_yes (leb d s) (le→leb d s l)

leb_no : (d s : ℕ) → s < d → bit (leb d s) ≡ 0
leb_no d s l = bit_no (leb d s) (λ t. omega (arith, leb→le d s t))

eqb_yes : (d s : ℕ) → d ≡ s → bit (eqb d s) ≡ 1
eqb_yes d s e = bit_yes (eqb d s) (subst (λ (x : ℕ). T (eqb d x)) e (eqb_refl d))

eqb_no : (d s : ℕ) → d ≢ s → bit (eqb d s) ≡ 0
eqb_no d s ne = bit_no (eqb d s) (λ t. ne (eqb→eq d s t))

length-only {ℓ} : {A : Type ℓ} (t : Bool) (c : A) → length (only t (c ∷ [])) ≡ bit t
unfolding only bit
length-only true c = refl
length-only false c = refl

-- ---- codes of h digits

module _ (b : ℕ) where
  -- how many codes of h digits have digit sum s, and how many have at most s
  exactly : ℕ → ℕ → ℕ
  exactly h s = sum_to (λ c. bit (eqb (digit_sum b h c) s)) (b ^ h)

  at_most : ℕ → ℕ → ℕ
  at_most h s = sum_to (λ c. bit (leb (digit_sum b h c) s)) (b ^ h)

  length-of_order : (h s : ℕ) → length (of_order b h s) ≡ exactly h s
  unfolding of_order hit exactly
  length-of_order h s =
      length-upto (hit b h s) (b ^ h) ∙ sum_to-ext _ _ (b ^ h) (λ c l. length-only (eqb (digit_sum b h c) s) c)

  at_most_zero : (h : ℕ) → at_most h 0 ≡ exactly h 0
  unfolding at_most exactly
  at_most_zero h = sum_to-ext _ _ (b ^ h) (λ c l. same (digit_sum b h c))
    where
      same : (d : ℕ) → bit (leb d 0) ≡ bit (eqb d 0)
      same zero = refl
      same (suc d) = leb_no (suc d) 0 (omega arith) ∙ sym (eqb_no (suc d) 0 (omega arith))

  at_most_suc : (h s : ℕ) → at_most h (suc s) ≡ at_most h s + exactly h (suc s)
  unfolding at_most exactly
  at_most_suc h s = sum_to-ext _ _ (b ^ h) (λ c l. same (digit_sum b h c) (dec_le (digit_sum b h c) s) (ℕ_discrete (digit_sum b h c) (suc s))) ∙ sum_to-add _ _ (b ^ h)
    where
      same : (d : ℕ) → Dec (d ≤ s) → Dec (d ≡ suc s) → bit (leb d (suc s)) ≡ bit (leb d s) + bit (eqb d (suc s))
      same d (yes l) q = omega (arith, leb_yes d s l, leb_yes d (suc s) (omega arith), eqb_no d (suc s) (omega arith))
      same d (no l) (yes q) = omega (arith, leb_no d s (omega arith), leb_yes d (suc s) (omega arith), eqb_yes d (suc s) q)
      same d (no l) (no q) = omega (arith, leb_no d s (omega arith), leb_no d (suc s) (omega arith), eqb_no d (suc s) q)

  length-block_at_most : (h r : ℕ) → length (block b h r) ≡ at_most h r
  unfolding block upto
  length-block_at_most h zero = omega (arith, length-suc (of_order b h) 0, length-of_order h 0, at_most_zero h)
  length-block_at_most h (suc r) = omega (arith, length-suc (of_order b h) (suc r), length-of_order h (suc r), at_most_suc h r, length-block_at_most h r)

  -- a code's lowest digit r, over the others q
  low_digit : (h q r : ℕ) → r < b → digit_sum b (suc h) (q * b + r) ≡ r + digit_sum b h q
  unfolding digit_sum
  low_digit h q r l = ap₂ (λ (x y : ℕ). x + digit_sum b h y) (digits_mod q l) (digits_div q l)

  -- one lowest digit alone brings the others' sum_to d to s
  one-digit : (d s : ℕ) → s < b → sum_to (λ r. bit (eqb (r + d) s)) b ≡ bit (leb d s)
  one-digit d s l = go (dec_le d s)
    where
      go : Dec (d ≤ s) → sum_to (λ r. bit (eqb (r + d) s)) b ≡ bit (leb d s)
      go (yes q) =
          sum_to-single (λ r. bit (eqb (r + d) s)) b (s - d) (omega arith) (λ i k ne. eqb_no (i + d) s (omega arith))
          ∙ eqb_yes (s - d + d) s (omega arith) ∙ sym (leb_yes d s q)
      go (no q) =
          sum_to-zero (λ r. bit (eqb (r + d) s)) b (λ i k. eqb_no (i + d) s (omega arith)) ∙ sym (leb_no d s (omega arith))

  exactly_suc : (h s : ℕ) → s < b → exactly (suc h) s ≡ at_most h s
  unfolding exactly at_most
  exactly_suc h s l =
      let f : ℕ → ℕ = λ c. bit (eqb (digit_sum b (suc h) c) s) in
      ap (sum_to f) (pow-suc b h) ∙ sum_to-grid f (b ^ h) b
      ∙ sum_to-ext (λ q. sum_to (λ r. f (q * b + r)) b) (λ q. bit (leb (digit_sum b h q) s)) (b ^ h)
      (λ q k. sum_to-ext (λ r. f (q * b + r)) (λ r. bit (eqb (r + digit_sum b h q) s)) b (λ r j. ap (λ (x : ℕ). bit (eqb x s)) (low_digit h q r j))
      ∙ one-digit (digit_sum b h q) s l)

  at_most_none : (r : ℕ) → at_most 0 r ≡ 1
  unfolding at_most digit_sum sum_to
  at_most_none r = ap (sum_to (λ c. bit (leb 0 r))) (pow-zero b) ∙ zero-add (bit (leb 0 r)) ∙ leb_yes 0 r (omega arith)

  pub length-block : (h r : ℕ) → r < b → length (block b h r) ≡ pascal h r
  unfolding pascal block
  length-block zero r l = length-block_at_most 0 r ∙ at_most_none r
  length-block (suc h) r l =
      length-upto (of_order b (suc h)) (suc r)
      ∙ sum_to-ext (λ s. length (of_order b (suc h) s)) (pascal h) (suc r)
      (λ s k. length-of_order (suc h) s ∙ exactly_suc h s (omega arith) ∙ sym (length-block_at_most h s) ∙ length-block h s (omega arith))

  -- the digits above h, and the h digits below, are summed apart
  pos : (x m : ℕ) → x < b ^ suc m → zero < b
  pos x m l = go b refl
    where
      go : (z : ℕ) → b ≡ z → zero < b
      go zero e = absurd (omega (arith, (ap (λ (w : ℕ). w ^ suc m) e ∙ pow-suc 0 m)))
      go (suc z) e = omega arith

  digit_sum-join : (h k y x : ℕ) → x < b ^ h → digit_sum b (h + k) (y * b ^ h + x) ≡ digit_sum b h x + digit_sum b k y
  unfolding digit_sum
  digit_sum-join zero k y x l =
      ap₂ (digit_sum b) (zero-add k) (omega (arith, ap (λ (z : ℕ). y * z) (pow-zero b), pow-zero b)) ∙ sym (zero-add (digit_sum b k y))
  digit_sum-join (suc h) k y x l =
      let p = pos x h l in
      let c : ℕ = y * b ^ h + x / b in
      let e : y * b ^ suc h + x ≡ c * b + x % b = omega (arith, ap (λ (z : ℕ). y * z) (pow-suc b h), div-add-mod' x b) in
      ap₂ (digit_sum b) (suc-add h k) e
      ∙ ap₂ (λ (u w : ℕ). u + digit_sum b (h + k) w) (digits_mod c (mod-lt x p)) (digits_div c (mod-lt x p))
      ∙ omega (arith, digit_sum-join h k y (x / b) ((div-lt_iff_lt-mul p).1 (rw pow-suc at l)))

module _ (n v : ℕ) where
  abbrev B : ℕ
  B = n + 1

  abbrev h : ℕ
  h = half v

  abbrev k : ℕ
  k = v - half v

  pair : ℕ → ℕ → ℕ
  pair y x = bit (leb (digit_sum B h x + digit_sum B k y) n)

  length-monomials_of_pairs : (y : ℕ) → length (monomials_of n v y) ≡ sum_to (pair y) (B ^ h)
  unfolding pair at_most
  length-monomials_of_pairs y = go (dec_le (digit_sum B k y) n)
    where
      same : (d e : ℕ) → e ≤ n → Dec (d + e ≤ n) → bit (leb d (n - e)) ≡ bit (leb (d + e) n)
      same d e l (yes q) = leb_yes d (n - e) (omega arith) ∙ sym (leb_yes (d + e) n q)
      same d e l (no q) = leb_no d (n - e) (omega arith) ∙ sym (leb_no (d + e) n (omega arith))

      go : Dec (digit_sum B k y ≤ n) → length (monomials_of n v y) ≡ sum_to (pair y) (B ^ h)
      go (yes l) =
          length-monomials_of n v y l
          ∙ length-block_at_most B h (n - digit_sum B k y)
          ∙ sum_to-ext _ (pair y) (B ^ h) (λ x j. same (digit_sum B h x) (digit_sum B k y) l (dec_le (digit_sum B h x + digit_sum B k y) n))
      go (no l) =
          ap length (monomials_of-high n v y (omega arith))
          ∙ sym (sum_to-zero (pair y) (B ^ h) (λ x j. leb_no (digit_sum B h x + digit_sum B k y) n (omega arith)))

  pub length-monomials_pascal : length (monomials n v) ≡ pascal v n
  unfolding monomials at_most pair
  length-monomials_pascal =
      let f : ℕ → ℕ = λ c. bit (leb (digit_sum B (h + k) c) n) in
      length-upto (monomials_of n v) (B ^ k)
      ∙ sum_to-ext (λ y. length (monomials_of n v y)) (λ y. sum_to (λ x. f (y * B ^ h + x)) (B ^ h)) (B ^ k)
      (λ y l.
      length-monomials_of_pairs y
      ∙ sum_to-ext (pair y) (λ x. f (y * B ^ h + x)) (B ^ h) (λ x j. ap (λ (z : ℕ). bit (leb z n)) (sym (digit_sum-join B h k y x j))))
      ∙ sym (sum_to-grid f (B ^ k) (B ^ h))
      ∙ ap (sum_to f) (mul_comm (B ^ k) (B ^ h) ∙ sym (pow-add B h k))
      ∙ sym (length-block_at_most B (h + k) n)
      ∙ length-block B (h + k) n (omega arith)
      ∙ ap (λ (x : ℕ). pascal x n) (omega arith)

  pub length-monomials : length (monomials n v) ≡ count n v
  unfolding count
  length-monomials = length-monomials_pascal ∙ pascal-is v n
