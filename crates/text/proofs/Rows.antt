-- Numbers in a row: spaced lists one after the other, how long they are, and the line of a monomial
-- from its two codes.
use Rattle.std.proofs.Common.{◌≡◌, refl, ◌∙◌, List, [], ◌∷◌, ◌++◌, append-nil, append_assoc, ℕ, zero, suc, ◌+◌, ◌-◌, ◌*◌, ◌/◌, ◌%◌, ◌^◌, ◌≤◌, ◌<◌, mod-lt, arith, length, get_or, take, drop, length-append, take-append-drop, take-add, drop-drop}
use Rattle.answer.specs.declared.Refusal.{Refusal}
use Rattle.answer.specs.Refusals.{number}
use Rattle.monomial.specs.Count.{count, half}
use Rattle.monomial.specs.Table.{digits, monomial_of, monomials, C1, C2}
use Rattle.monomial.proofs.Address.{coded}
use Rattle.monomial.proofs.Places.{length_at, order-at}
use Rattle.monomial.proofs.Size.{length-monomials}
use Rattle.text.specs.Decimal.{ascii, decimal}
use Rattle.text.specs.Text.{header_text, spaced, monomial_text, codes_text, refused_text}
use Rattle.text.proofs.Decimals.{length-decimal}
use Rattle.text.proofs.Writings.{room-first}

pub spaced-append : (xs ys : List ℕ) → spaced (xs ++ ys) ≡ spaced xs ++ spaced ys
unfolding spaced
spaced-append [] ys = refl
spaced-append (x ∷ xs) ys =
    rw (spaced-append xs ys, append_assoc (ascii " " ++ decimal x) (spaced xs) (spaced ys))

pub spaced-one : (x : ℕ) → spaced (x ∷ []) ≡ ascii " " ++ decimal x
unfolding spaced
spaced-one x = append-nil (ascii " " ++ decimal x)

length-spaced_one : (k x : ℕ) → x < 10 ^ suc k → length (spaced (x ∷ [])) ≤ suc (suc k)
unfolding ascii
length-spaced_one k x h = rw (spaced-one x, length-append) (omega (arith, length-decimal k x h))

pub spaced-cons : (x : ℕ) (xs : List ℕ) → spaced (x ∷ xs) ≡ spaced (x ∷ []) ++ spaced xs
spaced-cons x xs = spaced-append (x ∷ []) xs

-- a digit in a base up to 100 takes at most three bytes with its space
length-spaced_digits : (b k c : ℕ) → 0 < b → b ≤ 100 → length (spaced (digits b k c)) ≤ 3 * k
unfolding digits
length-spaced_digits b zero c p h = unfold spaced in omega arith
length-spaced_digits b (suc k) c p h =
    let rest = length-spaced_digits b k (c / b) p h in
    rw (spaced-cons (c % b) (digits b k (c / b)), length-append)
    (omega (arith, length-spaced_one 1 (c % b) (omega (arith, mod-lt c p)), rest))

-- each line takes at most 64 bytes
pub length-header_text : (n v N : ℕ) → n < 100 → v < 100 → N < 10000 → length (header_text n v N) ≤ 64
unfolding header_text ascii
length-header_text n v N hn hv hN =
    simp length-append
    (omega (
      arith,
      length-decimal 1 n (omega arith),
      length-decimal 1 v (omega arith),
      length-decimal 3 N (omega arith),
    ))

-- the number of a refusal
pub number_low : (r : Refusal) → number r ≤ 10
number_low r = grind arith

pub length-refused_text : (k : ℕ) → k < 100 → length (refused_text k) ≤ 64
unfolding refused_text ascii
length-refused_text k h = simp length-append (omega (arith, length-decimal 1 k (omega arith)))

pub length-line : (n v p x y : ℕ) → n ≤ 10 → v ≤ 8 → p < 10000 → x < 65536 → y < 65536
    → length (codes_text n v p x y) ≤ 64
unfolding codes_text monomial_of ascii
length-line n v p x y hn hv hp hx hy =
    let h = half v in
    rw (spaced-append (digits (n + 1) h x) (digits (n + 1) (v - h) y), spaced-cons x (y ∷ []))
    (simp length-append
    (omega (
      arith,
      length-decimal 3 p (omega arith),
      length-spaced_one 4 x (omega arith),
      length-spaced_one 4 y (omega arith),
      length-spaced_digits (n + 1) h x (omega arith) (omega arith),
      length-spaced_digits (n + 1) (v - h) y (omega arith) (omega arith),
    )))

-- the exponents of a monomial of the table are the digits of its codes
pub line_of_codes : (n v j : ℕ) → j < count n v → let m = get_or (monomials n v) j [] in
    monomial_text n v (j + 1) m ≡ codes_text n v (j + 1) (C1 n v m) (C2 n v m)
unfolding monomial_text codes_text
line_of_codes n v j h =
    let m = get_or (monomials n v) j [] in
    let inside : j < length (monomials n v) = omega (arith, length-monomials n v) in
    rw (
      (coded n v m (length_at n v j inside) (order-at n v j inside)).again,
      spaced-append m (C1 n v m ∷ C2 n v m ∷ []),
      ← append_assoc (decimal (j + 1)) (spaced m) (spaced (C1 n v m ∷ C2 n v m ∷ [])),
    )

-- where the digits from i on are those of `rest`: one digit more, and those that are left then
module _ (b k i c rest : ℕ) (more : i < k)
    (left : drop i (digits b k c) ≡ digits b (k - i) rest) where
  next : drop i (digits b k c) ≡ rest % b ∷ digits b (k - (i + 1)) (rest / b)
  unfolding digits
  next = let e : k - i ≡ suc (k - (i + 1)) = omega arith in left ∙ rw e

  pub digits-left : drop (i + 1) (digits b k c) ≡ digits b (k - (i + 1)) (rest / b)
  digits-left = rw (← drop-drop 1 i (digits b k c), next)

  pub spaced-more : spaced (take (i + 1) (digits b k c))
      ≡ spaced (take i (digits b k c)) ++ spaced (rest % b ∷ [])
  spaced-more =
      rw (take-add i 1 (digits b k c), next)
      (spaced-append (take i (digits b k c)) (rest % b ∷ []))

-- where there is room for all numbers of a list, there is room for its first ones
pub room-some : (at i : ℕ) (xs : List ℕ) {room : ℕ} → at + length (spaced xs) ≤ room
    → at + length (spaced (take i xs)) ≤ room
room-some at i xs h =
    room-first at (spaced (take i xs)) (spaced (drop i xs))
    (rw (← spaced-append (take i xs) (drop i xs), take-append-drop i xs) h)
