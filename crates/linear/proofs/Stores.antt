-- What an array holds after one more store, at every place stored so far.
use Rattle.std.proofs.Common.{◌≡◌, refl, sym, ap, ◌∙◌, ⊎_elim, List, ℕ, zero, suc, ◌+◌, ◌<◌, eq-or-lt_of_le, arith, length, set, replicate, get_or-set_same, get_or-set_other}
use Rattle.linear.specs.Matrix.{element, at}

-- one more number of a row
pub store_more : (o : List ℕ) (x a : ℕ) (f : ℕ → ℕ) → x < length o
    → ((y : ℕ) → y < x → at o y ≡ f y) → a ≡ f x
    → (y : ℕ) → y < x + 1 → at (set o x a) y ≡ f y
store_more o x a f lx h e y l = ⊎_elim
    (λ (q : y ≡ x). ap (at (set o x a)) q ∙ get_or-set_same o x a 0 lx ∙ e ∙ ap f (sym q))
    (λ (q : y < x). get_or-set_other o x y a 0 (λ u. omega arith) ∙ h y q)
    (eq-or-lt_of_le (omega arith))

pub row-zeros : (n x : ℕ) → at (replicate n 0) x ≡ 0
row-zeros zero x = refl
row-zeros (suc n) zero = refl
row-zeros (suc n) (suc x) = row-zeros n x

pub element-zeros : (n w i j : ℕ) → element (replicate n (replicate w 0)) i j ≡ 0
element-zeros zero w i j = refl
element-zeros (suc n) w zero j = row-zeros w j
element-zeros (suc n) w (suc i) j = element-zeros n w i j
