-- The residues modulo p are a commutative ring, and `res` takes numbers, sums and products to it.
-- Where p is prime, every element but 0 has an inverse.
use Rattle.std.proofs.Common.{◌≡◌, refl, sym, ap, ◌∙◌, ⊎_elim, List, [], ◌∷◌, ℕ, ◌+◌, ◌-◌, ◌*◌, ◌%◌, ◌<◌, add_comm, add_assoc, zero-add, mul_comm, mul_assoc, one-mul, zero-mul, mul-add, mod-lt, mod-eq_of_lt, eq-zero-or-pos, arith}
use Prim.Native.Nat.{Fin}
use Rattle.std.proofs.Math.Nat.{add-mod, mod-add-mod, add-mod-mod, mod-mod}
use Rattle.std.proofs.Math.Nat.{mod_self, zero-mod}
use Rattle.algebra.specs.Sum.{sum_over}
use Rattle.residue.specs.Modulus.{Prime}
use Rattle.residue.proofs.Modular.{mod-mul, mul-mod, mod-mul_mod}
use Rattle.residue.proofs.Inverses.{inverse-exists}
use Rattle.linear.proofs.Ring as G
use Rattle.linear.proofs.Ring.{Ring}

module _ (p : ℕ) (pos : 0 < p) where
  abbrev residue : ℕ → Fin p
  residue n = (n % p, mod-lt n pos)

  unfoldable pub Residues : Ring
  Residues = record {
    R = Fin p;
    ◌⊕◌ = λ a b. residue (a.0 + b.0);
    ◌⊗◌ = λ a b. residue (a.0 * b.0);
    𝟘 = residue 0;
    𝟙 = residue 1;
    minus = residue (p - 1);
    add_comm = λ a b. native.Mathlib.Fin.val_path (ap (λ x. x % p) (add_comm a.0 b.0));
    add_assoc = λ a b c. native.Mathlib.Fin.val_path (simp (mod-add-mod, add-mod-mod, add_assoc));
    zero-add = λ a. native.Mathlib.Fin.val_path (simp (mod-add-mod, zero-add) (mod-eq_of_lt a.1));
    mul_comm = λ a b. native.Mathlib.Fin.val_path (ap (λ x. x % p) (mul_comm a.0 b.0));
    mul_assoc = λ a b c. native.Mathlib.Fin.val_path (simp (mod-mul, mul-mod, mul_assoc));
    one-mul = λ a. native.Mathlib.Fin.val_path (simp (mod-mul, one-mul) (mod-eq_of_lt a.1));
    zero-mul = λ a. native.Mathlib.Fin.val_path (simp (mod-mul, zero-mul));
    mul-add = λ a b c. native.Mathlib.Fin.val_path (simp (mul-mod, mod-add-mod, add-mod-mod, mul-add));
    one_minus = native.Mathlib.Fin.val_path
        (simp (mod-add-mod, add-mod-mod) (ap (λ x. x % p) whole ∙ mod_self p ∙ sym (zero-mod p)));
  }
    where
      whole : 1 + (p - 1) ≡ p
      whole = omega arith

  open Residues use {R, ◌⊕◌, ◌⊗◌, 𝟘, 𝟙, minus}

  infixl 65 ◌⊕◌
  infixl 70 ◌⊗◌
  -- ---- from numbers to residues and back

  -- the residue of a number
  unfoldable pub res : ℕ → R
  unfolding Residues
  res n = residue n

  pub res-equal : (a b : ℕ) → a % p ≡ b % p → res a ≡ res b
  unfolding res Residues
  res-equal a b e = native.Mathlib.Fin.val_path e

  pub equal-res : (a b : ℕ) → res a ≡ res b → a % p ≡ b % p
  unfolding res Residues
  equal-res a b e = ap (λ (x : Fin p). x.0) e

  pub res-mod : (a : ℕ) → res (a % p) ≡ res a
  res-mod a = res-equal (a % p) a (mod-mod a p)

  -- the number below p of which an element is the residue
  unfoldable pub representative : R → ℕ
  unfolding Residues
  representative a = a.0

  pub representative-below : (a : R) → representative a < p
  unfolding representative Residues
  representative-below a = a.1

  pub res-representative : (a : R) → res (representative a) ≡ a
  unfolding res representative Residues
  res-representative a = native.Mathlib.Fin.val_path (mod-eq_of_lt a.1)

  pub res-zero : res 0 ≡ 𝟘
  unfolding res Residues
  res-zero = refl

  pub res_one : res 1 ≡ 𝟙
  unfolding res Residues
  res_one = refl

  pub res-add : (a b : ℕ) → res (a + b) ≡ res a ⊕ res b
  unfolding res Residues
  res-add a b = native.Mathlib.Fin.val_path (add-mod a b p)

  pub res-mul : (a b : ℕ) → res (a * b) ≡ res a ⊗ res b
  unfolding res Residues
  res-mul a b = native.Mathlib.Fin.val_path (sym (mod-mul_mod a b p))

  pub res-minus : (a : ℕ) → res ((p - 1) * a) ≡ minus ⊗ res a
  unfolding res Residues
  res-minus a = native.Mathlib.Fin.val_path (sym (mod-mul_mod (p - 1) a p))

  pub res-sum : {A : Type 0} (xs : List A) (f : A → ℕ)
      → res (sum_over xs f) ≡ G.sum Residues xs (λ x. res (f x))
  unfolding sum_over G.sum
  res-sum [] f = res-zero
  res-sum (x ∷ xs) f = res-add (f x) (sum_over xs f) ∙ ap (λ y. res (f x) ⊕ y) (res-sum xs f)

  -- ---- a prime modulus

  module _ (h : Prime p) where
    pub one_not_zero : 𝟙 ≡ 𝟘 → ⊥
    unfolding Residues
    one_not_zero e =
        let f : 1 % p ≡ 0 % p = ap (λ (x : Fin p). x.0) e in
        omega (arith, mod-eq_of_lt h.above_one, zero-mod p)

    pub inverse : (b : R) → (b ≡ 𝟘 → ⊥) → (c : R) × (c ⊗ b ≡ 𝟙)
    inverse b n = (res w.0, path)
      where
        is_zero : representative b % p ≡ 0 → b ≡ 𝟘
        is_zero e =
            sym (res-representative b) ∙ res-equal (representative b) 0 (e ∙ sym (zero-mod p)) ∙ res-zero

        positive : 0 < representative b % p
        positive = ⊎_elim (λ e. absurd (n (is_zero e))) (λ l. l) (eq-zero-or-pos (representative b % p))

        w : (w : ℕ) × (w < p) × ((w * representative b) % p ≡ 1)
        w = inverse-exists h (representative b) positive

        path : res w.0 ⊗ b ≡ 𝟙
        path =
            ap (λ x. res w.0 ⊗ x) (sym (res-representative b))
            ∙ sym (res-mul w.0 (representative b))
            ∙ res-equal (w.0 * representative b) 1 (w.2 ∙ sym (mod-eq_of_lt h.above_one))
            ∙ res_one
