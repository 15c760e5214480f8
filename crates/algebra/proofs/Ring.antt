-- The polynomials are a commutative ring. P and Q are the same polynomial where all their weights
-- are equal, `P ≐ Q`. Sum, multiple and product are operations on weights, whose laws are those of
-- numbers, an exchange of two sums, and the laws of monomials; `ring-laws` brings a polynomial
-- expression to a normal form by them.
use Rattle.std.proofs.Common.{ℕ, zero, suc, ◌+◌, ◌*◌, ◌≡◌, refl, sym, ap, ◌∙◌, [], arith}
use Rattle.std.proofs.Math.Path.{fun_ext}
use native.Mathlib.Nat as Nat
use Rattle.algebra.specs.Polynomial.{Monomial, Polynomial, ◌⊕◌, weigh, constant, one, add}
use Rattle.algebra.specs.Polynomial.{scale, mul, power}
use Rattle.algebra.specs.Agreement.{◌≐◌}
use Rattle.algebra.proofs.Monomials.{⊕-comm, ⊕-assoc, ⊕-zero, zero-⊕}
use Rattle.algebra.proofs.Weigh.{weigh-nil, weigh-add, weigh-scale, weigh-constant}
use Rattle.algebra.proofs.Weigh.{weigh-mul, weigh-swap, weight_add, weight_scale}
use Rattle.algebra.proofs.Weigh.{weight_zero}

abbrev pub Weight : Type 0
Weight = (Monomial → ℕ) → ℕ

pub at : (φ : Monomial → ℕ) {F G : Weight} → F ≡ G → F φ ≡ G φ
at φ e = ap (λ (w : Weight). w φ) e

-- ---- the operations on weights

infixl 60 ◌⊞◌
unfoldable pub ◌⊞◌ : Weight → Weight → Weight
(F ⊞ G) φ = F φ + G φ

infixr 75 ◌⊡◌
unfoldable pub ◌⊡◌ : ℕ → Weight → Weight
(c ⊡ F) φ = c * F φ

infixl 70 ◌⊛◌
unfoldable pub ◌⊛◌ : Weight → Weight → Weight
(F ⊛ G) φ = F (λ a. G (λ b. φ (a ⊕ b)))

pub weigh-⊞ : (P Q : Polynomial) → weigh (add P Q) ≡ weigh P ⊞ weigh Q
unfolding ◌⊞◌
weigh-⊞ P Q = fun_ext (weigh-add P Q)

pub weigh-⊡ : (c : ℕ) (P : Polynomial) → weigh (scale c P) ≡ c ⊡ weigh P
unfolding ◌⊡◌
weigh-⊡ c P = fun_ext (weigh-scale c P)

pub weigh-⊛ : (P Q : Polynomial) → weigh (mul P Q) ≡ weigh P ⊛ weigh Q
unfolding ◌⊛◌
weigh-⊛ P Q = fun_ext (weigh-mul P Q)

-- ---- laws of the sum of weights

pub ⊞-comm : (F G : Weight) → F ⊞ G ≡ G ⊞ F
unfolding ◌⊞◌
⊞-comm F G = fun_ext (λ φ. Nat.add_comm _ _)

pub ⊞-assoc : (F G H : Weight) → F ⊞ G ⊞ H ≡ F ⊞ (G ⊞ H)
unfolding ◌⊞◌
⊞-assoc F G H = fun_ext (λ φ. Nat.add_assoc _ _ _)

pub ⊞-left_comm : (F G H : Weight) → F ⊞ (G ⊞ H) ≡ G ⊞ (F ⊞ H)
unfolding ◌⊞◌
⊞-left_comm F G H = fun_ext (λ φ. Nat.add_left_comm _ _ _)

pub nil-⊞ : (F : Weight) → weigh [] ⊞ F ≡ F
unfolding ◌⊞◌
nil-⊞ F = fun_ext (λ φ. simp (weigh-nil, Nat.zero-add))

pub ⊞-nil : (F : Weight) → F ⊞ weigh [] ≡ F
unfolding ◌⊞◌
⊞-nil F = fun_ext (λ φ. simp (weigh-nil, Nat.add-zero))

-- ---- laws of the product of weights

pub ⊛-comm : (P Q : Polynomial) → weigh P ⊛ weigh Q ≡ weigh Q ⊛ weigh P
unfolding ◌⊛◌
⊛-comm P Q = fun_ext (λ φ. weigh-swap P Q _ ∙ simp ⊕-comm)

pub ⊛-assoc : (F G H : Weight) → F ⊛ G ⊛ H ≡ F ⊛ (G ⊛ H)
unfolding ◌⊛◌
⊛-assoc F G H = fun_ext (λ φ. simp ⊕-assoc)

pub ⊛-left_comm : (P Q : Polynomial) (H : Weight)
    → weigh P ⊛ (weigh Q ⊛ H) ≡ weigh Q ⊛ (weigh P ⊛ H)
⊛-left_comm P Q H =
    cc (⊛-assoc (weigh P) (weigh Q) H, ⊛-comm P Q, ⊛-assoc (weigh Q) (weigh P) H)

pub one-⊛ : (F : Weight) → weigh one ⊛ F ≡ F
unfolding ◌⊛◌
one-⊛ F = fun_ext (λ φ. simp (weigh-constant, zero-⊕, Nat.one-mul))

pub ⊛-one : (F : Weight) → F ⊛ weigh one ≡ F
unfolding ◌⊛◌
⊛-one F = fun_ext (λ φ. simp (weigh-constant, ⊕-zero, Nat.one-mul))

pub nil-⊛ : (F : Weight) → weigh [] ⊛ F ≡ weigh []
unfolding ◌⊛◌
nil-⊛ F = fun_ext (λ φ. simp weigh-nil)

pub ⊛-nil : (P : Polynomial) → weigh P ⊛ weigh [] ≡ weigh []
unfolding ◌⊛◌
⊛-nil P = fun_ext (λ φ. simp (weigh-nil, weight_zero))

-- ---- distribution

pub ⊞-⊛ : (F G H : Weight) → (F ⊞ G) ⊛ H ≡ F ⊛ H ⊞ G ⊛ H
unfolding ◌⊞◌ ◌⊛◌
⊞-⊛ F G H = refl

pub ⊛-⊞ : (P : Polynomial) (G H : Weight) → weigh P ⊛ (G ⊞ H) ≡ weigh P ⊛ G ⊞ weigh P ⊛ H
unfolding ◌⊞◌ ◌⊛◌
⊛-⊞ P G H = fun_ext (λ φ. weight_add P _ _)

pub ⊡-⊛ : (c : ℕ) (F G : Weight) → (c ⊡ F) ⊛ G ≡ c ⊡ (F ⊛ G)
unfolding ◌⊡◌ ◌⊛◌
⊡-⊛ c F G = refl

pub ⊛-⊡ : (c : ℕ) (P : Polynomial) (G : Weight) → weigh P ⊛ (c ⊡ G) ≡ c ⊡ (weigh P ⊛ G)
unfolding ◌⊡◌ ◌⊛◌
⊛-⊡ c P G = fun_ext (λ φ. weight_scale c P _)

pub ⊡-⊞ : (c : ℕ) (F G : Weight) → c ⊡ (F ⊞ G) ≡ c ⊡ F ⊞ c ⊡ G
unfolding ◌⊡◌ ◌⊞◌
⊡-⊞ c F G = fun_ext (λ φ. Nat.mul-add _ _ _)

pub ⊡-⊡ : (c d : ℕ) (F : Weight) → c ⊡ d ⊡ F ≡ (c * d) ⊡ F
unfolding ◌⊡◌
⊡-⊡ c d F = fun_ext (λ φ. sym (Nat.mul_assoc c d _))

pub ⊡-nil : (c : ℕ) → c ⊡ weigh [] ≡ weigh []
unfolding ◌⊡◌
⊡-nil c = fun_ext (λ φ. simp (weigh-nil, Nat.mul-zero))

pub one-⊡ : (F : Weight) → 1 ⊡ F ≡ F
unfolding ◌⊡◌
one-⊡ F = fun_ext (λ φ. Nat.one-mul _)

pub suc-⊡ : (c : ℕ) (F : Weight) → suc c ⊡ F ≡ c ⊡ F ⊞ F
unfolding ◌⊡◌ ◌⊞◌
suc-⊡ c F = fun_ext (λ φ. omega arith)

pub ruleset add-laws = (weigh-⊞, ⊞-comm, ⊞-assoc, ⊞-left_comm, nil-⊞, ⊞-nil)

pub ruleset mul-laws = (weigh-⊛, ⊛-comm, ⊛-assoc, ⊛-left_comm, one-⊛, ⊛-one, nil-⊛, ⊛-nil)

pub ruleset scale-laws = (weigh-⊡, ⊡-⊛, ⊛-⊡, ⊡-⊞, ⊡-⊡, ⊡-nil, one-⊡)

pub ruleset ring-laws = (add-laws, mul-laws, scale-laws, ⊞-⊛, ⊛-⊞)

-- ---- the ring of polynomials

pub add_comm : (P Q : Polynomial) → add P Q ≐ add Q P
add_comm P Q = simp ring-laws

pub add_assoc : (P Q R : Polynomial) → add (add P Q) R ≐ add P (add Q R)
add_assoc P Q R = simp ring-laws

pub zero-add : (P : Polynomial) → add [] P ≐ P
zero-add P = refl

pub add-zero : (P : Polynomial) → add P [] ≐ P
add-zero P = simp ring-laws

pub mul_comm : (P Q : Polynomial) → mul P Q ≐ mul Q P
mul_comm P Q = simp ring-laws

pub mul_assoc : (P Q R : Polynomial) → mul (mul P Q) R ≐ mul P (mul Q R)
mul_assoc P Q R = simp ring-laws

pub mul-middle : (A B C D : Polynomial) → mul (mul A B) (mul C D) ≐ mul (mul A C) (mul B D)
mul-middle A B C D = simp ring-laws

pub one-mul : (P : Polynomial) → mul one P ≐ P
one-mul P = simp ring-laws

pub mul-one : (P : Polynomial) → mul P one ≐ P
mul-one P = simp ring-laws

pub mul-zero : (P : Polynomial) → mul P [] ≐ []
mul-zero P = simp ring-laws

pub add-mul : (P Q R : Polynomial) → mul (add P Q) R ≐ add (mul P R) (mul Q R)
add-mul P Q R = simp ring-laws

pub mul-add : (P Q R : Polynomial) → mul P (add Q R) ≐ add (mul P Q) (mul P R)
mul-add P Q R = simp ring-laws

-- ---- multiples

pub scale-add : (c : ℕ) (P Q : Polynomial) → scale c (add P Q) ≐ add (scale c P) (scale c Q)
scale-add c P Q = simp ring-laws

pub scale-scale : (c d : ℕ) (P : Polynomial) → scale c (scale d P) ≐ scale (c * d) P
scale-scale c d P = simp ring-laws

pub scale-mul : (c : ℕ) (P Q : Polynomial) → mul (scale c P) Q ≐ scale c (mul P Q)
scale-mul c P Q = simp ring-laws

pub mul-scale : (c : ℕ) (P Q : Polynomial) → mul P (scale c Q) ≐ scale c (mul P Q)
mul-scale c P Q = simp ring-laws

pub add-scale : (c d : ℕ) (P : Polynomial) → scale (c + d) P ≐ add (scale c P) (scale d P)
add-scale c d P = fun_ext (λ φ. simp (weigh-add, weigh-scale, Nat.add-mul))

pub zero-scale : (P : Polynomial) → scale 0 P ≐ []
zero-scale P = fun_ext (λ φ. simp (weigh-scale, weigh-nil, Nat.zero-mul))

pub one-scale : (P : Polynomial) → scale 1 P ≐ P
one-scale P = fun_ext (λ φ. simp (weigh-scale, Nat.one-mul))

pub constant-mul : (c : ℕ) (P : Polynomial) → mul (constant c) P ≐ scale c P
constant-mul c P = fun_ext (λ φ. simp (weigh-mul, weigh-constant, weigh-scale, zero-⊕))

-- ---- the same polynomials put into an operation

pub add_cong : (P P' Q Q' : Polynomial) → P ≐ P' → Q ≐ Q' → add P Q ≐ add P' Q'
add_cong P P' Q Q' g h = cc (weigh-⊞ P Q, weigh-⊞ P' Q')

pub mul-cong : (P P' Q Q' : Polynomial) → P ≐ P' → Q ≐ Q' → mul P Q ≐ mul P' Q'
mul-cong P P' Q Q' g h = cc (weigh-⊛ P Q, weigh-⊛ P' Q')

pub scale-cong : (c : ℕ) (P P' : Polynomial) → P ≐ P' → scale c P ≐ scale c P'
scale-cong c P P' g = cc (weigh-⊡ c P, weigh-⊡ c P')

-- ---- powers

pub power-add : (P : Polynomial) (j k : ℕ) → power P (j + k) ≐ mul (power P j) (power P k)
unfolding power
power-add P zero k = simp (Nat.zero-add, mul-laws)
power-add P (suc j) k = simp (Nat.suc-add, weigh-⊛, ⊛-assoc, power-add P j k)
