-- A square matrix is its entries: functions that agree below v give equal squares, and the entries
-- of a square are the function's values.
use Rattle.std.proofs.Common.{◌≡◌, refl, sym, ap, ap₂, ◌∙◌, Bool, cond, List, [], ◌∷◌, map, ℕ, zero, suc, ◌+◌, ◌<◌, arith, get_or, eq-eqb, ne_eqb}
use Rattle.linear.specs.Matrix.{Matrix, element, range, times, square, product}
use Rattle.linear.specs.Matrix.{unit, identity_matrix}
use Rattle.linear.specs.Columns.{All}
use Rattle.linear.proofs.Lists.{all-below}

map_same : {A B : Type 0} (P : A → Type 0) (f g : A → B) → ((x : A) → P x → f x ≡ g x)
    → (xs : List A) → All P xs → map f xs ≡ map g xs
map_same P f g h [] a = refl
map_same P f g h (x ∷ xs) a = ap₂ ◌∷◌ (h x a.0) (map_same P f g h xs a.1)

pub square-same : (v : ℕ) (f g : ℕ → ℕ → ℕ) → ((i j : ℕ) → i < v → j < v → f i j ≡ g i j)
    → square v f ≡ square v g
unfolding square
square-same v f g h =
    map_same (λ i. i < v) (λ i. map (f i) (range 0 v)) (λ i. map (g i) (range 0 v))
    (λ i li. map_same (λ j. j < v) (f i) (g i) (λ j lj. h i j li lj) (range 0 v) (all-below v))
    (range 0 v) (all-below v)

map_range : {A : Type 0} (f : ℕ → A) (a n i : ℕ) (d : A) → i < n
    → get_or (map f (range a n)) i d ≡ f (a + i)
unfolding range
map_range f a zero i d l = absurd (omega arith)
map_range f a (suc n) zero d l = let e : a ≡ a + 0 = omega arith in ap f e
map_range f a (suc n) (suc i) d l =
    let e : suc a + i ≡ a + suc i = omega arith in
    map_range f (suc a) n i d (omega arith) ∙ ap f e

map_below : {A : Type 0} (f : ℕ → A) (v i : ℕ) (d : A) → i < v → get_or (map f (range 0 v)) i d ≡ f i
map_below f v i d l = let e : 0 + i ≡ i = omega arith in map_range f 0 v i d l ∙ ap f e

pub square-element : (v : ℕ) (f : ℕ → ℕ → ℕ) (i j : ℕ) → i < v → j < v
    → element (square v f) i j ≡ f i j
unfolding square
square-element v f i j li lj =
    ap (λ (r : List ℕ). get_or r j 0) (map_below (λ i. map (f i) (range 0 v)) v i [] li)
    ∙ map_below (f i) v j 0 lj

-- ---- products and the identity matrix

pub unit-same : (i j : ℕ) → i ≡ j → unit i j ≡ 1
unit-same i j e = ap (λ (b : Bool). cond b 1 0) (eq-eqb i j e)

pub unit-other : (i j : ℕ) → (i ≡ j → ⊥) → unit i j ≡ 0
unit-other i j n = ap (λ (b : Bool). cond b 1 0) (ne_eqb i j n)

pub identity_matrix-element : (v i j : ℕ) → i < v → j < v → element (identity_matrix v) i j ≡ unit i j
unfolding identity_matrix
identity_matrix-element v i j li lj = square-element v unit i j li lj

pub product-element : (p v : ℕ) (m n : Matrix) (i j : ℕ) → i < v → j < v
    → element (product p v m n) i j ≡ times p v (element m i) n j
unfolding product
product-element p v m n i j li lj = square-element v (λ i j. times p v (element m i) n j) i j li lj

pub product-same : (p v : ℕ) (m n m' n' : Matrix)
    → ((i j : ℕ) → i < v → j < v → times p v (element m i) n j ≡ times p v (element m' i) n' j)
    → product p v m n ≡ product p v m' n'
unfolding product
product-same p v m n m' n' h =
    square-same v (λ i j. times p v (element m i) n j) (λ i j. times p v (element m' i) n' j) h

-- a product is the identity where its entries are
pub identity-of_elements : (p v : ℕ) (m n : Matrix)
    → ((i j : ℕ) → i < v → j < v → times p v (element m i) n j ≡ unit i j)
    → product p v m n ≡ identity_matrix v
unfolding product identity_matrix
identity-of_elements p v m n h = square-same v (λ i j. times p v (element m i) n j) unit h

pub elements_of_identity : (p v : ℕ) (m n : Matrix) → product p v m n ≡ identity_matrix v
    → (i j : ℕ) → i < v → j < v → times p v (element m i) n j ≡ unit i j
elements_of_identity p v m n e i j li lj =
    sym (product-element p v m n i j li lj)
    ∙ ap (λ (k : Matrix). element k i j) e
    ∙ identity_matrix-element v i j li lj
