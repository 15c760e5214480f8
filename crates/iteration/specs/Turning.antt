-- What the turns of the inversion ask and leave.
--
-- Glossary
--   Task n v N E p neg t map   what stays the same from turn to turn: a right table, a small prime,
--                              a map that fixes the origin, and minus the inverse of its linear
--                              part
--   Growing p n v N k map w ends ys
--                              the map with the entries ys is listed in w; it has the orders from 1
--                              to k and residues as coefficients, and undoes `map` up to order k
--   TurnIn n v N E cut p t map starts ends g w
--                              what the turn to order `cut` asks: a listed map that undoes `map` up to
--                              the order before, and w prepared for a walk over its monomials
--   raised p n v map ys        minus the identity, plus the map with the entries ys substituted into
--                              the terms of order 2 or more of `map`
--   Raised ..                  parts of g' that hold the terms of order `cut` of this; the lists are as
--                              before
--   TurnsMade n v N E k p t map starts ends' g g' w w'
--                              what turns up to order k leave: a listed map that undoes `map` up to
--                              that order; the words behind g are as before, and w' is prepared as w is
use Rattle.std.specs.Prelude.{◌≡◌, List, ℕ, suc, ◌+◌, ◌-◌, ◌*◌, ◌≤◌, ◌<◌, length, get_or, drop}
use Rattle.algebra.specs.Polynomial.{add, scale}
use Rattle.algebra.specs.Substitution.{Map, substitute, variable}
use Rattle.algebra.specs.Agreement.{OriginFixing}
use Rattle.linear.specs.Matrix.{Matrix, Inverse}
use Rattle.linear.specs.Answer.{SmallPrime}
use Rattle.series.specs.Image.{coefficient, map_of}
use Rattle.series.specs.Series.{IsMap}
use Rattle.product.specs.Pairs.{order_of}
use Rattle.counts.specs.Tables.{Tabled}
use Rattle.walk.specs.Walking.{inner}
use Rattle.composition.specs.Setup.{top_at, Prepared}
use Rattle.inversion.specs.Linear.{linear_part}
use Rattle.inversion.specs.Undoing.{UndoesBefore}
use Rattle.turn.specs.High.{high_terms}
use Rattle.turn.specs.Vectors.{Negated, Vectors}
use Rattle.growth.specs.Growth.{Lists}

pub record Task (n v N E p : ℕ) (neg : Matrix) (t map : List ℕ) : Type 0 where
  pub table : Tabled n v N E t
  pub modulus : SmallPrime p
  pub is_map : IsMap p n v map
  pub fixing : OriginFixing p (map_of n v map)
  pub inverse : (m : Matrix) × Inverse p v (linear_part p v (map_of n v map)) m × Negated p m neg

pub record Growing (p n v N k : ℕ) (map w : List ℕ) (ends : List (List ℕ)) (ys : ℕ → List ℕ) : Type 0 where
  pub lists : Lists n v N (suc k) w ends ys
  pub positive : (j i : ℕ) → i < length (ys j) → 1 ≤ order_of n v (get_or (ys j) i 0)
  pub reduced : (j i : ℕ) → j < v → i < length (ys j) → coefficient (get_or (ys j) i 0) < p
  pub undoes : UndoesBefore p k v (map_of n v map) (inner n v ys)

pub record TurnIn (n v N E cut p : ℕ) (t map starts : List ℕ) (ends : List (List ℕ)) (g w : List ℕ) : Type 0 where
  pub task : (neg : Matrix) × Task n v N E p neg t map
  pub low : 1 ≤ cut
  pub high : cut ≤ n
  pub grown : (ys : ℕ → List ℕ) × Growing p n v N (cut - 1) map w ends ys
  pub prepared : (w₀ : List ℕ) × Prepared n v N E v t map starts w₀ w
  pub room : top_at n v N + 2 ≤ length w
  pub parts_in : v * (N + 1) ≤ length g
  pub ends_in : length ends ≡ 8

abbrev pub raised : ℕ → ℕ → ℕ → List ℕ → (ℕ → List ℕ) → Map
raised p n v map ys j =
    add (scale (p - 1) (variable j)) (substitute (high_terms (map_of n v map j)) (inner n v ys))

pub record Raised (n v N E cut p : ℕ) (t map starts : List ℕ) (ends : List (List ℕ)) (g g' w w' : List ℕ)
    : Type 0 where
  pub vectors : (ys : ℕ → List ℕ) → Growing p n v N (cut - 1) map w ends ys
      → Vectors p n v N cut cut g' (raised p n v map ys)
  pub lists : (o : ℕ) (ys : ℕ → List ℕ) → Lists n v N o w ends ys → Lists n v N o w' ends ys
  pub size : length g' ≡ length g
  pub rest : drop (v * (N + 1)) g' ≡ drop (v * (N + 1)) g
  pub work_size : length w' ≡ length w
  pub prepared : (w₀ : List ℕ) → Prepared n v N E v t map starts w₀ w
      → Prepared n v N E v t map starts w₀ w'

pub record TurnsMade (n v N E k p : ℕ) (t map starts : List ℕ) (ends' : List (List ℕ)) (g g' w w' : List ℕ)
    : Type 0 where
  pub grown : (ys : ℕ → List ℕ) × Growing p n v N k map w' ends' ys
  pub ends_in : length ends' ≡ 8
  pub size : length g' ≡ length g
  pub rest : drop (v * (N + 1)) g' ≡ drop (v * (N + 1)) g
  pub work_size : length w' ≡ length w
  pub prepared : (w₀ : List ℕ) → Prepared n v N E v t map starts w₀ w
      → Prepared n v N E v t map starts w₀ w'
