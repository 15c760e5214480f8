-- Maps that undo a map (01, 'The operations': the identity map and undoing).
--
-- Glossary
--   Fixing p v f           f is an origin-fixing map of v variables: no component has a constant
--                          modulo p, and the first v components have no other variables
--   FixingWords p n v ws   the words ws are an origin-fixing map, and nothing behind it
--   IsIdentity p n v h     the first v components of h are x1 to xv, up to order n and modulo p
--   UndoesAfter p n v f g  g undoes f after it: 'the composition with g outer and f inner is the
--                          identity map'
--   UndoesBefore p n v f g g undoes f before it: 'the composition with f outer and g inner is'
--   IsInverse p n v f g    g is the one origin-fixing map that undoes f after it, and the one that
--                          undoes f before it
--   composed p n v f g     the composition of two maps as words, f outer and g inner
--   undoes_after p n v f g  UndoesAfter of maps as words: the composition is the image of the
--                          identity map, word for word (proofs/Words.antt)
--   undoes_before p n v f g UndoesBefore of maps as words
use Rattle.std.specs.Prelude.{◌≡◌, Bool, List, ℕ, suc, ◌<◌, ◌+◌, ◌*◌, length}
use Rattle.algebra.specs.Polynomial.{equal}
use Rattle.algebra.specs.Substitution.{Map, compose, identity}
use Rattle.algebra.specs.Agreement.{Agree, OriginFixing, Within}
use Rattle.monomial.specs.Count.{count}
use Rattle.series.specs.Image.{map_of, map_image}
use Rattle.series.specs.Series.{IsMap}

pub record Fixing (p v : ℕ) (f : Map) : Type 0 where
  pub origin : OriginFixing p f
  pub within : (i : ℕ) → i < v → Within v (f i)

pub record FixingWords (p n v : ℕ) (ws : List ℕ) : Type 0 where
  pub whole : length ws ≡ v * (count n v + 1)
  pub is_map : IsMap p n v ws
  pub origin : OriginFixing p (map_of n v ws)

pub record IsIdentity (p n v : ℕ) (h : Map) : Type 0 where
  pub component : (i : ℕ) → i < v → Agree p (suc n) (h i) (identity i)

abbrev pub UndoesAfter : ℕ → ℕ → ℕ → Map → Map → Type 0
UndoesAfter p n v f g = IsIdentity p n v (compose g f)

abbrev pub UndoesBefore : ℕ → ℕ → ℕ → Map → Map → Type 0
UndoesBefore p n v f g = IsIdentity p n v (compose f g)

pub record IsInverse (p n v : ℕ) (f g : Map) : Type 0 where
  pub fixing : Fixing p v g
  pub after : UndoesAfter p n v f g
  pub before : UndoesBefore p n v f g
  pub only_after : (h : Map) → Fixing p v h → UndoesAfter p n v f h
      → (i : ℕ) → i < v → Agree p (suc n) (h i) (g i)
  pub only_before : (h : Map) → Fixing p v h → UndoesBefore p n v f h
      → (i : ℕ) → i < v → Agree p (suc n) (h i) (g i)

unfoldable pub composed : ℕ → ℕ → ℕ → List ℕ → List ℕ → List ℕ
composed p n v f g = map_image p n v (compose (map_of n v f) (map_of n v g))

unfoldable pub undoes_after : ℕ → ℕ → ℕ → List ℕ → List ℕ → Bool
undoes_after p n v f g = equal (composed p n v g f) (map_image p n v identity)

unfoldable pub undoes_before : ℕ → ℕ → ℕ → List ℕ → List ℕ → Bool
undoes_before p n v f g = equal (composed p n v f g) (map_image p n v identity)
