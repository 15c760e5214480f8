-- Parts of N + 1 words one behind another: word q of part i stands at i (N + 1) + q. Different
-- parts and different words stand at different places, and a component of a map is one part.
use Rattle.std.proofs.Common.{◌≡◌, sym, ap, ◌∙◌, List, ℕ, ◌+◌, ◌*◌, ◌≤◌, ◌<◌, suc-mul, mul-le-mul_right, arith, length, get_or, take, drop, length-take, length-drop, get_or-take, get_or-drop}
use Rattle.std.proofs.Math.Decide.{dec_lt}
use Rattle.monomial.specs.Count.{count}
use Rattle.series.specs.Image.{component}
use Rattle.turn.specs.Vectors.{word_at}

-- a word of one part stands before every later part
pub place-before : (N i k q : ℕ) → i < k → q ≤ N → i * (N + 1) + q < k * (N + 1)
place-before N i k q l h = omega (arith, suc-mul i (N + 1), mul-le-mul_right (N + 1) l)

-- one place is one word of one part
pub place-part : (N i k q r : ℕ) → q ≤ N → r ≤ N → i * (N + 1) + q ≡ k * (N + 1) + r → i ≡ k
place-part N i k q r a b e = go (dec_lt i k) (dec_lt k i)
  where
    go : Dec (i < k) → Dec (k < i) → i ≡ k
    go (yes l) d = absurd (omega (arith, place-before N i k q l a))
    go (no l) (yes d) = absurd (omega (arith, place-before N k i r d b))
    go (no l) (no d) = omega arith

pub place-word : (N i k q r : ℕ) → q ≤ N → r ≤ N → i * (N + 1) + q ≡ k * (N + 1) + r → q ≡ r
place-word N i k q r a b e =
    omega (arith, ap (λ (z : ℕ). z * (N + 1)) (place-part N i k q r a b e))

-- ---- components

module _ (n v N : ℕ) (N_is : N ≡ count n v) (ws : List ℕ) (i : ℕ) where
  pub component-is : component n v i ws ≡ take (N + 1) (drop (i * (N + 1)) ws)
  unfolding component
  component-is = ap (λ (z : ℕ). take (z + 1) (drop (i * (z + 1)) ws)) (sym N_is)

  pub component-word : (q : ℕ) → q ≤ N → get_or (component n v i ws) q 0 ≡ word_at N ws q i
  component-word q l =
      ap (λ (x : List ℕ). get_or x q 0) component-is
      ∙ get_or-take (N + 1) (drop (i * (N + 1)) ws) q 0 (omega arith)
      ∙ get_or-drop (i * (N + 1)) ws q 0

  -- a whole component lies inside the slice
  pub component-whole : i * (N + 1) + (N + 1) ≤ length ws → length (component n v i ws) ≡ N + 1
  component-whole h =
      ap length component-is
      ∙ length-take (N + 1) (drop (i * (N + 1)) ws)
      ∙ omega (arith, length-drop (i * (N + 1)) ws)

  pub component-inside : length (component n v i ws) ≡ N + 1 → i * (N + 1) + (N + 1) ≤ length ws
  component-inside e =
      omega (
        arith,
        sym (ap length component-is) ∙ e,
        length-take (N + 1) (drop (i * (N + 1)) ws),
        length-drop (i * (N + 1)) ws,
      )
